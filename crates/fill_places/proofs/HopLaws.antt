-- The pieces of a token as hops, from either side.
use Rattle.std.proofs.Common.{◌≡◌, ℕ, ◌+◌, ◌<◌, ◌≤◌, ◌⊎◌, inl, inr, List, length, Bool, true, false, get_or, slice_get, Some, sym, ap, ◌∙◌, subst, arith}
use Rattle.std.proofs.lemmas.Bool.{cases_order}
use Rattle.std.proofs.lemmas.Option.{slice_get_within, same_Some}
use Rattle.fill_tokens.specs.Span.{Spans}
use Rattle.fill_tokens.specs.declared.token.Token.{Token}
use Rattle.fill_tokens.proofs.SpanLaws.{within}
use Rattle.fill_spans.specs.Pieces.{AreExactly}
use Rattle.fill_spans.proofs.PieceLaws.{piece_at}
use Rattle.fill_places.specs.Hops.{AreHops, SpansBack}
use Rattle.fill_places.specs.Marks.{AreMarks, AreMarked, AreAll, AreWithin, Reached}

module _ (x : Token) (t starts ends : List ℕ) (are : AreExactly (Spans x t) starts ends) where
  pub hops_forth : AreHops (Spans x t) starts ends
  hops_forth = are.exact

  pub hops_back : AreHops (SpansBack t x) ends starts
  hops_back a b = (
    λ h. (are.exact b a).0 (h.0, h.2, h.1),
    λ s. let p = (are.exact b a).1 s in (p.0, p.2, p.1),
  )

  pub starts_within : AreWithin (length t) starts
  starts_within i d lt =
      let w = within x t (get_or starts i d) (get_or ends i d) (piece_at (Spans x t) starts ends are i d lt) in
      let u = w.0 in
      let v = w.1 in
      omega arith

  pub ends_within : AreWithin (length t) ends
  ends_within i d lt =
      let p = are.paired in
      (within x t (get_or starts i d) (get_or ends i d) (piece_at (Spans x t) starts ends are i d (omega arith))).1

-- one hop after the other
pub hop_more : (at : List Bool) (from to : List ℕ) (i n : ℕ) (old new : List Bool) (a b : ℕ) → slice_get from i ≡ Some a → slice_get to i ≡ Some b → length new ≡ n + 1 →
    ((k : ℕ) → slice_get new k ≡ Some true → (slice_get old k ≡ Some true) ⊎ ((slice_get at a ≡ Some true) × (b ≡ k))) → ((k : ℕ) → slice_get old k ≡ Some true → slice_get new k ≡ Some true) →
    (slice_get at a ≡ Some true → slice_get new b ≡ Some true) → AreMarked at from to i n old → AreMarked at from to (i + 1) n new
hop_more at from to i n old new a b ha hb long sound keeps full are = record {
  size = long;
  sound = λ k h. elim (sound k h) [ inl l ↦ are.sound k l | inr r ↦ (a, (i, ha, hb ∙ ap Some r.1), r.0) ];
  full = λ j c d lt hc hd m. elim (cases_order j i) [
    | inl e ↦
        (let f : c ≡ a = same_Some c a (sym hc ∙ ap (slice_get from) e ∙ ha) in
        let g : b ≡ d = same_Some b d (sym hb ∙ ap (slice_get to) (sym e) ∙ hd) in
        subst (λ z. slice_get new z ≡ Some true) g (full (subst (λ z. slice_get at z ≡ Some true) f m)))
    | inr o ↦ elim o [ inl l ↦ keeps d (are.full j c d l hc hd m) | inr g ↦ absurd (omega arith) ]
  ];
}

pub hops_none : (at : List Bool) (from to : List ℕ) (n : ℕ) (flags : List Bool) → AreAll false (n + 1) flags → AreMarked at from to 0 n flags
hops_none at from to n flags all = record {
  size = all.long;
  sound = λ k h. absurd (
      let lt = slice_get_within flags k true h in
      let e = all.same k (let l = all.long in omega arith) in
      let f : Some true ≡ Some false = sym h ∙ e in
      cc);
  full = λ j c d lt hc hd m. absurd (omega arith);
}

pub hops_all : (at : List Bool) (from to : List ℕ) (m n : ℕ) (flags : List Bool) → length from ≤ m → AreMarked at from to m n flags → AreMarks (Reached at from to) n flags
hops_all at from to m n flags e are = record {
  long = are.size;
  sound = are.sound;
  full = λ k r. let p = r.1 in are.full p.0 r.0 k (let lt = slice_get_within from p.0 r.0 p.1 in omega arith) p.1 p.2 r.2;
}

-- none of the first numbers has the property, nor has the next one
pub until_more : (ks : List ℕ) (m : ℕ) (P : ℕ → Type 0) → ((j k : ℕ) → j < m → slice_get ks j ≡ Some k → P k → ⊥) → ((k : ℕ) → slice_get ks m ≡ Some k → P k → ⊥) →
    (j k : ℕ) → j < m + 1 → slice_get ks j ≡ Some k → P k → ⊥
until_more ks m P none last j k lt at p = elim (cases_order j m) [
  | inl e ↦ last k (subst (λ z. slice_get ks z ≡ Some k) e at) p
  | inr o ↦ elim o [ inl l ↦ none j k l at p | inr g ↦ omega arith ]
]
