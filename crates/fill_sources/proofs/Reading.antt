-- What reads characters in the known texts is exactly what gives them.
use Rattle.std.proofs.Common.{◌≡◌, ◌≢◌, ◌↔◌, inl, inr, ℕ, ◌+◌, ◌<◌, ◌≤◌, List, [], ◌∷◌, length, Contains, slice_range, refl, sym, ap, ◌∙◌, subst, arith}
use Rattle.fill_tokens.specs.Value.{HasValue}
use Rattle.fill_tokens.specs.declared.place.Place.{Place}
use Rattle.fill_tokens.proofs.ValueLaws.{value_within}
use Rattle.fill_tree.specs.Tree.{SourceTree, AtomTree, constant, whole, sub}
use Rattle.fill_arena.specs.Contents.{In}
use Rattle.fill_arena.specs.Stands.{AtomFits}
use Rattle.fill_arena.specs.declared.entry.AtomItem.{AtomItem}
use Rattle.fill_arena.specs.declared.entry.Entry.{Entry}
use Rattle.fill_reach.proofs.StepLaws.{contains_at}
use Rattle.std.proofs.lemmas.Option.{slice_get_within}
use Rattle.fill_sources.specs.Gives.{Gives, PartGives, at_depth}
use Rattle.fill_sources.specs.Origins.{AreTexts, texts_in}
use Rattle.fill_sources.specs.Readers.{AddsAtoms, IsOldAtom, ReadsAny, ReadsBetween, ReadsFirst, ReadsSpot, ReadsWhole, StandsAt}
use Rattle.fill_sources.specs.declared.row.OnRow.{OnRow}
use Rattle.fill_sources.specs.declared.spots.Spot.{Spot}
use Rattle.fill_sources.specs.declared.texts.Texts.{Texts}
use Rattle.fill_sources.proofs.Lists.{range_length, same_at, whole_range}
use Rattle.fill_sources.proofs.Origins.{gives_deeper, texts_exact}
use Rattle.fill_sources.proofs.Puts.{puts_alike}

-- all spots
pub readers_all : (on : OnRow) (texts : List (List ℕ)) (spots : List Spot) (w : List ℕ) (n : ℕ) → length spots ≤ n → ((h : Spot) → In h spots ↔ StandsAt texts w h) → (c : List Entry) (old new : List AtomItem) →
    AddsAtoms c old new (ReadsFirst on texts spots n (length w)) → AddsAtoms c old new (ReadsAny on texts w)
readers_all on texts spots w n all are c old new f =
    puts_alike IsOldAtom AtomFits c old new (ReadsFirst on texts spots n (length w)) (ReadsAny on texts w) f
    (λ a. (
      λ r.
          let there = (are r.0).1 r.1 in
          let lt = slice_get_within spots there.0 r.0 there.1 in
          (there.0, r.0, omega arith, there.1, r.2),
      λ r. (r.1, (are r.1).0 (r.0, r.3), r.4),
    ))

module _ (on : OnRow) (texts : List (List ℕ)) (w : List ℕ) (full : w ≢ []) where
  width_some : 1 ≤ length w
  width_some = some w full where
    some : (u : List ℕ) → u ≢ [] → 1 ≤ length u
    some [] f = absurd (f refl)
    some (x ∷ xs) f = omega arith

  whole_part : (h : Spot) (x : SourceTree) → StandsAt texts w h → ReadsWhole on texts h (length w) (whole x) → PartGives on w (whole x)
  whole_part h x s r =
      let one : s.0 ≡ r.0 = same_at texts h.text h.text s.0 r.0 refl s.1 r.1 in
      let inside = s.2 in
      let all = r.3 in
      let same_long : length s.0 ≡ length r.0 = ap length one in
      let start : h.at ≡ 0 = omega arith in
      let range : slice_range s.0 0 (0 + length w) ≡ w = subst (λ n. slice_range s.0 n (n + length w) ≡ w) start s.3 in
      let is : s.0 ≡ w = sym (whole_range s.0 (0 + length w) (omega arith)) ∙ range in
      let given : Gives on w x = subst (λ v. Gives on v x) (sym one ∙ is) r.2 in
      record { part = tt; condition = given.source; shallow = given.shallow; value = (given.value, full) }

  between_part : (h : Spot) (x : SourceTree) (p q : Place) → StandsAt texts w h → ReadsBetween on texts h (length w) (sub x p q) → PartGives on w (sub x p q)
  between_part h x p q s r =
      let one : s.0 ≡ r.0 = same_at texts h.text h.text s.0 r.0 refl s.1 r.1 in
      let given = r.2 in
      let some = width_some in
      let range : w ≡ slice_range r.0 h.at (h.at + length w) = subst (λ t. w ≡ slice_range t h.at (h.at + length w)) one (sym s.3) in
      record { part = tt; condition = (given.source, r.3.0, r.4.0); shallow = given.shallow; value = (r.0, h.at, h.at + length w, given.value, r.3.1, r.4.1, omega arith, range) }

  reads_part : (h : Spot) (a : AtomTree) → StandsAt texts w h → ReadsSpot on texts h (length w) a → PartGives on w a
  reads_part h (constant u) s r = elim r [ inl f ↦ absurd f | inr f ↦ absurd f ]
  reads_part h (whole x) s r = elim r [ inl f ↦ whole_part h x s f | inr f ↦ absurd f ]
  reads_part h (sub x p q) s r = elim r [ inl f ↦ absurd f | inr f ↦ between_part h x p q s f ]

  module _ (has_text : (v : List ℕ) (x : SourceTree) → Gives on v x → Contains texts v) where
    part_reads : (a : AtomTree) → PartGives on w a → ReadsAny on texts w a
    part_reads (constant u) g = absurd g.part
    part_reads (whole x) g =
        let given : Gives on w x = record { source = g.condition; shallow = g.shallow; value = g.value.0 } in
        let at = contains_at texts w (has_text w x given) in
        let h : Spot = record { text = at.0; at = 0 } in
        (h, (w, at.2, omega arith, whole_range w (0 + length w) (omega arith)), inl (w, at.2, given, refl))
    part_reads (sub x p q) g =
        let t : List ℕ = g.value.0 in
        let i : ℕ = g.value.1 in
        let j : ℕ = g.value.2 in
        let given : Gives on t x = record { source = g.condition.0; shallow = g.shallow; value = g.value.3 } in
        let at = contains_at texts t (has_text t x given) in
        let inside : j ≤ length t = value_within q t j g.value.5 in
        let less : i < j = g.value.6 in
        let piece : w ≡ slice_range t i j = g.value.7 in
        let wide : length w ≡ length (slice_range t i j) = ap length piece in
        let long = range_length t i j (omega arith) inside in
        let last : i + length w ≡ j = omega arith in
        let h : Spot = record { text = at.0; at = i } in (
          h,
          (t, at.2, omega arith, subst (λ n. slice_range t i n ≡ w) (sym last) (sym piece)),
          inr (t, at.2, given, (g.condition.1, g.value.4), (g.condition.2, subst (λ n. HasValue q t n) (sym last) g.value.5)),
        )

    pub parts_are : (a : AtomTree) → ReadsAny on texts w a ↔ PartGives on w a
    parts_are a = (λ r. reads_part r.0 a r.1 r.2, part_reads a)

-- what is given with fewer lookups is known
pub known_under : (on : OnRow) (t : Texts) → AreTexts on t → (d : ℕ) → d ≤ on.settings.depth → (v : List ℕ) (x : SourceTree) → Gives (at_depth on d) v x → Contains (texts_in t) v
known_under on t are d le v x g = (texts_exact on t are v).1 (x, gives_deeper on d le v x g)

-- the empty text is given by no part
nothing : (u : List ℕ) → length u ≡ 0 → u ≡ []
nothing [] h = refl
nothing (y ∷ ys) h = absurd (omega arith)

pub part_full : (on : OnRow) (w : List ℕ) → length w ≡ 0 → (a : AtomTree) → PartGives on w a → ⊥
part_full on w e (constant u) g = g.part
part_full on w e (whole x) g = g.value.1 (nothing w e)
part_full on w e (sub x p q) g =
    let inside = value_within q g.value.0 g.value.2 g.value.5 in
    let less : g.value.1 < g.value.2 = g.value.6 in
    let long = range_length g.value.0 g.value.1 g.value.2 (omega arith) inside in
    let wide : length w ≡ length (slice_range g.value.0 g.value.1 g.value.2) = ap length g.value.7 in
    absurd (omega arith)

pub some_text : (w : List ℕ) → (length w ≡ 0 → ⊥) → w ≢ []
some_text [] f e = f refl
some_text (x ∷ xs) f e = absurd (let h = e in cc)
