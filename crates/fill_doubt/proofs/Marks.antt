-- The nodes to which a text is spelled.
use Rattle.std.proofs.Common.{◌≡◌, ℕ, ◌+◌, ◌<◌, ◌↔◌, inl, inr, ⊎_elim, Bool, true, set, List, [], ◌∷◌, ◌++◌, length, Option, Some, None, slice_get, refl, sym, ap, ◌∙◌, subst, arith}
use Rattle.std.proofs.lemmas.Option.{slice_get_within}
use Rattle.std.proofs.lemmas.Bool.{cases_lt, cases_eq}
use Rattle.fill_arena.specs.declared.entry.Edge.{Edge}
use Rattle.fill_doubt.specs.Walks.{joined, Spells, Reads, IsMarked, Follows}
use Rattle.fill_doubt.proofs.Tables.{set_same, set_other}
use Rattle.fill_doubt.proofs.Spelling.{AreFine, reads_append, reads_edge}

pub record AreMarks (G : Edge → Option (List ℕ) → Type 0) (edges : List Edge) (marks : List Bool) (i : ℕ) : Type 0 where
  pub sound : (n : ℕ) → IsMarked marks n → (t : List ℕ) × Reads G edges 0 n (Some t)
  pub first : IsMarked marks 0
  pub closed : (k : ℕ) (e : Edge) (t : List ℕ) → k < i → slice_get edges k ≡ Some e → G e (Some t) → IsMarked marks e.from → IsMarked marks e.to

pub marks_start : (G : Edge → Option (List ℕ) → Type 0) (edges : List Edge) (marks : List Bool) → IsMarked marks 0 → ((n : ℕ) → IsMarked marks n → n ≡ 0) → AreMarks G edges marks 0
marks_start G edges marks first others =
    record { sound = λ n h. ([], ([], (sym (others n h), refl))); first = first; closed = λ k e t l h i m. absurd (omega arith) }

module _ (G : Edge → Option (List ℕ) → Type 0) (edges : List Edge) (nodes : ℕ) (fine : AreFine G nodes edges) (old new : List Bool) (i : ℕ) (e : Edge) (at : slice_get edges i ≡ Some e) (s : AreMarks G edges old i) (f : Follows G e old new) where
  -- an edge that stands before this one does not come from the node that this one leads to
  pub marks_more : AreMarks G edges new (i + 1)
  marks_more =
      record {
        sound = λ n h.
            ⊎_elim (λ was. s.sound n was)
            (λ made.
            let r = s.sound e.from made.1 in
            (_, subst (λ m. Reads G edges 0 m (Some (r.0 ++ made.2.0))) (sym made.0) (reads_append G edges 0 e.from e.to (Some r.0) (Some made.2.0) r.1 (reads_edge G edges e (Some made.2.0) (i, at) made.2.1))))
            (f.sound n h);
        first = f.kept 0 s.first;
        closed = λ k d t l h g m.
            ⊎_elim
            (λ lt.
            ⊎_elim (λ was. f.kept d.to (s.closed k d t lt h g was))
            (λ made. let back = fine.ordered i k e d at h (sym made.0) in absurd (omega arith))
            (f.sound d.from m))
            (λ ge.
            let same : k ≡ i = omega arith in
            let both : Some e ≡ Some d = sym at ∙ (rw same at h) in
            let ed : e ≡ d = cc in
            ⊎_elim
            (λ was. subst (λ (x : Edge). IsMarked new x.to) ed (f.closed t (subst (λ (x : Edge). G x (Some t)) (sym ed) g) (subst (λ (x : Edge). IsMarked old x.from) (sym ed) was)))
            (λ made. let up = fine.onward k d h in let eq : d.to ≡ e.to = ap (λ (x : Edge). x.to) (sym ed) in let from = made.0 in absurd (omega arith))
            (f.sound d.from m))
            (cases_lt k i);
      }

pub marks_end : (G : Edge → Option (List ℕ) → Type 0) (edges : List Edge) (marks : List Bool) → AreMarks G edges marks (length edges) → (last : ℕ) → IsMarked marks last ↔ ((t : List ℕ) × Reads G edges 0 last (Some t))
marks_end G edges marks s last = (s.sound last, λ r. go r.1.0 0 (Some r.0) r.0 s.first r.1.1 refl)
  where
    go : (p : List Edge) (n : ℕ) (v : Option (List ℕ)) (t : List ℕ) → IsMarked marks n → Spells G edges p n last v → v ≡ Some t → IsMarked marks last
    go [] n v t m h e = subst (λ k. IsMarked marks k) h.0 m
    go (e ∷ p) n v t m h is = step (λ k y u. go p k y u) h.2.0 h.2.1 h.2.2 h.2.3 (sym h.2.4 ∙ is)
      where
        step : ((k : ℕ) (y : Option (List ℕ)) (u : List ℕ) → IsMarked marks k → Spells G edges p k last y → y ≡ Some u → IsMarked marks last) → (x y : Option (List ℕ)) → G e x → Spells G edges p e.to last y → joined x y ≡ Some t → IsMarked marks last
        step on None y g r q = absurd cc
        step on (Some x) None g r q = absurd cc
        step on (Some x) (Some y) g r q =
            let w = slice_get_within edges h.0.0 e h.0.1 in
            on e.to (Some y) y (s.closed h.0.0 e x w h.0.1 g (subst (λ k. IsMarked marks k) (sym h.1) m)) r refl

-- where the edge marks nothing new, and where it does
pub follows_marked : (G : Edge → Option (List ℕ) → Type 0) (e : Edge) (marks : List Bool) → (IsMarked marks e.from → IsMarked marks e.to) → Follows G e marks marks
follows_marked G e marks done = record { kept = λ n h. h; sound = λ n h. inl h; closed = λ t g m. done m }

pub follows_none : (G : Edge → Option (List ℕ) → Type 0) (e : Edge) (marks : List Bool) → ((t : List ℕ) → ¬ (G e (Some t))) → Follows G e marks marks
follows_none G e marks none = record { kept = λ n h. h; sound = λ n h. inl h; closed = λ t g m. absurd (none t g) }

pub follows_set : (G : Edge → Option (List ℕ) → Type 0) (e : Edge) (marks : List Bool) (t : List ℕ) → G e (Some t) → IsMarked marks e.from → e.to < length marks → Follows G e marks (set marks e.to true)
follows_set G e marks t g from lt = record {
  kept = λ n h. ⊎_elim (λ (q : n ≡ e.to). rw q (set_same marks e.to true lt)) (λ q. set_other marks e.to n true q ∙ h) (cases_eq n e.to);
  sound = λ n h. ⊎_elim (λ (q : n ≡ e.to). inr (q, from, (t, g))) (λ q. inl (sym (set_other marks e.to n true q) ∙ h)) (cases_eq n e.to);
  closed = λ u k m. set_same marks e.to true lt;
}

pub marked_is : (marks : List Bool) (n : ℕ) (b : Bool) → slice_get marks n ≡ Some b → IsMarked marks n ↔ (b ≡ true)
marked_is marks n b at = ((λ h. let e : Some b ≡ Some true = sym at ∙ h in cc), (λ e. at ∙ ap Some e))
