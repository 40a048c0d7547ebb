-- The steps of the pass that marks what leads to the last node.
use Rattle.std.proofs.Common.{◌≡◌, ℕ, ◌+◌, ◌<◌, ◌≤◌, inl, inr, Bool, true, false, cond, List, length, get_or, set, Some, slice_get, refl, sym, ap, ◌∙◌, subst, arith}
use Rattle.std.proofs.lemmas.Bool.{cases_lt, cases_eq, false≢true}
use Rattle.std.proofs.lemmas.Option.{slice_get-get_or, get_or_from_slice_get}
use Rattle.fill_trim.specs.Marks.{IsMarked, spread}
use Rattle.fill_trim.proofs.Ranks.{set_same, set_other}
use Rattle.fill_meet.specs.Ties.{AreOrdered}
use Rattle.fill_meet.specs.declared.ties.Tie.{Tie}
use Rattle.fill_meet.proofs.Lists.{same_value}

-- from place i on, where a tie leads to a marked node its first node is marked
abbrev pub ClosedFrom : ℕ → List Tie → List Bool → Type 0
ClosedFrom i ties marks = (k : ℕ) (t : Tie) → i ≤ k → slice_get ties k ≡ Some t → IsMarked marks t.to → IsMarked marks t.from

module _ (n : ℕ) (ties : List Tie) (r : AreOrdered n ties) (marks : List Bool) (p : ℕ) (t : Tie) (hp : slice_get ties p ≡ Some t) (closed : ClosedFrom (p + 1) ties marks) where
  -- a tie from here on does not lead to where this one comes from
  not_back : (k : ℕ) (u : Tie) → p ≤ k → slice_get ties k ≡ Some u → u.to ≡ t.from → ⊥
  not_back k u le there e = let before = r.ordered k p u t there hp e in omega arith

  close_marked : t.from < length marks → IsMarked marks t.to → ClosedFrom p ties (set marks t.from true)
  close_marked room to k u le there marked = elim (cases_eq u.from t.from) [
    | inl same ↦ subst (IsMarked (set marks t.from true)) (sym same) (set_same marks t.from true room)
    | inr other ↦
        let old = sym (set_other marks t.from u.to true (not_back k u le there)) ∙ marked in
        set_other marks t.from u.from true other ∙ elim (cases_lt p k) [
          | inl lt ↦ closed k u (omega arith) there old
          | inr past ↦ absurd (other (ap (λ v. v.from) (sym (same_value ties p k t u (omega arith) hp there))))
        ]
  ]

  close_unmarked : (IsMarked marks t.to → ⊥) → ClosedFrom p ties marks
  close_unmarked off k u le there marked = elim (cases_lt p k) [
    | inl lt ↦ closed k u (omega arith) there marked
    | inr past ↦ absurd (off (subst (λ v. IsMarked marks v.to) (sym (same_value ties p k t u (omega arith) hp there)) marked))
  ]

  pub close_spread : t.from < length marks → t.to < length marks → ClosedFrom p ties (spread marks t.to t.from)
  close_spread room lt = by_mark (get_or marks t.to false) refl where
    by_mark : (b : Bool) → get_or marks t.to false ≡ b → ClosedFrom p ties (cond b (set marks t.from true) marks)
    by_mark true e = close_marked room (slice_get-get_or marks t.to false lt ∙ ap Some e)
    by_mark false e = close_unmarked (λ m. false≢true (sym e ∙ get_or_from_slice_get marks t.to true false m))

-- what was marked stays marked
pub kept_spread : (marks : List Bool) (from to m : ℕ) → to < length marks → IsMarked marks m → IsMarked (spread marks from to) m
kept_spread marks from to m room h = by_mark (get_or marks from false) where
  by_mark : (b : Bool) → IsMarked (cond b (set marks to true) marks) m
  by_mark true = elim (cases_eq m to) [
    | inl same ↦ subst (IsMarked (set marks to true)) (sym same) (set_same marks to true room)
    | inr other ↦ set_other marks to m true other ∙ h
  ]
  by_mark false = h
