-- The program of branches takes on each row the program of the row's branch.
use Rattle.std.proofs.Common.{◌≡◌, ℕ, List, [], ◌∷◌, ◌++◌, length, length-append, All, Option, None, Some, inl, inr, refl, sym, ap, subst, ◌∙◌, arith}
use Rattle.std.specs.Prelude.{option_map}
use Rattle.std.proofs.lemmas.List.Elements.{All-cons, All-nil, All-head, All-tail}
use Rattle.fill_text.specs.Data.{SheetData}
use Rattle.fill_tree.specs.Guard.{GuardHolds, Takes}
use Rattle.fill_tree.specs.Switch.{CaseTree, SwitchTree}
use Rattle.fill_tree.specs.Tree.{Atoms}
use Rattle.fill_tree.specs.declared.guard.Guard.{Guard}
use Rattle.fill_space.specs.declared.ground.Ground.{Ground}
use Rattle.fill_session.specs.Answers.{TakesRow, cases_of, switch_of, with_branch}
use Rattle.fill_session.specs.Branches.{AreGuarded, BranchData}

-- where the first guard does not hold, the others decide
takes_after : (sheet : SheetData) (row : ℕ) (c : CaseTree) (cases : List CaseTree) (last p : Atoms) → ¬ (GuardHolds sheet row c.guard)
    → Takes sheet row (record { cases = cases; last = last }) p → Takes sheet row (record { cases = c ∷ cases; last = last }) p
takes_after sheet row c cases last p fails (inl h) =
    inl (c ∷ h.0, h.1, h.2, ap (λ (l : List CaseTree). c ∷ l) h.3, All-cons (λ d. ¬ (GuardHolds sheet row d.guard)) c h.0 fails h.4, h.5, h.6)
takes_after sheet row c cases last p fails (inr h) = inr (All-cons (λ d. ¬ (GuardHolds sheet row d.guard)) c cases fails h.0, h.1)

-- the case of a branch with this guard
cases_with : (guard : Option Guard) (h : Guard) (p : Atoms) → guard ≡ Some h → cases_of guard p ≡ record { guard = h; program = p } ∷ []
cases_with guard h p is = ap (λ (o : Option Guard). cases_of o p) is

holds_of : (sheet : SheetData) (row : ℕ) (guard : Option Guard) (h : Guard) → guard ≡ Some h → TakesRow sheet row guard → GuardHolds sheet row h
holds_of sheet row guard h is takes = subst (λ (o : Option Guard). TakesRow sheet row o) is takes

fails_of : (sheet : SheetData) (row : ℕ) (guard : Option Guard) (h : Guard) → guard ≡ Some h → ¬ (TakesRow sheet row guard) → ¬ (GuardHolds sheet row h)
fails_of sheet row guard h is fails holds = fails (subst (λ (o : Option Guard). TakesRow sheet row o) (sym is) holds)

none_split : (before after : List BranchData) (b : BranchData) → [] ≡ before ++ b ∷ after → ⊥
none_split before after b is =
    let sizes : 0 ≡ length (before ++ b ∷ after) = ap length is in
    absurd (omega (arith, sizes, length-append before (b ∷ after)))

-- a conditional program with one case more in front
switch_some : (b : BranchData) (o : Option SwitchTree) (s : SwitchTree) → option_map (with_branch b) o ≡ Some s → (t : SwitchTree) × (o ≡ Some t) × (with_branch b t ≡ s)
switch_some b None s is = cc
switch_some b (Some t) s is = (t, refl, cc)

module _ (g : Ground) (row : ℕ) where
  abbrev Splits : List BranchData → BranchData → List BranchData → List BranchData → Type 0
  Splits branches b before after = (branches ≡ before ++ b ∷ after) × All (λ c. ¬ (TakesRow g.sheet row c.guard)) before × TakesRow g.sheet row b.guard

  pub takes_branch : (branches : List BranchData) (s : SwitchTree) (b : BranchData) (before after : List BranchData) → AreGuarded g branches → switch_of branches ≡ Some s
      → Splits branches b before after → Takes g.sheet row s b.program
  takes_branch [] s b before after guarded is at = cc
  takes_branch (first ∷ []) s b [] after guarded is at =
      let same : record { cases = []; last = first.program } ≡ s = cc in
      let own : first ≡ b = (let split : first ∷ [] ≡ b ∷ after = at.0 in cc) in
      subst (λ (t : SwitchTree). Takes g.sheet row t b.program) same (inr (All-nil (λ d. ¬ (GuardHolds g.sheet row d.guard)), ap (λ (c : BranchData). c.program) (sym own)))
  takes_branch (first ∷ []) s b (x ∷ before) after guarded is at =
      let rest : [] ≡ before ++ b ∷ after = (let split : first ∷ [] ≡ x ∷ before ++ b ∷ after = at.0 in cc) in
      absurd (none_split before after b rest)
  takes_branch (first ∷ second ∷ later) s b [] after guarded is at =
      let made = switch_some first (switch_of (second ∷ later)) s is in
      let own : first ≡ b = (let split : first ∷ second ∷ later ≡ b ∷ after = at.0 in cc) in
      let h = guarded.0.0 in
      let guard : first.guard ≡ Some h = guarded.0.1 in
      let c : CaseTree = record { guard = h; program = first.program } in
      let holds = holds_of g.sheet row first.guard h guard (subst (λ (d : BranchData). TakesRow g.sheet row d.guard) (sym own) at.2) in
      let cases : with_branch first made.0 ≡ record { cases = c ∷ made.0.cases; last = made.0.last } =
      ap (λ (l : List CaseTree). record { cases = l ++ made.0.cases; last = made.0.last }) (cases_with first.guard h first.program guard) in
      subst (λ (t : SwitchTree). Takes g.sheet row t b.program) (sym cases ∙ made.2)
      (inl ([], c, made.0.cases, refl, All-nil (λ d. ¬ (GuardHolds g.sheet row d.guard)), holds, ap (λ (d : BranchData). d.program) (sym own)))
  takes_branch (first ∷ second ∷ later) s b (x ∷ before) after guarded is at =
      let made = switch_some first (switch_of (second ∷ later)) s is in
      let split : first ∷ second ∷ later ≡ x ∷ before ++ b ∷ after = at.0 in
      let own : first ≡ x = cc in
      let rest : second ∷ later ≡ before ++ b ∷ after = cc in
      let h = guarded.0.0 in
      let guard : first.guard ≡ Some h = guarded.0.1 in
      let c : CaseTree = record { guard = h; program = first.program } in
      let fails = fails_of g.sheet row first.guard h guard (subst (λ (d : BranchData). ¬ (TakesRow g.sheet row d.guard)) (sym own) (All-head (λ d. ¬ (TakesRow g.sheet row d.guard)) x before at.1)) in
      let cases : with_branch first made.0 ≡ record { cases = c ∷ made.0.cases; last = made.0.last } =
      ap (λ (l : List CaseTree). record { cases = l ++ made.0.cases; last = made.0.last }) (cases_with first.guard h first.program guard) in
      let others = takes_branch (second ∷ later) made.0 b before after guarded.2 made.1 (rest, All-tail (λ d. ¬ (TakesRow g.sheet row d.guard)) x before at.1, at.2) in
      subst (λ (t : SwitchTree). Takes g.sheet row t b.program) (sym cases ∙ made.2) (takes_after g.sheet row c made.0.cases made.0.last b.program fails others)
