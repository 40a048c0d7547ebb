-- A row that is asked, by what the program of its branch answers there.
use Rattle.std.proofs.Common.{◌≡◌, inl, inr, Bool, ℕ, ◌-◌, ◌<◌, ◌≤◌, List, [], ◌∷◌, length, Option, None, Some, refl, sym, ap, subst, ◌∙◌, arith}
use Rattle.std.specs.Prelude.{slice_get, Contains}
use Rattle.std.proofs.lemmas.Option.{same_Some}
use Rattle.std.specs.Cmp.{nat_cmp_is}
use Rattle.std.specs.declared.cmp.Ordering.TheVariants.{Greater}
use Rattle.fill_tables.specs.Keys.{KeysDistinguish}
use Rattle.fill_tokens.specs.declared.prices.Prices.{Prices}
use Rattle.fill_tree.specs.Cost.{program_cost}
use Rattle.fill_tree.specs.Meaning.{program_tree}
use Rattle.fill_tree.specs.Order.{Before}
use Rattle.fill_tree.specs.Tree.{Atoms}
use Rattle.fill_tree.specs.Value.{IsValue, ProgramIs}
use Rattle.fill_tree.specs.declared.user.Example.{Example}
use Rattle.fill_object.specs.declared.graph.Objection.{Objection}
use Rattle.fill_space.specs.declared.ground.Ground.{Ground}
use Rattle.fill_space.specs.Objector.{IsObjectionOn, ObjectionTree, ObjectsOn, objection_tree}
use Rattle.fill_space.specs.Spaces.{SpaceStands}
use Rattle.fill_session.specs.Answers.{AnswerIs, IsBranchAt}
use Rattle.fill_session.specs.Branches.{AreGuarded, BranchData}
use Rattle.fill_session.specs.Objector.{ObjectorIs}
use Rattle.fill_session.specs.State.{SessionData}
use Rattle.fill_session.specs.Suggested.{ComesFirst, IsAskedAt, LeadsStand, NoneAsked, ObjectorWithin, cost_of, is_silent}
use Rattle.fill_session.specs.Taken.{IsTaken}
use Rattle.fill_session.specs.declared.answer.Answer.{Answer}
use Rattle.fill_session.specs.declared.answer.State.TheVariants.{Doubt}
use Rattle.fill_session.specs.declared.leads.Lead.{Lead}
use Rattle.fill_session.specs.declared.suggestion.Suggestion.{Suggestion}
use Rattle.fill_session.proofs.Objecting.{guarded_chosen, none_given, objector_is_one, some_doubts}
use Rattle.fill_session.proofs.OneAnswer.{value_is_one}
use Rattle.fill_session.proofs.OneFate.{branches_are_one}
use Rattle.fill_session.proofs.Reproduced.{branch_is_one}
use Rattle.fill_session.proofs.Suggesting.{less_cases}
use Rattle.fill_session.proofs.Taking.{answer_taken, is_branch_from_0, none_taken, objector_taken, objector_untaken, objects_taken, within}

-- on a row whose branch is known: what its answer says
said_taken : (g : Ground) (xs : List Example) (row n : ℕ) (text : Option (List ℕ)) → IsTaken g xs row n text → (a : Answer) → AnswerIs g xs row a → a.text ≡ text
said_taken g [] row n text t a is = none_taken g row n text t
said_taken g (e ∷ es) row n text t a is =
    let lists : is.0 ≡ t.branches = branches_are_one g (e ∷ es) is.0 t.branches is.2 t.are in
    let at = subst (λ (l : List BranchData). IsBranchAt g.sheet row l a.branch is.1) lists is.3 in
    let one = branch_is_one g.sheet row t.branches a.branch n is.1 t.branch at t.place in
    value_is_one (ProgramIs g.sheet g.tables row t.branch.program) a.text text (subst (λ (x : BranchData). IsValue (ProgramIs g.sheet g.tables row x.program) a.text) one.1 is.4) t.value

-- and the answer where there is an objection, so that it is in doubt
doubt_taken : (g : Ground) (xs : List Example) (row n : ℕ) (text : Option (List ℕ)) (t : IsTaken g xs row n text) → KeysDistinguish g.tables → (o : ObjectionTree) → IsObjectionOn g t.branch.examples row text o → (a : Answer) × AnswerIs g xs row a × (a.text ≡ text)
doubt_taken g xs row n text t keys o h =
    let place = t.place in
    let chosen = guarded_chosen g place.0 t.branch place.1 (subst (λ (l : List BranchData). AreGuarded g l) place.2 t.are.guarded) in
    let a : Answer = record { branch = n; text = text; state = Doubt } in (
      a,
      answer_taken g xs row a t (none_given g xs t.branches n t.branch text row keys t.are place t.value o h, some_doubts g xs t.branches n t.branch text row keys t.are place t.value o chosen h),
      refl,
    )

-- its lead
module _ (s : SessionData) (row n : ℕ) (text : Option (List ℕ)) (t : IsTaken s.spaces.ground s.examples row n text) (leads : List Lead) (stand : LeadsStand s leads) where
  pub in_leads : n - 1 < length leads
  in_leads =
      let many = stand.many t.branches t.are in
      let lt = within s.spaces.ground s.examples row n text t in
      omega arith

  pub lead_stands : (lead : Lead) → slice_get leads (n - 1) ≡ Some lead → SpaceStands s.spaces lead.space t.branch.examples
  lead_stands lead at = stand.spaces (n - 1) lead at t.branch.examples (is_branch_from_0 s.spaces.ground s.examples row n text t)

-- a row whose branch is known
module _ (g : Ground) (xs : List Example) (passed : List ℕ) (row n : ℕ) (text : Option (List ℕ)) (t : IsTaken g xs row n text) where
  -- it is not asked where it is not as silent as is asked
  pub none_alike : (silent : Bool) (best : Option Suggestion) → (is_silent text ≡ silent → ⊥) → NoneAsked g xs passed silent row best
  none_alike silent best differ = λ q asked alike here first.
      let a = asked.said in
      let same : (a.0).text ≡ text =
      said_taken g xs row n text t a.0 (subst (λ m. AnswerIs g xs m a.0) here a.1) in
      differ (ap is_silent (sym same ∙ a.2) ∙ alike)

  -- none that objects comes first
  pub none_objects : (silent : Bool) (best : Option Suggestion)
      → ((p : Atoms) → ObjectsOn g t.branch.examples row text p → ¬ (ComesFirst g.settings.profile.prices best p)) → NoneAsked g xs passed silent row best
  none_objects silent best none = λ q asked alike here.
      none q.objector.program
      (objects_taken g xs row n text t q.objector (subst (λ m. ObjectorIs g xs m (Some q.objector)) here asked.objector))

  -- the objection comes first
  pub one_objects : (silent : Bool) (best : Option Suggestion) (o : Objection) → 1 ≤ row → row ≤ length g.sheet.rows → (Contains passed row → ⊥) → KeysDistinguish g.tables → is_silent text ≡ silent
      → IsObjectionOn g t.branch.examples row text (objection_tree o) → ComesFirst g.settings.profile.prices best (program_tree o.program)
      → IsAskedAt g xs passed silent row best (record { row = row; answer = text; objection = o })
  one_objects silent best o first last left keys alike h earlier = record {
    asked = record {
      first = first;
      last = last;
      left = left;
      said = doubt_taken g xs row n text t keys (objection_tree o) h;
      objector = objector_taken g xs row n text t (Some (objection_tree o)) h;
    };
    kind = alike;
    here = refl;
    earlier = earlier;
  }

module _ (g : Ground) (xs : List Example) (passed : List ℕ) (silent : Bool) (row : ℕ) (best : Option Suggestion) where
  -- without examples
  pub none_without : xs ≡ [] → NoneAsked g xs passed silent row best
  none_without is = λ q asked alike here first.
      let e = objector_is_one g xs row None (Some q.objector) (objector_untaken g xs row is) (subst (λ m. ObjectorIs g xs m (Some q.objector)) here asked.objector) in
      let impossible : ⊥ = cc in impossible

  -- the row is passed over
  pub none_left_over : Contains passed row → NoneAsked g xs passed silent row best
  none_left_over has = λ q asked alike here first. asked.left (subst (λ m. Contains passed m) (sym here) has)

  -- its objector does not come first
  pub none_earlier : (o : ObjectionTree) → ObjectorIs g xs row (Some o) → ¬ (ComesFirst g.settings.profile.prices best o.program) → NoneAsked g xs passed silent row best
  none_earlier o is late = λ q asked alike here first.
      let one : q.objector ≡ o = same_Some q.objector o (objector_is_one g xs row (Some q.objector) (Some o) (subst (λ m. ObjectorIs g xs m (Some q.objector)) here asked.objector) is) in
      late (subst (λ (x : ObjectionTree). ComesFirst g.settings.profile.prices best x.program) one first)

-- what costs more does not come before
dearer_late : (prices : Prices) (p q : Atoms) → program_cost prices q < program_cost prices p → ¬ (Before prices p q)
dearer_late prices p q dear before =
    let c = nat_cmp_is (program_cost prices p) (program_cost prices q) Greater dear in
    elim (less_cases _ _ before) [
      | inl less ↦ (let d = c ∙ less in cc)
      | inr tie ↦ (let d = c ∙ tie.0 in cc)
    ]

-- nor where its objector costs more than that of the best
pub none_within : (g : Ground) (xs : List Example) (passed : List ℕ) (silent : Bool) (row : ℕ) (best : Option Suggestion) → ObjectorWithin g xs row (cost_of g.settings.profile.prices best) None → NoneAsked g xs passed silent row best
none_within g xs passed silent row None none = absurd none
none_within g xs passed silent row (Some s) none = λ q asked alike here.
    dearer_late g.settings.profile.prices q.objector.program (program_tree s.objection.program)
    (none q.objector (subst (λ m. ObjectorIs g xs m (Some q.objector)) here asked.objector))
