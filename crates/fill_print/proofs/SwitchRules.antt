-- Cases and conditional programs, as they are read and as they are printed.
use Rattle.std.proofs.Common.{◌≡◌, ◌≢◌, ℕ, ◌-◌, ◌≤◌, List, [], ◌∷◌, ◌++◌, length, Option, None, Some, refl, sym, ap, subst, ◌∙◌, arith, codes}
use Rattle.std.proofs.Common.{inl, inr}
use Rattle.std.proofs.lemmas.Bool.{cases_eq}
use Rattle.std.proofs.lemmas.List.{append_assoc}
use Rattle.fill_tokens.specs.declared.token_set.TokenSet.{TokenSet}
use Rattle.fill_tree.specs.Switch.{CaseTree, SwitchTree}
use Rattle.fill_tree.specs.Tree.{Atoms}
use Rattle.fill_tree.specs.declared.guard.Guard.{Guard}
use Rattle.fill_print.specs.Grammar.{NoCase, SomeCase, WholeCase, WholeSwitch}
use Rattle.fill_print.specs.Notation.{literal_text, second_text, program_text, case_text, cases_text, switch_text}
use Rattle.fill_print.specs.Reading.{IsNotNext}
use Rattle.fill_print.specs.Rules.{AreCases}
use Rattle.fill_print.specs.Switches.{CaseFront, CaseStep, one_less, Cases, SwitchFront}
use Rattle.fill_print.proofs.Chains.{OneForm, IsSpelled, IsAt, IsSame, Completes, link, many_one, both_one, plain_one, gives_one}
use Rattle.fill_print.proofs.Dispatch.{IsElse, not_at, split_one, same_one}
use Rattle.fill_print.proofs.GuardRules.{literal_one, second_one, no_literal_at}
use Rattle.fill_print.proofs.ProgramRules.{program_one}

grouped : (l o a p d k : List ℕ) → l ++ ((o ++ a) ++ (p ++ (d ++ k))) ≡ ((((l ++ o) ++ a) ++ p) ++ d) ++ k
grouped l o a p d k = simp append_assoc

spelled_case : (c : CaseTree) (k : List ℕ) → literal_text c.guard.first ++ ((second_text c.guard.second ++ codes "=>") ++ (program_text c.program ++ (59 ∷ k))) ≡ case_text c ++ k
spelled_case c k = grouped (literal_text c.guard.first) (second_text c.guard.second) (codes "=>") (program_text c.program) (59 ∷ []) k

none_one : OneForm NoCase
none_one = both_one (plain_one (codes "else=>")) (λ u. gives_one _)

-- the list of cases
record AreSpelledCases (token_set : TokenSet) (room : ℕ) (cs : List CaseTree) (s k : List ℕ) : Type 0 where
  few : length cs ≤ room
  rules : AreCases token_set cs
  text : s ≡ cases_text cs ++ (codes "else=>" ++ k)

joined : (w c e p d k : List ℕ) → w ++ (c ++ (e ++ (p ++ (d ++ k)))) ≡ ((((w ++ c) ++ e) ++ p) ++ d) ++ k
joined w c e p d k = simp append_assoc

spelled_switch : (cs : List CaseTree) (p : Atoms) (k : List ℕ) → codes "Switch(" ++ (cases_text cs ++ (codes "else=>" ++ (program_text p ++ 41 ∷ k))) ≡ switch_text (record { cases = cs; last = p }) ++ k
spelled_switch cs p k = joined (codes "Switch(") (cases_text cs) (codes "else=>") (program_text p) (41 ∷ []) k

module _ (token_set : TokenSet) where
  pub case_whole : IsSame (CaseFront token_set) (WholeCase token_set)
  case_whole = record {
    forth = λ c s k h.
        let h2 = h.later in
        let h3 = h2.later in
        let h4 = h3.later in
        let g : Guard = record { first = h.item; second = h2.item } in
        let t : CaseTree = record { guard = g; program = h3.item } in
        let text : s ≡ case_text t ++ k =
        h.here.1 ∙ ap (λ x. literal_text h.item ++ x) (h2.here.1 ∙ ap (λ x. (second_text h2.item ++ codes "=>") ++ x) (h3.here.1 ∙ ap (λ x. program_text h3.item ++ x) (h4.here ∙ ap (λ x. 59 ∷ x) h4.later.1))) ∙ spelled_case t k in
        subst (λ x. CaseFront token_set x s k) (sym h4.later.0) (((h.here.0, h2.here.0), h3.here.0), text);
    back = λ c s k h.
        let m2 : List ℕ = program_text c.program ++ (59 ∷ k) in
        let m1 : List ℕ = (second_text c.guard.second ++ codes "=>") ++ m2 in
        link c.guard.first m1 (h.0.0.0, h.1 ∙ sym (spelled_case c k)) (link c.guard.second m2 (h.0.0.1, refl) (link c.program (59 ∷ k) (h.0.1, refl) (link tt k refl (refl, refl))));
  }

  whole_case_one : OneForm (WholeCase token_set)
  whole_case_one = both_one (literal_one token_set) (λ l. both_one (second_one token_set) (λ o. both_one (program_one token_set) (λ p. both_one (plain_one (codes ";")) (λ u. gives_one _))))

  -- the next case
  none_forth : (room : ℕ) (o : Option CaseTree) (s k : List ℕ) → NoCase o s k → CaseStep token_set room o s k
  none_forth room o s k h = subst (λ x. CaseStep token_set room x s k) (sym h.later.0) (h.here ∙ ap (λ x. codes "else=>" ++ x) h.later.1)

  pub case_last : (room : ℕ) → room ≡ 0 → IsSame (CaseStep token_set room) NoCase
  case_last room none = record { forth = none_forth room; back = λ o s k h. go o s k h }
    where
      go : (o : Option CaseTree) (s k : List ℕ) → CaseStep token_set room o s k → NoCase o s k
      go None s k h = link tt k h (refl, refl)
      go (Some c) s k h = absurd (omega (arith, h.0))

  pub case_none : (room : ℕ) → IsAt (CaseStep token_set room) NoCase 101
  case_none room = record { forth = none_forth room; back = λ o s k h. go o s k h }
    where
      go : (o : Option CaseTree) (s k : List ℕ) → CaseStep token_set room o (101 ∷ s) k → NoCase o (101 ∷ s) k
      go None s k h = link tt k h (refl, refl)
      go (Some c) s k h = absurd (no_literal_at c.guard.first ((second_text c.guard.second ++ codes "=>") ++ (program_text c.program ++ (59 ∷ k))) 101 s (omega arith) (h.1.1 ∙ sym (spelled_case c k)))

  pub case_some : (room : ℕ) → room ≢ 0 → IsElse (CaseStep token_set room) (SomeCase token_set) 101
  case_some room some = record {
    forth = λ o s k h. subst (λ x. CaseStep token_set room x s k) (sym h.later.0) (omega arith, subst (λ x. CaseFront token_set h.item s x) h.later.1 (case_whole.forth h.item s h.middle h.here));
    back = λ o s k ne h. go o s k ne h;
  }
    where
      go : (o : Option CaseTree) (s k : List ℕ) → IsNotNext 101 s → CaseStep token_set room o s k → SomeCase token_set o s k
      go None s k ne h = absurd (not_at 101 s _ ne h)
      go (Some c) s k ne h = link c k (case_whole.back c s k h.1) (refl, refl)

  pub case_step_one : (room : ℕ) → OneForm (CaseStep token_set room)
  case_step_one room = elim (cases_eq room 0) [
    | inl none ↦ same_one (case_last room none) none_one
    | inr some ↦ split_one (case_none room) (case_some room some) none_one (both_one whole_case_one (λ c. gives_one _))
  ]

  pub cases_complete : (room : ℕ) → Completes (CaseStep token_set) one_less room
  cases_complete room a t h = record { some = []; text = codes "else=>"; spelled = λ k. refl }

  pub cases_spelled : (room : ℕ) → IsSpelled (Cases token_set room)
  cases_spelled room = record { some = []; text = codes "else=>"; spelled = λ k. refl }

  cases_forth : (room : ℕ) (cs : List CaseTree) (s k : List ℕ) → Cases token_set room cs s k → AreSpelledCases token_set room cs s k
  cases_forth room [] s k h = record { few = omega arith; rules = tt; text = h }
  cases_forth room (c ∷ cs) s k h =
      let rest = cases_forth (room - 1) cs h.0 k h.2 in
      record {
        few = (let f = rest.few in let g = h.1.0 in omega (arith, f, g));
        rules = (h.1.1.0, rest.rules);
        text = h.1.1.1 ∙ ap (λ x. case_text c ++ x) rest.text ∙ sym (append_assoc (case_text c) (cases_text cs) (codes "else=>" ++ k));
      }

  cases_back : (room : ℕ) (cs : List CaseTree) (s k : List ℕ) → AreSpelledCases token_set room cs s k → Cases token_set room cs s k
  cases_back room [] s k h = h.text
  cases_back room (c ∷ cs) s k h =
      let m : List ℕ = cases_text cs ++ (codes "else=>" ++ k) in (
        m,
        ((let f = h.few in omega (arith, f)), (h.rules.0, h.text ∙ append_assoc (case_text c) (cases_text cs) (codes "else=>" ++ k))),
        cases_back (room - 1) cs m k (record { few = (let f = h.few in omega (arith, f)); rules = h.rules.1; text = refl }),
      )

  pub switch_whole : IsSame (SwitchFront token_set) (WholeSwitch token_set)
  switch_whole = record {
    forth = λ t s k h.
        let cs = h.later.item in
        let h2 = h.later.later in
        let p = h2.item in
        let h3 = h2.later in
        let f = cases_forth 7 cs h.middle h.later.middle h.later.here in
        let made : SwitchTree = record { cases = cs; last = p } in
        let text : s ≡ switch_text made ++ k =
        h.here ∙ ap (λ x. codes "Switch(" ++ x) (f.text ∙ ap (λ x. cases_text cs ++ (codes "else=>" ++ x)) (h2.here.1 ∙ ap (λ x. program_text p ++ x) (h3.here ∙ ap (λ x. 41 ∷ x) h3.later.1))) ∙ spelled_switch cs p k in
        subst (λ x. SwitchFront token_set x s k) (sym h3.later.0) ((f.few, f.rules, h2.here.0), text);
    back = λ t s k h.
        let m1 : List ℕ = program_text t.last ++ 41 ∷ k in
        let m0 : List ℕ = cases_text t.cases ++ (codes "else=>" ++ m1) in
        link tt m0 (h.1 ∙ sym (spelled_switch t.cases t.last k)) (link t.cases m1 (cases_back 7 t.cases m0 m1 (record { few = h.0.0; rules = h.0.1; text = refl }))
        (link t.last (41 ∷ k) (h.0.2, refl) (link tt k refl (refl, refl))));
  }

  pub switch_one : OneForm (SwitchFront token_set)
  switch_one = same_one switch_whole (both_one (plain_one (codes "Switch(")) (λ u. both_one (many_one (CaseStep token_set) one_less case_step_one 7) (λ cs. both_one (program_one token_set) (λ p. both_one (plain_one (codes ")")) (λ v. gives_one _)))))
