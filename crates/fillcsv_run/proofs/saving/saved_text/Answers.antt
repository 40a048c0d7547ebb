use Rattle.std.proofs.Common.{◌≡◌, ◌∙◌, List, ℕ, None, Option, Some, ap, subst, sym}
use Rattle.std.specs.Prelude.{option_map}
use Rattle.fill_tree.specs.Switch.{SwitchTree, switch_tree}
use Rattle.fill_tree.specs.declared.guard.Switch.{Switch}
use Rattle.fill_tree.specs.declared.user.Example.{Example}
use Rattle.fill_space.specs.declared.ground.Ground.{Ground}
use Rattle.fill_session.specs.Answers.{switch_of}
use Rattle.fill_session.specs.Branches.{AreBranches, BranchData}
use Rattle.fillcsv_rules.specs.Rule.{rule_text}
use Rattle.fillcsv_run.specs.Read.{frame_data}
use Rattle.fillcsv_run.specs.Saved.{FrameData, IsSavedText, rule_with}
use Rattle.fillcsv_run.specs.declared.saving.RuleFrame.{RuleFrame}
use Rattle.fillcsv_run.proofs.saving.saved_text.Goals as goal

abbrev IsSwitch : Ground → List Example → Option Switch → Type 0
IsSwitch g examples made = (branches : List BranchData) × AreBranches g examples branches × (option_map switch_tree made ≡ switch_of branches)

text_is : (frame : FrameData) (g : Ground) (examples : List Example) (made : Option Switch) → IsSwitch g examples made
    → IsSavedText (Some frame) g examples (option_map (λ switch. rule_text (rule_with frame (switch_tree switch))) made)
text_is frame g examples None is = (is.0, is.1, ap (option_map (λ (t : SwitchTree). rule_text (rule_with frame t))) is.2)
text_is frame g examples (Some switch) is = (is.0, is.1, ap (option_map (λ (t : SwitchTree). rule_text (rule_with frame t))) is.2)

-- the text of a frame that is there
saved : (saving : Option RuleFrame) (frame : RuleFrame) (g : Ground) (examples : List Example) (made : Option Switch) (text : Option (List ℕ)) → saving ≡ Some frame → IsSwitch g examples made
    → text ≡ option_map (λ switch. rule_text (rule_with (frame_data frame) (switch_tree switch))) made → IsSavedText (option_map frame_data saving) g examples text
saved saving frame g examples made text some is same =
    subst (λ (o : Option RuleFrame). IsSavedText (option_map frame_data o) g examples text) (sym some)
    (subst (λ (t : Option (List ℕ)). IsSavedText (Some (frame_data frame)) g examples t) (sym same) (text_is (frame_data frame) g examples made is))

pub returns-in_ok-text_of-in-Some-2 : goal.returns-in_ok-text_of-in-Some-2
returns-in_ok-text_of-in-Some-2 c = λ g examples stands.
    saved c.args.saving c.in-Some.frame g examples c.in_ok-switch.field-0 (Some c.in_ok-text_of-in-Some-2.field-0) c.in-Some.is (c.in_ok-switch.ensures g examples stands)
    (ap (λ (t : List ℕ). Some t) c.in_ok-text_of-in-Some-2.ensures ∙ ap (option_map (λ (s : Switch). rule_text (rule_with (frame_data c.in-Some.frame) (switch_tree s)))) (sym c.in-Some-2.is))

pub returns-in-None : goal.returns-in-None
returns-in-None c = λ g examples stands.
    saved c.args.saving c.in-Some.frame g examples c.in_ok-switch.field-0 None c.in-Some.is (c.in_ok-switch.ensures g examples stands)
    (ap (option_map (λ (s : Switch). rule_text (rule_with (frame_data c.in-Some.frame) (switch_tree s)))) (sym c.in-None.is))
