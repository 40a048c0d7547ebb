use Rattle.std.proofs.Common.{◌≡◌, List, Some, subst, sym, ap, ◌∙◌}
use Rattle.fill_split.specs.Changes.{changed as changed_at}
use Rattle.fill_split.specs.Refusals.{Refuses}
use Rattle.fill_split.specs.Standing.{rule_of}
use Rattle.fill_tree.specs.declared.user.Example.{Example}
use Rattle.fill_space.specs.declared.ground.Ground.{Ground}
use Rattle.fill_space.specs.Ground.{FitsOn, WeighsOn}
use Rattle.fill_session.specs.Edits.{changed}
use Rattle.fill_session.specs.Fate.{EachHasProgram, FateIs}
use Rattle.fill_session.specs.State.{AreShown}
use Rattle.fill_session.proofs.Held.{held_stays, new_each, new_few, new_stand, new_held, new_programs}
use Rattle.fill_session.proofs.edit.changed_present.Goals as goal

pub refusal_of-requires-clause-refused : goal.refusal_of-requires-clause-refused
refusal_of-requires-clause-refused g c =
    let p = c.args.present.now in
    let list : changed_at c.args.change.change c.args.change.at p.examples ≡ c.as_slice-in-Err-refold.result.now =
    c.requires.change.same ∙ sym (c.in-Ok.ensures ∙ ap (λ (v : List Example). changed v c.args.edit.now) c.as_slice.ensures) ∙ sym c.as_slice-in-Err-refold.ensures in
    subst (λ (over : Ground). Refuses (rule_of p.folds) (FitsOn over) (WeighsOn over) c.as_slice-in-Err-refold.result.now c.args.change.at c.in-Err-refold.refused) (sym c.in-Err-refold.ensures.base)
    (subst (λ v. Refuses (rule_of p.folds) (FitsOn c.args.spaces.now.ground) (WeighsOn c.args.spaces.now.ground) v c.args.change.at c.in-Err-refold.refused) list
    (c.in-Err-refold.ensures.refused p.examples (c.requires.held).stand))

pub branches_of-requires-clause-before : goal.branches_of-requires-clause-before
branches_of-requires-clause-before g c =
    let p = c.args.present.now in
    held_stays c.args.spaces.now c.refold.new.maker p.examples p.folds p.branches c.in-Ok-refold.ensures.base c.in-Ok-refold.ensures.older c.requires.held

pub branches_of-requires-clause-stand : goal.branches_of-requires-clause-stand
branches_of-requires-clause-stand g c =
    let p = c.args.present.now in
    let made : c.in-Ok.examples ≡ changed p.examples c.args.edit.now = c.in-Ok.ensures ∙ ap (λ (v : List Example). changed v c.args.edit.now) c.as_slice.ensures in
    new_stand c.args.spaces.now c.refold.new.maker p.examples c.as_slice-2.result.now p.folds p.branches c.args.edit.now c.in-Ok-refold.ensures.base c.requires.free
    (c.as_slice-2.ensures ∙ made) c.requires.held (changed_at c.args.change.change c.args.change.at p.examples) c.in-Ok-refold.folds c.requires.change.same
    (c.in-Ok-refold.ensures.folds p.examples (c.requires.held).stand)

pub branches_of-requires-clause-each : goal.branches_of-requires-clause-each
branches_of-requires-clause-each g c =
    let p = c.args.present.now in
    let made : c.in-Ok.examples ≡ changed p.examples c.args.edit.now = c.in-Ok.ensures ∙ ap (λ (v : List Example). changed v c.args.edit.now) c.as_slice.ensures in
    new_each c.args.spaces.now c.refold.new.maker p.examples c.as_slice-2.result.now p.folds p.branches c.args.edit.now c.in-Ok-refold.ensures.base c.requires.free
    (c.as_slice-2.ensures ∙ made) c.requires.held

pub branches_of-requires-clause-few : goal.branches_of-requires-clause-few
branches_of-requires-clause-few g c =
    let p = c.args.present.now in
    let made : c.in-Ok.examples ≡ changed p.examples c.args.edit.now = c.in-Ok.ensures ∙ ap (λ (v : List Example). changed v c.args.edit.now) c.as_slice.ensures in
    new_few c.args.spaces.now c.refold.new.maker p.examples c.as_slice-2.result.now p.folds p.branches c.args.edit.now c.in-Ok-refold.ensures.base c.requires.free
    (c.as_slice-2.ensures ∙ made) c.requires.held

pub cut-requires : goal.cut-requires
cut-requires g c = (c.in-Ok-refold.ensures.marks).stays c.mark-mark.result c.mark-mark.ensures.valid

pub returns-in-Ok-branches_of-clause-made : goal.returns-in-Ok-branches_of-clause-made
returns-in-Ok-branches_of-clause-made g c =
    let p = c.args.present.now in
    let made : c.in-Ok.examples ≡ changed p.examples c.args.edit.now = c.in-Ok.ensures ∙ ap (λ (v : List Example). changed v c.args.edit.now) c.as_slice.ensures in
    let stand = new_stand c.args.spaces.now c.refold.new.maker p.examples c.in-Ok.examples p.folds p.branches c.args.edit.now c.in-Ok-refold.ensures.base c.requires.free
    made c.requires.held (changed_at c.args.change.change c.args.change.at p.examples) c.in-Ok-refold.folds c.requires.change.same
    (c.in-Ok-refold.ensures.folds p.examples (c.requires.held).stand) in
    let shown = subst (λ v. AreShown c.refold.new.maker.ground v c.in-Ok-branches_of.branches) c.as_slice-2.ensures c.in-Ok-branches_of.ensures.shown in (
      new_held c.args.spaces.now c.refold.new.maker p.examples c.in-Ok.examples p.folds p.branches c.args.edit.now c.in-Ok-refold.ensures.base c.requires.free
          made c.requires.held c.in-Ok-refold.folds c.in-Ok-branches_of.branches stand c.in-Ok-refold.ensures.rule shown,
      made,
    )

pub returns-in-Err-branches_of-clause-older : goal.returns-in-Err-branches_of-clause-older
returns-in-Err-branches_of-clause-older g c = λ k l s.
    c.cut.ensures.stands k l ((c.in-Ok-refold.ensures.marks).marks c.mark-mark.result k l c.mark-mark.ensures.valid (c.mark-mark.ensures.stands k l s))

pub returns-in-Err-branches_of-clause-refused : goal.returns-in-Err-branches_of-clause-refused
returns-in-Err-branches_of-clause-refused g c = λ real.
    let p = c.args.present.now in
    let made : c.in-Ok.examples ≡ changed p.examples c.args.edit.now = c.in-Ok.ensures ∙ ap (λ (v : List Example). changed v c.args.edit.now) c.as_slice.ensures in
    let is = c.as_slice-2.ensures ∙ made in
    let each : EachHasProgram c.refold.new.maker.ground c.as_slice-2.result.now =
    new_programs c.args.spaces.now c.refold.new.maker p.examples c.as_slice-2.result.now p.folds p.branches c.args.edit.now c.in-Ok-refold.ensures.base c.requires.free
    is c.requires.held (changed_at c.args.change.change c.args.change.at p.examples) c.requires.change.same (c.in-Ok-refold.ensures.placed p.examples (c.requires.held).stand) in
    subst (λ (over : Ground). FateIs over (changed p.examples c.args.edit.now) (Some c.in-Err-branches_of.refusal)) c.in-Ok-refold.ensures.base
    (subst (λ (v : List Example). FateIs c.refold.new.maker.ground v (Some c.in-Err-branches_of.refusal)) is (c.in-Err-branches_of.ensures.refused real each))

pub returns-in-Err-branches_of-clause-cut : goal.returns-in-Err-branches_of-clause-cut
returns-in-Err-branches_of-clause-cut g c = λ k l s.
    c.mark-mark.ensures.only k l ((c.in-Ok-refold.ensures.marks).only c.mark-mark.result k l c.mark-mark.ensures.valid (c.cut.ensures.only k l s))
