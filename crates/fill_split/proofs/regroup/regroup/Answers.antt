use Rattle.std.proofs.Common.{◌*◌, length, ap, arith, sym, subst, ◌∙◌, take}
use Rattle.fill_split.specs.Changes.{changed}
use Rattle.fill_split.specs.Standing.{Traced, StandsBy, rule_of}
use Rattle.fill_split.specs.Refusals.{Refuses}
use Rattle.fill_split.proofs.Marks.{marks_trans}
use Rattle.fill_split.proofs.Changing.{if_ok, if_err, is_in_places, was_long, front_stands, changed_singles_stand, singles_left, at_in_singles, alone_refuses}
use Rattle.fill_split.proofs.regroup.regroup.Goals as goal

pub singles-requires : goal.singles-requires
singles-requires g c =
    let p = c.requires.stands.1.paired in
    let a = ap length c.as_slice.ensures.value in
    let n = c.len.ensures in
    omega arith

pub changed_singles-requires : goal.changed_singles-requires
changed_singles-requires g c =
    let m = g.M.Maker in
    let b = m.base c.args.maker.now in
    let f = c.args.before.now in
    let r = c.requires.stands in
    let w = is_in_places (m.stands c.args.maker.now) f.rule (m.fits b) (m.weight b) r.0 f.kept.items f.places c.args.at c.args.change.now r.1 r.2 in
    let e = c.in-Ok.ensures in
    let was = rw c.as_slice.ensures.value at c.in-Ok-singles.ensures in
    let h = was_long (m.stands c.args.maker.now) (m.stands c.single_put.new.maker) f.rule (m.fits b) (m.weight b) e.older f.kept.items f.places c.args.at c.args.change.now w r.0 r.1 in
    let a = ap length (c.as_slice-2.ensures ∙ was) in
    let t = c.taken.ensures in
    omega arith

pub regroup_from-requires-clause-within : goal.regroup_from-requires-clause-within
regroup_from-requires-clause-within g c =
    let m = g.M.Maker in
    let b = m.base c.args.maker.now in
    let f = c.args.before.now in
    let r = c.requires.stands in
    let w = is_in_places (m.stands c.args.maker.now) f.rule (m.fits b) (m.weight b) r.0 f.kept.items f.places c.args.at c.args.change.now r.1 r.2 in
    omega arith

pub regroup_from-requires-clause-at : goal.regroup_from-requires-clause-at
regroup_from-requires-clause-at g c =
    let m = g.M.Maker in
    let b = m.base c.args.maker.now in
    let f = c.args.before.now in
    let r = c.requires.stands in
    let w = is_in_places (m.stands c.args.maker.now) f.rule (m.fits b) (m.weight b) r.0 f.kept.items f.places c.args.at c.args.change.now r.1 r.2 in
    let e = c.in-Ok.ensures in
    let was = rw c.as_slice.ensures.value at c.in-Ok-singles.ensures in
    let is = c.as_slice-3.ensures ∙ rw (c.as_slice-2.ensures, was, c.taken.ensures) at c.in-Ok-changed_singles.ensures in
    at_in_singles (m.stands c.args.maker.now) (m.stands c.single_put.new.maker) f.rule (m.fits b) (m.weight b) e.older f.kept.items f.places c.args.at c.args.change.now w r.0 r.1 c.in-Ok.one e.one _ is

pub regroup_from-requires-clause-stands : goal.regroup_from-requires-clause-stands
regroup_from-requires-clause-stands g c =
    let m = g.M.Maker in
    let b = m.base c.args.maker.now in
    let f = c.args.before.now in
    let r = c.requires.stands in
    let w = is_in_places (m.stands c.args.maker.now) f.rule (m.fits b) (m.weight b) r.0 f.kept.items f.places c.args.at c.args.change.now r.1 r.2 in
    let e = c.in-Ok.ensures in
    let was = rw c.as_slice.ensures.value at c.in-Ok-singles.ensures in
    let is = c.as_slice-3.ensures ∙ rw (c.as_slice-2.ensures, was, c.taken.ensures) at c.in-Ok-changed_singles.ensures in
    let front = front_stands (m.stands c.args.maker.now) (m.stands c.single_put.new.maker) f.rule (m.fits b) (m.weight b) e.older f.kept.items f.places c.args.at c.args.change.now w r.0 r.1 in (
      changed c.args.change.now c.args.at r.0,
      changed_singles_stand (m.stands c.args.maker.now) (m.stands c.single_put.new.maker) f.rule (m.fits b) (m.weight b) e.older f.kept.items f.places c.args.at c.args.change.now w r.0 r.1 c.in-Ok.one e.one _ is,
      subst (λ b. Traced (m.stands c.single_put.new.maker) f.rule (m.fits b) (m.weight b) (take c.args.at (changed c.args.change.now c.args.at r.0)) (take (2 * c.args.at) f.kept.items) (take c.args.at f.places)) (sym e.base) front,
    )

pub returns-in-Err-clause-refused : goal.returns-in-Err-clause-refused
returns-in-Err-clause-refused g c =
    let m = g.M.Maker in
    let b = m.base c.args.maker.now in
    let f = c.args.before.now in
    let r = c.requires.stands in
    let w = is_in_places (m.stands c.args.maker.now) f.rule (m.fits b) (m.weight b) r.0 f.kept.items f.places c.args.at c.args.change.now r.1 r.2 in
    λ items s.
    alone_refuses (m.stands c.args.maker.now) (m.stands c.single_put.new.maker) f.rule (m.fits b) (m.weight b) c.single_put.ensures.older f.kept.items f.places c.args.at c.args.change.now w items s _ c.in-Err.ensures.refused

pub returns-clause-marks : goal.returns-clause-marks
returns-clause-marks g c =
    marks_trans c.in-Ok.ensures.marks c.regroup_from.ensures.marks

pub returns-clause-cost : goal.returns-clause-cost
returns-clause-cost g c =
    let m = g.M.Maker in
    let b = m.base c.args.maker.now in
    let f = c.args.before.now in
    let r = c.requires.stands in
    let w = is_in_places (m.stands c.args.maker.now) f.rule (m.fits b) (m.weight b) r.0 f.kept.items f.places c.args.at c.args.change.now r.1 r.2 in
    let e = c.in-Ok.ensures in
    let was = rw c.as_slice.ensures.value at c.in-Ok-singles.ensures in
    let is = c.as_slice-3.ensures ∙ rw (c.as_slice-2.ensures, was, c.taken.ensures) at c.in-Ok-changed_singles.ensures in
    λ items s.
    let n = singles_left (m.stands c.args.maker.now) (m.stands c.single_put.new.maker) f.rule (m.fits b) (m.weight b) e.older f.kept.items f.places c.args.at c.args.change.now w items s c.in-Ok.one e.one _ is in
    let a = e.cost in
    let d = c.regroup_from.ensures.cost in
    omega arith

pub returns-clause-folds : goal.returns-clause-folds
returns-clause-folds g c =
    let m = g.M.Maker in
    let b = m.base c.args.maker.now in
    let f = c.args.before.now in
    let r = c.requires.stands in
    let w = is_in_places (m.stands c.args.maker.now) f.rule (m.fits b) (m.weight b) r.0 f.kept.items f.places c.args.at c.args.change.now r.1 r.2 in
    let e = c.in-Ok.ensures in
    let was = rw c.as_slice.ensures.value at c.in-Ok-singles.ensures in
    let is = c.as_slice-3.ensures ∙ rw (c.as_slice-2.ensures, was, c.taken.ensures) at c.in-Ok-changed_singles.ensures in
    if_ok c.regroup_from.result c.regroup_from.ensures.folds
    (λ o h. λ items s.
    let all = changed c.args.change.now c.args.at items in
    let singles = changed_singles_stand (m.stands c.args.maker.now) (m.stands c.single_put.new.maker) f.rule (m.fits b) (m.weight b) e.older f.kept.items f.places c.args.at c.args.change.now w items s c.in-Ok.one e.one _ is in
    let front = front_stands (m.stands c.args.maker.now) (m.stands c.single_put.new.maker) f.rule (m.fits b) (m.weight b) e.older f.kept.items f.places c.args.at c.args.change.now w items s in
    let based = subst (λ b. Traced (m.stands c.single_put.new.maker) f.rule (m.fits b) (m.weight b) (take c.args.at all) (take (2 * c.args.at) f.kept.items) (take c.args.at f.places)) (sym e.base) front in
    subst (λ b. StandsBy (m.stands c.regroup_from.new.maker) (m.fits b) (m.weight b) all o) e.base (h all singles based))

pub returns-clause-refused : goal.returns-clause-refused
returns-clause-refused g c =
    let m = g.M.Maker in
    let b = m.base c.args.maker.now in
    let f = c.args.before.now in
    let r = c.requires.stands in
    let w = is_in_places (m.stands c.args.maker.now) f.rule (m.fits b) (m.weight b) r.0 f.kept.items f.places c.args.at c.args.change.now r.1 r.2 in
    let e = c.in-Ok.ensures in
    let was = rw c.as_slice.ensures.value at c.in-Ok-singles.ensures in
    let is = c.as_slice-3.ensures ∙ rw (c.as_slice-2.ensures, was, c.taken.ensures) at c.in-Ok-changed_singles.ensures in
    if_err c.regroup_from.result c.regroup_from.ensures.refused
    (λ o h. λ items s.
    let all = changed c.args.change.now c.args.at items in
    let singles = changed_singles_stand (m.stands c.args.maker.now) (m.stands c.single_put.new.maker) f.rule (m.fits b) (m.weight b) e.older f.kept.items f.places c.args.at c.args.change.now w items s c.in-Ok.one e.one _ is in
    let front = front_stands (m.stands c.args.maker.now) (m.stands c.single_put.new.maker) f.rule (m.fits b) (m.weight b) e.older f.kept.items f.places c.args.at c.args.change.now w items s in
    let based = subst (λ b. Traced (m.stands c.single_put.new.maker) f.rule (m.fits b) (m.weight b) (take c.args.at all) (take (2 * c.args.at) f.kept.items) (take c.args.at f.places)) (sym e.base) front in
    subst (λ b. Refuses (rule_of f) (m.fits b) (m.weight b) all c.args.at o) e.base (h all singles based))
