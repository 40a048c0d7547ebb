use Rattle.std.proofs.Common.{get_or, refl, rules}
use Rattle.fill_tree.specs.declared.user.Example.{Example}
use Rattle.fill_session.proofs.Picked.{place_within, rows_more, rows_all}
use Rattle.fill_session.proofs.branches.push_rows.Goals as goal

pub offset_bounds-examples-place : goal.offset_bounds-examples-place
offset_bounds-examples-place c =
    let lt = place_within c.args.examples.now c.args.places.now c.requires.0 c.loop-place.place-index c.requires.1 c.loop-place-test.true in
    search rules

pub bounds-examples-place : goal.bounds-examples-place
bounds-examples-place c = place_within c.args.examples.now c.args.places.now c.requires.0 c.loop-place.place-index c.requires.1 c.loop-place-test.true

pub bounds-examples-place-in-loop-place : goal.bounds-examples-place-in-loop-place
bounds-examples-place-in-loop-place c = place_within c.args.examples.now c.args.places.now c.requires.0 c.loop-place.place-index c.requires.1 c.loop-place-test.true

pub loop-place-preserved : goal.loop-place-preserved
loop-place-preserved c = λ list picked.
    let e : Example = c.index-examples-place.result in
    rows_more c.args.examples.now c.args.places.now list c.args.rows.now c.loop-place.rows c.push.new.self c.loop-place.place-index
    (get_or c.args.examples.now (get_or c.args.places.now c.loop-place.place-index 0) e).row e picked c.loop-place-test.true refl (c.loop-place.invariant list picked) c.in_ok-push.ensures.ok

pub returns : goal.returns
returns c = λ list picked.
    rows_all c.args.examples.now c.args.places.now list c.args.rows.now c.loop-place.rows c.loop-place.place-index picked c.loop-place-test.false (c.loop-place.invariant list picked)
