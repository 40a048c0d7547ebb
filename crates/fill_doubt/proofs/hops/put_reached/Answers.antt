use Rattle.std.proofs.Common.{get_or, arith}
use Rattle.std.proofs.lemmas.Bool.{iff_false}
use Rattle.std.proofs.lemmas.Option.{slice_get-get_or}
use Rattle.fill_doubt.proofs.Hopped.{contained_here, contains_at, reached_more, reached_not, rest_later}
use Rattle.fill_doubt.proofs.hops.put_reached.Goals as goal

pub skip-place-requires : goal.skip-place-requires
skip-place-requires c = c.requires.passed c.args.i (get_or c.args.from.now c.args.i 0) (omega arith) (slice_get-get_or c.args.from.now c.args.i 0 c.requires.place)

pub returns-then-not-is_at-clause-passed : goal.returns-then-not-is_at-clause-passed
returns-then-not-is_at-clause-passed c =
    rest_later c.args.set.now c.args.from.now c.skip-place.result c.args.i (get_or c.args.from.now c.args.i 0) c.requires.from (slice_get-get_or c.args.from.now c.args.i 0 c.requires.place) c.skip-place.ensures.less

pub returns-then-not-is_at-clause-out : goal.returns-then-not-is_at-clause-out
returns-then-not-is_at-clause-out c =
    let set = c.args.set.now in
    let i = c.args.i in
    let a = get_or c.args.from.now i 0 in
    let e = c.requires.paired in
    let lt = c.requires.place in
    reached_not set c.args.from.now c.args.to.now i a (get_or c.args.to.now i 0) (slice_get-get_or c.args.from.now i 0 lt) (slice_get-get_or c.args.to.now i 0 (omega arith)) c.args.out.now.items
    (λ has. iff_false c.is_at.ensures c.if-not-is_at.true (contained_here set c.skip-place.result a c.requires.set c.skip-place.ensures.less c.skip-place.ensures.here has))

pub returns-clause-passed : goal.returns-clause-passed
returns-clause-passed c =
    rest_later c.args.set.now c.args.from.now c.skip-place.result c.args.i (get_or c.args.from.now c.args.i 0) c.requires.from (slice_get-get_or c.args.from.now c.args.i 0 c.requires.place) c.skip-place.ensures.less

pub returns-clause-out : goal.returns-clause-out
returns-clause-out c =
    let set = c.args.set.now in
    let i = c.args.i in
    let a = get_or c.args.from.now i 0 in
    let e = c.requires.paired in
    let lt = c.requires.place in
    reached_more set c.args.from.now c.args.to.now i a (get_or c.args.to.now i 0) (slice_get-get_or c.args.from.now i 0 lt) (slice_get-get_or c.args.to.now i 0 (omega arith)) c.args.out.now.items c.push_number.new.numbers.items
    c.requires.to (contains_at set c.skip-place.result a (c.is_at.ensures.0 c.if-not-is_at.false)) c.in_ok-push_number.ensures
