use Rattle.std.proofs.Common.{◌≡◌, ◌+◌, ◌<◌, ◌∙◌, ap, arith, length, length-set, subst}
use Rattle.fill_space.specs.declared.ground.Ground.{Ground}
use Rattle.fill_session.specs.Made.{MoveIs, move_term}
use Rattle.fill_session.specs.Timeline.{timeline}
use Rattle.fill_session.proofs.AllMade.{made_next}
use Rattle.fill_session.proofs.session.Session.move_all.Goals as goal

pub loop-i-preserved : goal.loop-i-preserved
loop-i-preserved g c =
    let before = c.loop-i.invariant in
    let ground = c.args.self.now.spaces.ground in
    let mid = timeline c.loop-i.self in
    let after = timeline c.move_once.new.self in
    let m = c.index-moves-i.result in
    let r = c.move_once.result in
    let lt : c.loop-i.i < length c.args.moves.now = omega arith in
    let is : MoveIs ground mid m r after = subst (λ (v : Ground). MoveIs v mid m r after) before.ground c.move_once.ensures.is in
    let same : move_term c.loop-i.self.spaces.ground.sheet mid.examples m ≡ move_term ground.sheet mid.examples m = ap (λ (v : Ground). move_term v.sheet mid.examples m) before.ground in
    let once = c.move_once.ensures.cost in
    let yet = before.all.2 in
    record {
      ground = c.move_once.ensures.ground ∙ before.ground;
      long = length-set c.loop-i.replies c.loop-i.i r ∙ before.long;
      all = (
        before.all.0 + move_term ground.sheet mid.examples m,
        made_next ground (timeline c.args.self.now) mid after c.args.moves.now c.loop-i.replies before.all.0 c.loop-i.i m r lt before.long c.index-moves-i.is before.all.1 is,
        omega arith,
      );
    }
