use Rattle.std.proofs.Common.{nat_eq}
use Rattle.std.specs.HashMap.{get}
use Rattle.fill_arena.proofs.Maps.{put_right}
use Rattle.fill_object.specs.Bounds.{IsPlaceLeast}
use Rattle.fill_object.proofs.costs.Costs.keep.Goals as goal

pub returns-in-Ok : goal.returns-in-Ok
returns-in-Ok c prices cs memo least =
    let u = c.in-Ok.ensures.updates in
    record {
      places = put_right (λ q. get nat_eq c.args.self.now.places q) (λ q. get nat_eq c.insert.new.self q) (λ q n. IsPlaceLeast prices cs q n) c.args.s c.args.least u.1 u.2 memo.places least;
    }
