use Rattle.std.proofs.Common.{nat_eq}
use Rattle.std.specs.HashMap.{get}
use Rattle.fill_doubt.specs.Spots.{AreSpotsOf}
use Rattle.fill_doubt.proofs.Maps.{put_right}
use Rattle.fill_doubt.proofs.read.Read.keep.Goals as goal

pub returns-in-Ok-clause-read : goal.returns-in-Ok-clause-read
returns-in-Ok-clause-read c = λ entries are exact.
    let u = c.in-Ok.ensures.updates in
    record {
      cuts = are.cuts;
      spots = put_right (λ q. get nat_eq c.args.self.now.spots q) (λ q. get nat_eq c.insert.new.self q) (λ q f. AreSpotsOf entries q c.args.self.now.text f) c.args.s c.args.found u.1 u.2 are.spots exact;
    }
