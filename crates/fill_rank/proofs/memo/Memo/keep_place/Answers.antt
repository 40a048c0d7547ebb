use Rattle.std.proofs.Common.{nat_eq}
use Rattle.std.specs.HashMap.{get}
use Rattle.fill_arena.specs.Stands.{PlaceStands}
use Rattle.fill_arena.specs.Best.{IsBest}
use Rattle.fill_tree.specs.Order.{place_rank}
use Rattle.fill_arena.proofs.Maps.{put_right}
use Rattle.fill_rank.proofs.memo.Memo.keep_place.Goals as goal

pub returns-in-Ok-clause-kept : goal.returns-in-Ok-clause-kept
returns-in-Ok-clause-kept c prices cs memo best =
    let u = c.in-Ok.ensures.updates in
    record {
      places = put_right (λ q. get nat_eq c.args.self.now.places q) (λ q. get nat_eq c.insert.new.self q) (λ q p. IsBest (place_rank prices) (PlaceStands cs q) p) c.args.s c.args.p.now u.1 u.2 memo.places best;
      sources = memo.sources;
      parts = memo.parts;
      atoms = memo.atoms;
      bounds = memo.bounds;
    }
