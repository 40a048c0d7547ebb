use Rattle.std.proofs.Common.{nat_eq}
use Rattle.std.specs.HashMap.{get}
use Rattle.fill_tokens.specs.Place.{place_cmp}
use Rattle.fill_tokens.specs.Prices.{place_cost}
use Rattle.fill_arena.specs.Stands.{PlaceStands}
use Rattle.fill_best.specs.Cheapest.{AreCheapest}
use Rattle.fill_arena.proofs.Maps.{put_right}
use Rattle.fill_best.proofs.memo.Memo.keep_places.Goals as goal

pub returns-in-Ok : goal.returns-in-Ok
returns-in-Ok c prices cs k memo first =
    let u = c.in-Ok.ensures.updates in
    record {
      places = put_right (λ q. get nat_eq c.args.self.now.places q) (λ q. get nat_eq c.insert.new.self q) (λ q o. AreCheapest (place_cost prices) place_cmp (PlaceStands cs q) k o.value.items) c.args.s c.args.shortlist u.1 u.2 memo.places first;
      sources = memo.sources;
      parts = memo.parts;
      atoms = memo.atoms;
    }
