use Rattle.std.proofs.Common.{nat_eq}
use Rattle.std.specs.HashMap.{get}
use Rattle.fill_tree.specs.Cost.{atom_cost}
use Rattle.fill_tree.specs.Order.{atom_cmp}
use Rattle.fill_arena.specs.Stands.{PartStands}
use Rattle.fill_best.specs.Cheapest.{AreCheapest}
use Rattle.fill_arena.proofs.Maps.{put_right}
use Rattle.fill_best.proofs.memo.Memo.keep_parts.Goals as goal

pub returns-in-Ok : goal.returns-in-Ok
returns-in-Ok c prices cs k memo first =
    let u = c.in-Ok.ensures.updates in
    record {
      places = memo.places;
      sources = memo.sources;
      parts = put_right (λ q. get nat_eq c.args.self.now.parts q) (λ q. get nat_eq c.insert.new.self q) (λ q o. AreCheapest (atom_cost prices) atom_cmp (PartStands cs q) k o.value.items) c.args.s c.args.shortlist u.1 u.2 memo.parts first;
      atoms = memo.atoms;
    }
