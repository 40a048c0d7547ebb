use Rattle.std.proofs.Common.{nat_eq}
use Rattle.std.specs.HashMap.{get}
use Rattle.fill_tree.specs.Meaning.{atom_tree}
use Rattle.fill_arena.specs.Best.{IsBestOf}
use Rattle.fill_tree.specs.Order.{atom_rank}
use Rattle.fill_arena.specs.Stands.{PartStands}
use Rattle.fill_arena.proofs.Maps.{put_right}
use Rattle.fill_rank.proofs.memo.Memo.keep_part.Goals as goal

pub returns-in-Ok-clause-kept : goal.returns-in-Ok-clause-kept
returns-in-Ok-clause-kept c prices cs memo best =
    let u = c.in-Ok.ensures.updates in
    record {
      places = memo.places;
      sources = memo.sources;
      parts = put_right (λ q. get nat_eq c.args.self.now.parts q) (λ q. get nat_eq c.insert.new.self q) (λ q o. IsBestOf atom_tree (atom_rank prices) (PartStands cs q) o) c.args.s c.args.o u.1 u.2 memo.parts best;
      atoms = memo.atoms;
      bounds = memo.bounds;
    }
