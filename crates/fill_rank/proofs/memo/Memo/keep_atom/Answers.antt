use Rattle.std.proofs.Common.{nat_eq}
use Rattle.std.specs.HashMap.{get}
use Rattle.fill_tree.specs.Meaning.{atom_tree}
use Rattle.fill_arena.specs.Stands.{AtomStands}
use Rattle.fill_arena.specs.Best.{IsBest}
use Rattle.fill_tree.specs.Order.{atom_rank}
use Rattle.fill_arena.proofs.Maps.{put_right}
use Rattle.fill_rank.proofs.memo.Memo.keep_atom.Goals as goal

pub returns-in-Ok-clause-kept : goal.returns-in-Ok-clause-kept
returns-in-Ok-clause-kept c prices cs memo best =
    let u = c.in-Ok.ensures.updates in
    record {
      places = memo.places;
      sources = memo.sources;
      parts = memo.parts;
      atoms = put_right (λ q. get nat_eq c.args.self.now.atoms q) (λ q. get nat_eq c.insert.new.self q) (λ q a. IsBest (atom_rank prices) (AtomStands cs q) (atom_tree a)) c.args.s c.args.a u.1 u.2 memo.atoms best;
      bounds = memo.bounds;
    }
