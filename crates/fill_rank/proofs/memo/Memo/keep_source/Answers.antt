use Rattle.std.proofs.Common.{nat_eq}
use Rattle.std.specs.HashMap.{get}
use Rattle.fill_tree.specs.Meaning.{source_tree}
use Rattle.fill_arena.specs.Stands.{SourceStands}
use Rattle.fill_arena.specs.Best.{IsBest}
use Rattle.fill_tree.specs.Order.{source_rank}
use Rattle.fill_arena.proofs.Maps.{put_right}
use Rattle.fill_rank.proofs.memo.Memo.keep_source.Goals as goal

pub returns-in-Ok-clause-kept : goal.returns-in-Ok-clause-kept
returns-in-Ok-clause-kept c prices cs memo best =
    let u = c.in-Ok.ensures.updates in
    record {
      places = memo.places;
      sources = put_right (λ q. get nat_eq c.args.self.now.sources q) (λ q. get nat_eq c.insert.new.self q) (λ q x. IsBest (source_rank prices) (SourceStands cs q) (source_tree x)) c.args.s c.args.x u.1 u.2 memo.sources best;
      parts = memo.parts;
      atoms = memo.atoms;
      bounds = memo.bounds;
    }
