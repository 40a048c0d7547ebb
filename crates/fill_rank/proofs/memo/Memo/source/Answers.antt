use Rattle.fill_tree.specs.Meaning.{source_tree}
use Rattle.fill_tree.specs.declared.tree.Source.{Source}
use Rattle.fill_arena.specs.Stands.{SourceStands}
use Rattle.fill_arena.specs.Best.{IsBest}
use Rattle.fill_tree.specs.Order.{source_rank}
use Rattle.fill_arena.proofs.Maps.{found_right}
use Rattle.fill_rank.proofs.memo.Memo.source.Goals as goal

pub returns-clause-right : goal.returns-clause-right
returns-clause-right c prices cs memo = found_right (λ (x : Source). IsBest (source_rank prices) (SourceStands cs c.args.s) (source_tree x)) _ _ c.get.ensures.value (memo.sources c.args.s)
