use Rattle.std.proofs.Common.{Option}
use Rattle.fill_tree.specs.Meaning.{atom_tree}
use Rattle.fill_tree.specs.declared.tree.Atom.{Atom}
use Rattle.fill_arena.specs.Best.{IsBestOf}
use Rattle.fill_tree.specs.Order.{atom_rank}
use Rattle.fill_arena.specs.Stands.{PartStands}
use Rattle.fill_arena.proofs.Maps.{found_right}
use Rattle.fill_rank.proofs.memo.Memo.part.Goals as goal

pub returns-clause-right : goal.returns-clause-right
returns-clause-right c prices cs memo = found_right (λ (o : Option Atom). IsBestOf atom_tree (atom_rank prices) (PartStands cs c.args.s) o) _ _ c.get.ensures.value (memo.parts c.args.s)
