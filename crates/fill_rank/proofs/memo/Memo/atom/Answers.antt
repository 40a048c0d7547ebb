use Rattle.fill_tree.specs.Meaning.{atom_tree}
use Rattle.fill_tree.specs.declared.tree.Atom.{Atom}
use Rattle.fill_arena.specs.Stands.{AtomStands}
use Rattle.fill_arena.specs.Best.{IsBest}
use Rattle.fill_tree.specs.Order.{atom_rank}
use Rattle.fill_arena.proofs.Maps.{found_right}
use Rattle.fill_rank.proofs.memo.Memo.atom.Goals as goal

pub returns-clause-right : goal.returns-clause-right
returns-clause-right c prices cs memo = found_right (λ (a : Atom). IsBest (atom_rank prices) (AtomStands cs c.args.s) (atom_tree a)) _ _ c.get.ensures.value (memo.atoms c.args.s)
