use Rattle.std.proofs.Common.{length, map, true}
use Rattle.fill_tree.specs.Meaning.{atom_tree}
use Rattle.fill_print.specs.Programs.{ProgramAtoms}
use Rattle.fill_print.proofs.Chains.{Leads}
use Rattle.fill_print.specs.Tokens.{tokens_of}
use Rattle.fill_print.proofs.read.programs.atoms.Given as goal

abbrev pub invariant-loop-atoms : goal.invariant-loop-atoms
invariant-loop-atoms l = Leads (ProgramAtoms (tokens_of l.notation) true) (ProgramAtoms (tokens_of l.notation) l.first) (map atom_tree l.atoms) l.bytes l.rest

abbrev pub decreases-loop-atoms : goal.decreases-loop-atoms
decreases-loop-atoms l = length l.rest
