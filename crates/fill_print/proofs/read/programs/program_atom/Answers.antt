use Rattle.fill_tree.specs.Meaning.{atom_tree}
use Rattle.fill_print.proofs.Chains.{reads_via}
use Rattle.fill_print.proofs.Dispatch.{reads_else}
use Rattle.fill_print.proofs.ProgramRules.{program_constant, program_part}
use Rattle.fill_print.specs.Tokens.{tokens_of}
use Rattle.fill_print.proofs.read.programs.program_atom.Goals as goal

pub returns-in-Some : goal.returns-in-Some
returns-in-Some c = reads_via (λ x. atom_tree x.0) (λ x. x.1.now) 67 c.args.bytes.now c.in-Some._rest.now c.constant.result (program_constant (tokens_of c.args.notation)) c.in-Some.ensures c.constant.ensures

pub returns-in-None : goal.returns-in-None
returns-in-None c = reads_else (λ x. atom_tree x.0) (λ x. x.1.now) 67 c.args.bytes.now c.part.result (program_part (tokens_of c.args.notation)) c.in-None.ensures c.part.ensures
