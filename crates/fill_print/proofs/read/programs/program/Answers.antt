use Rattle.fill_tree.specs.Meaning.{program_tree}
use Rattle.fill_print.proofs.Dispatch.{reads_same}
use Rattle.fill_print.proofs.ProgramRules.{program_whole}
use Rattle.fill_print.specs.Tokens.{tokens_of}
use Rattle.fill_print.proofs.read.programs.program.Goals as goal

pub returns : goal.returns
returns c = reads_same (λ x. program_tree x.0) (λ x. x.1.now) c.args.bytes.now c.whole_program.result (program_whole (tokens_of c.args.notation)) c.whole_program.ensures
