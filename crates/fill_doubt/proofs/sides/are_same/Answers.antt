use Rattle.std.proofs.Common.{sym}
use Rattle.fill_tokens.proofs.PlaceLaws.{exact_seqs}
use Rattle.fill_doubt.proofs.sides.are_same.Goals as goal

pub returns-in-Equal : goal.returns-in-Equal
returns-in-Equal c = λ t. exact_seqs c.args.a.now c.args.b.now (sym c.in-Equal.ensures)
