use Rattle.std.proofs.Common.{arith}
use Rattle.std.proofs.lemmas.List.{length-take}
use Rattle.fill_script.proofs.script.Script.of_records.Goals as goal

pub of_lines-requires : goal.of_lines-requires
of_lines-requires c = rw c.first_records-lines.ensures (omega (arith, length-take 1000 c.args.records.now))
