use Rattle.test_command.proofs.apply.applies.Goals as goal

pub puts-requires : goal.puts-requires
puts-requires c = rw c.inputs.ensures at c.in_ok-switch.ensures.reads
