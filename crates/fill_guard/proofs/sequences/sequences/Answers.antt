use Rattle.fill_guard.proofs.SeqLaws.{all_tested}
use Rattle.fill_guard.proofs.sequences.sequences.Goals as goal

pub returns : goal.returns
returns c = all_tested c.args.token_set c.new-out.result.items c.push_ones.new.out.items c.push_twos.new.out.items c.new-out.ensures.items c.in_ok-push_ones.ensures c.in_ok-push_twos.ensures
