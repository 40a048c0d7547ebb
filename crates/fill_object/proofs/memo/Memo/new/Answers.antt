use Rattle.std.proofs.Common.{rules}
use Rattle.fill_object.proofs.memo.Memo.new.Goals as goal

pub returns : goal.returns
returns c on = record { sources = search rules; parts = search rules; atoms = search rules; spots = c.new-4.ensures on.prices.now on.arena.now }
