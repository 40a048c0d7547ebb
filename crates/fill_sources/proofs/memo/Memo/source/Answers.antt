use Rattle.std.proofs.Common.{sym}
use Rattle.fill_sources.proofs.memo.Memo.source.Goals as goal

pub returns-in-Some : goal.returns-in-Some
returns-in-Some c on texts d right = right.sources (c.args.k, c.args.depth) c.in-Some.made.now (sym c.in-Some.ensures.value)
