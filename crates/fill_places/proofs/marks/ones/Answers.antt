use Rattle.std.proofs.Common.{◌^◌, ◌<◌, sym, subst}
use Rattle.fill_places.proofs.BitLaws.{word_ones}
use Rattle.fill_places.proofs.marks.ones.Goals as goal

pub returns-clause-count : goal.returns-clause-count
returns-clause-count c = λ n e. word_ones c.args.w n (subst (λ m. c.args.w < 2 ^ m) (sym e) c.ranges.w.fits)
