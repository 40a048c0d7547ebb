use Rattle.std.proofs.Common.{ap, sym}
use Rattle.fillcsv_options.specs.Words.{Runs}
use Rattle.fillcsv_options.proofs.reading.saved_by.Goals as goal

pub returns : goal.returns
returns c = ap Runs (λ i. record { rule = sym c.in_ok-text_of.ensures i; quiet = sym c.is_set.ensures i })
