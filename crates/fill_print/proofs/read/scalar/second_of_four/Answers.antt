use Rattle.std.proofs.Common.{subst}
use Rattle.fill_print.specs.Reading.{Reads}
use Rattle.fill_print.specs.Utf8.{Ranged, high_4}
use Rattle.fill_print.proofs.Encoding.{low_high_4}
use Rattle.fill_print.proofs.read.scalar.second_of_four.Goals as goal

pub ranged-requires : goal.ranged-requires
ranged-requires c = let h = low_high_4 c.args.a in rw (c.low_of_four.ensures, c.high_of_four.ensures) h

pub returns : goal.returns
returns c =
    subst (λ x. Reads (λ y. y.0) (λ y. y.1.now) (Ranged x (high_4 c.args.a)) c.args.bytes.now c.ranged.result) c.low_of_four.ensures
    (subst (λ x. Reads (λ y. y.0) (λ y. y.1.now) (Ranged c.low_of_four.result x) c.args.bytes.now c.ranged.result) c.high_of_four.ensures c.ranged.ensures)
