use Rattle.std.proofs.Common.{subst}
use Rattle.fill_print.specs.Reading.{Reads}
use Rattle.fill_print.specs.Utf8.{Ranged, high_3}
use Rattle.fill_print.proofs.Encoding.{low_high_3}
use Rattle.fill_print.proofs.read.scalar.second_of_three.Goals as goal

pub ranged-requires : goal.ranged-requires
ranged-requires c = let h = low_high_3 c.args.a in rw (c.low_of_three.ensures, c.high_of_three.ensures) h

pub returns : goal.returns
returns c =
    subst (λ x. Reads (λ y. y.0) (λ y. y.1.now) (Ranged x (high_3 c.args.a)) c.args.bytes.now c.ranged.result) c.low_of_three.ensures
    (subst (λ x. Reads (λ y. y.0) (λ y. y.1.now) (Ranged c.low_of_three.result x) c.args.bytes.now c.ranged.result) c.high_of_three.ensures c.ranged.ensures)
