use Rattle.std.proofs.Common.{arith, sym, subst}
use Rattle.fill_print.specs.Reading.{Takes}
use Rattle.fill_print.specs.Utf8.{Ranged}
use Rattle.fill_print.proofs.Encoding.{ranged_takes, ranged_halts, ranged_empty}
use Rattle.fill_print.proofs.read.scalar.ranged.Goals as goal

pub returns-in-None : goal.returns-in-None
returns-in-None c = ranged_empty c.args.low c.args.high c.args.bytes.now c.requires c.in-None.ensures

pub returns-then-byte-low : goal.returns-then-byte-low
returns-then-byte-low c = ranged_halts c.args.low c.args.high c.in-Some.byte c.args.bytes.now c.in-Some.after.now c.requires c.in-Some.ensures (λ l h. omega arith)

pub returns-then-byte-high : goal.returns-then-byte-high
returns-then-byte-high c = ranged_halts c.args.low c.args.high c.in-Some.byte c.args.bytes.now c.in-Some.after.now c.requires c.in-Some.ensures (λ l h. omega arith)

pub returns-else-byte-high : goal.returns-else-byte-high
returns-else-byte-high c = subst (λ x. Takes (Ranged c.args.low c.args.high) c.args.bytes.now x c.in-Some.after.now) (sym c.from.ensures) (ranged_takes c.args.low c.args.high c.in-Some.byte c.args.bytes.now c.in-Some.after.now c.if-byte-low.false c.if-byte-high.false c.in-Some.ensures)
