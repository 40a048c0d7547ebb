use Rattle.std.proofs.Common.{inl, inr}
use Rattle.fill_print.proofs.Quotes.{escaped_takes, escaped_empty, escaped_halts}
use Rattle.fill_print.proofs.read.texts.escaped.Goals as goal

pub returns-then-byte-eq39 : goal.returns-then-byte-eq39
returns-then-byte-eq39 c = rw c.from.ensures (escaped_takes c.in-Some.byte c.args.bytes.now c.in-Some.after.now c.in-Some.ensures (inl c.if-byte-eq39.true))

pub returns-then-byte-eq92 : goal.returns-then-byte-eq92
returns-then-byte-eq92 c = rw c.from-then-byte-eq92.ensures (escaped_takes c.in-Some.byte c.args.bytes.now c.in-Some.after.now c.in-Some.ensures (inr c.if-byte-eq92.true))

pub returns-in-None : goal.returns-in-None
returns-in-None c = escaped_empty c.args.bytes.now c.in-None.ensures

pub returns-else-byte-eq92 : goal.returns-else-byte-eq92
returns-else-byte-eq92 c = escaped_halts c.in-Some.byte c.args.bytes.now c.in-Some.after.now c.in-Some.ensures c.if-byte-eq39.false c.if-byte-eq92.false
