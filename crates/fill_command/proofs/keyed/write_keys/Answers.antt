use Rattle.std.proofs.Common.{◌+◌, ◌∙◌, arith}
use Rattle.fill_command.proofs.KeyRows.{key_part}
use Rattle.fill_command.proofs.keyed.write_keys.Goals as goal

pub returns-in-Err-clause-part : goal.returns-in-Err-clause-part
returns-in-Err-clause-part g c = λ e.
    let written = rw c.as_slice.ensures at (c.write_key.ensures.part (c.in-Err.is ∙ e)) in (
      c.loop-key.key-index + 1,
      omega arith,
      key_part c.args.keys.now c.loop-key.key-index c.key-item.result (omega arith) c.key-item.is
          (g.O.Sink.written c.args.out.now) (g.O.Sink.written c.loop-key.out) _ c.loop-key.invariant.written written,
    )
