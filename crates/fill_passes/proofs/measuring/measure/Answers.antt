use Rattle.std.proofs.Common.{◌≡◌, ap, arith, length, refl}
use Rattle.fill_edge.specs.Outside.{GivesPiece}
use Rattle.fill_edge.proofs.Pieces.{IsTooLong-shown}
use Rattle.fill_passes.proofs.Pieces.{reached_more, reached_none, size_shown}
use Rattle.fill_passes.proofs.measuring.measure.Goals as goal

pub loop-buffer-init : goal.loop-buffer-init
loop-buffer-init g c =
    let size : length c.as_mut_slice-room.result.now ≡ length c.in_ok-buffer.buffer.items = ap length c.as_mut_slice-room.ensures.value in
    record {
      within = omega arith;
      room = omega (arith, size, c.in_ok-buffer.ensures.size);
      reached = reached_none (g.C.Cabinet.files c.args.cabinet.now) c.args.name.now;
      files = refl;
      same = λ n. refl;
      later = λ n. omega arith;
    }

pub returns-then-count-eq0-clause-size : goal.returns-then-count-eq0-clause-size
returns-then-count-eq0-clause-size g c =
    let files = g.C.Cabinet.files c.args.cabinet.now in
    let name = c.args.name.now in
    let here = c.loop-buffer.invariant in
    let piece : GivesPiece files name c.loop-buffer.done 0 c.read.new.buf = rw (← here.files, ← c.if-count-eq0.true) c.in_ok-count.ensures.piece in
    size_shown files name c.loop-buffer.done c.read.new.buf here.reached piece

pub returns-then-count-limit-clause-too_long : goal.returns-then-count-limit-clause-too_long
returns-then-count-limit-clause-too_long g c = λ n is.
    let files = g.C.Cabinet.files c.args.cabinet.now in
    let name = c.args.name.now in
    let here = c.loop-buffer.invariant in
    let piece : GivesPiece files name c.loop-buffer.done c.in_ok-count.count c.read.new.buf = rw (← here.files) c.in_ok-count.ensures.piece in (
      cc,
      IsTooLong-shown files name c.loop-buffer.done c.in_ok-count.count c.args.limit c.read.new.buf (omega arith) piece here.within,
    )

pub loop-buffer-preserved : goal.loop-buffer-preserved
loop-buffer-preserved g c =
    let files = g.C.Cabinet.files c.args.cabinet.now in
    let name = c.args.name.now in
    let here = c.loop-buffer.invariant in
    let piece : GivesPiece files name c.loop-buffer.done c.in_ok-count.count c.read.new.buf = rw (← here.files) c.in_ok-count.ensures.piece in
    record {
      within = omega arith;
      room = omega arith;
      reached = reached_more files name c.loop-buffer.done c.in_ok-count.count c.read.new.buf here.reached piece;
      files = search (c.in_ok-count.ensures.files, here.files);
      same = λ n. omega (arith, c.in_ok-count.ensures.taken n, here.same n);
      later = λ n. omega (arith, c.in_ok-count.ensures.later n, here.later n);
    }
