use Rattle.std.proofs.Common.{arith, ◌≡◌, ◌≤◌, ◌+◌, ◌++◌, length, take, length-append, length-take}
use Rattle.fill_edge.specs.Outside.{GivesPiece}
use Rattle.fill_edge.proofs.Pieces.{IsFrontOf-more, IsMissing-no_piece}
use Rattle.fill_edge.proofs.reading.read_all.Goals as goal

pub loop-buffer-preserved : goal.loop-buffer-preserved
loop-buffer-preserved g c =
    let files = g.C.Cabinet.files c.args.cabinet.now in
    let name = c.args.name.now in
    let front = c.loop-buffer.bytes in
    let buffer = c.read.new.buf in
    let count = c.in_ok-count.count in
    let piece : GivesPiece files name (length front) count buffer =
    rw (← c.loop-buffer.invariant.files, ← c.len.ensures) c.in_ok-count.ensures.piece in
    let bound : count ≤ length buffer = omega (arith, c.in_ok-count.ensures.bound) in
    let grown : c.append.new.self ≡ front ++ take count buffer = rw c.split_at.ensures.front at c.in_ok-append.ensures.ok in
    let size : length c.append.new.self ≡ length front + count = rw grown (simp (length-append, length-take) (omega (arith, bound))) in
    record {
      within = omega (arith, size);
      room = omega arith;
      front = rw grown (IsFrontOf-more files name front buffer count bound c.loop-buffer.invariant.front piece);
      files = search (c.in_ok-count.ensures.files, c.loop-buffer.invariant.files);
      later = λ n. omega (arith, c.in_ok-count.ensures.later n, c.loop-buffer.invariant.later n);
      same = λ n. omega (arith, c.in_ok-count.ensures.taken n, c.loop-buffer.invariant.same n);
      grew = omega (arith, c.in_ok-count.ensures.grew, c.loop-buffer.invariant.grew);
      given = rw size (omega (arith, c.in_ok-count.ensures.given, c.loop-buffer.invariant.given));
      unread = λ missing. IsMissing-no_piece files name (length front) count buffer piece missing;
    }
