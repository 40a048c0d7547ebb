use Rattle.std.proofs.Common.{◌<◌, length, slice_get, Some, subst, arith, ◌≡◌}
use Rattle.fill_arena.specs.Copied.{IsMarked, Takes}
use Rattle.fill_arena.specs.Entries.{entry_of}
use Rattle.fill_arena.proofs.Copying.{copied_none, copied_some, entry_made, names_have}
use Rattle.fill_arena.proofs.Marking.{is_marked, not_marked}
use Rattle.fill_arena.proofs.copy.copy_next.Goals as goal

pub returns-then-not-marks-number : goal.returns-then-not-marks-number
returns-then-not-marks-number c =
    let marks = c.args.marks.now in
    let none = not_marked marks c.args.number c.if-not-marks-number.true in
    copied_none c.args.arena.now marks c.args.made.now c.args.table.now c.requires.copied (λ is. none (rw c.requires.next is))

pub renumber_entry-requires : goal.renumber_entry-requires
renumber_entry-requires c =
    let arena = c.args.arena.now in
    let marks = c.args.marks.now in
    let n = c.args.number in
    let e = entry_of c.entry.result in
    let long = c.requires.long in
    let within = c.requires.within in
    let lt : n < length marks = omega arith in
    let is = subst (IsMarked marks) c.requires.next (is_marked marks n lt c.if-not-marks-number.false) in
    let at = subst (λ k. slice_get arena k ≡ Some e) c.requires.next c.entry.ensures in
    names_have arena marks c.args.made.now c.args.table.now c.requires.copied c.keeps_made.ensures c.requires.closed e at is

pub intern-requires : goal.intern-requires
intern-requires c =
    let arena = c.args.arena.now in
    let n = c.args.number in
    let e = entry_of c.entry.result in
    entry_made arena c.args.made.now (Takes c.args.table.now) c.requires.copied.right n e c.in_ok-entry.entry c.in_ok-entry.ensures (c.keeps_made.ensures n e c.entry.ensures)

pub returns : goal.returns
returns c =
    let arena = c.args.arena.now in
    let marks = c.args.marks.now in
    let n = c.args.number in
    let e = entry_of c.entry.result in
    let long = c.requires.long in
    let within = c.requires.within in
    let lt : n < length marks = omega arith in
    let is = subst (IsMarked marks) c.requires.next (is_marked marks n lt c.if-not-marks-number.false) in
    let at = subst (λ k. slice_get arena k ≡ Some e) c.requires.next c.entry.ensures in
    copied_some arena marks c.args.made.now c.args.table.now c.requires.copied e c.in_ok-entry.entry c.in_ok-intern.field-0 c.intern.new.self at is c.in_ok-entry.ensures c.in_ok-intern.ensures.interned
