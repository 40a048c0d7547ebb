use Rattle.std.proofs.Common.{◌<◌, length, sym, subst, arith}
use Rattle.fill_arena.specs.Copied.{Spreads}
use Rattle.fill_arena.specs.Entries.{entry_of}
use Rattle.fill_arena.proofs.Marking.{is_marked, names_older, spreads_names}
use Rattle.fill_arena.proofs.marks.spread.Goals as goal

pub mark_entry-requires : goal.mark_entry-requires
mark_entry-requires c = λ k x at.
    let n = c.args.number in
    let e = entry_of c.entry.result in
    let lt = names_older c.args.arena.now n e (c.keeps_made.ensures n e c.entry.ensures) k x at in
    let long = c.requires.long in
    let within = c.requires.within in
    omega arith

pub returns : goal.returns
returns c =
    let arena = c.args.arena.now in
    let n = c.args.number in
    let marks = c.args.marks.now in
    let long = c.requires.long in
    let within = c.requires.within in
    let lt : n < length marks = omega arith in
    let is = is_marked marks n lt c.if-not-marks-number.false in
    subst (Spreads arena n marks) (sym c.mark_entry.ensures) (spreads_names arena c.keeps_made.ensures n (entry_of c.entry.result) marks c.entry.ensures long is)
