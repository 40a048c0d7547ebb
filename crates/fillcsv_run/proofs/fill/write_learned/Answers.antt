use Rattle.std.proofs.Common.{List, subst, sym}
use Rattle.fillcsv_blocks.specs.declared.numbered.Numbered.{Numbered}
use Rattle.fillcsv_filling.specs.Long.{AreRows, long_of}
use Rattle.fillcsv_filling.specs.Rows.{IsWritten}
use Rattle.fillcsv_run.proofs.Desks.{filled_sheet, halted_sheet, written_sheet}
use Rattle.fillcsv_run.proofs.fill.write_learned.Goals as goal

pub returns-in-Ok-block-clause-ends : goal.returns-in-Ok-block-clause-ends
returns-in-Ok-block-clause-ends g c = λ bytes read long teaches.
    let s = long_of bytes c.args.sheet.now in
    let w : IsWritten s c.args.learned c.args.basis s.head (g.O.Sink.written c.args.out.now) (g.O.Sink.written c.write.new.out) c.in-Ok.written c.in-Ok.basis = c.in-Ok.ensures.writes bytes read long teaches.taught in
    filled_sheet _ _ s c.args.learned c.args.basis teaches c.in-Ok.written c.in-Ok.basis w c.in-Ok-block.block (c.in-Ok-block.ensures.stands bytes long w.taught (subst (λ (these : List Numbered). AreRows s these) (sym c.deref.ensures.value) w.shown))

pub returns-in-Err-block-clause-ends : goal.returns-in-Err-block-clause-ends
returns-in-Err-block-clause-ends g c = λ bytes read long teaches.
    let s = long_of bytes c.args.sheet.now in
    let w : IsWritten s c.args.learned c.args.basis s.head (g.O.Sink.written c.args.out.now) (g.O.Sink.written c.write.new.out) c.in-Ok.written c.in-Ok.basis = c.in-Ok.ensures.writes bytes read long teaches.taught in
    written_sheet _ _ s c.args.learned c.args.basis teaches c.in-Ok.written c.in-Ok.basis w

pub returns-in-Err-clause-ends : goal.returns-in-Err-clause-ends
returns-in-Err-clause-ends g c = λ bytes read long teaches.
    halted_sheet _ _ (long_of bytes c.args.sheet.now) c.args.learned c.args.basis teaches c.in-Err.halt (c.in-Err.ensures.writes bytes read long teaches.taught)
