use Rattle.std.proofs.Common.{inl}
use Rattle.std.proofs.KnownBytes.{Keeps-refl}
use Rattle.fillcsv_filling.specs.Long.{long_of}
use Rattle.fillcsv_run.proofs.Desks.{ends_over, read_whole, teaches_basis}
use Rattle.fillcsv_run.proofs.fill.write_sheet.Goals as goal

pub returns-in-Ok-clause-ends : goal.returns-in-Ok-clause-ends
returns-in-Ok-clause-ends g c = λ bytes told long.
    let s = long_of bytes c.args.sheet.now in
    let teaches = c.in-Ok.ensures.teaches bytes (read_whole g.B.Origin.files g.B.Origin.name bytes c.args.pass c.requires.fresh told) long in
    ends_over s c.args.tables c.in-Ok.learned c.in-Ok.basis teaches (g.O.Sink.written c.args.out.now) (g.O.Sink.written c.write_learned-filled.new.out) c.write_learned-filled.result
    (c.write_learned-filled.ensures.ends bytes (read_whole g.B.Origin.files g.B.Origin.name bytes c.again-pass.result c.again-pass.ensures told) long
    (teaches_basis s c.args.tables c.in-Ok.learned c.in-Ok.basis teaches))

pub returns-in-Err-clause-ends : goal.returns-in-Err-clause-ends
returns-in-Err-clause-ends g c = λ bytes told long. inl (Keeps-refl (g.O.Sink.written c.args.out.now))
