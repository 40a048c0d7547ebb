use Rattle.std.proofs.Common.{refl}
use Rattle.std.proofs.KnownBytes.{Keeps-refl}
use Rattle.fillcsv_options.specs.Words.{data_of}
use Rattle.fillcsv_run.specs.Asking.{SaysAfter}
use Rattle.fillcsv_run.proofs.Endings.{memory_ends, none_written, stopped_ends}
use Rattle.fillcsv_run.proofs.Pages.{says_at_once}
use Rattle.fillcsv_run.proofs.Scans.{desk_opened}
use Rattle.fillcsv_run.proofs.command.open_desk.Goals as goal

pub returns-in-Err-clause-fails : goal.returns-in-Err-clause-fails
returns-in-Err-clause-fails g c = λ input old store.
    let stopped = rw c.in-Err.is at c.open_sheet-cabinet.ensures.stopped in
    stopped_ends (data_of c.args.asked.now) (g.C.Cabinet.files c.args.cabinet) input _ _ _ _ store store ⊥ _ c.tell.result
    c.in-Err.stop _ (λ line. says_at_once c.args.asked.now.ask _ _ _ _ line) stopped refl (Keeps-refl old) c.tell.ensures

pub returns-in-Ok-of-clause-opened : goal.returns-in-Ok-of-clause-opened
returns-in-Ok-of-clause-opened g c =
    let opened = rw c.in-Ok.is at c.open_sheet-cabinet.ensures.opened in
    desk_opened (data_of c.args.asked.now) (g.C.Cabinet.files c.args.cabinet) c.in-Ok.read c.in-Ok-of.desk c.in-Ok-of.ensures.file c.in-Ok-of.ensures.asks c.in-Ok-of.ensures.ready c.in-Ok-of.ensures.page opened

pub returns-in-Err-of-clause-fails : goal.returns-in-Err-of-clause-fails
returns-in-Err-of-clause-fails g c = λ input old store.
    let d = data_of c.args.asked.now in
    let files = g.C.Cabinet.files c.args.cabinet in
    let before = g.C.Cabinet.faults c.args.cabinet in
    let now = g.C.Cabinet.faults c.open_sheet-cabinet.result.0 in
    let Said = SaysAfter c.args.asked.now.ask (g.E.Sink.written c.args.err.now) (g.E.Sink.written c.say.new.err) (g.E.Sink.faults c.args.err.now) (g.E.Sink.faults c.say.new.err) in
    memory_ends d files input before now old old store store ⊥ Said 6 refl refl
    (none_written d files input old old (Keeps-refl old)) (says_at_once c.args.asked.now.ask _ _ _ _ _ c.say.ensures)
