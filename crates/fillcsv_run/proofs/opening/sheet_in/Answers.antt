use Rattle.std.proofs.Common.{ap, subst, sym}
use Rattle.fill_opening.specs.Stops.{Refuses}
use Rattle.fillcsv_options.specs.Words.{data_of}
use Rattle.fillcsv_run.specs.Opening.{with_choice}
use Rattle.fillcsv_run.proofs.Rows.{header_seen}
use Rattle.fillcsv_run.proofs.Scans.{passed_scan, refused_scan}
use Rattle.fillcsv_run.proofs.opening.sheet_in.Goals as goal

pub returns-in-Err-clause-scanned : goal.returns-in-Err-clause-scanned
returns-in-Err-clause-scanned g c = λ bytes pass seen mark.
    refused_scan (data_of c.args.asked.now) bytes c.in-Err.stop (c.in-Err.ensures.stopped bytes seen)

pub returns-in-Err-rows_in-clause-scanned : goal.returns-in-Err-rows_in-clause-scanned
returns-in-Err-rows_in-clause-scanned g c = λ bytes pass seen mark.
    let d = data_of c.args.asked.now in
    refused_scan d bytes c.in-Err-rows_in.stop
    (subst (λ o. Refuses o c.in-Err-rows_in.stop) (sym (ap (with_choice d bytes) (c.in-Ok.ensures.ready bytes seen))) (c.in-Err-rows_in.ensures.rows bytes pass seen))

pub returns-clause-scanned : goal.returns-clause-scanned
returns-clause-scanned g c = λ bytes pass seen mark.
    passed_scan (data_of c.args.asked.now) bytes (record {
      marked = c.args.marked;
      header = c.args.seen.header;
      width = c.args.seen.width;
      choice = c.in-Ok.choice;
      typed = c.in-Ok-rows_in.typed;
      tables = c.new.result;
    }) c.new.ensures (c.in-Ok.ensures.ready bytes seen) (c.in-Ok-rows_in.ensures.rows bytes pass seen) mark (header_seen c.args.asked.now.header bytes c.args.seen seen) seen.longest
