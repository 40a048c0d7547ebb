use Rattle.std.proofs.Common.{ap, sym, subst}
use Rattle.clap.specs.Walk.{rows_of}
use Rattle.clap.specs.Words.{found_of}
use Rattle.fillcsv_options.specs.Words.{Answers, meaning_by}
use Rattle.fillcsv_options.proofs.Parts.{refused_words}
use Rattle.fillcsv_options.proofs.reading.asked_by.Goals as goal

pub returns-in-Ok : goal.returns-in-Ok
returns-in-Ok c =
    let rows = rows_of (found_of c.args.matches.now) in
    subst (λ m. Answers m c.asked_of.result) (sym (ap (meaning_by rows) c.in-Ok.ensures.ok)) c.asked_of.ensures

pub returns-in-Err : goal.returns-in-Err
returns-in-Err c = refused_words (rows_of (found_of c.args.matches.now)) _ c.in-Err.why c.in-Err.ensures.err
