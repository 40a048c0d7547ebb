use Rattle.std.proofs.Common.{◌++◌, ◌∷◌, [], arith}
use Rattle.fill_report.specs.Counts.{IsWithin}
use Rattle.fill_report.specs.Rows.{IsRowState}
use Rattle.fill_output.proofs.Numbered.{rows_more}
use Rattle.fill_report.proofs.Numbered.{within}
use Rattle.fill_report.proofs.rows.counted_answer.Goals as goal

pub add-requires : goal.add-requires
add-requires c =
    let s = c.args.session.now in
    let so_far = c.requires.counts in
    let w : IsWithin c.args.counts.now c.args.above = within (IsRowState s.spaces.ground s.examples) c.args.counts.now c.args.above so_far.0 so_far.1 so_far.2 in
    record { given = omega arith; sure = omega arith; doubt = omega arith; nothing = omega arith; nothing_in_doubt = omega arith }

pub returns-clause-counts : goal.returns-clause-counts
returns-clause-counts c =
    let s = c.args.session.now in
    let so_far = c.requires.counts in (
      so_far.0 ++ c.of.result ∷ [],
      rows_more (IsRowState s.spaces.ground s.examples) c.args.above so_far.0 c.of.result so_far.1 (c.in_ok-answer.answer, c.in_ok-answer.ensures.answer, c.of.ensures),
      c.add.ensures so_far.0 so_far.2,
    )
