use Rattle.std.proofs.Common.{Some, ap, ◌∙◌}
use Rattle.std.proofs.lemmas.Option.{slice_get-get_or}
use Rattle.fill_eval.specs.Piece.{piece_text}
use Rattle.fill_doubt.specs.Memo.{EdgeAnswers}
use Rattle.fill_doubt.specs.Walks.{IsMarked}
use Rattle.fill_doubt.proofs.Flags.{match_none, match_some}
use Rattle.fill_doubt.proofs.Marks.{follows_none, follows_set}
use Rattle.fill_doubt.proofs.valued.follow.Goals as goal

pub returns-in-None-clause-follows : goal.returns-in-None-clause-follows
returns-in-None-clause-follows c =
    follows_none (EdgeAnswers c.args.on.now) c.args.e.now c.args.marks.now (match_none _ _ c.in_ok-first_piece.field-0 c.in_ok-first_piece.ensures.first c.in-None.is)

pub returns-in-Some-clause-follows : goal.returns-in-Some-clause-follows
returns-in-Some-clause-follows c =
    let from : IsMarked c.args.marks.now c.args.e.now.from = slice_get-get_or c.args.marks.now c.args.e.now.from _ c.requires.from ∙ ap Some c.if-not-marks-e.false in
    let has = match_some _ _ c.in_ok-first_piece.field-0 c.in-Some.field-0 c.in_ok-first_piece.ensures.first c.in-Some.is in
    follows_set (EdgeAnswers c.args.on.now) c.args.e.now c.args.marks.now (piece_text c.in-Some.field-0) has.1 from c.requires.to
