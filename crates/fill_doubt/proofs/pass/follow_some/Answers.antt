use Rattle.std.proofs.Common.{None, Some, inl, inr, refl}
use Rattle.fill_doubt.specs.Memo.{EdgeAnswers}
use Rattle.fill_doubt.proofs.Flags.{match_false}
use Rattle.fill_doubt.proofs.Laid.{laid_short}
use Rattle.fill_doubt.proofs.pass.follow_some.Goals as goal

pub follow_pieces-requires-clause-short : goal.follow_pieces-requires-clause-short
follow_pieces-requires-clause-short c = let r = c.requires.laid in laid_short (EdgeAnswers c.args.on.now) r.0 c.args.text.now c.args.lengths.now r.2

pub returns-then-found-clause-says : goal.returns-then-found-clause-says
returns-then-found-clause-says c = λ _. inl (c.in_ok-found.ensures.sound None c.if-found.true)

pub returns-clause-laid : goal.returns-clause-laid
returns-clause-laid c = λ edges i laid. c.follow_pieces.ensures.laid c.args.on.now edges c.args.e.now i refl refl (λ t h. c.in_ok-found.ensures.sound (Some t) h) laid

pub returns-clause-says : goal.returns-clause-says
returns-clause-says c = λ e.
    let s = match_false _ _ c.follow_pieces.result c.follow_pieces.ensures.says e in
    inr (s.0, c.in_ok-found.ensures.sound (Some s.0) s.1, s.2)
