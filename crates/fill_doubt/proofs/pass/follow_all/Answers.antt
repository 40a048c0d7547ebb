use Rattle.std.proofs.Common.{None, Some, inl, inr, refl, sym, ◌∙◌}
use Rattle.std.proofs.lemmas.Bool.{false≢true}
use Rattle.fill_doubt.proofs.Flags.{match_map}
use Rattle.fill_doubt.proofs.Laid.{laid_short}
use Rattle.fill_doubt.specs.Memo.{EdgeAnswers}
use Rattle.fill_doubt.proofs.pass.follow_all.Goals as goal

pub follow_pieces-requires-clause-short : goal.follow_pieces-requires-clause-short
follow_pieces-requires-clause-short c = let r = c.requires.laid in laid_short (EdgeAnswers c.args.on.now) r.0 c.args.text.now c.args.lengths.now r.2

pub returns-then-found-clause-says : goal.returns-then-found-clause-says
returns-then-found-clause-says c = inl ((c.in_ok-found.ensures.exact None).0 c.if-found.true)

pub returns-clause-laid : goal.returns-clause-laid
returns-clause-laid c = λ edges i laid. c.follow_pieces.ensures.laid c.args.on.now edges c.args.e.now i refl refl (λ t h. (c.in_ok-found.ensures.exact (Some t)).0 h) laid

pub returns-clause-says : goal.returns-clause-says
returns-clause-says c =
    let exact = c.in_ok-found.ensures.exact in
    match_map c.follow_pieces.result c.follow_pieces.ensures.says
    (λ all. ((λ g. false≢true (sym c.if-found.false ∙ (exact None).1 g)), (λ t g. all t ((exact (Some t)).1 g))))
    (λ s. inr (s.0, (exact (Some s.0)).0 s.1, s.2))
