use Rattle.std.proofs.Common.{rules, ◌≡◌, ℕ, get_or, Some, None, slice_get, sym, ap, ◌∙◌, subst, refl}
use Rattle.std.proofs.lemmas.Option.{slice_get-get_or, slice_get_within}
use Rattle.fill_doubt.specs.Memo.{EdgeAnswers}
use Rattle.fill_doubt.specs.Walks.{IsAt}
use Rattle.fill_doubt.proofs.Laid.{laid_more, keeps_set, short_set}
use Rattle.fill_doubt.proofs.Tables.{set_same}
use Rattle.fill_doubt.proofs.pass.follow_piece.Goals as goal

at_start : (c : goal.In-None) → IsAt c.args.lengths.now c.args.from c.in-Some.start
at_start c =
    let w = slice_get_within c.args.lengths.now c.args.from _ c.requires.from.1 in
    slice_get-get_or c.args.lengths.now c.args.from None w ∙ ap Some c.in-Some.is

free : (c : goal.In-None) → slice_get c.args.lengths.now c.args.to ≡ Some None
free c =
    let e : get_or c.args.lengths.now c.args.to None ≡ None = search rules in
    slice_get-get_or c.args.lengths.now c.args.to None c.requires.to ∙ ap Some e

pub returns-in-None-clause-short : goal.returns-in-None-clause-short
returns-in-None-clause-short c =
    let stands = c.if-not-has_piece.ensures.0 refl in
    short_set c.args.text.now c.args.lengths.now c.args.to c.in-Some.start c.args.piece.now stands.0 (c.requires.short c.args.from c.in-Some.start (at_start c)) stands.1 c.requires.to c.requires.short

pub returns-in-None-clause-laid : goal.returns-in-None-clause-laid
returns-in-None-clause-laid c =
    let stands = c.if-not-has_piece.ensures.0 refl in
    λ on edges e i from to j laid.
    let at = (let P : ℕ → Type 0 = λ k. IsAt c.args.lengths.now k c.in-Some.start in subst P (sym from) (at_start c)) in
    rw (← to) (laid_more (EdgeAnswers on) edges c.args.text.now c.args.lengths.now e c.args.piece.now c.in-Some.start i j at stands.0 stands.1 laid (rw to (free c)))

pub returns-in-None-clause-says : goal.returns-in-None-clause-says
returns-in-None-clause-says c =
    let stands = c.if-not-has_piece.ensures.0 refl in
    record {
      start = c.in-Some.start;
      at = keeps_set c.args.lengths.now c.args.to _ (free c) _ _ (at_start c);
      ends = set_same c.args.lengths.now c.args.to _ c.requires.to;
      rest = stands.0;
      stands = stands.1;
    }

pub returns-in-None-clause-keeps : goal.returns-in-None-clause-keeps
returns-in-None-clause-keeps c = keeps_set c.args.lengths.now c.args.to _ (free c)
