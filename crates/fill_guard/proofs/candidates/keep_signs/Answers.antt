use Rattle.std.proofs.Common.{true, false, refl}
use Rattle.fill_text.proofs.ListReads.{on_ok}
use Rattle.fill_tree.specs.declared.guard.Literal.{Literal}
use Rattle.fill_guard.specs.Candidate.{KeepsCounted, OnlyLiteral, OfSigns}
use Rattle.fill_guard.proofs.CandidateLaws.{signs_both}
use Rattle.fill_guard.proofs.candidates.keep_signs.Goals as goal

pub returns : goal.returns
returns c =
    let column = c.args.column in
    let r = c.args.seq.now in
    let plain : Literal = record { negated = false; column = c.args.column; seq = c.args.seq.now; least = c.args.least } in
    let negated : Literal = record { negated = true; column = c.args.column; seq = c.args.seq.now; least = c.args.least } in
    on_ok c.keep_literal-2.result
    (KeepsCounted column r c.args.inside.now c.args.outside.now c.keep_literal.new.candidates.items c.keep_literal-2.new.candidates.items (OnlyLiteral negated))
    (KeepsCounted column r c.args.inside.now c.args.outside.now c.args.candidates.now.items c.keep_literal-2.new.candidates.items (OfSigns column r c.args.least))
    (λ b sheet inside outside in_counts out_counts.
    signs_both sheet inside outside column r c.args.least plain negated c.args.candidates.now.items c.keep_literal.new.candidates.items c.keep_literal-2.new.candidates.items refl refl
    (c.in_ok-keep_literal.ensures sheet inside outside in_counts out_counts) (b sheet inside outside in_counts out_counts))
    c.keep_literal-2.ensures
