use Rattle.std.proofs.Common.{◌≡◌, ◌++◌, ◌∷◌, [], sym, subst}
use Rattle.std.specs.Prelude.{Contains}
use Rattle.std.proofs.lemmas.Bool.{iff_false}
use Rattle.fill_text.proofs.ListReads.{on_ok}
use Rattle.fill_tree.specs.declared.guard.Literal.{Literal}
use Rattle.fill_guard.specs.Candidate.{IsSetOf, KeepsCounted, OnlyLiteral}
use Rattle.fill_guard.specs.declared.candidates.Candidate.{Candidate}
use Rattle.fill_guard.proofs.CandidateLaws.{holds_pass, passes_on, set_of_mask, keeps_skip, keeps_known, keeps_new}
use Rattle.fill_guard.proofs.candidates.keep_literal.Goals as goal

pub returns-then-not-passes_all : goal.returns-then-not-passes_all
returns-then-not-passes_all c = λ sheet inside outside in_counts out_counts.
    keeps_skip sheet inside outside c.args.l.now c.args.candidates.now.items
    (λ h. iff_false c.passes_all.ensures c.if-not-passes_all.true (holds_pass sheet c.args.l.now inside c.args.inside.now c.requires.least in_counts h))

pub returns-then-has_set : goal.returns-then-has_set
returns-then-has_set c = λ sheet inside outside in_counts out_counts.
    let l = c.args.l.now in
    let has = c.has_set.ensures.0 c.if-has_set.true in
    let k : Candidate = has.0 in
    keeps_known sheet inside outside l k c.args.candidates.now.items (subst (λ z. Contains z k) c.deref.ensures.value has.1)
    (subst (IsSetOf sheet outside l) (sym has.2) (set_of_mask sheet l outside c.args.outside.now c.mask-set.result c.requires.least out_counts c.mask-set.ensures))

pub returns : goal.returns
returns c =
    let l : Literal = c.args.l.now in
    let k : Candidate = record { literal = l; outside = c.mask-set.result } in
    on_ok c.put.result (c.put.new.candidates.items ≡ c.args.candidates.now.items ++ k ∷ [])
    (KeepsCounted l.column l.seq c.args.inside.now c.args.outside.now c.args.candidates.now.items c.put.new.candidates.items (OnlyLiteral l))
    (λ e sheet inside outside in_counts out_counts.
    keeps_new sheet inside outside k c.args.candidates.now.items c.put.new.candidates.items e
    (passes_on sheet l inside c.args.inside.now c.requires.least in_counts (c.passes_all.ensures.0 c.if-not-passes_all.false))
    (set_of_mask sheet l outside c.args.outside.now c.mask-set.result c.requires.least out_counts c.mask-set.ensures))
    c.put.ensures
