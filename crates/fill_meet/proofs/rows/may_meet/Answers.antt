use Rattle.std.proofs.Common.{sym, ◌∙◌}
use Rattle.std.proofs.lemmas.Bool.{false≢true}
use Rattle.fill_meet.proofs.AtomPairs as atoms
use Rattle.fill_meet.proofs.rows.may_meet.Goals as goal

pub returns-in-Const-Const-clause-apart : goal.returns-in-Const-Const-clause-apart
returns-in-Const-Const-clause-apart c = λ e. rw (c.in-Const-Const.is-0, c.in-Const-Const.is-1) (atoms.const_apart _ _ _ (λ s. false≢true (sym e ∙ c.same.ensures.1 s)))

pub returns-in-Whole-Whole-clause-apart : goal.returns-in-Whole-Whole-clause-apart
returns-in-Whole-Whole-clause-apart c = λ e. rw (c.in-Whole-Whole.is-0, c.in-Whole-Whole.is-1) (atoms.whole_apart _ _ _ (c.sources_may_meet.ensures.apart e))

pub returns-in-Sub-Sub-clause-apart : goal.returns-in-Sub-Sub-clause-apart
returns-in-Sub-Sub-clause-apart c = λ e. rw (c.in-Sub-Sub.is-0, c.in-Sub-Sub.is-1) (atoms.sub_apart_source _ _ _ _ _ _ _ (c.sources_may_meet-in-Sub-Sub.ensures.apart e))

pub returns-in_default : goal.returns-in_default
returns-in_default c = record { verdicts = c.requires.verdicts; apart = λ e. atoms.not_const _ _ _ c.in_default.field-0-0 c.in_default.is-0 c.in_default.not-Const-1 }

pub returns-in_default-2 : goal.returns-in_default-2
returns-in_default-2 c = record { verdicts = c.requires.verdicts; apart = λ e. atoms.not_whole _ _ _ c.in_default.field-0-0 c.in_default.is-0 c.in_default.not-Whole-1 }

pub returns-in_default-3 : goal.returns-in_default-3
returns-in_default-3 c =
    record { verdicts = c.requires.verdicts; apart = λ e. atoms.not_sub _ _ _ c.in_default.field-0-0 c.in_default.field-1-0 c.in_default.field-2-0 c.in_default.is-0 c.in_default.not-Sub-1 }
