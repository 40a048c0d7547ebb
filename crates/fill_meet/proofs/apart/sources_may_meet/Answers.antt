use Rattle.std.proofs.Common.{sym, ◌∙◌}
use Rattle.std.proofs.lemmas.Bool.{false≢true}
use Rattle.fill_meet.proofs.Trials.{sources_unlike}
use Rattle.fill_meet.proofs.apart.sources_may_meet.Goals as goal

pub returns-then-not-are_many-clause-apart : goal.returns-then-not-are_many-clause-apart
returns-then-not-are_many-clause-apart c = λ e. sources_unlike c.args.arena.now c.args.s c.args.t _ _ c.sources-xs.ensures c.sources-ys.ensures (λ s. false≢true (sym e ∙ c.share_source.ensures.1 s))

pub returns-in-Some-clause-apart : goal.returns-in-Some-clause-apart
returns-in-Some-clause-apart c = c.requires.verdicts.sources.each (c.args.s, c.args.t) c.in-Some.may c.in-Some.ensures

pub returns-clause-verdicts : goal.returns-clause-verdicts
returns-clause-verdicts c = c.keep.ensures c.args.arena.now c.requires.verdicts (λ e. sources_unlike c.args.arena.now c.args.s c.args.t _ _ c.sources-xs.ensures c.sources-ys.ensures (λ s. false≢true (sym e ∙ c.share_source-may.ensures.1 s)))

pub returns-clause-apart : goal.returns-clause-apart
returns-clause-apart c = λ e. sources_unlike c.args.arena.now c.args.s c.args.t _ _ c.sources-xs.ensures c.sources-ys.ensures (λ s. false≢true (sym e ∙ c.share_source-may.ensures.1 s))
