use Rattle.std.proofs.Common.{sym, ◌∙◌}
use Rattle.std.proofs.lemmas.Bool.{false≢true}
use Rattle.fill_session.proofs.Answering.{has_one, has_none}
use Rattle.fill_session.proofs.answers.state_of.Goals as goal

pub returns-then-is_given-clause-state : goal.returns-then-is_given-clause-state
returns-then-is_given-clause-state c = λ list s. has_one c.args.examples.now c.args.row (sym c.is_given.ensures ∙ c.if-is_given.true)

pub returns-then-branch-clause-state : goal.returns-then-branch-clause-state
returns-then-branch-clause-state c = λ list s. (has_none c.args.examples.now c.args.row (sym c.is_given.ensures ∙ c.if-is_given.false), (c.in_ok-doubt_with.ensures.flag list s).0 c.if-branch.true)

pub returns-else-branch-clause-state : goal.returns-else-branch-clause-state
returns-else-branch-clause-state c = λ list s. (
  has_none c.args.examples.now c.args.row (sym c.is_given.ensures ∙ c.if-is_given.false),
  λ doubt. let is = (c.in_ok-doubt_with.ensures.flag list s).1 doubt in false≢true (sym c.if-branch.false ∙ is),
)
