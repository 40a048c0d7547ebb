use Rattle.std.proofs.Common.{◌∙◌, sym}
use Rattle.fill_command.proofs.Endings.{no_command}
use Rattle.flashfill.proofs.start.Goals as goal

pub returns-clause-usage : goal.returns-clause-usage
returns-clause-usage g c = (
  λ none. rw none at c.run.ensures.gives,
  λ two. no_command _ _ _ c.run.ensures.ends.0 c.run.ensures.ends.3 (sym c.run.ensures.ends.1 ∙ two),
)

pub returns-clause-generated : goal.returns-clause-generated
returns-clause-generated g c = λ n of. (c.run.ensures.generated n of).0
