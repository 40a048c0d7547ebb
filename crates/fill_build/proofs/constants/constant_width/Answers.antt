use Rattle.std.proofs.Common.{sym, subst}
use Rattle.fill_tree.specs.declared.user.Constants.{Constants}
use Rattle.fill_build.specs.Pieces.{AreAllowed}
use Rattle.fill_build.proofs.constants.constant_width.Goals as goal

pub returns-in-Separators-clause-exact : goal.returns-in-Separators-clause-exact
returns-in-Separators-clause-exact c = subst (λ (k : Constants). AreAllowed k c.args.rest.now c.separators.result) (sym c.in-Separators.is) c.separators.ensures.exact
