use Rattle.std.proofs.Common.{sym, ◌∙◌, ap}
use Rattle.fill_text.specs.Classes.{is_separator}
use Rattle.fill_build.proofs.Allowed.{allowed_more, allowed_end, allowed_stop}
use Rattle.fill_build.proofs.constants.separators.Goals as goal

pub loop-i-preserved : goal.loop-i-preserved
loop-i-preserved c =
    allowed_more c.args.rest.now c.loop-i.i c.index-rest-i.result c.loop-i-test.true c.loop-i.invariant
    (ap is_separator (sym c.index-rest-i.is) ∙ (sym c.is_separator.ensures ∙ c.if-not-is_separator.false))

pub returns-then-not-is_separator-clause-exact : goal.returns-then-not-is_separator-clause-exact
returns-then-not-is_separator-clause-exact c =
    allowed_stop c.args.rest.now c.loop-i.i c.index-rest-i.result c.loop-i-test.true c.loop-i.invariant
    (ap is_separator (sym c.index-rest-i.is) ∙ (sym c.is_separator.ensures ∙ c.if-not-is_separator.true))

pub returns-clause-exact : goal.returns-clause-exact
returns-clause-exact c = allowed_end c.args.rest.now c.loop-i.i 0 c.loop-i-test.false c.loop-i.invariant
