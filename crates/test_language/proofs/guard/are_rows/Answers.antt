use Rattle.std.proofs.Common.{arith, refl, subst}
use Rattle.std.specs.List.{All}
use Rattle.std.proofs.lemmas.List.{take_all}
use Rattle.std.proofs.lemmas.List.Elements.{All-more}
use Rattle.fill_guard.specs.Read.{IsRowOf}
use Rattle.test_language.proofs.guard.are_rows.Goals as goal

pub loop-row-preserved : goal.loop-row-preserved
loop-row-preserved c = All-more (IsRowOf c.args.sheet.now) c.args.rows.now c.loop-row.row-index 0 (omega arith) c.loop-row.invariant
    (omega arith, omega (arith, c.rows-last.ensures.count))

pub returns : goal.returns
returns c = (λ h. subst (All (IsRowOf c.args.sheet.now)) (take_all c.loop-row.row-index c.args.rows.now (omega arith)) c.loop-row.invariant, λ h. refl)
