use Rattle.std.proofs.Common.{subst}
use Rattle.std.specs.Prelude.{All}
use Rattle.std.proofs.lemmas.Bool.{false≢true}
use Rattle.std.proofs.lemmas.List.{take_all}
use Rattle.std.proofs.lemmas.List.Elements.{All-more}
use Rattle.fill_tree.specs.Guard.{GuardHolds}
use Rattle.fill_session.proofs.before.holds_on_none.Goals as goal

pub loop-row-preserved : goal.loop-row-preserved
loop-row-preserved c =
    All-more (λ row. ¬ (GuardHolds c.args.sheet.now row c.args.guard.now)) c.args.rows.now c.loop-row.row-index 0 c.loop-row-test.true c.loop-row.invariant
    (λ h. false≢true (c.if-guard_holds.ensures.1 h))

pub returns : goal.returns
returns c = λ _.
    subst (λ v. All (λ row. ¬ (GuardHolds c.args.sheet.now row c.args.guard.now)) v) (take_all c.loop-row.row-index c.args.rows.now c.loop-row-test.false) c.loop-row.invariant
