use Rattle.std.proofs.Common.{refl, subst}
use Rattle.std.specs.Prelude.{All, Contains}
use Rattle.std.proofs.lemmas.List.{take_all}
use Rattle.std.proofs.lemmas.List.Elements.{All-more}
use Rattle.fill_session.proofs.before.are_among.Goals as goal

pub loop-row-preserved : goal.loop-row-preserved
loop-row-preserved c = All-more (Contains c.args.others.now) c.args.rows.now c.loop-row.row-index 0 c.loop-row-test.true c.loop-row.invariant (c.if-not-is_among.ensures.0 refl)

pub returns : goal.returns
returns c = λ _. subst (λ v. All (Contains c.args.others.now) v) (take_all c.loop-row.row-index c.args.rows.now c.loop-row-test.false) c.loop-row.invariant
