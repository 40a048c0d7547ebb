use Rattle.std.proofs.Common.{List, refl, subst}
use Rattle.std.specs.Prelude.{All, Contains}
use Rattle.std.proofs.lemmas.List.{take_all}
use Rattle.std.proofs.lemmas.List.Elements.{All-more}
use Rattle.fill_session.specs.declared.branch.Branch.{Branch}
use Rattle.fill_session.proofs.before.all_among.Goals as goal

pub loop-k-preserved : goal.loop-k-preserved
loop-k-preserved c =
    All-more (λ (b : Branch). All (Contains c.args.others.now) b.rows) c.args.branches.now c.loop-k.k c.index-branches-k.result c.loop-k-test.true c.loop-k.invariant
    (subst (λ v. All (Contains c.args.others.now) v) c.as_slice.ensures (c.if-not-are_among.ensures refl))

pub returns : goal.returns
returns c = λ _.
    subst (λ (v : List Branch). All (λ (b : Branch). All (Contains c.args.others.now) b.rows) v) (take_all c.loop-k.k c.args.branches.now c.loop-k-test.false) c.loop-k.invariant
