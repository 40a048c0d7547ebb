use Rattle.std.proofs.Common.{◌≡◌, take, subst, refl, arith}
use Rattle.std.specs.Prelude.{All, Contains}
use Rattle.std.proofs.lemmas.List.{take_all}
use Rattle.std.proofs.lemmas.List.Elements.{All-more}
use Rattle.fill_keys.proofs.keys.is_within.Goals as goal

pub loop-column-preserved : goal.loop-column-preserved
loop-column-preserved c = All-more (Contains c.args.columns.now) c.args.key.now c.loop-column.column-index 0 (omega arith) c.loop-column.invariant (c.has_column.ensures.0 c.if-not-has_column.false)

pub returns : goal.returns
returns c =
    let e : take c.loop-column.column-index c.args.key.now ≡ c.args.key.now = take_all c.loop-column.column-index c.args.key.now (omega arith) in
    (λ t. (omega arith, subst (All (Contains c.args.columns.now)) e c.loop-column.invariant), λ w. refl)
