use Rattle.std.proofs.Common.{◌≡◌, ◌↔◌, ◌-◌, suc, drop, List, ◌∷◌, Bool, Option, None, IsTrue, true, false, sym, ap, subst, ◌∙◌, arith}
use Rattle.fill_arena.proofs.Scan.{here}
use Rattle.fill_doubt.specs.Rows.{RowText, RowsHave}
use Rattle.fill_doubt.specs.declared.conditions.Cells.{Cells}
use Rattle.fill_doubt.proofs.Appended.{drop_here, drop_whole}
use Rattle.fill_doubt.proofs.Ways.{no_lack, one_way}
use Rattle.fill_doubt.proofs.conditions.lacks.Goals as goal

abbrev Lacks : List Cells → Bool → Type 0
Lacks cs b = IsTrue b ↔ RowsHave cs None

abbrev Some_way : List Cells → Bool → Type 0
Some_way cs b = IsTrue b ↔ ((o : Option RowText) × RowsHave cs o)

pub loop-left-init : goal.loop-left-init
loop-left-init c = record {
  within = omega arith;
  lacks = subst (λ (cs : List Cells). Lacks cs false) (sym (drop_whole c.args.conditions.now)) no_lack;
  some = subst (λ (cs : List Cells). Some_way cs true) (sym (drop_whole c.args.conditions.now)) one_way;
}

pub loop-left-preserved : goal.loop-left-preserved
loop-left-preserved c =
    let items = c.args.conditions.now in
    let k = c.loop-left.left - 1 in
    let within = c.loop-left.invariant.within in
    let x = c.index-conditions-left.result in
    let at = here items k x (omega (arith, c.loop-left-test.true)) c.index-conditions-left.is in
    let next : suc k ≡ c.loop-left.left = omega (arith, c.loop-left-test.true) in
    let cut : drop k items ≡ x ∷ drop c.loop-left.left items = drop_here items k x at ∙ ap (λ m. x ∷ drop m items) next in
    record {
      within = omega arith;
      lacks = subst (λ (cs : List Cells). Lacks cs c.lack-lacks.result) (sym cut) (c.lack-lacks.ensures (drop c.loop-left.left items) c.loop-left.invariant.lacks c.loop-left.invariant.some);
      some = subst (λ (cs : List Cells). Some_way cs c.have-some.result) (sym cut) (c.have-some.ensures (drop c.loop-left.left items) c.loop-left.invariant.some);
    }

pub returns : goal.returns
returns c =
    let none : c.loop-left.left ≡ 0 = omega (arith, c.loop-left-test.false) in
    subst (λ m. IsTrue c.loop-left.lacks ↔ RowsHave (drop m c.args.conditions.now) None) none c.loop-left.invariant.lacks
