use Rattle.std.proofs.Common.{ℕ, List, Some, subst, sym, ap, ◌∙◌}
use Rattle.fill_split.specs.declared.folds.Fold.{Fold}
use Rattle.fill_tree.specs.declared.user.Example.{Example}
use Rattle.fill_session.specs.Branches.{all_rows}
use Rattle.fill_session.specs.Folded.{ArePicked}
use Rattle.fill_session.proofs.Picked.{here, list_at, lists_more, lists_all}
use Rattle.fill_session.proofs.branches.rows_in_order.Goals as goal

pub push_rows-requires : goal.push_rows-requires
push_rows-requires c =
    let f : Fold ℕ = c.fold-item.result in
    let at = here c.args.folds.now c.loop-fold.fold-index f c.loop-fold-test.true ∙ ap Some (sym c.fold-item.is) in
    let found = list_at c.args.examples.now c.args.folds.now c.requires.0 c.loop-fold.fold-index f c.requires.1 at in
    (found.0, subst (λ v. ArePicked c.args.examples.now v found.0) (sym c.as_slice.ensures) found.2)

pub loop-fold-preserved : goal.loop-fold-preserved
loop-fold-preserved c = λ lists picked.
    let f : Fold ℕ = c.fold-item.result in
    let at = here c.args.folds.now c.loop-fold.fold-index f c.loop-fold-test.true ∙ ap Some (sym c.fold-item.is) in
    let found = list_at c.args.examples.now c.args.folds.now lists c.loop-fold.fold-index f picked at in
    lists_more lists found.0 c.loop-fold.rows c.push_rows.new.rows c.loop-fold.fold-index found.1 (c.loop-fold.invariant lists picked)
    (c.in_ok-push_rows.ensures found.0 (subst (λ v. ArePicked c.args.examples.now v found.0) (sym c.as_slice.ensures) found.2))

pub returns : goal.returns
returns c = λ lists picked.
    c.loop-fold.invariant lists picked ∙ ap (λ (v : List (List Example)). all_rows v) (lists_all c.args.examples.now c.args.folds.now lists c.loop-fold.fold-index picked c.loop-fold-test.false)
