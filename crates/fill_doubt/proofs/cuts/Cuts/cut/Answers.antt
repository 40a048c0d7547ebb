use Rattle.std.proofs.Common.{List, ℕ, sym, subst, rules}
use Rattle.fill_tokens.specs.Cuts.{AreCuts}
use Rattle.fill_doubt.proofs.cuts.Cuts.cut.Goals as goal

pub returns-clause-value : goal.returns-clause-value
returns-clause-value c =
    let l = c.args.left.now in
    let r = c.args.right.now in
    let t = c.args.t.now in
    let are = subst (λ (xs : List ℕ). AreCuts l r t xs) (sym c.as_slice.ensures.value) c.in_ok-look_between.ensures.cuts in
    search (rules, c.pick.ensures l r t are)
