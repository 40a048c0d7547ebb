use Rattle.std.proofs.Common.{◌≡◌, length, None, refl, arith}
use Rattle.fill_doubt.specs.Rows.{cell_choice}
use Rattle.fill_doubt.proofs.Gains.{have_positive}
use Rattle.fill_doubt.proofs.conditions.Cells.is_some.Goals as goal

pub returns-then-self : goal.returns-then-self
returns-then-self c = ((λ _. (None, c.if-self.true)), (λ _. refl))

pub returns : goal.returns
returns c =
    let xs = c.args.self.now.cells in
    let n : c.len.result ≡ length xs.items = (let k = xs.ok.0 in let l = c.len.ensures in omega arith) in
    have_positive cell_choice xs.items c.args.self.now.none c.len.result n c.if-self.false
