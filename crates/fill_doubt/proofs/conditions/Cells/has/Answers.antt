use Rattle.std.proofs.Common.{◌≡◌, ◌<◌, ◌≤◌, length, refl, arith, sym, ◌∙◌}
use Rattle.std.proofs.lemmas.Bool.{false≢true}
use Rattle.fill_arena.proofs.Scan.{here, scan_start, scan_more, scan_end}
use Rattle.fill_doubt.specs.Rows.{cell_choice, choice_of}
use Rattle.fill_doubt.proofs.conditions.Cells.has.Goals as goal

pub loop-i-init : goal.loop-i-init
loop-i-init c = scan_start (λ x. cell_choice x ≡ choice_of c.args.text.now c.args.part) c.args.self.now.cells.items

pub returns-then-is : goal.returns-then-is
returns-then-is c =
    let xs = c.args.self.now.cells in
    let lt : c.loop-i.i < length xs.items = (let n = xs.ok.0 in let l = c.len-i-end.ensures in let t = c.loop-i-test.true in omega arith) in
    ((λ _. (c.index.result.now, (c.loop-i.i, here xs.items c.loop-i.i c.index.result.now lt c.index.ensures), c.is.ensures.0 c.if-is.true)), (λ _. refl))

pub loop-i-preserved : goal.loop-i-preserved
loop-i-preserved c =
    let xs = c.args.self.now.cells in
    let lt : c.loop-i.i < length xs.items = (let n = xs.ok.0 in let l = c.len-i-end.ensures in let t = c.loop-i-test.true in omega arith) in
    scan_more (λ x. cell_choice x ≡ choice_of c.args.text.now c.args.part) xs.items c.loop-i.i c.index.result.now (here xs.items c.loop-i.i c.index.result.now lt c.index.ensures) c.loop-i.invariant
    (λ e. false≢true (sym c.if-is.false ∙ c.is.ensures.1 e))

pub returns : goal.returns
returns c =
    let xs = c.args.self.now.cells in
    let past : length xs.items ≤ c.loop-i.i = (let n = xs.ok.0 in let l = c.len-i-end.ensures in let t = c.loop-i-test.false in omega arith) in
    ((λ u. absurd (false≢true u)), (λ h. absurd (scan_end (λ x. cell_choice x ≡ choice_of c.args.text.now c.args.part) xs.items c.loop-i.i past c.loop-i.invariant h)))
