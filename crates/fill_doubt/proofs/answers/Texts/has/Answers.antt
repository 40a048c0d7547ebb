use Rattle.std.proofs.Common.{◌≡◌, ◌<◌, ◌≤◌, length, refl, arith}
use Rattle.std.proofs.lemmas.Bool.{false≢true}
use Rattle.fill_arena.proofs.Scan.{here, scan_start, scan_more, scan_end}
use Rattle.std.proofs.Common.{sym, ◌∙◌}
use Rattle.fill_doubt.proofs.answers.Texts.has.Goals as goal

pub loop-i-init : goal.loop-i-init
loop-i-init c = scan_start (λ x. x.now ≡ c.args.text.now) c.args.self.now.texts.items

pub returns-then-same : goal.returns-then-same
returns-then-same c =
    let xs = c.args.self.now.texts in
    let lt : c.loop-i.i < length xs.items = (let n = xs.ok.0 in let l = c.len-i-end.ensures in let t = c.loop-i-test.true in omega arith) in
    ((λ _. (c.index.result.now, (c.loop-i.i, here xs.items c.loop-i.i c.index.result.now lt c.index.ensures), c.same.ensures.0 c.if-same.true)), (λ _. refl))

pub loop-i-preserved : goal.loop-i-preserved
loop-i-preserved c =
    let xs = c.args.self.now.texts in
    let lt : c.loop-i.i < length xs.items = (let n = xs.ok.0 in let l = c.len-i-end.ensures in let t = c.loop-i-test.true in omega arith) in
    scan_more (λ x. x.now ≡ c.args.text.now) xs.items c.loop-i.i c.index.result.now (here xs.items c.loop-i.i c.index.result.now lt c.index.ensures) c.loop-i.invariant (λ e. false≢true (sym c.if-same.false ∙ c.same.ensures.1 e))

pub returns : goal.returns
returns c =
    let xs = c.args.self.now.texts in
    let past : length xs.items ≤ c.loop-i.i = (let n = xs.ok.0 in let l = c.len-i-end.ensures in let t = c.loop-i-test.false in omega arith) in
    ((λ u. absurd (false≢true u)), (λ h. absurd (scan_end (λ x. x.now ≡ c.args.text.now) xs.items c.loop-i.i past c.loop-i.invariant h)))
