use Rattle.std.proofs.Common.{◌≡◌, get_or, true, false, refl, sym, subst, ◌∙◌, arith}
use Rattle.std.proofs.lemmas.Bool.{false≢true}
use Rattle.std.proofs.lemmas.List.{get_or_default}
use Rattle.fill_arena.proofs.Marking.{is_marked, not_marked}
use Rattle.fill_arena.proofs.Scan.{here}
use Rattle.fill_arena.proofs.Sorting.{left_back, left_end, left_more}
use Rattle.fill_arena.proofs.order.is_topological.Goals as goal

pub loop-i-preserved : goal.loop-i-preserved
loop-i-preserved c =
    let edges = c.args.edges.now in
    let e = c.index-edges-i.result in
    let left = c.loop-i.left.items in
    let at = here edges c.loop-i.i e c.loop-i-test.true c.index-edges-i.is in
    let off : get_or left e.to false ≡ false = sym (subst (λ b. b ≡ get_or left e.to b) c.if-index.false c.index.ensures) in
    left_more c.args.nodes edges c.loop-i.i left e c.loop-i.invariant at (c.requires c.loop-i.i e at) (not_marked left e.to off)

pub returns-then-index : goal.returns-then-index
returns-then-index c =
    let edges = c.args.edges.now in
    let e = c.index-edges-i.result in
    let left = c.loop-i.left.items in
    let at = here edges c.loop-i.i e c.loop-i-test.true c.index-edges-i.is in
    let on = c.requires c.loop-i.i e at in
    let within = on.1 in
    let long = c.loop-i.invariant.long in
    let seen = is_marked left e.to (omega arith) (get_or_default left e.to false true (omega arith) ∙ sym (subst (λ b. b ≡ get_or left e.to b) c.if-index.true c.index.ensures)) in
    ((λ is. absurd (false≢true is)), (λ all. absurd (left_back c.args.nodes edges c.loop-i.i left e c.loop-i.invariant at on seen all)))

pub returns : goal.returns
returns c = ((λ is. left_end c.args.nodes c.args.edges.now c.loop-i.i c.loop-i.left.items c.loop-i-test.false c.loop-i.invariant), (λ all. refl))
