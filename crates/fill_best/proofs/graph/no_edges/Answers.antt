use Rattle.std.proofs.Common.{◌≡◌, ◌-◌, [], ◌∷◌, ◌++◌, length, ap, sym, subst, ◌∙◌, arith}
use Rattle.fill_tree.specs.Tree.{end}
use Rattle.fill_best.specs.Rests.{AreFirstRests}
use Rattle.fill_best.proofs.Walking.{free, rests_start}
use Rattle.fill_best.proofs.graph.no_edges.Goals as goal

pub returns-clause-first : goal.returns-clause-first
returns-clause-first c prices cs k some =
    let xs = c.loop-node.rests.items in
    let x = c.push-2.new.self in
    let counted = c.loop-node.invariant.counted in
    let n : length xs ≡ c.args.nodes - 1 = omega (arith, c.loop-node.auto._node-end, c.requires) in
    let is = c.in_ok-push-2.ensures.items ∙ ap (λ t. c.new-last.result.items ++ free t ∷ []) c.none.ensures ∙ ap (λ l. l ++ free end ∷ []) c.new-last.ensures.items in
    let start = rests_start prices cs k xs x some c.loop-node.invariant.none is in
    subst (λ m. AreFirstRests prices cs [] m k c.push-3.new.self.items) n (subst (AreFirstRests prices cs [] (length xs) k) (sym c.in_ok-push-3.ensures.items) start)
