use Rattle.std.proofs.Common.{◌≡◌, All, Some, nat_eq, subst}
use Rattle.std.specs.HashMap.{get}
use Rattle.std.proofs.lemmas.List.Elements.{All-head, All-tail}
use Rattle.fill_space.proofs.carried.carry_weights.Goals as goal

pub loop-graph-preserved : goal.loop-graph-preserved
loop-graph-preserved c =
    let graph = c.in-Some.graph.now in
    let cost = c.in-Some.cost.now in
    let left = subst (All (λ e. get nat_eq c.args.weights.now.table e.0 ≡ Some e.1)) c.in-Some.ensures.steps c.loop-graph.invariant.found in
    record {
      found = All-tail (λ e. get nat_eq c.args.weights.now.table e.0 ≡ Some e.1) (graph, cost) _ left;
      told = λ prices before after told renamed.
          c.carry_weight.ensures prices before after (told.each graph cost (All-head (λ e. get nat_eq c.args.weights.now.table e.0 ≡ Some e.1) (graph, cost) _ left)) renamed
          (c.loop-graph.invariant.told prices before after told renamed);
    }
