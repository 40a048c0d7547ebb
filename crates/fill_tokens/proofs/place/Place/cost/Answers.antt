use Rattle.std.proofs.Common.{arith}
use Rattle.fill_tokens.proofs.place.Place.cost.Goals as goal

pub overflow_add-result : goal.overflow_add-result
overflow_add-result c =
    let cut = c.keep_small.ensures.cut in
    let left = c.cost.ensures.few in
    let right = c.cost-in-Pos.ensures.few in
    omega (arith, c.from.ensures)

pub overflow_add-result-in-Pos : goal.overflow_add-result-in-Pos
overflow_add-result-in-Pos c =
    let cut = c.keep_small.ensures.cut in
    let left = c.cost.ensures.few in
    let right = c.cost-in-Pos.ensures.few in
    let steps = c.count_cost.ensures.few in
    omega (arith, c.from.ensures)
