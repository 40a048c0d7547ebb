use Rattle.std.proofs.Common.{◌∙◌}
use Rattle.fill_arena.proofs.Maps.{copied_right}
use Rattle.fill_object.specs.Bounds.{IsPlaceLeast}
use Rattle.fill_object.proofs.costs.Costs.recall.Goals as goal

pub returns : goal.returns
returns c prices cs memo = copied_right (IsPlaceLeast prices cs c.args.s) _ _ (c.copied.ensures ∙ c.get.ensures.value) (memo.places c.args.s)
