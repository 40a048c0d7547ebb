use Rattle.std.proofs.Common.{◌∙◌}
use Rattle.fill_arena.specs.Stands.{PlaceStands}
use Rattle.fill_arena.specs.Best.{IsBest}
use Rattle.fill_tree.specs.Order.{place_rank}
use Rattle.fill_arena.proofs.Maps.{copied_right}
use Rattle.fill_rank.proofs.memo.Memo.place.Goals as goal

pub returns-clause-right : goal.returns-clause-right
returns-clause-right c prices cs memo = copied_right (λ p. IsBest (place_rank prices) (PlaceStands cs c.args.s) p) _ _ (c.copied.ensures ∙ c.get.ensures.value) (memo.places c.args.s)
