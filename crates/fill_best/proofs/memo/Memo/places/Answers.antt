use Rattle.fill_tokens.specs.Place.{place_cmp}
use Rattle.fill_tokens.specs.Prices.{place_cost}
use Rattle.fill_arena.specs.Stands.{PlaceStands}
use Rattle.fill_best.specs.Cheapest.{AreCheapest}
use Rattle.fill_arena.proofs.Maps.{found_right}
use Rattle.fill_best.proofs.memo.Memo.places.Goals as goal

pub returns : goal.returns
returns c prices cs k memo = found_right (λ o. AreCheapest (place_cost prices) place_cmp (PlaceStands cs c.args.s) k o.value.items) _ _ c.get.ensures.value (memo.places c.args.s)
