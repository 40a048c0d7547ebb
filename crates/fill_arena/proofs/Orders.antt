-- Places that are alike in their order.
use Rattle.std.proofs.Common.{◌≡◌, refl, subst}
use Rattle.std.specs.Ordering.{ordering_reverse}
use Rattle.std.specs.declared.cmp.Ordering.{Ordering}
use Rattle.std.specs.declared.cmp.Ordering.TheVariants.{Less, Equal, Greater}
use Rattle.fill_tokens.specs.Place.{place_cmp}
use Rattle.fill_tokens.specs.declared.place.Place.{Place}
use Rattle.fill_tokens.proofs.PlaceLaws.{place_antisymm}

own_reverse : (o : Ordering) → o ≡ ordering_reverse o → o ≡ Equal
own_reverse Less h = cc
own_reverse Equal h = refl
own_reverse Greater h = cc

pub place_same : (p q : Place) → p ≡ q → place_cmp p q ≡ Equal
place_same p q same = subst (λ r. place_cmp p r ≡ Equal) same (own_reverse (place_cmp p p) (place_antisymm p p))
