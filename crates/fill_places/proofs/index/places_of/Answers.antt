use Rattle.std.proofs.Common.{subst}
use Rattle.std.specs.Prelude.{IfOk}
use Rattle.fill_tokens.specs.Place.{place_cmp}
use Rattle.fill_text.specs.Lists.{Lists}
use Rattle.fill_places.specs.Index.{IndexView}
use Rattle.fill_places.specs.Wanted.{IsWanted}
use Rattle.fill_places.proofs.index.places_of.Goals as goal

pub returns : goal.returns
returns c = subst (λ (v : IndexView). IfOk c.places_at.result (Lists place_cmp (IsWanted v.token_set v.text c.args.k))) c.in_ok-index.ensures c.places_at.ensures
