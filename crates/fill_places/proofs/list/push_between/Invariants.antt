use Rattle.fill_tokens.specs.Place.{place_cmp}
use Rattle.fill_text.specs.Lists.{Adds}
use Rattle.fill_places.specs.Wanted.{FromLefts}
use Rattle.fill_places.proofs.list.push_between.Given as goal

abbrev pub invariant-loop-l : goal.invariant-loop-l
invariant-loop-l l = Adds place_cmp l.initial.out l.out (FromLefts l.token_set l.t l.k l.lefts l.l-index)
