use Rattle.fill_tokens.specs.Place.{place_cmp}
use Rattle.fill_text.specs.Lists.{Adds}
use Rattle.fill_places.specs.Wanted.{RowOf}
use Rattle.fill_places.proofs.list.push_row.Given as goal

abbrev pub invariant-loop-j : goal.invariant-loop-j
invariant-loop-j l = Adds place_cmp l.initial.out l.out (RowOf l.token_set l.t l.k l.l.seq l.rights l.numbers l.j)
