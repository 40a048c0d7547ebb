-- The order of places.
use Rattle.std.specs.Prelude.{ℕ, ◌+◌, List, ℤ, pos, negsuc, length}
use Rattle.std.specs.declared.cmp.Ordering.{Ordering}
use Rattle.std.specs.declared.cmp.Ordering.TheVariants.{Less, Greater}
use Rattle.std.specs.Ordering.{nat_cmp, ordering_then, on, then_cmp}
use Rattle.std.specs.Cmp.Lexicographic.{slice_cmp}
use Rattle.fill_tokens.specs.Token.{token_number}
use Rattle.fill_tokens.specs.declared.token.Token.{Token}
use Rattle.fill_tokens.specs.declared.place.Place.{Place}
use Rattle.fill_tokens.specs.declared.place.Place.TheVariants.{CPos, Pos}

-- the absolute value
abbrev pub magnitude : ℤ → ℕ
magnitude (pos n) = n
magnitude (negsuc n) = n + 1

abbrev pub sign_number : ℤ → ℕ
sign_number (pos n) = 0
sign_number (negsuc n) = 1

-- by the absolute value, and then plus before minus
abbrev pub signed_cmp : ℤ → ℤ → Ordering
signed_cmp = then_cmp (on magnitude nat_cmp) (on sign_number nat_cmp)

-- by the length, and then by the tokens' numbers from the left
abbrev pub seq_cmp : List Token → List Token → Ordering
seq_cmp = then_cmp (on length nat_cmp) (slice_cmp (on token_number nat_cmp))

-- `CPos` before `Pos`, each by its parts from the left
abbrev pub place_cmp : Place → Place → Ordering
place_cmp (CPos a) (CPos b) = signed_cmp a b
place_cmp (CPos a) (Pos s0 s1 d) = Less
place_cmp (Pos r0 r1 c) (CPos b) = Greater
place_cmp (Pos r0 r1 c) (Pos s0 s1 d) = ordering_then (seq_cmp r0 s0) (ordering_then (seq_cmp r1 s1) (signed_cmp c d))
