-- A fold over the first items of a list.
use Rattle.std.proofs.Common.{◌≡◌, ℕ, ◌+◌, List, take, Some, slice_get, ap, ◌∙◌}
use Rattle.std.specs.List.{fold}
use Rattle.std.proofs.lemmas.List.Sums.{fold_more}
use Rattle.std.proofs.lemmas.Option.{slice_get_within, get_or_from_slice_get}

pub fold_next : {X Y : Type 0} (f : Y → X → Y) (a : Y) (xs : List X) (i : ℕ) (x : X) → slice_get xs i ≡ Some x → fold f a (take (i + 1) xs) ≡ f (fold f a (take i xs)) x
fold_next f a xs i x there = fold_more f a xs i x (slice_get_within xs i x there) ∙ ap (f (fold f a (take i xs))) (get_or_from_slice_get xs i x x there)
