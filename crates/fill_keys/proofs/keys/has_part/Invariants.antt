use Rattle.std.proofs.Common.{ℕ, ◌<◌, ◌≡◌, List, get_or}
use Rattle.fill_keys.specs.Search.{IsWithin}
use Rattle.fill_keys.proofs.keys.has_part.Given as goal

abbrev pub invariant-loop-key : goal.invariant-loop-key
invariant-loop-key l = (k : ℕ) (key : List ℕ) → k < l.key-index → get_or l.keys k key ≡ key → IsWithin l.columns key → ⊥
