use Rattle.std.proofs.Common.{◌≡◌, ℕ, ◌<◌, length, slice_index}
use Rattle.fill_text.proofs.text.Text.from_ascii.Given as goal

abbrev pub invariant-loop-i : goal.invariant-loop-i
invariant-loop-i l = record {
  size : length l.chars.items ≡ length l.bytes;
  done : (k : ℕ) → k < l.i → slice_index l.chars.items k ≡ slice_index l.bytes k;
}
