use Rattle.std.proofs.Common.{◌≡◌, ℕ, ◌%◌, ◌<◌, length, Some, slice_get}
use Rattle.fill_arena.specs.Contents.{EachIn}
use Rattle.fill_meet.specs.declared.index.Item.{Item}
use Rattle.fill_meet.proofs.index.item_keys.Given as goal

abbrev pub invariant-loop-i : goal.invariant-loop-i
invariant-loop-i l =
    record {
      long : length l.keys.items ≡ l.i;
      each : (k : ℕ) (x : Item) → k < l.i → slice_get l.items k ≡ Some x → slice_get l.keys.items k ≡ Some (x.hash % l.count);
      within : EachIn (λ k. k < l.count) l.keys.items;
    }
