-- Places of a list of keys, by their keys.
use Rattle.std.specs.Prelude.{◌≡◌, ℕ, ◌+◌, ◌<◌, ◌≤◌, List, length, get_or, Some, slice_get}
use Rattle.fill_arena.specs.Contents.{EachIn}
use Rattle.fill_meet.specs.declared.groups.Groups.{Groups}

-- the first place from a start on that has the key, or one past the last place where there is none
pub record IsFirstFrom (keys : List ℕ) (key start place : ℕ) : Type 0 where
  pub past : start ≤ place
  pub least : (k : ℕ) → start ≤ k → slice_get keys k ≡ Some key → place ≤ k
  pub here : (v : ℕ) → slice_get keys place ≡ Some v → v ≡ key

-- from place i on, the first place of each key, and after each place the next one of its key
pub record AreChainedFrom (i : ℕ) (keys firsts nexts : List ℕ) : Type 0 where
  pub out_of : (n : ℕ) → n < length firsts → IsFirstFrom keys n i (get_or firsts n 0)
  pub after : (k v : ℕ) → i ≤ k → slice_get keys k ≡ Some v → IsFirstFrom keys v (k + 1) (get_or nexts k 0)

-- the places of the keys
pub record AreGroups (keys : List ℕ) (g : Groups) : Type 0 where
  pub within : EachIn (λ k. k < length g.firsts.items) keys
  pub each : length g.nexts.items ≡ length keys
  pub chained : AreChainedFrom 0 keys g.firsts.items g.nexts.items

-- the keys of a list, in order
pub record AreKeys {A : Type 0} (key : A → ℕ) (xs : List A) (keys : List ℕ) : Type 0 where
  pub long : length keys ≡ length xs
  pub each : (k : ℕ) (x : A) → slice_get xs k ≡ Some x → slice_get keys k ≡ Some (key x)

-- the places of what has these keys
pub record AreGroupsOf {A : Type 0} (key : A → ℕ) (xs : List A) (g : Groups) : Type 0 where
  pub keys : List ℕ
  pub are : AreKeys key xs keys
  pub groups : AreGroups keys g
