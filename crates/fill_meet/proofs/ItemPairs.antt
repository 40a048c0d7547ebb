-- Pairs of items of two sets of atoms, by their places.
use Rattle.std.proofs.Common.{◌≡◌, ℕ, zero, suc, ◌+◌, ◌<◌, ◌≤◌, List, [], ◌∷◌, ◌++◌, length, Option, Some, slice_get, refl, sym, ◌∙◌, subst, arith}
use Rattle.std.specs.Prelude.{MatchOption}
use Rattle.fill_arena.specs.Contents.{Extends}
use Rattle.fill_arena.specs.Stands.{AtomStands}
use Rattle.fill_arena.specs.WellMade.{IsAtomItem, IsWellMade}
use Rattle.fill_arena.specs.declared.entry.AtomItem.{AtomItem}
use Rattle.fill_arena.specs.declared.entry.Entry.{Entry}
use Rattle.fill_arena.specs.declared.entry.Entry.TheVariants.{Atoms}
use Rattle.fill_arena.proofs.Lists.{extends_same}
use Rattle.fill_meet.specs.Meet.{AreApart}
use Rattle.fill_meet.specs.Sets.{AreAtomsMet, ArePaired, AtomIn, HasItem, IsItem, ItemsAtMeet}
use Rattle.fill_meet.proofs.Grows.{atom_item_stays}
use Rattle.fill_meet.proofs.Listed.{atoms_apart, atoms_met, one_atoms}
use Rattle.fill_meet.proofs.Lists.{same_value}
use Rattle.fill_meet.proofs.States.{state_row, state_start, state_step}

pub item_stays : (c d : List Entry) → Extends c d → (s i : ℕ) (x : AtomItem) → IsItem c s i x → IsItem d s i x
item_stays c d o s i x h = (h.0, o s (Atoms h.0) h.1, h.2)

-- the item as one of the set's list, and the other way round
pub at_item : (c : List Entry) (s i : ℕ) (x : AtomItem) (xs : List AtomItem) → slice_get c s ≡ Some (Atoms xs) → IsItem c s i x → slice_get xs i ≡ Some x
at_item c s i x xs hs h = subst (λ l. slice_get l i ≡ Some x) (one_atoms h.0 xs (sym h.1 ∙ hs)) h.2

pub has_item : (c : List Entry) (s i : ℕ) (xs : List AtomItem) → slice_get c s ≡ Some (Atoms xs) → i < length xs → HasItem c s i
has_item c s i xs hs lt = let x = get_there xs i lt in (x.0, (xs, hs, x.1)) where
  get_there : (xs : List AtomItem) (i : ℕ) → i < length xs → (x : AtomItem) × (slice_get xs i ≡ Some x)
  get_there [] i lt = absurd (omega arith)
  get_there (x ∷ xs) zero lt = (x, refl)
  get_there (x ∷ xs) (suc i) lt = get_there xs i (omega arith)

pub item_once : (c : List Entry) (s i : ℕ) (x y : AtomItem) → IsItem c s i x → IsItem c s i y → x ≡ y
item_once c s i x y h k = same_value k.0 i i x y refl (at_item c s i x k.0 k.1 h) k.2

pub paired_start : (c : List Entry) → IsWellMade c → (s t : ℕ) (xs ys zs : List AtomItem) → slice_get c s ≡ Some (Atoms xs) → slice_get c t ≡ Some (Atoms ys) → zs ≡ [] → ArePaired c s t 0 0 zs
paired_start c made s t xs ys zs hs ht e =
    record {
      xs = xs;
      ys = ys;
      first = hs;
      second = ht;
      state = state_start AtomIn IsAtomItem atom_item_stays c s t xs ys zs e (made s (Atoms xs) hs).each (made t (Atoms ys) ht).each;
    }

pub paired_step : (c d : List Entry) → Extends c d → (s t i j : ℕ) (zs more : List AtomItem) (made : Option AtomItem) → ItemsAtMeet d s i t j made → MatchOption made (more ≡ zs) (λ z. more ≡ zs ++ z ∷ []) → ArePaired c s t i j zs
    → ArePaired d s t i (j + 1) more
paired_step c d o s t i j zs more made met put p =
    let hs = o s (Atoms p.xs) p.first in
    let ht = o t (Atoms p.ys) p.second in
    let hx = at_item d s i met.0 p.xs hs met.2 in
    let hy = at_item d t j met.1 p.ys ht met.3 in
    record {
      xs = p.xs;
      ys = p.ys;
      first = hs;
      second = ht;
      state = state_step AtomIn IsAtomItem atom_item_stays c d s p.xs p.ys zs more i j met.0 met.1 made o hx hy met.4 put p.state;
    }

pub paired_row : (c : List Entry) (s t i j : ℕ) (ys zs : List AtomItem) → slice_get c t ≡ Some (Atoms ys) → length ys ≤ j → ArePaired c s t i j zs → ArePaired c s t (i + 1) 0 zs
paired_row c s t i j ys zs ht long p =
    record {
      xs = p.xs;
      ys = p.ys;
      first = p.first;
      second = p.second;
      state = state_row AtomIn IsAtomItem atom_item_stays c s p.xs p.ys zs i j (subst (λ l. length l ≤ j) (one_atoms ys p.ys (sym ht ∙ p.second)) long) p.state;
    }

-- after all pairs
module _ (c : List Entry) (s t i : ℕ) (xs zs : List AtomItem) (hs : slice_get c s ≡ Some (Atoms xs)) (long : length xs ≤ i) (p : ArePaired c s t i 0 zs) where
  all_paired : length p.xs ≤ i
  all_paired = subst (λ l. length l ≤ i) (one_atoms xs p.xs (sym hs ∙ p.first)) long

  pub paired_met : (d : List Entry) (m : ℕ) → Extends c d → slice_get d m ≡ Some (Atoms zs) → (length zs ≡ 0 → ⊥) → AreAtomsMet d s t m
  paired_met d m o hm some = atoms_met c c (extends_same c) s s t i p.xs p.ys zs p.first p.second all_paired p.state d m o hm some

  pub paired_apart : length zs ≡ 0 → AreApart AtomStands c s t
  paired_apart none = atoms_apart c c (extends_same c) s s t i p.xs p.ys zs p.first p.second all_paired p.state none
