-- Lower bounds of costs: of sets by their items, and what costs more than the best so far.
use Rattle.std.proofs.Common.{◌≡◌, ◌≢◌, ◌⊎◌, ℕ, zero, suc, ◌+◌, ◌<◌, ◌≤◌, List, [], ◌∷◌, length, replicate, set, Option, Some, None, inl, inr, ap, sym, subst, ◌∙◌, slice_get, arith}
use Rattle.std.specs.Cmp.{nat_cmp_is}
use Rattle.std.specs.Ordering.{nat_cmp, ordering_then}
use Rattle.std.specs.declared.cmp.Ordering.{Ordering}
use Rattle.std.specs.declared.cmp.Ordering.TheVariants.{Less}
use Rattle.std.proofs.lemmas.Bool.{cases_eq}
use Rattle.fill_tokens.specs.Prices.{place_cost}
use Rattle.fill_tokens.specs.declared.place.Place.{Place}
use Rattle.fill_tokens.specs.declared.prices.Prices.{Prices}
use Rattle.fill_tree.specs.Cost.{source_cost, atom_cost, program_cost}
use Rattle.fill_tree.specs.Meaning.{atom_tree, program_tree}
use Rattle.fill_tree.specs.Order.{atoms_cmp, rank, atom_cmp, atom_rank}
use Rattle.fill_tree.specs.Tree.{SourceTree, AtomTree, Atoms, col, select, constant, whole, sub, end, more}
use Rattle.fill_tree.specs.declared.chain.Chain.{Chain}
use Rattle.fill_tree.specs.declared.tree.Atom.{Atom}
use Rattle.fill_tree.proofs.Ranked.{ranked-less, ranked-less_is, ranked-equal_is}
use Rattle.fill_arena.specs.Best.{IsBest, IsBestOf}
use Rattle.fill_arena.specs.Contents.{EachIn, In, SomeBelow, SomeIn}
use Rattle.fill_arena.specs.Stands.{AtomFits, AtomStands, PlaceStands}
use Rattle.fill_arena.specs.declared.entry.AtomItem.{AtomItem}
use Rattle.fill_arena.specs.declared.entry.AtomItem.TheVariants.{Const, Whole, Sub}
use Rattle.fill_arena.specs.declared.entry.Entry.{Entry}
use Rattle.fill_arena.specs.declared.entry.Entry.TheVariants as kind
use Rattle.fill_arena.proofs.Below.{below_split, below_left, none_below, some_below}
use Rattle.fill_arena.proofs.Items.{set_apart}
use Rattle.fill_text.specs.Orders.{AtMost}
use Rattle.fill_rank.specs.LowerBounds.{IsLowerBound}
use Rattle.fill_rank.specs.Sets.{IsBestChain}

-- lists: the same item many times, and another item in one place
pub each_same : {A : Type 0} (n : ℕ) (x : A) → EachIn (λ y. y ≡ x) (replicate n x)
each_same zero x k y there = absurd cc
each_same (suc n) x zero y there = cc
each_same (suc n) x (suc k) y there = each_same n x k y there

set_there : {A : Type 0} (xs : List A) (at : ℕ) (x y : A) → slice_get (set xs at x) at ≡ Some y → x ≡ y
set_there [] at x y h = absurd cc
set_there (z ∷ xs) zero x y h = cc
set_there (z ∷ xs) (suc at) x y h = set_there xs at x y h

pub each_set : {A : Type 0} (P : A → Type 0) (xs : List A) (at : ℕ) (x : A) → P x → EachIn P xs → EachIn P (set xs at x)
each_set P xs at x p all k y there = elim (cases_eq k at) [
  | inl same ↦ subst P (set_there xs at x y (subst (λ n. slice_get (set xs at x) n ≡ Some y) same there)) p
  | inr apart ↦ all k y (sym (set_apart xs at x k apart) ∙ there)
]

-- the least of the bounds of items
module _ {X A : Type 0} (cost : A → ℕ) (F : X → A → Type 0) (xs : List X) where
  pub bound_none : (n : ℕ) → IsLowerBound cost (λ a. SomeBelow 0 xs (λ y. F y a)) n
  bound_none n a h = absurd (none_below F xs a h)

  pub bound_step : (i : ℕ) (x : X) → slice_get xs i ≡ Some x → (n m k : ℕ) → k ≤ n → k ≤ m →
      IsLowerBound cost (λ a. SomeBelow i xs (λ y. F y a)) n → IsLowerBound cost (F x) m → IsLowerBound cost (λ a. SomeBelow (i + 1) xs (λ y. F y a)) k
  bound_step i x at n m k le_n le_m old new a h = elim (below_split F xs i x at a h) [
    | inl before ↦ (let le = old a before in omega arith)
    | inr here ↦ (let le = new a here in omega arith)
  ]

  pub bound_done : (S : A → Type 0) → ((a : A) → S a → SomeIn (λ y. F y a) xs) → (i : ℕ) → length xs ≤ i → (n : ℕ) →
      IsLowerBound cost (λ a. SomeBelow i xs (λ y. F y a)) n → IsLowerBound cost S n
  bound_done S to i past n bound a s = bound a (some_below F xs i past a (to a s))

pub place_listed : (c : List Entry) (s : ℕ) (places : List Place) → slice_get c s ≡ Some (kind.Places places) → (p : Place) → PlaceStands c s p → In p places
place_listed c s places is p h = let there = h.1 in let e : h.0 ≡ places = cc in subst (λ ps. In p ps) e h.2

pub atom_listed : (c : List Entry) (s : ℕ) (items : List AtomItem) → slice_get c s ≡ Some (kind.Atoms items) → (a : AtomTree) → AtomStands c s a → SomeIn (AtomFits a c) items
atom_listed c s items is a h = let there = h.1 in let e : h.0 ≡ items = cc in subst (λ xs. SomeIn (AtomFits a c) xs) e h.2

-- items
module _ (prices : Prices) (c : List Entry) where
  pub constant_bound : (t : List ℕ) (n : ℕ) → n ≤ prices.constant → IsLowerBound (atom_cost prices) (λ a. AtomFits a c (Const t)) n
  constant_bound t n le (constant u) h = omega arith
  constant_bound t n le (whole x) h = absurd h
  constant_bound t n le (sub x p q) h = absurd h

  module _ (low : ℕ) (column : low ≤ prices.column) (lookup : low ≤ prices.lookup) where
    source_bound : (x : SourceTree) → low ≤ source_cost prices x
    source_bound (col n) = column
    source_bound (select k t n cs) = omega (arith, lookup)

    pub whole_bound : (b n : ℕ) → n ≤ prices.whole + low → IsLowerBound (atom_cost prices) (λ a. AtomFits a c (Whole b)) n
    whole_bound b n le (constant u) h = absurd h
    whole_bound b n le (whole x) h = let s = source_bound x in omega arith
    whole_bound b n le (sub x p q) h = absurd h

    pub sub_bound : (b l r left right n : ℕ) → n ≤ prices.piece + low + left + right →
        IsLowerBound (place_cost prices) (PlaceStands c l) left → IsLowerBound (place_cost prices) (PlaceStands c r) right → IsLowerBound (atom_cost prices) (λ a. AtomFits a c (Sub b l r)) n
    sub_bound b l r left right n le from to (constant u) h = absurd h
    sub_bound b l r left right n le from to (whole x) h = absurd h
    sub_bound b l r left right n le from to (sub x p q) h =
        let s = source_bound x in
        let first = from p h.1 in
        let second = to q h.2 in
        omega arith

-- what costs less comes first, and the best costs least
pub cheaper_first : {A : Type 0} (cost : A → ℕ) (cmp : A → A → Ordering) (x y : A) → cost x < cost y → AtMost (rank cost cmp x y)
cheaper_first cost cmp x y lt = inl (ranked-less (cost x) (cost y) (cmp x y) lt)

pub at_most_cost : {A : Type 0} (cost : A → ℕ) (cmp : A → A → Ordering) (x y : A) → AtMost (rank cost cmp x y) → cost x ≤ cost y
at_most_cost cost cmp x y (inl less) = elim (ranked-less_is (cost x) (cost y) (cmp x y) less) [ inl lt ↦ omega arith | inr both ↦ let same = both.0 in omega arith ]
at_most_cost cost cmp x y (inr equal) = let same = (ranked-equal_is (cost x) (cost y) (cmp x y) equal).0 in omega arith

pub best_bound : (prices : Prices) (P : AtomTree → Type 0) (a : AtomTree) → IsBest (atom_rank prices) P a → IsLowerBound (atom_cost prices) P (atom_cost prices a)
best_bound prices P a best y h = at_most_cost (atom_cost prices) atom_cmp a y (best.least y h)

-- an item whose atoms all cost more than the best so far
module _ (prices : Prices) (F : AtomItem → AtomTree → Type 0) (xs : List AtomItem) where
  pub scan_below : (i : ℕ) (x : AtomItem) → slice_get xs i ≡ Some x → (best : Option Atom) (b : Atom) → best ≡ Some b → (n : ℕ) → atom_cost prices (atom_tree b) < n → IsLowerBound (atom_cost prices) (F x) n →
      IsBestOf atom_tree (atom_rank prices) (λ a. SomeBelow i xs (λ y. F y a)) best → IsBestOf atom_tree (atom_rank prices) (λ a. SomeBelow (i + 1) xs (λ y. F y a)) best
  scan_below i x at None b is n lt bound are = absurd cc
  scan_below i x at (Some d) b is n lt bound are =
      let same : d ≡ b = cc in
      let less : atom_cost prices (atom_tree d) < n = subst (λ z. atom_cost prices (atom_tree z) < n) (sym same) lt in
      record {
        has = below_left F xs i (atom_tree d) are.has;
        least = λ a h. elim (below_split F xs i x at a h) [
          | inl before ↦ are.least a before
          | inr here ↦ (let le = bound a here in cheaper_first (atom_cost prices) atom_cmp (atom_tree d) a (omega arith))
        ];
      }
