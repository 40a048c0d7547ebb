-- What stands in items of sets: the single items, and the products of what stands in the sets that they name.
use Rattle.std.proofs.Common.{◌≡◌, ◌⊎◌, ℕ, ◌+◌, ◌<◌, ◌≤◌, ◌^◌, inl, inr, List, [], ◌∷◌, length, Some, slice_get, refl, ap, subst, arith}
use Rattle.std.specs.Prelude.{Contains}
use Rattle.fill_tokens.specs.Place.{place_cmp}
use Rattle.fill_tokens.specs.Prices.{place_cost}
use Rattle.fill_tokens.specs.declared.place.Place.{Place}
use Rattle.fill_tokens.proofs.PlaceLaws.{place_total}
use Rattle.fill_tokens.specs.declared.prices.Prices.{Prices}
use Rattle.fill_tokens.specs.Prices.{ArePrices}
use Rattle.fill_tree.specs.Cost.{source_cost, atom_cost, conditions_cost}
use Rattle.fill_tree.specs.Grammar.{HasPart, IsPart}
use Rattle.fill_tree.specs.Order.{source_cmp, atom_cmp, atoms_cmp}
use Rattle.fill_tree.specs.Tree.{SourceTree, AtomTree, Atoms, col, select, constant, whole, sub}
use Rattle.fill_tree.proofs.TreeOrder.{source_total, exact_sources, atom_total, exact_atoms, atoms_total}
use Rattle.fill_arena.specs.Contents.{In, SomeIn}
use Rattle.fill_arena.specs.Stands.{AtomStands, ConditionsFit, PlaceStands, SourceFits, SourceStands, ConstantFits, PartFits, PartStands}
use Rattle.fill_arena.specs.WellMade.{IsWellMade, IsAtomItem, IsSelectItem}
use Rattle.fill_arena.specs.declared.entry.AtomItem.{AtomItem}
use Rattle.fill_arena.specs.declared.entry.AtomItem.TheVariants.{Const, Whole, Sub}
use Rattle.fill_arena.specs.declared.entry.Entry.{Entry}
use Rattle.fill_arena.specs.declared.entry.Entry.TheVariants.{Places, Atoms as kind_Atoms}
use Rattle.fill_arena.specs.declared.entry.SelectItem.{SelectItem}
use Rattle.fill_arena.specs.declared.entry.SourceItem.TheVariants.{Col, Select}
use Rattle.fill_arena.proofs.Costs.{atom_item_present, place_in, source_item_present}
use Rattle.fill_arena.proofs.Stand.{atom_items, items_atom}
use Rattle.fill_best.specs.Cheapest.{Priced, AreCheapest}
use Rattle.fill_best.specs.Costs.{by_cost, linked}
use Rattle.fill_best.specs.First.{AreFirst, IsMade}
use Rattle.fill_best.specs.Parts.{BoundsStand, bounds_cmp, bounds_cost, bounds_total, exact_bounds, exact_targets, exact_whole, bounds_of, lookup_by_parts, lookup_of, piece_of, target_cmp, target_total, whole_by_parts, whole_cmp, whole_of, whole_total}
use Rattle.fill_best.specs.declared.costed.Costed.{Costed}
use Rattle.fill_best.specs.declared.parts.Bounds.{Bounds}
use Rattle.fill_best.specs.declared.parts.Target.{Target}
use Rattle.fill_best.specs.declared.parts.WholeText.{WholeText}
use Rattle.fill_best.proofs.Takes.{cheapest_one, first_of_made, made_cheap, takes_all}

-- places
pub listed_place : (places : List Place) (p : Place) → In p places → SomeIn (λ y. y ≡ p) places
listed_place places p h = (p, h, refl)

pub place_listed : (places : List Place) (p : Place) → SomeIn (λ y. y ≡ p) places → In p places
place_listed places p h = subst (λ q. In q places) h.2 h.1

module _ (c : List Entry) (s : ℕ) (places : List Place) (is : slice_get c s ≡ Some (Places places)) where
  pub place_stands : (p : Place) → In p places → PlaceStands c s p
  place_stands p h = (places, is, h)

  pub stands_place : (p : Place) → PlaceStands c s p → In p places
  stands_place p h = let there = h.1 in let e : h.0 ≡ places = cc in subst (λ ps. In p ps) e h.2

-- a column, and a constant
pub column_fits : (c : List Entry) (m : ℕ) (x : SourceTree) → col m ≡ x → SourceFits x c (Col m)
column_fits c m x e = subst (λ y. SourceFits y c (Col m)) e refl

pub fits_column : (c : List Entry) (m : ℕ) (x : SourceTree) → SourceFits x c (Col m) → col m ≡ x
fits_column c m (col n) h = ap col h
fits_column c m (select a b d cs) h = absurd h

pub constant_fits_it : (c : List Entry) (t : List ℕ) (a : AtomTree) → constant t ≡ a → ConstantFits c (Const t) a
constant_fits_it c t a e = subst (ConstantFits c (Const t)) e ((λ h. h), refl)

pub fits_constant : (c : List Entry) (t : List ℕ) (a : AtomTree) → ConstantFits c (Const t) a → constant t ≡ a
fits_constant c t (constant u) h = ap constant h.1
fits_constant c t (whole x) h = absurd h.1
fits_constant c t (sub x p q) h = absurd h.1

-- no part fits in a constant, and no constant in another item
pub no_part : (c : List Entry) (t : List ℕ) (a : AtomTree) → ¬ (PartFits c (Const t) a)
no_part c t (constant u) h = h.0
no_part c t (whole x) h = h.1
no_part c t (sub x p q) h = h.1

pub no_constant_else : (c : List Entry) (i : AtomItem) → ((t : List ℕ) → i ≡ Const t → ⊥) → (a : AtomTree) → ¬ (ConstantFits c i a)
no_constant_else c (Const t) other a h = other t refl
no_constant_else c (Whole b) other (constant u) h = h.1
no_constant_else c (Whole b) other (whole x) h = h.0 tt
no_constant_else c (Whole b) other (sub x p q) h = h.1
no_constant_else c (Sub b l r) other (constant u) h = h.1
no_constant_else c (Sub b l r) other (whole x) h = h.1
no_constant_else c (Sub b l r) other (sub x p q) h = h.0 tt

-- an atom of a set is no constant, or one of the set's constants
module _ (c : List Entry) (s : ℕ) (items : List AtomItem) (is : slice_get c s ≡ Some (kind_Atoms items)) where
  constant_listed : (a : AtomTree) → ¬ (IsPart a) → AtomStands c s a → SomeIn (λ i. ConstantFits c i a) items
  constant_listed a no_part stands = atom_items c s items is (λ b. ¬ (IsPart b)) a (no_part, stands)

  pub part_or_constant : (a : AtomTree) → AtomStands c s a → PartStands c s a ⊎ SomeIn (λ i. ConstantFits c i a) items
  part_or_constant (constant t) h = inr (constant_listed (constant t) (λ p. p) h)
  part_or_constant (whole x) h = inl (tt, h)
  part_or_constant (sub x p q) h = inl (tt, h)

  pub constant_stands : (a : AtomTree) → SomeIn (λ i. ConstantFits c i a) items → AtomStands c s a
  constant_stands a h = (items_atom c s items is (λ b. ¬ (IsPart b)) a h).1

-- the bounds of a piece
module _ (prices : Prices) (small : ArePrices prices) (c : List Entry) (l r : ℕ) (k : ℕ) (xs ys : List (Costed Place)) (lefts : AreCheapest (place_cost prices) place_cmp (PlaceStands c l) k xs) (rights : AreCheapest (place_cost prices) place_cmp (PlaceStands c r) k ys) where
  pub first_bounds : (old zs : List (Costed Bounds)) → old ≡ [] → AreFirst (by_cost bounds_cmp) (λ z. Contains old z ⊎ IsMade (linked bounds_of 0) (Contains xs) (Contains ys) z) k zs →
      AreCheapest (bounds_cost prices) bounds_cmp (BoundsStand c l r) k zs
  first_bounds old zs empty made =
      takes_all (bounds_cost prices) bounds_cmp bounds_total exact_bounds k (BoundsStand c l r) old zs empty
      (first_of_made place_cmp place_cmp bounds_cmp (place_total, place_total, bounds_total) exact_bounds bounds_of (λ a b p q. refl) 0 (place_cost prices) (place_cost prices) (bounds_cost prices)
      (PlaceStands c l) (PlaceStands c r) (BoundsStand c l r) (λ a b p q. (p, q)) (λ b h. (b.left, b.right, h.0, h.1, refl)) (λ a b p q. omega arith) k xs ys lefts rights (Contains old) zs made)

  pub bounds_cheap : IsWellMade c → (x y : Costed Place) → Contains xs x → Contains ys y → 0 + x.cost + y.cost < 2 ^ 64
  bounds_cheap made x y left right =
      let p = lefts.have x left in
      let q = rights.have y right in
      let first = place_in prices small c made l x.item p.1 in
      let second = place_in prices small c made r y.item q.1 in
      let one = p.0 in
      let two = q.0 in
      omega arith

-- the lookups of an item
module _ (prices : Prices) (small : ArePrices prices) (c : List Entry) (i : SelectItem) (k : ℕ) (some : 1 ≤ k) (ys : List (Costed Atoms)) (rows : AreCheapest (conditions_cost prices) atoms_cmp (λ p. HasPart p × ConditionsFit p c i.conditions) k ys) where
  abbrev pub target : Target
  target = record { column = i.column; table = i.table; key = i.key }

  abbrev pub targets : List (Costed Target)
  targets = record { cost = 0; item = target } ∷ []

  no_cost : Target → ℕ
  no_cost t = 0

  only : AreCheapest (λ t. 0) target_cmp (λ t. target ≡ t) k targets
  only = cheapest_one (λ t. 0) target_cmp target_total exact_targets k (λ t. target ≡ t) target 0 some refl refl (λ b e. e)

  lookup_fits : (t : Target) (p : Atoms) → target ≡ t → HasPart p × ConditionsFit p c i.conditions → SourceFits (lookup_of t p) c (Select i)
  lookup_fits t p e h = subst (λ u. SourceFits (lookup_of u p) c (Select i)) e (refl, refl, refl, h.0, h.1)

  fits_lookup : (x : SourceTree) → SourceFits x c (Select i) → IsMade lookup_of (λ t. target ≡ t) (λ p. HasPart p × ConditionsFit p c i.conditions) x
  fits_lookup (col n) h = absurd h
  fits_lookup (select a b d p) h =
      let column : i.column ≡ a = h.0 in
      let table : i.table ≡ b = h.1 in
      let key : i.key ≡ d = h.2 in
      (target, p, refl, (h.3, h.4), λ j. select (column j) (table j) (key j) p)

  pub first_lookups : (C : Costed SourceTree → Type 0) (zs : List (Costed SourceTree)) → AreFirst (by_cost source_cmp) (λ z. C z ⊎ IsMade (linked lookup_of prices.lookup) (Contains targets) (Contains ys) z) k zs →
      AreFirst (by_cost source_cmp) (λ z. C z ⊎ Priced (source_cost prices) (λ x. SourceFits x c (Select i)) z) k zs
  first_lookups = first_of_made target_cmp atoms_cmp source_cmp (target_total, atoms_total, source_total) exact_sources lookup_of lookup_by_parts prices.lookup (λ t. 0) (conditions_cost prices) (source_cost prices)
      (λ t. target ≡ t) (λ p. HasPart p × ConditionsFit p c i.conditions) (λ x. SourceFits x c (Select i)) lookup_fits fits_lookup (λ t p e h. omega arith) k targets ys only rows

  pub lookups_cheap : (n : ℕ) → IsWellMade c → IsSelectItem c n i → (x : Costed Target) (y : Costed Atoms) → Contains targets x → Contains ys y → prices.lookup + x.cost + y.cost < 2 ^ 64
  lookups_cheap n made is = made_cheap target_cmp atoms_cmp source_cmp (target_total, atoms_total, source_total) exact_sources lookup_of lookup_by_parts prices.lookup (λ t. 0) (conditions_cost prices) (source_cost prices)
      (λ t. target ≡ t) (λ p. HasPart p × ConditionsFit p c i.conditions) (λ x. SourceFits x c (Select i)) lookup_fits fits_lookup (λ t p e h. omega arith) k targets ys only rows
      (λ x fits. source_item_present prices small c made x n (Select i) is fits)

-- whole sources, and pieces of them
module _ (prices : Prices) (small : ArePrices prices) (c : List Entry) (b : ℕ) (k : ℕ) (xs : List (Costed SourceTree)) (sources : AreCheapest (source_cost prices) source_cmp (SourceStands c b) k xs) where
  abbrev pub all_text : List (Costed WholeText)
  all_text = record { cost = 0; item = record {} } ∷ []

  module _ (some : 1 ≤ k) where
    the_text : AreCheapest (λ w. 0) whole_cmp (λ w. Unit {0}) k all_text
    the_text = cheapest_one (λ w. 0) whole_cmp whole_total exact_whole k (λ w. Unit {0}) (record {}) 0 some refl tt (λ w h. refl)

    fits_whole : (a : AtomTree) → PartFits c (Whole b) a → IsMade whole_of (SourceStands c b) (λ w. Unit {0}) a
    fits_whole (constant u) h = absurd h.1
    fits_whole (whole x) h = (x, record {}, h.1, tt, refl)
    fits_whole (sub x p q) h = absurd h.1

    pub first_wholes : (C : Costed AtomTree → Type 0) (zs : List (Costed AtomTree)) → AreFirst (by_cost atom_cmp) (λ z. C z ⊎ IsMade (linked whole_of prices.whole) (Contains xs) (Contains all_text) z) k zs →
        AreFirst (by_cost atom_cmp) (λ z. C z ⊎ Priced (atom_cost prices) (PartFits c (Whole b)) z) k zs
    first_wholes = first_of_made source_cmp whole_cmp atom_cmp (source_total, whole_total, atom_total) exact_atoms whole_of whole_by_parts prices.whole (source_cost prices) (λ w. 0) (atom_cost prices)
        (SourceStands c b) (λ w. Unit {0}) (PartFits c (Whole b)) (λ x w s u. (tt, s)) fits_whole (λ x w s u. omega arith) k xs all_text sources the_text

    pub wholes_cheap : (n : ℕ) → IsWellMade c → IsAtomItem c n (Whole b) → (x : Costed SourceTree) (y : Costed WholeText) → Contains xs x → Contains all_text y → prices.whole + x.cost + y.cost < 2 ^ 64
    wholes_cheap n made is = made_cheap source_cmp whole_cmp atom_cmp (source_total, whole_total, atom_total) exact_atoms whole_of whole_by_parts prices.whole (source_cost prices) (λ w. 0) (atom_cost prices)
        (SourceStands c b) (λ w. Unit {0}) (PartFits c (Whole b)) (λ x w s u. (tt, s)) fits_whole (λ x w s u. omega arith) k xs all_text sources the_text
        (λ a fits. atom_item_present prices small c made a n (Whole b) is fits.1)

  module _ (l r : ℕ) (ys : List (Costed Bounds)) (bounds : AreCheapest (bounds_cost prices) bounds_cmp (BoundsStand c l r) k ys) where
    fits_piece : (a : AtomTree) → PartFits c (Sub b l r) a → IsMade piece_of (SourceStands c b) (BoundsStand c l r) a
    fits_piece (constant u) h = absurd h.1
    fits_piece (whole x) h = absurd h.1
    fits_piece (sub x p q) h = (x, record { left = p; right = q }, h.1.0, (h.1.1, h.1.2), refl)

    pub first_pieces : (C : Costed AtomTree → Type 0) (zs : List (Costed AtomTree)) → AreFirst (by_cost atom_cmp) (λ z. C z ⊎ IsMade (linked piece_of prices.piece) (Contains xs) (Contains ys) z) k zs →
        AreFirst (by_cost atom_cmp) (λ z. C z ⊎ Priced (atom_cost prices) (PartFits c (Sub b l r)) z) k zs
    first_pieces = first_of_made source_cmp bounds_cmp atom_cmp (source_total, bounds_total, atom_total) exact_atoms piece_of (λ a b p q. refl) prices.piece (source_cost prices) (bounds_cost prices) (atom_cost prices)
        (SourceStands c b) (BoundsStand c l r) (PartFits c (Sub b l r)) (λ x w s u. (tt, (s, u.0, u.1))) fits_piece (λ x w s u. omega arith) k xs ys sources bounds

    pub pieces_cheap : (n : ℕ) → IsWellMade c → IsAtomItem c n (Sub b l r) → (x : Costed SourceTree) (y : Costed Bounds) → Contains xs x → Contains ys y → prices.piece + x.cost + y.cost < 2 ^ 64
    pieces_cheap n made is = made_cheap source_cmp bounds_cmp atom_cmp (source_total, bounds_total, atom_total) exact_atoms piece_of (λ a b p q. refl) prices.piece (source_cost prices) (bounds_cost prices) (atom_cost prices)
        (SourceStands c b) (BoundsStand c l r) (PartFits c (Sub b l r)) (λ x w s u. (tt, (s, u.0, u.1))) fits_piece (λ x w s u. omega arith) k xs ys sources bounds
        (λ a fits. atom_item_present prices small c made a n (Sub b l r) is fits.1)

pub text_cheap : (prices : Prices) (small : ArePrices prices) (t : List ℕ) → length t ≤ 100 → atom_cost prices (constant t) < 2 ^ 64
text_cheap prices small t short = atom_item_present prices small [] (λ n e h. absurd cc) (constant t) 0 (Const t) short refl
