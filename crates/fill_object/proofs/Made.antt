-- What is made of trees that serve for a set serves for what is made of all of the set.
use Rattle.std.proofs.Common.{◌≡◌, ◌≢◌, ◌⊎◌, inl, inr, ℕ, List, Option, Some, slice_get, refl, sym, ap, subst}
use Rattle.fill_text.specs.Orders.{AtMost}
use Rattle.fill_tokens.specs.Value.{HasValue}
use Rattle.fill_tokens.specs.declared.place.Place.{Place}
use Rattle.fill_tokens.specs.declared.prices.Prices.{Prices}
use Rattle.fill_tree.specs.Meaning.{program_tree, source_tree}
use Rattle.fill_tree.specs.Tree.{SourceTree, AtomTree, col, select, constant, whole, sub}
use Rattle.fill_tree.specs.Value.{IsValue, SourceIs, ConditionsAre}
use Rattle.fill_tree.specs.declared.tree.Program.{Program}
use Rattle.fill_arena.specs.Contents.{SomeIn}
use Rattle.fill_arena.specs.Stands.{AtomFits, AtomStands, PlaceStands, SourceFits, SourceStands, ConstantFits, PartFits, PartStands}
use Rattle.fill_arena.specs.declared.entry.AtomItem.TheVariants.{Const, Whole, Sub}
use Rattle.fill_arena.specs.declared.entry.AtomItem.{AtomItem}
use Rattle.fill_arena.specs.declared.entry.Entry.{Entry}
use Rattle.fill_arena.specs.declared.entry.Entry.TheVariants.{Atoms as Listed}
use Rattle.fill_arena.specs.declared.entry.SelectItem.{SelectItem}
use Rattle.fill_arena.specs.declared.entry.SourceItem.TheVariants.{Col, Select}
use Rattle.fill_tree.specs.Order.{place_rank, source_rank}
use Rattle.fill_arena.proofs.Best.{at_most-itself}
use Rattle.fill_tree.proofs.Ranked.{source_rank-total, source_rank-exact, place_rank-total, place_rank-exact}
use Rattle.fill_object.specs.Kinds.{atoms_on, sources_on, spots_in}
use Rattle.fill_object.specs.Leasts.{AreLeasts}
use Rattle.fill_object.specs.Pieces.{IsPieceBetweenSpots, IsPieceOf, text_or_empty}
use Rattle.fill_object.specs.Rows.{AreRows, IsSelectBy}
use Rattle.fill_object.specs.declared.row.OnRow.{OnRow}
use Rattle.fill_object.specs.declared.valued.Spot.{Spot}
use Rattle.fill_object.specs.declared.valued.ValuedAtom.{ValuedAtom}
use Rattle.fill_object.specs.declared.valued.ValuedSource.{ValuedSource}
use Rattle.fill_object.proofs.Alike.{same_value, whole_alike, piece_alike, places_alike, lookup_alike, source_for, atom_for}
use Rattle.fill_object.proofs.Orders.{whole-at_most, sub-at_most, select-at_most}

place-itself : (prices : Prices) (p : Place) → AtMost (place_rank prices p p)
place-itself prices p = at_most-itself (place_rank prices) (place_rank-total prices) (place_rank-exact prices) p

source-itself : (prices : Prices) (x : SourceTree) → AtMost (source_rank prices x x)
source-itself prices x = at_most-itself (source_rank prices) (source_rank-total prices) (source_rank-exact prices) x

module _ (on : OnRow) where
  abbrev SourceGives : SourceTree → List ℕ → Type 0
  SourceGives x = SourceIs on.sheet.now on.tables.now on.row x

  -- wholes of sources
  module _ (s : ℕ) (sources : List ValuedSource) (are : AreLeasts (sources_on on) (SourceStands on.arena.now s) sources) where
    pub whole_fits : (a : AtomTree) → SomeIn (λ x. a ≡ whole (source_tree x.source)) sources → PartFits on.arena.now (Whole s) a
    whole_fits a h = subst (PartFits on.arena.now (Whole s)) (sym h.2) (tt, (are.each h.1.0 h.0 h.1.1).0)

    pub fits_whole : (a : AtomTree) → PartFits on.arena.now (Whole s) a →
        (b : AtomTree) × SomeIn (λ x. b ≡ whole (source_tree x.source)) sources × ((x : ValuedAtom) → (atoms_on on).For b x → (atoms_on on).For a x)
    fits_whole (constant t) h = absurd h.0
    fits_whole (whole y) h =
        let found = are.least y h.1 in
        let x = found.0 in
        let right = (are.each found.1.0 x found.1.1).1 in
        let same = same_value (SourceGives (source_tree x.source)) (SourceGives y) x.text right found.2.1 in (
          whole (source_tree x.source),
          (x, found.1, refl),
          atom_for on (whole y) (whole (source_tree x.source)) (whole-at_most on.prices.now (source_tree x.source) y found.2.0) (whole_alike (SourceGives (source_tree x.source)) (SourceGives y) same),
        )
    fits_whole (sub y p q) h = absurd h.1

    -- pieces of sources between places of two sets
    module _ (l r : ℕ) where
      pub piece_fits : (a : AtomTree) → SomeIn (λ x. IsPieceOf on.arena.now (source_tree x.source) l r a) sources → PartFits on.arena.now (Sub s l r) a
      piece_fits (constant t) h = absurd h.2
      piece_fits (whole y) h = absurd h.2
      piece_fits (sub y p q) h = (tt, (subst (SourceStands on.arena.now s) (sym h.2.0) (are.each h.1.0 h.0 h.1.1).0, h.2.1, h.2.2))

      pub fits_piece : (a : AtomTree) → PartFits on.arena.now (Sub s l r) a →
          (b : AtomTree) × SomeIn (λ x. IsPieceOf on.arena.now (source_tree x.source) l r b) sources × ((x : ValuedAtom) → (atoms_on on).For b x → (atoms_on on).For a x)
      fits_piece (constant t) h = absurd h.0
      fits_piece (whole y) h = absurd h.1
      fits_piece (sub y p q) h =
          let found = are.least y h.1.0 in
          let x = found.0 in
          let right = (are.each found.1.0 x found.1.1).1 in
          let same = same_value (SourceGives (source_tree x.source)) (SourceGives y) x.text right found.2.1 in (
            sub (source_tree x.source) p q,
            (x, found.1, (refl, h.1.1, h.1.2)),
            atom_for on (sub y p q) (sub (source_tree x.source) p q) (sub-at_most on.prices.now (source_tree x.source) y p q p q found.2.0 (place-itself on.prices.now p) (place-itself on.prices.now q))
                (piece_alike (SourceGives (source_tree x.source)) (SourceGives y) same p q),
          )

  -- pieces of one source
  module _ (x : SourceTree) (o : Option (List ℕ)) (is : IsValue (SourceIs on.sheet.now on.tables.now on.row x) o) (l r : ℕ) (lefts rights : List Spot)
      (from : AreLeasts (spots_in on.prices.now (text_or_empty o)) (PlaceStands on.arena.now l) lefts) (to : AreLeasts (spots_in on.prices.now (text_or_empty o)) (PlaceStands on.arena.now r) rights) where
    pub between_of : (a : AtomTree) → IsPieceBetweenSpots x lefts rights a → IsPieceOf on.arena.now x l r a
    between_of a h =
        let p = h.0 in
        let q = h.2.0 in
        subst (IsPieceOf on.arena.now x l r) (sym h.2.2) (refl, (from.each h.1.0 p h.1.1).0, (to.each h.2.1.0 q h.2.1.1).0)

    pub of_between : (a : AtomTree) → IsPieceOf on.arena.now x l r a →
        (b : AtomTree) × IsPieceBetweenSpots x lefts rights b × ((v : ValuedAtom) → (atoms_on on).For b v → (atoms_on on).For a v)
    of_between (constant t) h = absurd h
    of_between (whole y) h = absurd h
    of_between (sub y p q) h =
        let left = from.least p h.1 in
        let right = to.least q h.2 in
        let same_left = same_value (HasValue left.0.place (text_or_empty o)) (HasValue p (text_or_empty o)) left.0.at (from.each left.1.0 left.0 left.1.1).1 left.2.1 in
        let same_right = same_value (HasValue right.0.place (text_or_empty o)) (HasValue q (text_or_empty o)) right.0.at (to.each right.1.0 right.0 right.1.1).1 right.2.1 in
        let served = atom_for on (sub x p q) (sub x left.0.place right.0.place) (sub-at_most on.prices.now x x left.0.place right.0.place p q (source-itself on.prices.now x) left.2.0 right.2.0)
        (places_alike (SourceGives x) o is left.0.place right.0.place p q same_left same_right) in (
          sub x left.0.place right.0.place,
          (left.0, left.1, (right.0, right.1, refl)),
          subst (λ z. (v : ValuedAtom) → (atoms_on on).For (sub x left.0.place right.0.place) v → (atoms_on on).For (sub z p q) v) (sym h.0) served,
        )

  -- lookups by rows of conditions
  module _ (i : SelectItem) (rows : List Program) (are : AreRows on i.conditions rows) where
    pub select_fits : (y : SourceTree) → SomeIn (λ r. IsSelectBy i r y) rows → SourceFits y on.arena.now (Select i)
    select_fits y h = subst (λ z. SourceFits z on.arena.now (Select i)) (sym h.2.1) (refl, refl, refl, h.2.0, (are.each h.1.0 h.0 h.1.1).0)

    pub fits_select : (y : SourceTree) → SourceFits y on.arena.now (Select i) →
        (b : SourceTree) × SomeIn (λ r. IsSelectBy i r b) rows × ((v : ValuedSource) → (sources_on on).For b v → (sources_on on).For y v)
    fits_select (col n) h = absurd h
    fits_select (select a b d q) h =
        let found = are.least q h.4 in
        let r = program_tree found.0 in
        let made = select i.column i.table i.key r in
        let served = source_for on (select i.column i.table i.key q) (select i.column i.table i.key r) (select-at_most on.prices.now i.column i.table i.key r q found.2.at_most)
        (lookup_alike on.tables.now i.column i.table i.key (ConditionsAre on.sheet.now on.tables.now on.row r) (ConditionsAre on.sheet.now on.tables.now on.row q) found.2.texts) in (
          select i.column i.table i.key r,
          (found.0, found.1, (found.2.part h.3, refl)),
          subst (λ k. (v : ValuedSource) → (sources_on on).For (select i.column i.table i.key r) v → (sources_on on).For (select k b d q) v) h.0
              (subst (λ k. (v : ValuedSource) → (sources_on on).For (select i.column i.table i.key r) v → (sources_on on).For (select i.column k d q) v) h.1
              (subst (λ k. (v : ValuedSource) → (sources_on on).For (select i.column i.table i.key r) v → (sources_on on).For (select i.column i.table k q) v) h.2 served)),
        )

pub column_fits : (on : OnRow) (n : ℕ) (x : SourceTree) → x ≡ col n → SourceFits x on.arena.now (Col n)
column_fits on n x e = subst (λ y. SourceFits y on.arena.now (Col n)) (sym e) refl

pub fits_column : (on : OnRow) (n : ℕ) (x : SourceTree) → SourceFits x on.arena.now (Col n) → x ≡ col n
fits_column on n (col m) h = ap col (sym h)
fits_column on n (select a b d q) h = absurd h

-- constants
pub constant_fits_it : (c : List Entry) (t : List ℕ) (a : AtomTree) → a ≡ constant t → ConstantFits c (Const t) a
constant_fits_it c t a e = subst (ConstantFits c (Const t)) (sym e) ((λ h. h), refl)

pub fits_constant : (c : List Entry) (t : List ℕ) (a : AtomTree) → ConstantFits c (Const t) a → a ≡ constant t
fits_constant c t (constant u) h = ap constant (sym h.1)
fits_constant c t (whole x) h = absurd h.1
fits_constant c t (sub x p q) h = absurd h.1

pub no_constant_else : (c : List Entry) (i : AtomItem) → ((t : List ℕ) → i ≢ Const t) → (a : AtomTree) → ¬ (ConstantFits c i a)
no_constant_else c (Const u) other a h = other u refl
no_constant_else c (Whole s) other (constant t) h = h.1
no_constant_else c (Whole s) other (whole x) h = h.0 tt
no_constant_else c (Whole s) other (sub x p q) h = h.0 tt
no_constant_else c (Sub s l r) other (constant t) h = h.1
no_constant_else c (Sub s l r) other (whole x) h = h.0 tt
no_constant_else c (Sub s l r) other (sub x p q) h = h.0 tt

-- no constant is a part
pub no_part : (c : List Entry) (t : List ℕ) (a : AtomTree) → ¬ (PartFits c (Const t) a)
no_part c t (constant u) h = h.0
no_part c t (whole x) h = h.1
no_part c t (sub x p q) h = h.1

module _ (c : List Entry) (s : ℕ) (items : List AtomItem) (is : slice_get c s ≡ Some (Listed items)) where
  pub constant_stands : (a : AtomTree) → SomeIn (λ i. ConstantFits c i a) items → AtomStands c s a
  constant_stands a h = (items, is, (h.0, h.1, h.2.1))

  fitting : (a : AtomTree) → AtomStands c s a → SomeIn (AtomFits a c) items
  fitting a h = let there = h.1 in let e : h.0 ≡ items = cc in subst (λ xs. SomeIn (AtomFits a c) xs) e h.2

  pub part_or_constant : (a : AtomTree) → AtomStands c s a → PartStands c s a ⊎ SomeIn (λ i. ConstantFits c i a) items
  part_or_constant (constant t) h = let f = fitting (constant t) h in inr (f.0, f.1, ((λ p. p), f.2))
  part_or_constant (whole x) h = inl (tt, h)
  part_or_constant (sub x p q) h = inl (tt, h)
