-- Something stands in each set, and what stands in a set by the set's items.
use Rattle.std.proofs.Common.{◌≡◌, ◌↔◌, ℕ, List, Some, slice_get, refl, subst}
use Rattle.fill_tokens.specs.declared.place.Place.{Place}
use Rattle.fill_tree.specs.Tree.{SourceTree, AtomTree, col, constant, whole, sub}
use Rattle.fill_arena.specs.Contents.{In, SomeIn, IsAtomSet, IsPlaceSet}
use Rattle.fill_arena.specs.Stands.{AtomFits, AtomStands, PlaceStands, SourceFits, SourceStands}
use Rattle.fill_arena.specs.WellMade.{IsWellMade, IsSourceItem, IsAtomItem}
use Rattle.fill_arena.specs.declared.entry.AtomItem.{AtomItem}
use Rattle.fill_arena.specs.declared.entry.AtomItem.TheVariants as atom
use Rattle.fill_arena.specs.declared.entry.Entry.{Entry}
use Rattle.fill_arena.specs.declared.entry.Entry.TheVariants.{Places, Sources, Atoms}
use Rattle.fill_arena.specs.declared.entry.SourceItem.{SourceItem}
use Rattle.fill_arena.specs.declared.entry.SourceItem.TheVariants.{Col, Select}
use Rattle.fill_arena.proofs.Lists.{get_there}

module _ (c : List Entry) (s : ℕ) (items : List AtomItem) (is : slice_get c s ≡ Some (Atoms items)) where
  pub atom_items : (a : AtomTree) → AtomStands c s a → SomeIn (AtomFits a c) items
  atom_items a h = let there = h.1 in let e : h.0 ≡ items = cc in subst (λ xs. SomeIn (AtomFits a c) xs) e h.2

  pub items_atom : (a : AtomTree) → SomeIn (AtomFits a c) items → AtomStands c s a
  items_atom a h = (items, is, h)

module _ (c : List Entry) (s : ℕ) (items : List SourceItem) (is : slice_get c s ≡ Some (Sources items)) where
  pub source_items : (x : SourceTree) → SourceStands c s x → SomeIn (SourceFits x c) items
  source_items x h = let there = h.1 in let e : h.0 ≡ items = cc in subst (λ xs. SomeIn (SourceFits x c) xs) e h.2

  pub items_source : (x : SourceTree) → SomeIn (SourceFits x c) items → SourceStands c s x
  items_source x h = (items, is, h)

pub place_items : (c : List Entry) (s : ℕ) (places : List Place) → slice_get c s ≡ Some (Places places) → (p : Place) → PlaceStands c s p ↔ In p places
place_items c s places is p = (
  (λ h. let there = h.1 in let e : h.0 ≡ places = cc in subst (λ ps. In p ps) e h.2),
  (λ h. (places, is, h)),
)

pub place_stands : (c : List Entry) → IsWellMade c → (s : ℕ) → IsPlaceSet c s → (p : Place) × PlaceStands c s p
place_stands c made s live = let p = get_there live.0 0 (made s (Places live.0) live.1).some in (p.0, (live.0, live.1, (0, p.1)))

source_stands : (c : List Entry) → IsWellMade c → (s : ℕ) (items : List SourceItem) → slice_get c s ≡ Some (Sources items) → (x : SourceTree) × SourceStands c s x
source_stands c made s items is =
    let all = made s (Sources items) is in
    let first = get_there items 0 all.some in
    let one = fits first.0 (all.each 0 first.0 first.1) in
    (one.0, (items, is, (first.0, (0, first.1), one.1)))
  where
    fits : (i : SourceItem) → IsSourceItem c s i → (x : SourceTree) × SourceFits x c i
    fits (Col m) h = (col m, refl)
    fits (Select i) h = h.filled

pub atom_stands : (c : List Entry) → IsWellMade c → (s : ℕ) → IsAtomSet c s → (a : AtomTree) × AtomStands c s a
atom_stands c made s live =
    let all = made s (Atoms live.0) live.1 in
    let first = get_there live.0 0 all.some in
    let one = fits first.0 (all.each 0 first.0 first.1) in
    (one.0, (live.0, live.1, (first.0, (0, first.1), one.1)))
  where
    fits : (i : AtomItem) → IsAtomItem c s i → (a : AtomTree) × AtomFits a c i
    fits (atom.Const t) h = (constant t, refl)
    fits (atom.Whole b) h = let x = source_stands c made b h.0.0 h.0.1 in (whole x.0, x.1)
    fits (atom.Sub b l r) h =
        let x = source_stands c made b h.0.0.0 h.0.0.1 in
        let p = get_there h.1.0.0 0 (made l (Places h.1.0.0) h.1.0.1).some in
        let q = get_there h.2.0.0 0 (made r (Places h.2.0.0) h.2.0.1).some in
        (sub x.0 p.0 q.0, (x.1, (h.1.0.0, h.1.0.1, (0, p.1)), (h.2.0.0, h.2.0.1, (0, q.1))))
