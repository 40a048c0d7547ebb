-- What stands in a set, by the set's items.
use Rattle.std.proofs.Common.{◌≡◌, ℕ, List, [], Some, slice_get, subst}
use Rattle.fill_tokens.specs.declared.place.Place.{Place}
use Rattle.fill_tokens.specs.declared.prices.Prices.{Prices}
use Rattle.fill_tree.specs.Grammar.{HasPart}
use Rattle.fill_tree.specs.Tree.{SourceTree, AtomTree, Atoms, end, more}
use Rattle.fill_arena.specs.Contents.{In, SomeIn}
use Rattle.fill_arena.specs.Stands.{AtomFits, AtomStands, ConditionsFit, PlaceStands, SourceFits, SourceStands}
use Rattle.fill_arena.specs.declared.entry.AtomItem.{AtomItem}
use Rattle.fill_arena.specs.declared.entry.Entry.{Entry}
use Rattle.fill_arena.specs.declared.entry.Entry.TheVariants as kind
use Rattle.fill_arena.specs.declared.entry.SourceItem.{SourceItem}
use Rattle.fill_arena.specs.Best.{IsBest}
use Rattle.fill_tree.specs.Order.{place_rank}

pub place_best : (prices : Prices) (c : List Entry) (s : ℕ) (places : List Place) (x : Place) → slice_get c s ≡ Some (kind.Places places) →
    IsBest (place_rank prices) (λ p. In p places) x → IsBest (place_rank prices) (PlaceStands c s) x
place_best prices c s places x is best = record {
  has = (places, is, best.has);
  least = λ y h. let there = h.1 in let e : h.0 ≡ places = cc in best.least y (subst (λ ps. In y ps) e h.2);
}

module _ (c : List Entry) (s : ℕ) (items : List AtomItem) (is : slice_get c s ≡ Some (kind.Atoms items)) (Q : AtomTree → Type 0) where
  pub atom_items : (a : AtomTree) → Q a × AtomStands c s a → SomeIn (λ x. Q a × AtomFits a c x) items
  atom_items a h =
      let there = h.1.1 in
      let e : h.1.0 ≡ items = cc in
      let in_them = subst (λ xs. SomeIn (AtomFits a c) xs) e h.1.2 in
      (in_them.0, in_them.1, (h.0, in_them.2))

  pub items_atom : (a : AtomTree) → SomeIn (λ x. Q a × AtomFits a c x) items → Q a × AtomStands c s a
  items_atom a h = (h.2.0, (items, is, (h.0, h.1, h.2.1)))

module _ (c : List Entry) (s : ℕ) (items : List SourceItem) (is : slice_get c s ≡ Some (kind.Sources items)) where
  pub source_items : (x : SourceTree) → SourceStands c s x → SomeIn (SourceFits x c) items
  source_items x h = let there = h.1 in let e : h.0 ≡ items = cc in subst (λ xs. SomeIn (SourceFits x c) xs) e h.2

  pub items_source : (x : SourceTree) → SomeIn (SourceFits x c) items → SourceStands c s x
  items_source x h = (items, is, h)

-- no row without conditions has a part
pub no_row_mixed : (c : List Entry) (p : Atoms) → ¬ (HasPart p × ConditionsFit p c [])
no_row_mixed c end h = h.0
no_row_mixed c (more a q) h = h.1
