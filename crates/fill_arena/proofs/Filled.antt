-- Something stands in each set of an arena, and some program in each graph.
use Rattle.std.proofs.Common.{◌≡◌, ℕ, ◌-◌, List, [], ◌∷◌, Some, slice_get, refl}
use Rattle.fill_tokens.specs.declared.place.Place.{Place}
use Rattle.fill_tree.specs.Tree.{SourceTree, AtomTree, Atoms, col, constant, whole, sub, end, more}
use Rattle.fill_arena.specs.Contents.{In, IsPlaceSet, IsSourceSet, IsAtomSet, IsGraph}
use Rattle.fill_arena.specs.Stands.{AtomFits, AtomStands, PlaceStands, ProgramStands, SourceFits, SourceStands, Walks}
use Rattle.fill_arena.specs.WellMade.{IsWellMade, IsSourceItem, IsAtomItem, Path}
use Rattle.fill_arena.specs.declared.entry.AtomItem.{AtomItem}
use Rattle.fill_arena.specs.declared.entry.AtomItem.TheVariants as atom
use Rattle.fill_arena.specs.declared.entry.Edge.{Edge}
use Rattle.fill_arena.specs.declared.entry.Entry.{Entry}
use Rattle.fill_arena.specs.declared.entry.Entry.TheVariants as kind
use Rattle.fill_arena.specs.declared.entry.SourceItem.{SourceItem}
use Rattle.fill_arena.specs.declared.entry.SourceItem.TheVariants.{Col, Select}
use Rattle.fill_arena.proofs.Lists.{get_there}

module _ (c : List Entry) (made : IsWellMade c) where
  pub place_filled : (s : ℕ) → IsPlaceSet c s → (p : Place) × PlaceStands c s p
  place_filled s live =
      let first = get_there live.0 0 (made s (kind.Places live.0) live.1).some in
      (first.0, (live.0, live.1, (0, first.1)))

  source_item_filled : (n : ℕ) (i : SourceItem) → IsSourceItem c n i → (x : SourceTree) × SourceFits x c i
  source_item_filled n (Col m) h = (col m, refl)
  source_item_filled n (Select i) h = h.filled

  pub source_filled : (s : ℕ) → IsSourceSet c s → (x : SourceTree) × SourceStands c s x
  source_filled s live =
      let all = made s (kind.Sources live.0) live.1 in
      let first = get_there live.0 0 all.some in
      let one = source_item_filled s first.0 (all.each 0 first.0 first.1) in
      (one.0, (live.0, live.1, (first.0, (0, first.1), one.1)))

  pub atom_item_filled : (n : ℕ) (i : AtomItem) → IsAtomItem c n i → (a : AtomTree) × AtomFits a c i
  atom_item_filled n (atom.Const t) h = (constant t, refl)
  atom_item_filled n (atom.Whole b) h = let x = source_filled b h.0 in (whole x.0, x.1)
  atom_item_filled n (atom.Sub b l r) h =
      let x = source_filled b h.0.0 in
      let p = place_filled l h.1.0 in
      let q = place_filled r h.2.0 in
      (sub x.0 p.0 q.0, (x.1, p.1, q.1))

  pub atom_filled : (s : ℕ) → IsAtomSet c s → (a : AtomTree) × AtomStands c s a
  atom_filled s live =
      let all = made s (kind.Atoms live.0) live.1 in
      let first = get_there live.0 0 all.some in
      let one = atom_item_filled s first.0 (all.each 0 first.0 first.1) in
      (one.0, (live.0, live.1, (first.0, (0, first.1), one.1)))

  pub path_walks : (edges : List Edge) → ((f : Edge) → In f edges → IsAtomSet c f.atoms) → (path : List Edge) (from to : ℕ) → Path edges from path to → (p : Atoms) × Walks p c edges to from
  path_walks edges live [] from to h = (end, h)
  path_walks edges live (e ∷ rest) from to h =
      let a = atom_filled e.atoms (live e h.0) in
      let q = path_walks edges live rest e.to to h.2 in
      (more a.0 q.0, (e, h.0, (h.1, a.1, q.1)))

  pub graph_filled : (g nodes : ℕ) (edges : List Edge) → slice_get c g ≡ Some (kind.Graph nodes edges) → (p : Atoms) × Walks p c edges (nodes - 1) 0
  graph_filled g nodes edges is =
      let all = made g (kind.Graph nodes edges) is in
      let path = all.to_last 0 all.some in
      path_walks edges (λ f there. (all.each there.0 f there.1).atoms.0) path.0 0 (nodes - 1) path.1

  pub program_filled : (g : ℕ) → IsGraph c g → (p : Atoms) × ProgramStands c g p
  program_filled g live =
      let found = graph_filled g live.0 live.1 live.2 in
      (found.0, (live.0, live.1, live.2, found.1))
