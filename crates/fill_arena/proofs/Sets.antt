-- What a set lists decides what stands in it.
use Rattle.std.proofs.Common.{◌≡◌, ℕ, suc, ◌-◌, ◌↔◌, List, [], ◌∷◌, length, map, Some, slice_get, refl, sym, ap, subst, ◌∙◌}
use Rattle.fill_tree.specs.Tree.{Atoms, atoms_of}
use Rattle.fill_tree.specs.Meaning.{atom_tree}
use Rattle.fill_tree.specs.declared.tree.Atom.{Atom}
use Rattle.fill_arena.specs.Contents.{SomeIn}
use Rattle.fill_arena.specs.Stands.{SomeAtom, SomeSource, ConditionsFit, Walks, ProgramStands}
use Rattle.fill_arena.specs.declared.entry.Entry.{Entry}
use Rattle.fill_arena.specs.declared.entry.Entry.TheVariants as kind
use Rattle.fill_arena.specs.declared.entry.SourceItem.{SourceItem}
use Rattle.fill_arena.specs.declared.entry.AtomItem.{AtomItem}
use Rattle.fill_arena.specs.declared.entry.ConditionItem.{ConditionItem}
use Rattle.fill_arena.specs.declared.entry.Edge.{Edge}

pub no_atom : (c : List Entry) (s : ℕ) (items : List AtomItem) (P : AtomItem → Type 0) → slice_get c s ≡ Some (kind.Atoms items) → ¬ (SomeIn P items) → ¬ (SomeAtom c s P)
no_atom c s items P at none h =
    let e : Some (kind.Atoms h.0) ≡ Some (kind.Atoms items) = sym h.1 ∙ at in
    let same : h.0 ≡ items = cc in
    none (subst (SomeIn P) same h.2)

pub no_source : (c : List Entry) (s : ℕ) (items : List SourceItem) (P : SourceItem → Type 0) → slice_get c s ≡ Some (kind.Sources items) → ¬ (SomeIn P items) → ¬ (SomeSource c s P)
no_source c s items P at none h =
    let e : Some (kind.Sources h.0) ≡ Some (kind.Sources items) = sym h.1 ∙ at in
    let same : h.0 ≡ items = cc in
    none (subst (SomeIn P) same h.2)

-- as many conditions as items
pub fit_lengths : (conditions : List Atom) (c : List Entry) (items : List ConditionItem) → ConditionsFit (atoms_of (map atom_tree conditions)) c items → length items ≡ length conditions
fit_lengths [] c [] h = refl
fit_lengths [] c (i ∷ is) h = absurd h
fit_lengths (a ∷ rest) c [] h = absurd h
fit_lengths (a ∷ rest) c (i ∷ is) h = ap suc (fit_lengths rest c is h.1)

-- a number has one graph
pub one_graph : (c : List Entry) (g n m : ℕ) (edges others : List Edge) → slice_get c g ≡ Some (kind.Graph n edges) → slice_get c g ≡ Some (kind.Graph m others) → (n ≡ m) × (edges ≡ others)
one_graph c g n m edges others at there =
    let e : Some (kind.Graph n edges) ≡ Some (kind.Graph m others) = sym at ∙ there in
    (cc, cc)

-- a program stands where it is on a walk of the graph
pub program_by_walk : (c : List Entry) (g n m : ℕ) (edges others : List Edge) (p : Atoms) (B : Type 0) → slice_get c g ≡ Some (kind.Graph n others) → slice_get c g ≡ Some (kind.Graph m edges)
    → B ↔ Walks p c edges (n - 1) 0 → B ↔ ProgramStands c g p
program_by_walk c g n m edges others p B at there both = (
  (λ b. let one = one_graph c g n m others edges at there in (n, edges, subst (λ k. slice_get c g ≡ Some (kind.Graph k edges)) (sym one.0) there, both.0 b)),
  (λ h.
      let first = one_graph c g h.0 n h.1 others h.2 at in
      let second = one_graph c g h.0 m h.1 edges h.2 there in
      both.1 (subst (λ k. Walks p c edges (k - 1) 0) first.0 (subst (λ es. Walks p c es (h.0 - 1) 0) second.1 h.3))),
)
