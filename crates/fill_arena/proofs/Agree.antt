-- What stands for the same in two arenas that agree below a number.
use Rattle.std.proofs.Common.{◌≡◌, ℕ, suc, ◌<◌, ◌≤◌, List, [], ◌∷◌, Option, Some, None, slice_get, refl, ◌∙◌, subst, arith}
use Rattle.std.specs.Option.{IfSome}
use Rattle.fill_tokens.specs.declared.place.Place.{Place}
use Rattle.fill_tree.specs.Tree.{SourceTree, AtomTree, Atoms, col, select, constant, whole, sub, end, more}
use Rattle.fill_arena.specs.Contents.{EachIn}
use Rattle.fill_arena.specs.Stands.{PlaceStands, SomeSource, SomeAtom, IsPartOf, ConditionFits, AtomFits, SourceFits, ConditionsFit}
use Rattle.fill_arena.specs.declared.entry.Entry.{Entry}
use Rattle.fill_arena.specs.declared.entry.Entry.TheVariants as kind
use Rattle.fill_arena.specs.declared.entry.SourceItem.{SourceItem}
use Rattle.fill_arena.specs.declared.entry.SourceItem.TheVariants.{Col, Select}
use Rattle.fill_arena.specs.declared.entry.AtomItem.{AtomItem}
use Rattle.fill_arena.specs.declared.entry.AtomItem.TheVariants.{Const, Whole, Sub}
use Rattle.fill_arena.specs.declared.entry.ConditionItem.{ConditionItem}

-- all numbers that an item names are below n
abbrev pub ConditionBelow : ℕ → ConditionItem → Type 0
ConditionBelow n i = IfSome i.atoms (λ s. s < n)

abbrev pub SourceBelow : ℕ → SourceItem → Type 0
SourceBelow n (Col m) = Unit {0}
SourceBelow n (Select i) = EachIn (ConditionBelow n) i.conditions

abbrev pub AtomBelow : ℕ → AtomItem → Type 0
AtomBelow n (Const t) = Unit {0}
AtomBelow n (Whole s) = s < n
AtomBelow n (Sub s p q) = (s < n) × (p < n) × (q < n)

abbrev pub EntryBelow : ℕ → Entry → Type 0
EntryBelow n (kind.Places places) = Unit {0}
EntryBelow n (kind.Sources items) = EachIn (SourceBelow n) items
EntryBelow n (kind.Atoms items) = EachIn (AtomBelow n) items
EntryBelow n (kind.Graph nodes edges) = Unit {0}

module _ (c d : List Entry) (n : ℕ) (agree : (s : ℕ) → s < n → slice_get d s ≡ slice_get c s) (older : (s : ℕ) (e : Entry) → s < n → slice_get c s ≡ Some e → EntryBelow s e) where
  pub place_agrees : (s : ℕ) (p : Place) → s < n → PlaceStands c s p → PlaceStands d s p
  place_agrees s p lt h = (h.0, agree s lt ∙ h.1, h.2)

  pub sources_agree : (P Q : SourceItem → Type 0) → ((m : ℕ) → m ≤ n → (x : SourceItem) → SourceBelow m x → P x → Q x) → (b : ℕ) → b < n → SomeSource c b P → SomeSource d b Q
  sources_agree P Q f b lt h =
      let below = older b (kind.Sources h.0) lt h.1 in
      (h.0, agree b lt ∙ h.1, (h.2.0, h.2.1, f b (omega arith) h.2.0 (below h.2.1.0 h.2.0 h.2.1.1) h.2.2))

  pub atoms_agree : (P Q : AtomItem → Type 0) → ((m : ℕ) → m ≤ n → (x : AtomItem) → AtomBelow m x → P x → Q x) → (b : ℕ) → b < n → SomeAtom c b P → SomeAtom d b Q
  atoms_agree P Q f b lt h =
      let below = older b (kind.Atoms h.0) lt h.1 in
      (h.0, agree b lt ∙ h.1, (h.2.0, h.2.1, f b (omega arith) h.2.0 (below h.2.1.0 h.2.0 h.2.1.1) h.2.2))

  some_below : (o : Option ℕ) (m s : ℕ) → IfSome o (λ t. t < m) → o ≡ Some s → s < m
  some_below None m s h e = cc
  some_below (Some t) m s h e = let same : t ≡ s = cc in subst (λ u. u < m) same h

  part_agrees : (P Q : AtomItem → Type 0) → ((m : ℕ) → m ≤ n → (x : AtomItem) → AtomBelow m x → P x → Q x) → (m : ℕ) → m ≤ n → (i : ConditionItem) → ConditionBelow m i → IsPartOf c i P → IsPartOf d i Q
  part_agrees P Q f m le i below h =
      let lt = some_below i.atoms m h.0 below h.1 in
      (h.0, h.1, atoms_agree P Q f h.0 (omega arith) h.2)

  condition_agrees : (a : AtomTree) (P Q : AtomItem → Type 0) → ((m : ℕ) → m ≤ n → (x : AtomItem) → AtomBelow m x → P x → Q x) → (m : ℕ) → m ≤ n → (i : ConditionItem) → ConditionBelow m i
      → ConditionFits a c i P → ConditionFits a d i Q
  condition_agrees (constant t) P Q f m le i below h = h
  condition_agrees (whole s) P Q f m le i below h = part_agrees P Q f m le i below h
  condition_agrees (sub s p q) P Q f m le i below h = part_agrees P Q f m le i below h

  mutual
    pub atom_agrees : (a : AtomTree) (m : ℕ) → m ≤ n → (x : AtomItem) → AtomBelow m x → AtomFits a c x → AtomFits a d x
    atom_agrees (constant t) m le (Const u) below h = h
    atom_agrees (constant t) m le (Whole b) below h = h
    atom_agrees (constant t) m le (Sub b ps qs) below h = h
    atom_agrees (whole s) m le (Const u) below h = h
    atom_agrees (whole s) m le (Whole b) below h = sources_agree (SourceFits s c) (SourceFits s d) (source_agrees s) b (omega arith) h
    atom_agrees (whole s) m le (Sub b ps qs) below h = h
    atom_agrees (sub s p q) m le (Const u) below h = h
    atom_agrees (sub s p q) m le (Whole b) below h = h
    atom_agrees (sub s p q) m le (Sub b ps qs) below h =
        let first = below.0 in
        let second = below.1 in
        let third = below.2 in
        (sources_agree (SourceFits s c) (SourceFits s d) (source_agrees s) b (omega arith) h.0, place_agrees ps p (omega arith) h.1, place_agrees qs q (omega arith) h.2)

    pub source_agrees : (s : SourceTree) (m : ℕ) → m ≤ n → (x : SourceItem) → SourceBelow m x → SourceFits s c x → SourceFits s d x
    source_agrees (col k) m le (Col j) below h = h
    source_agrees (col k) m le (Select i) below h = h
    source_agrees (select column table key conditions) m le (Col j) below h = h
    source_agrees (select column table key conditions) m le (Select i) below h = (h.0, h.1, h.2, h.3, conditions_agree conditions m le i.conditions below h.4)

    pub conditions_agree : (cs : Atoms) (m : ℕ) → m ≤ n → (is : List ConditionItem) → EachIn (ConditionBelow m) is → ConditionsFit cs c is → ConditionsFit cs d is
    conditions_agree end m le [] below h = h
    conditions_agree end m le (i ∷ is) below h = h
    conditions_agree (more a rest) m le [] below h = h
    conditions_agree (more a rest) m le (i ∷ is) below h =
        (condition_agrees a (AtomFits a c) (AtomFits a d) (atom_agrees a) m le i (below 0 i refl) h.0, conditions_agree rest m le is (λ k x e. below (suc k) x e) h.1)
