-- What stands for the same in two arenas, of which one has the entries of the other under other numbers.
use Rattle.std.proofs.Common.{◌≡◌, ℕ, zero, suc, ◌-◌, List, [], ◌∷◌, Option, Some, None, slice_get, refl, sym, ap, ◌∙◌, subst}
use Rattle.std.specs.List.{AllZip}
use Rattle.fill_tokens.specs.declared.place.Place.{Place}
use Rattle.fill_tree.specs.Tree.{SourceTree, AtomTree, Atoms, col, select, constant, whole, sub, end, more}
use Rattle.fill_arena.specs.Contents.{In}
use Rattle.fill_arena.specs.Copied.{AtomBecomes, Becomes, ConditionBecomes, EdgeBecomes, EntryBecomes, OptionBecomes, SourceBecomes}
use Rattle.fill_arena.specs.Named.{Leads, option_names, condition_names, source_names, atom_names, edge_names, entry_names}
use Rattle.fill_arena.specs.Stands.{PlaceStands, SomeSource, SomeAtom, IsPartOf, ConditionFits, AtomFits, SourceFits, ConditionsFit, ProgramStands, Walks}
use Rattle.fill_arena.specs.declared.entry.Edge.{Edge}
use Rattle.fill_arena.specs.declared.entry.Entry.{Entry}
use Rattle.fill_arena.specs.declared.entry.Entry.TheVariants as kind
use Rattle.fill_arena.specs.declared.entry.SourceItem.{SourceItem}
use Rattle.fill_arena.specs.declared.entry.SourceItem.TheVariants.{Col, Select}
use Rattle.fill_arena.specs.declared.entry.AtomItem.{AtomItem}
use Rattle.fill_arena.specs.declared.entry.AtomItem.TheVariants.{Const, Whole, Sub}
use Rattle.fill_arena.specs.declared.entry.ConditionItem.{ConditionItem}
use Rattle.fill_arena.proofs.Zips.{flat_zip, zip_flip, zip_get}

-- the same the other way round, and for a relation that holds more often
module _ (R S : ℕ → ℕ → Type 0) (back : (s n : ℕ) → R s n → S n s) where
  option_flip : (o p : Option ℕ) → OptionBecomes R o p → OptionBecomes S p o
  option_flip None None h = tt
  option_flip None (Some n) h = absurd h
  option_flip (Some s) None h = absurd h
  option_flip (Some s) (Some n) h = back s n h

  condition_flip : (i j : ConditionItem) → ConditionBecomes R i j → ConditionBecomes S j i
  condition_flip i j h = (sym h.0, option_flip i.atoms j.atoms h.1)

  pub source_flip : (x y : SourceItem) → SourceBecomes R x y → SourceBecomes S y x
  source_flip (Col m) (Col n) h = sym h
  source_flip (Col m) (Select j) h = absurd h
  source_flip (Select i) (Col n) h = absurd h
  source_flip (Select i) (Select j) h = (sym h.0, sym h.1, sym h.2, zip_flip (ConditionBecomes R) (ConditionBecomes S) condition_flip i.conditions j.conditions h.3)

  atom_flip : (x y : AtomItem) → AtomBecomes R x y → AtomBecomes S y x
  atom_flip (Const t) (Const u) h = sym h
  atom_flip (Const t) (Whole n) h = absurd h
  atom_flip (Const t) (Sub n l r) h = absurd h
  atom_flip (Whole s) (Const u) h = absurd h
  atom_flip (Whole s) (Whole n) h = back s n h
  atom_flip (Whole s) (Sub n l r) h = absurd h
  atom_flip (Sub s p q) (Const u) h = absurd h
  atom_flip (Sub s p q) (Whole n) h = absurd h
  atom_flip (Sub s p q) (Sub n l r) h = (back s n h.0, back p l h.1, back q r h.2)

  pub edge_flip : (e f : Edge) → EdgeBecomes R e f → EdgeBecomes S f e
  edge_flip e f h = (sym h.0, sym h.1, back e.atoms f.atoms h.2)

  pub entry_flip : (e f : Entry) → EntryBecomes R e f → EntryBecomes S f e
  entry_flip (kind.Places places) (kind.Places others) h = sym h
  entry_flip (kind.Places places) (kind.Sources others) h = absurd h
  entry_flip (kind.Places places) (kind.Atoms others) h = absurd h
  entry_flip (kind.Places places) (kind.Graph nodes edges) h = absurd h
  entry_flip (kind.Sources items) (kind.Places others) h = absurd h
  entry_flip (kind.Sources items) (kind.Sources others) h = zip_flip (SourceBecomes R) (SourceBecomes S) source_flip items others h
  entry_flip (kind.Sources items) (kind.Atoms others) h = absurd h
  entry_flip (kind.Sources items) (kind.Graph nodes edges) h = absurd h
  entry_flip (kind.Atoms items) (kind.Places others) h = absurd h
  entry_flip (kind.Atoms items) (kind.Sources others) h = absurd h
  entry_flip (kind.Atoms items) (kind.Atoms others) h = zip_flip (AtomBecomes R) (AtomBecomes S) atom_flip items others h
  entry_flip (kind.Atoms items) (kind.Graph nodes edges) h = absurd h
  entry_flip (kind.Graph nodes edges) (kind.Places others) h = absurd h
  entry_flip (kind.Graph nodes edges) (kind.Sources others) h = absurd h
  entry_flip (kind.Graph nodes edges) (kind.Atoms others) h = absurd h
  entry_flip (kind.Graph nodes edges) (kind.Graph others ends) h = (sym h.0, zip_flip (EdgeBecomes R) (EdgeBecomes S) edge_flip edges ends h.1)

pub entry_weaker : (R S : ℕ → ℕ → Type 0) → ((s n : ℕ) → R s n → S s n) → (e f : Entry) → EntryBecomes R e f → EntryBecomes S e f
entry_weaker R S f d e h =
    let there : ℕ → ℕ → Type 0 = λ n s. R s n in
    entry_flip there S (λ n s r. f s n r) e d (entry_flip R there (λ s n r. r) d e h)

-- what becomes of an entry of each kind
pub from_places : (R : ℕ → ℕ → Type 0) (f : Entry) (places : List Place) → EntryBecomes R (kind.Places places) f → f ≡ kind.Places places
from_places R (kind.Places others) places h = ap kind.Places (sym h)
from_places R (kind.Sources others) places h = absurd h
from_places R (kind.Atoms others) places h = absurd h
from_places R (kind.Graph nodes edges) places h = absurd h

pub from_sources : (R : ℕ → ℕ → Type 0) (f : Entry) (items : List SourceItem) → EntryBecomes R (kind.Sources items) f → (others : List SourceItem) × (f ≡ kind.Sources others) × AllZip (SourceBecomes R) items others
from_sources R (kind.Places others) items h = absurd h
from_sources R (kind.Sources others) items h = (others, refl, h)
from_sources R (kind.Atoms others) items h = absurd h
from_sources R (kind.Graph nodes edges) items h = absurd h

pub from_atoms : (R : ℕ → ℕ → Type 0) (f : Entry) (items : List AtomItem) → EntryBecomes R (kind.Atoms items) f → (others : List AtomItem) × (f ≡ kind.Atoms others) × AllZip (AtomBecomes R) items others
from_atoms R (kind.Places others) items h = absurd h
from_atoms R (kind.Sources others) items h = absurd h
from_atoms R (kind.Atoms others) items h = (others, refl, h)
from_atoms R (kind.Graph nodes edges) items h = absurd h

pub from_graph : (R : ℕ → ℕ → Type 0) (f : Entry) (nodes : ℕ) (edges : List Edge) → EntryBecomes R (kind.Graph nodes edges) f → (ends : List Edge) × (f ≡ kind.Graph nodes ends) × AllZip (EdgeBecomes R) edges ends
from_graph R (kind.Places others) nodes edges h = absurd h
from_graph R (kind.Sources others) nodes edges h = absurd h
from_graph R (kind.Atoms others) nodes edges h = absurd h
from_graph R (kind.Graph others ends) nodes edges h = (ends, ap (λ n. kind.Graph n ends) (sym h.0), h.1)

-- a number is named after as before
module _ (R : ℕ → ℕ → Type 0) where
  option_names_become : (o p : Option ℕ) → OptionBecomes R o p → (s : ℕ) → In s (option_names o) → (n : ℕ) × R s n × In n (option_names p)
  option_names_become None p h s there = absurd (let e = there.1 in cc)
  option_names_become (Some a) None h s there = absurd h
  option_names_become (Some a) (Some b) h s there = one_of there.0 there.1
    where
      one_of : (k : ℕ) → slice_get (a ∷ []) k ≡ Some s → (n : ℕ) × R s n × In n (b ∷ [])
      one_of zero e = let same : a ≡ s = cc in (b, subst (λ t. R t b) same h, (0, refl))
      one_of (suc k) e = absurd cc

  condition_names_become : (i j : ConditionItem) → ConditionBecomes R i j → (s : ℕ) → In s (condition_names i) → (n : ℕ) × R s n × In n (condition_names j)
  condition_names_become i j h s there = option_names_become i.atoms j.atoms h.1 s there

  source_names_become : (x y : SourceItem) → SourceBecomes R x y → (s : ℕ) → In s (source_names x) → (n : ℕ) × R s n × In n (source_names y)
  source_names_become (Col m) y h s there = absurd (let e = there.1 in cc)
  source_names_become (Select i) (Col n) h s there = absurd h
  source_names_become (Select i) (Select j) h s there = flat_zip (ConditionBecomes R) R condition_names condition_names_become i.conditions j.conditions h.3 s there

  three : (a b c x y z : ℕ) → R a x → R b y → R c z → (s k : ℕ) → slice_get (a ∷ b ∷ c ∷ []) k ≡ Some s → (n : ℕ) × R s n × In n (x ∷ y ∷ z ∷ [])
  three a b c x y z f g h s zero e = let same : a ≡ s = cc in (x, subst (λ t. R t x) same f, (0, refl))
  three a b c x y z f g h s (suc zero) e = let same : b ≡ s = cc in (y, subst (λ t. R t y) same g, (1, refl))
  three a b c x y z f g h s (suc (suc zero)) e = let same : c ≡ s = cc in (z, subst (λ t. R t z) same h, (2, refl))
  three a b c x y z f g h s (suc (suc (suc k))) e = absurd cc

  atom_names_become : (x y : AtomItem) → AtomBecomes R x y → (s : ℕ) → In s (atom_names x) → (n : ℕ) × R s n × In n (atom_names y)
  atom_names_become (Const t) y h s there = absurd (let e = there.1 in cc)
  atom_names_become (Whole a) (Const u) h s there = absurd h
  atom_names_become (Whole a) (Whole b) h s there = option_names_become (Some a) (Some b) h s there
  atom_names_become (Whole a) (Sub n l r) h s there = absurd h
  atom_names_become (Sub a p q) (Const u) h s there = absurd h
  atom_names_become (Sub a p q) (Whole n) h s there = absurd h
  atom_names_become (Sub a p q) (Sub n l r) h s there = three a p q n l r h.0 h.1 h.2 s there.0 there.1

  edge_names_become : (e f : Edge) → EdgeBecomes R e f → (s : ℕ) → In s (edge_names e) → (n : ℕ) × R s n × In n (edge_names f)
  edge_names_become e f h s there = option_names_become (Some e.atoms) (Some f.atoms) h.2 s there

  pub names_become : (e f : Entry) → EntryBecomes R e f → (s : ℕ) → In s (entry_names e) → (n : ℕ) × R s n × In n (entry_names f)
  names_become (kind.Places places) f h s there = absurd (let e = there.1 in cc)
  names_become (kind.Sources items) f h s there =
      let o = from_sources R f items h in
      subst (λ g. (n : ℕ) × R s n × In n (entry_names g)) (sym o.1) (flat_zip (SourceBecomes R) R source_names source_names_become items o.0 o.2 s there)
  names_become (kind.Atoms items) f h s there =
      let o = from_atoms R f items h in
      subst (λ g. (n : ℕ) × R s n × In n (entry_names g)) (sym o.1) (flat_zip (AtomBecomes R) R atom_names atom_names_become items o.0 o.2 s there)
  names_become (kind.Graph nodes edges) f h s there =
      let o = from_graph R f nodes edges h in
      subst (λ g. (n : ℕ) × R s n × In n (entry_names g)) (sym o.1) (flat_zip (EdgeBecomes R) R edge_names edge_names_become edges o.0 o.2 s there)

module _ (c d : List Entry) (R : ℕ → ℕ → Type 0) (right : (s n : ℕ) → R s n → Becomes c d R s n) where
  -- a set of each kind, and a graph, becomes one
  entry_of : (s n : ℕ) (e : Entry) → R s n → slice_get c s ≡ Some e → (f : Entry) × (slice_get d n ≡ Some f) × EntryBecomes R e f
  entry_of s n e r at =
      let w = right s n r in
      let first = w.2 in
      let same : w.0 ≡ e = cc in
      (w.1, w.3, subst (λ x. EntryBecomes R x w.1) same w.4)

  pub places_of : (s n : ℕ) (places : List Place) → R s n → slice_get c s ≡ Some (kind.Places places) → slice_get d n ≡ Some (kind.Places places)
  places_of s n places r at = let w = entry_of s n (kind.Places places) r at in w.1 ∙ ap Some (from_places R w.0 places w.2)

  pub sources_of : (s n : ℕ) (items : List SourceItem) → R s n → slice_get c s ≡ Some (kind.Sources items) → (others : List SourceItem) × (slice_get d n ≡ Some (kind.Sources others)) × AllZip (SourceBecomes R) items others
  sources_of s n items r at =
      let w = entry_of s n (kind.Sources items) r at in
      let o = from_sources R w.0 items w.2 in
      (o.0, w.1 ∙ ap Some o.1, o.2)

  pub atoms_of : (s n : ℕ) (items : List AtomItem) → R s n → slice_get c s ≡ Some (kind.Atoms items) → (others : List AtomItem) × (slice_get d n ≡ Some (kind.Atoms others)) × AllZip (AtomBecomes R) items others
  atoms_of s n items r at =
      let w = entry_of s n (kind.Atoms items) r at in
      let o = from_atoms R w.0 items w.2 in
      (o.0, w.1 ∙ ap Some o.1, o.2)

  pub graph_of : (s n nodes : ℕ) (edges : List Edge) → R s n → slice_get c s ≡ Some (kind.Graph nodes edges) → (ends : List Edge) × (slice_get d n ≡ Some (kind.Graph nodes ends)) × AllZip (EdgeBecomes R) edges ends
  graph_of s n nodes edges r at =
      let w = entry_of s n (kind.Graph nodes edges) r at in
      let o = from_graph R w.0 nodes edges w.2 in
      (o.0, w.1 ∙ ap Some o.1, o.2)

  -- what stands in the one stands in the other
  place_moves : (s n : ℕ) (p : Place) → R s n → PlaceStands c s p → PlaceStands d n p
  place_moves s n p r h = (h.0, places_of s n h.0 r h.1, h.2)

  sources_move : (P Q : SourceItem → Type 0) → ((x y : SourceItem) → SourceBecomes R x y → P x → Q y) → (s n : ℕ) → R s n → SomeSource c s P → SomeSource d n Q
  sources_move P Q f s n r h =
      let o = sources_of s n h.0 r h.1 in
      let y = zip_get (SourceBecomes R) h.0 o.0 o.2 h.2.1.0 h.2.0 h.2.1.1 in
      (o.0, o.1, (y.0, (h.2.1.0, y.1), f h.2.0 y.0 y.2 h.2.2))

  atoms_move : (P Q : AtomItem → Type 0) → ((x y : AtomItem) → AtomBecomes R x y → P x → Q y) → (s n : ℕ) → R s n → SomeAtom c s P → SomeAtom d n Q
  atoms_move P Q f s n r h =
      let o = atoms_of s n h.0 r h.1 in
      let y = zip_get (AtomBecomes R) h.0 o.0 o.2 h.2.1.0 h.2.0 h.2.1.1 in
      (o.0, o.1, (y.0, (h.2.1.0, y.1), f h.2.0 y.0 y.2 h.2.2))

  option_moves : (o p : Option ℕ) → OptionBecomes R o p → (s : ℕ) → o ≡ Some s → (n : ℕ) × (p ≡ Some n) × R s n
  option_moves None p h s e = absurd cc
  option_moves (Some a) None h s e = absurd h
  option_moves (Some a) (Some b) h s e = let same : a ≡ s = cc in (b, refl, subst (λ t. R t b) same h)

  part_moves : (P Q : AtomItem → Type 0) → ((x y : AtomItem) → AtomBecomes R x y → P x → Q y) → (i j : ConditionItem) → ConditionBecomes R i j → IsPartOf c i P → IsPartOf d j Q
  part_moves P Q f i j b h =
      let n = option_moves i.atoms j.atoms b.1 h.0 h.1 in
      (n.0, n.1, atoms_move P Q f h.0 n.0 n.2 h.2)

  condition_moves : (a : AtomTree) (P Q : AtomItem → Type 0) → ((x y : AtomItem) → AtomBecomes R x y → P x → Q y) → (i j : ConditionItem) → ConditionBecomes R i j → ConditionFits a c i P → ConditionFits a d j Q
  condition_moves (constant t) P Q f i j b h = sym b.0 ∙ h
  condition_moves (whole s) P Q f i j b h = part_moves P Q f i j b h
  condition_moves (sub s p q) P Q f i j b h = part_moves P Q f i j b h

  mutual
    atom_moves : (a : AtomTree) (x y : AtomItem) → AtomBecomes R x y → AtomFits a c x → AtomFits a d y
    atom_moves (constant t) (Const u) (Const v) b h = sym b ∙ h
    atom_moves (constant t) (Const u) (Whole n) b h = absurd b
    atom_moves (constant t) (Const u) (Sub n l r) b h = absurd b
    atom_moves (constant t) (Whole m) y b h = absurd h
    atom_moves (constant t) (Sub m i j) y b h = absurd h
    atom_moves (whole s) (Const u) y b h = absurd h
    atom_moves (whole s) (Whole m) (Const v) b h = absurd b
    atom_moves (whole s) (Whole m) (Whole n) b h = sources_move (SourceFits s c) (SourceFits s d) (source_moves s) m n b h
    atom_moves (whole s) (Whole m) (Sub n l r) b h = absurd b
    atom_moves (whole s) (Sub m i j) y b h = absurd h
    atom_moves (sub s p q) (Const u) y b h = absurd h
    atom_moves (sub s p q) (Whole m) y b h = absurd h
    atom_moves (sub s p q) (Sub m i j) (Const v) b h = absurd b
    atom_moves (sub s p q) (Sub m i j) (Whole n) b h = absurd b
    atom_moves (sub s p q) (Sub m i j) (Sub n l r) b h =
        (sources_move (SourceFits s c) (SourceFits s d) (source_moves s) m n b.0 h.0, place_moves i l p b.1 h.1, place_moves j r q b.2 h.2)

    pub source_moves : (s : SourceTree) (x y : SourceItem) → SourceBecomes R x y → SourceFits s c x → SourceFits s d y
    source_moves (col k) (Col m) (Col n) b h = sym b ∙ h
    source_moves (col k) (Col m) (Select j) b h = absurd b
    source_moves (col k) (Select i) y b h = absurd h
    source_moves (select column table key conditions) (Col m) y b h = absurd h
    source_moves (select column table key conditions) (Select i) (Col n) b h = absurd b
    source_moves (select column table key conditions) (Select i) (Select j) b h =
        (sym b.0 ∙ h.0, sym b.1 ∙ h.1, sym b.2 ∙ h.2, h.3, conditions_move conditions i.conditions j.conditions b.3 h.4)

    conditions_move : (cs : Atoms) (is js : List ConditionItem) → AllZip (ConditionBecomes R) is js → ConditionsFit cs c is → ConditionsFit cs d js
    conditions_move end [] [] z h = tt
    conditions_move end [] (j ∷ js) z h = absurd z
    conditions_move end (i ∷ is) js z h = absurd h
    conditions_move (more a rest) [] js z h = absurd h
    conditions_move (more a rest) (i ∷ is) [] z h = absurd z
    conditions_move (more a rest) (i ∷ is) (j ∷ js) z h =
        (condition_moves a (AtomFits a c) (AtomFits a d) (atom_moves a) i j z.0 h.0, conditions_move rest is js z.1 h.1)

  walks_move : (es fs : List Edge) → AllZip (EdgeBecomes R) es fs → (last : ℕ) (p : Atoms) (at : ℕ) → Walks p c es last at → Walks p d fs last at
  walks_move es fs z last end at h = h
  walks_move es fs z last (more a rest) at h =
      let f = zip_get (EdgeBecomes R) es fs z h.1.0 h.0 h.1.1 in
      let on = walks_move es fs z last rest h.0.to h.2.2 in (
        f.0,
        (h.1.0, f.1),
        (sym f.2.0 ∙ h.2.0, atoms_move (AtomFits a c) (AtomFits a d) (atom_moves a) h.0.atoms f.0.atoms f.2.2 h.2.1, subst (λ t. Walks rest d fs last t) f.2.1 on),
      )

  pub program_moves : (s n : ℕ) (p : Atoms) → R s n → ProgramStands c s p → ProgramStands d n p
  program_moves s n p r h =
      let o = graph_of s n h.0 h.1 r h.2 in
      (h.0, o.0, o.1, walks_move h.1 o.0 o.2 (h.0 - 1) p 0 h.3)

  -- what is named by a number is named by the new one under a new one
  pub chain_moves : (chain : List ℕ) (m n from : ℕ) → R m from → Leads c m chain n → (to : ℕ) × (others : List ℕ) × R n to × Leads d from others to
  chain_moves [] m n from r h = (from, [], subst (λ t. R t from) h r, refl)
  chain_moves (k ∷ rest) m n from r h =
      let f = entry_of m from h.0.0 r h.0.1 in
      let next = names_become R h.0.0 f.0 f.2 k h.0.2 in
      let on = chain_moves rest k n next.0 next.1 h.1 in
      (on.0, next.0 ∷ on.1, on.2, ((f.0, f.1, next.2), on.3))

-- the other way round
pub becomes_back : (c d : List Entry) (R : ℕ → ℕ → Type 0) → ((s n : ℕ) → R s n → Becomes c d R s n) → (n s : ℕ) → R s n → Becomes d c (λ k t. R t k) n s
becomes_back c d R right n s r =
    let w = right s n r in
    (w.1, w.0, w.3, w.2, entry_flip R (λ k t. R t k) (λ t k h. h) w.0 w.1 w.4)
