-- An arena stays well made when it grows and when it is cut, and its numbers stand for the same.
use Rattle.std.proofs.Common.{◌≡◌, ℕ, suc, ◌-◌, ◌<◌, ◌≤◌, ◌↔◌, List, [], ◌∷◌, ◌++◌, length, take, Option, Some, None, slice_get, inl, inr, sym, ◌∙◌, subst, arith}
use Rattle.std.specs.Option.{IfSome}
use Rattle.std.proofs.lemmas.Option.{slice_get_within}
use Rattle.fill_tokens.specs.declared.place.Place.{Place}
use Rattle.fill_tree.specs.Tree.{SourceTree, AtomTree, Atoms, end, more}
use Rattle.fill_arena.specs.Contents.{In, Extends, IsPlaceSet, IsSourceSet, IsAtomSet, IsGraph}
use Rattle.fill_arena.specs.Stands.{PlaceStands, SourceStands, AtomStands, ProgramStands, Walks, SourceFits, AtomFits}
use Rattle.fill_arena.specs.WellMade.{OlderPlaces, OlderSources, OlderAtoms, IsSourceItem, IsAtomItem, IsEntry, IsWellMade}
use Rattle.fill_arena.specs.declared.entry.Entry.{Entry}
use Rattle.fill_arena.specs.declared.entry.Entry.TheVariants as kind
use Rattle.fill_arena.specs.declared.entry.SourceItem.{SourceItem}
use Rattle.fill_arena.specs.declared.entry.SourceItem.TheVariants.{Col, Select}
use Rattle.fill_arena.specs.declared.entry.AtomItem.{AtomItem}
use Rattle.fill_arena.specs.declared.entry.AtomItem.TheVariants.{Const, Whole, Sub}
use Rattle.fill_arena.specs.declared.entry.Edge.{Edge}
use Rattle.fill_arena.proofs.Agree.{SourceBelow, AtomBelow, EntryBelow, atom_agrees, source_agrees, sources_agree, atoms_agree}
use Rattle.fill_arena.proofs.Lists.{get_left, get_pushed, get_taken, get_of_taken, extends_agree}

-- what an entry names is below its number
some_older : (c : List Entry) (o : Option ℕ) (n : ℕ) → IfSome o (OlderAtoms c n) → IfSome o (λ s. s < n)
some_older c None n h = h
some_older c (Some s) n h = h.1

source_below : (c : List Entry) (n : ℕ) (x : SourceItem) → IsSourceItem c n x → SourceBelow n x
source_below c n (Col m) h = tt
source_below c n (Select i) h = λ k x e. some_older c x.atoms n (h.older k x e)

pub atom_below : (c : List Entry) (n : ℕ) (x : AtomItem) → IsAtomItem c n x → AtomBelow n x
atom_below c n (Const t) h = tt
atom_below c n (Whole s) h = h.1
atom_below c n (Sub s p q) h = (h.0.1, h.1.1, h.2.1)

pub entry_below : (c : List Entry) (n : ℕ) (e : Entry) → IsEntry c n e → EntryBelow n e
entry_below c n (kind.Places places) h = tt
entry_below c n (kind.Sources items) h = λ k x e. source_below c n x (h.each k x e)
entry_below c n (kind.Atoms items) h = λ k x e. atom_below c n x (h.each k x e)
entry_below c n (kind.Graph nodes edges) h = tt

pub all_older : (c : List Entry) → IsWellMade c → (s : ℕ) (e : Entry) → slice_get c s ≡ Some e → EntryBelow s e
all_older c made s e h = entry_below c s e (made s e h)

-- entries of arenas that agree below them
module _ (c d : List Entry) (n : ℕ) (agree : (s : ℕ) → s < n → slice_get d s ≡ slice_get c s) (older : (s : ℕ) (e : Entry) → s < n → slice_get c s ≡ Some e → EntryBelow s e) where
  back : (s : ℕ) → s < n → slice_get c s ≡ slice_get d s
  back s lt = sym (agree s lt)

  older_there : (s : ℕ) (e : Entry) → s < n → slice_get d s ≡ Some e → EntryBelow s e
  older_there s e lt h = older s e lt (back s lt ∙ h)

  older_atoms : (s : ℕ) → OlderAtoms c n s → OlderAtoms d n s
  older_atoms s h = ((h.0.0, agree s h.1 ∙ h.0.1), h.1)

  older_sources : (s : ℕ) → OlderSources c n s → OlderSources d n s
  older_sources s h = ((h.0.0, agree s h.1 ∙ h.0.1), h.1)

  older_places : (s : ℕ) → OlderPlaces c n s → OlderPlaces d n s
  older_places s h = ((h.0.0, agree s h.1 ∙ h.0.1), h.1)

  option_along : (o : Option ℕ) → IfSome o (OlderAtoms c n) → IfSome o (OlderAtoms d n)
  option_along None h = h
  option_along (Some s) h = older_atoms s h

  source_along : (x : SourceItem) → IsSourceItem c n x → IsSourceItem d n x
  source_along (Col m) h = tt
  source_along (Select i) h =
      let below = source_below c n (Select i) h in
      record {
        some = h.some;
        few = h.few;
        older = λ k x e. option_along x.atoms (h.older k x e);
        filled = (h.filled.0, source_agrees c d n agree older h.filled.0 n (omega arith) (Select i) below h.filled.1);
        shallow = λ s fits. h.shallow s (source_agrees d c n back older_there s n (omega arith) (Select i) below fits);
      }

  atom_along : (x : AtomItem) → IsAtomItem c n x → IsAtomItem d n x
  atom_along (Const t) h = h
  atom_along (Whole s) h = older_sources s h
  atom_along (Sub s p q) h = (older_sources s h.0, older_places p h.1, older_places q h.2)

  pub entry_along : (e : Entry) → IsEntry c n e → IsEntry d n e
  entry_along (kind.Places places) h = h
  entry_along (kind.Sources items) h = record { some = h.some; each = λ k x e. source_along x (h.each k x e) }
  entry_along (kind.Atoms items) h = record { some = h.some; each = λ k x e. atom_along x (h.each k x e) }
  entry_along (kind.Graph nodes edges) h = record {
    some = h.some;
    each = λ k x e. let edge = h.each k x e in record { onward = edge.onward; within = edge.within; atoms = older_atoms x.atoms edge.atoms };
    from_first = h.from_first;
    to_last = h.to_last;
    short = h.short;
  }

-- one more entry
pub made_pushed : (c : List Entry) (e : Entry) → IsWellMade c → IsEntry c (length c) e → IsWellMade (c ++ e ∷ [])
made_pushed c e made is n x h = elim (get_pushed c e n x h) [
  | inl a ↦
      let lt = a.0 in
      entry_along c (c ++ e ∷ []) n (λ s less. get_left c (e ∷ []) s (omega arith)) (λ s y less. all_older c made s y) x (made n x a.1)
  | inr b ↦
      let moved = entry_along c (c ++ e ∷ []) (length c) (λ s less. get_left c (e ∷ []) s less) (λ s y less. all_older c made s y) e is in
      subst (λ y. IsEntry (c ++ e ∷ []) n y) b.1 (subst (λ m. IsEntry (c ++ e ∷ []) m e) (sym b.0) moved)
]

-- the first entries
pub made_taken : (c : List Entry) (m : ℕ) → IsWellMade c → IsWellMade (take m c)
made_taken c m made n x h =
    let there = get_of_taken m c n x h in
    let lt = there.0 in
    entry_along c (take m c) n (λ s less. get_taken m c s (omega arith)) (λ s y less. all_older c made s y) x (made n x there.1)

-- numbers of the smaller arena stand for the same in the larger one
module _ (c d : List Entry) (made : IsWellMade c) (extends : Extends c d) where
  pub agree_below : (n : ℕ) → n ≤ length c → (s : ℕ) → s < n → slice_get d s ≡ slice_get c s
  agree_below n le s lt = extends_agree c d n extends le s lt

  older_here : (n : ℕ) (s : ℕ) (e : Entry) → s < n → slice_get c s ≡ Some e → EntryBelow s e
  older_here n s e lt h = all_older c made s e h

  older_in_d : (n : ℕ) → n ≤ length c → (s : ℕ) (e : Entry) → s < n → slice_get d s ≡ Some e → EntryBelow s e
  older_in_d n le s e lt h = all_older c made s e (sym (agree_below n le s lt) ∙ h)

  pub places_stay : (s : ℕ) (p : Place) → IsPlaceSet c s → PlaceStands c s p ↔ PlaceStands d s p
  places_stay s p live =
      let there = extends s (kind.Places live.0) live.1 in
      ((λ h. (h.0, extends s (kind.Places h.0) h.1, h.2)), (λ h. (h.0, live.1 ∙ sym there ∙ h.1, h.2)))

  pub sources_stay : (s : ℕ) (x : SourceTree) → IsSourceSet c s → SourceStands c s x ↔ SourceStands d s x
  sources_stay s x live =
      let e = kind.Sources live.0 in
      let there = extends s e live.1 in
      let lt = slice_get_within c s e live.1 in
      let n = suc s in
      let agree = agree_below n lt in (
        (λ h. sources_agree c d n agree (older_here n) (SourceFits x c) (SourceFits x d) (source_agrees c d n agree (older_here n) x) s (omega arith) h),
        (λ h. sources_agree d c n (λ t less. sym (agree t less)) (older_in_d n lt) (SourceFits x d) (SourceFits x c)
            (source_agrees d c n (λ t less. sym (agree t less)) (older_in_d n lt) x) s (omega arith) h),
      )

  pub atoms_stay : (s : ℕ) (a : AtomTree) → IsAtomSet c s → AtomStands c s a ↔ AtomStands d s a
  atoms_stay s a live =
      let e = kind.Atoms live.0 in
      let lt = slice_get_within c s e live.1 in
      let n = suc s in
      let agree = agree_below n lt in (
        (λ h. atoms_agree c d n agree (older_here n) (AtomFits a c) (AtomFits a d) (atom_agrees c d n agree (older_here n) a) s (omega arith) h),
        (λ h. atoms_agree d c n (λ t less. sym (agree t less)) (older_in_d n lt) (AtomFits a d) (AtomFits a c)
            (atom_agrees d c n (λ t less. sym (agree t less)) (older_in_d n lt) a) s (omega arith) h),
      )

  walks_stay : (edges : List Edge) (last : ℕ) → ((e : Edge) → In e edges → IsAtomSet c e.atoms) → (p : Atoms) (at : ℕ) → Walks p c edges last at ↔ Walks p d edges last at
  walks_stay edges last live end at = ((λ h. h), (λ h. h))
  walks_stay edges last live (more a rest) at = (
    (λ h. (h.0, h.1, (h.2.0, (atoms_stay h.0.atoms a (live h.0 h.1)).0 h.2.1, (walks_stay edges last live rest h.0.to).0 h.2.2))),
    (λ h. (h.0, h.1, (h.2.0, (atoms_stay h.0.atoms a (live h.0 h.1)).1 h.2.1, (walks_stay edges last live rest h.0.to).1 h.2.2))),
  )

  pub programs_stay : (g : ℕ) (p : Atoms) → IsGraph c g → ProgramStands c g p ↔ ProgramStands d g p
  programs_stay g p live =
      let there = extends g (kind.Graph live.0 live.1) live.2 in
      let edges = (made g (kind.Graph live.0 live.1) live.2).each in (
        (λ h. (h.0, h.1, extends g (kind.Graph h.0 h.1) h.2, (walks_stay h.1 (h.0 - 1) (λ e is. ((made g (kind.Graph h.0 h.1) h.2).each is.0 e is.1).atoms.0) p 0).0 h.3)),
        (λ h.
            let here : slice_get c g ≡ Some (kind.Graph h.0 h.1) = live.2 ∙ sym there ∙ h.2 in
            (h.0, h.1, here, (walks_stay h.1 (h.0 - 1) (λ e is. ((made g (kind.Graph h.0 h.1) here).each is.0 e is.1).atoms.0) p 0).1 h.3)),
      )
