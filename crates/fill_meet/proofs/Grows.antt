-- What an arena has, and what was found in it, stays as it grows.
use Rattle.std.proofs.Common.{◌≡◌, ℕ, ◌≤◌, List, length, Option, Some, None, arith, subst}
use Rattle.std.specs.Option.{IfSome}
use Rattle.std.proofs.lemmas.Option.{slice_get_within}
use Rattle.fill_arena.specs.Contents.{EachIn, Extends, IsPlaceSet, IsSourceSet, IsAtomSet}
use Rattle.fill_arena.specs.Stands.{PlaceStands, SourceStands, AtomStands}
use Rattle.fill_arena.specs.WellMade.{OlderPlaces, OlderSources, OlderAtoms, IsConditionItem, IsAtomItem, IsSourceItem}
use Rattle.fill_arena.specs.declared.entry.Entry.{Entry}
use Rattle.fill_arena.specs.declared.entry.Entry.TheVariants as kind
use Rattle.fill_arena.specs.declared.entry.SourceItem.{SourceItem}
use Rattle.fill_arena.specs.declared.entry.SourceItem.TheVariants.{Col, Select}
use Rattle.fill_arena.specs.declared.entry.AtomItem.{AtomItem}
use Rattle.fill_arena.specs.declared.entry.AtomItem.TheVariants.{Const, Whole, Sub}
use Rattle.fill_arena.specs.declared.entry.ConditionItem.{ConditionItem}
use Rattle.fill_arena.proofs.Lists.{extends_on}
use Rattle.fill_meet.specs.Meet.{AreMet, AreApart}
use Rattle.fill_meet.specs.Sets.{NamesOlder, AreAtomsMet, PlaceSetsMeet, SourceSetsMeet, AtomSetsMeet}

-- a set is older than all that comes after it
pub places_within : (c : List Entry) (s : ℕ) → IsPlaceSet c s → OlderPlaces c (length c) s
places_within c s h = (h, slice_get_within c s (kind.Places h.0) h.1)

pub sources_within : (c : List Entry) (s : ℕ) → IsSourceSet c s → OlderSources c (length c) s
sources_within c s h = (h, slice_get_within c s (kind.Sources h.0) h.1)

pub atoms_within : (c : List Entry) (s : ℕ) → IsAtomSet c s → OlderAtoms c (length c) s
atoms_within c s h = (h, slice_get_within c s (kind.Atoms h.0) h.1)

pub some_is : {A : Type 0} (P : A → Type 0) (o : Option A) (x : A) → IfSome o P → o ≡ Some x → P x
some_is P None x h e = absurd cc
some_is P (Some y) x h e = let same : y ≡ x = cc in subst P same h

module _ (c d : List Entry) (o : Extends c d) where
  pub places_stay : (s : ℕ) → IsPlaceSet c s → IsPlaceSet d s
  places_stay s h = (h.0, o s (kind.Places h.0) h.1)

  pub sources_stay : (s : ℕ) → IsSourceSet c s → IsSourceSet d s
  sources_stay s h = (h.0, o s (kind.Sources h.0) h.1)

  pub atoms_stay : (s : ℕ) → IsAtomSet c s → IsAtomSet d s
  atoms_stay s h = (h.0, o s (kind.Atoms h.0) h.1)

  older_stays : (m n : ℕ) → m ≤ n → (a : Option ℕ) → IfSome a (OlderAtoms c m) → IfSome a (OlderAtoms d n)
  older_stays m n le None h = h
  older_stays m n le (Some s) h = let lt = h.1 in (atoms_stay s h.0, omega arith)

  pub condition_stays : (m n : ℕ) → m ≤ n → (i : ConditionItem) → IsConditionItem c m i → IsConditionItem d n i
  condition_stays m n le i h = older_stays m n le i.atoms h

  pub conditions_stay : (m n : ℕ) → m ≤ n → (is : List ConditionItem) → EachIn (IsConditionItem c m) is → EachIn (IsConditionItem d n) is
  conditions_stay m n le is h = λ k x e. condition_stays m n le x (h k x e)

  pub source_item_stays : (m n : ℕ) → m ≤ n → (x : SourceItem) → NamesOlder c m x → NamesOlder d n x
  source_item_stays m n le (Col j) h = h
  source_item_stays m n le (Select i) h = record { some = h.some; few = h.few; older = conditions_stay m n le i.conditions h.older }

  pub atom_item_stays : (m n : ℕ) → m ≤ n → (x : AtomItem) → IsAtomItem c m x → IsAtomItem d n x
  atom_item_stays m n le (Const t) h = h
  atom_item_stays m n le (Whole s) h = let lt = h.1 in (sources_stay s h.0, omega arith)
  atom_item_stays m n le (Sub s p q) h =
      let a = h.0.1 in
      let b = h.1.1 in
      let e = h.2.1 in
      ((sources_stay s h.0.0, omega arith), (places_stay p h.1.0, omega arith), (places_stay q h.2.0, omega arith))

  pub met_stay : {A S : Type 0} (Has : List Entry → S → A → Type 0) (x y z : S) → AreMet Has c x y z → AreMet Has d x y z
  met_stay Has x y z m = record { both = λ e p. m.both e (extends_on c d e o p); some = λ e p. m.some e (extends_on c d e o p) }

  pub apart_stay : {A S : Type 0} (Has : List Entry → S → A → Type 0) (x y : S) → AreApart Has c x y → AreApart Has d x y
  apart_stay Has x y m = λ e p. m e (extends_on c d e o p)

  pub place_sets_stay : (s t : ℕ) (made : Option ℕ) → PlaceSetsMeet c s t made → PlaceSetsMeet d s t made
  place_sets_stay s t None m = apart_stay PlaceStands s t m
  place_sets_stay s t (Some n) m = met_stay PlaceStands s t n m

  pub source_sets_stay : (s t : ℕ) (made : Option ℕ) → SourceSetsMeet c s t made → SourceSetsMeet d s t made
  source_sets_stay s t None m = apart_stay SourceStands s t m
  source_sets_stay s t (Some n) m = met_stay SourceStands s t n m

  pub atoms_met_stay : (s t n : ℕ) → AreAtomsMet c s t n → AreAtomsMet d s t n
  atoms_met_stay s t n m = record { met = met_stay AtomStands s t n m.met; each = λ e p. m.each e (extends_on c d e o p) }

  pub atom_sets_stay : (s t : ℕ) (made : Option ℕ) → AtomSetsMeet c s t made → AtomSetsMeet d s t made
  atom_sets_stay s t None m = apart_stay AtomStands s t m
  atom_sets_stay s t (Some n) m = atoms_met_stay s t n m

-- what an item of the arena names is older
pub names_older : (c : List Entry) (n : ℕ) (x : SourceItem) → IsSourceItem c n x → NamesOlder c n x
names_older c n (Col m) h = tt
names_older c n (Select i) h = record { some = h.some; few = h.few; older = h.older }
