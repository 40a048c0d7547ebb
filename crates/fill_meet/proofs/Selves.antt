-- A set has in common with itself what stands in it; and a pair has what its mirror has.
use Rattle.std.proofs.Common.{rules, ◌≡◌, true, false, not, nat_eq, ℕ, List, Option, Some, None, slice_get, sym, ◌∙◌, subst, arith}
use Rattle.std.proofs.lemmas.Option.{slice_get_within}
use Rattle.std.specs.HashMap.{HashMap, get}
use Rattle.fill_tree.specs.Tree.{AtomTree, Atoms}
use Rattle.fill_arena.specs.Contents.{EachIn, Extends, IsPlaceSet, IsSourceSet, IsAtomSet, IsGraph}
use Rattle.fill_arena.specs.Stands.{PlaceStands, SourceStands, AtomStands, ProgramStands}
use Rattle.fill_arena.specs.WellMade.{IsWellMade}
use Rattle.fill_arena.specs.declared.entry.AtomItem.{AtomItem}
use Rattle.fill_arena.specs.declared.entry.Entry.{Entry}
use Rattle.fill_arena.specs.declared.entry.Entry.TheVariants as kind
use Rattle.fill_arena.proofs.Agree.{atom_agrees}
use Rattle.fill_arena.proofs.Filled.{place_filled, source_filled, atom_filled, atom_item_filled, program_filled}
use Rattle.fill_arena.proofs.Grows.{places_stay, sources_stay, atoms_stay, all_older, atom_below, agree_below}
use Rattle.fill_meet.specs.Meet.{AreMet, AreApart, IsMeet}
use Rattle.fill_meet.specs.Memory.{AreRight, pair_eq}
use Rattle.fill_meet.specs.Sets.{AtomIn, AreAtomsMet, PlaceSetsMeet}

-- numbers by their test
pub number_same : (s t : ℕ) → nat_eq s t ≡ true → s ≡ t
number_same s t h = search rules

pub number_not_other : (s t : ℕ) → not (nat_eq s t) ≡ false → s ≡ t
number_not_other s t h = search rules

-- the same on both sides, where something is there
with_itself : {A S : Type 0} (Has : List Entry → S → A → Type 0) (c : List Entry) (x : S) → ((d : List Entry) → Extends c d → (a : A) × Has d x a) → AreMet Has c x x x
with_itself Has c x some = record { both = λ d o a. ((λ h. (h, h)), (λ h. h.0)); some = some }

module _ (c : List Entry) (made : IsWellMade c) where
  pub places_self : (s t : ℕ) → s ≡ t → IsPlaceSet c s → AreMet PlaceStands c s t s
  places_self s t same live =
      let there = place_filled c made s live in
      subst (λ n. AreMet PlaceStands c s n s) same (with_itself PlaceStands c s (λ d o. (there.0, (places_stay c d made o s there.0 live).0 there.1)))

  pub sources_self : (s t : ℕ) → s ≡ t → IsSourceSet c s → AreMet SourceStands c s t s
  sources_self s t same live =
      let there = source_filled c made s live in
      subst (λ n. AreMet SourceStands c s n s) same (with_itself SourceStands c s (λ d o. (there.0, (sources_stay c d made o s there.0 live).0 there.1)))

  item_filled : (s : ℕ) (live : IsAtomSet c s) (d : List Entry) → Extends c d → (items : List AtomItem) → slice_get d s ≡ Some (kind.Atoms items) → EachIn (λ z. (a : AtomTree) × AtomIn d z a) items
  item_filled s live d o items at k z there =
      let later = o s (kind.Atoms live.0) live.1 in
      let same : live.0 ≡ items = (let e : Some (kind.Atoms live.0) ≡ Some (kind.Atoms items) = sym later ∙ at in cc) in
      let here : slice_get c s ≡ Some (kind.Atoms items) = subst (λ l. slice_get c s ≡ Some (kind.Atoms l)) same live.1 in
      let is = (made s (kind.Atoms items) here).each k z there in
      let one = atom_item_filled c made s z is in
      let lt = slice_get_within c s (kind.Atoms items) here in
      (one.0, atom_agrees c d s (agree_below c d made o s (omega arith)) (λ n e less h. all_older c made n e h) one.0 s (omega arith) z (atom_below c s z is) one.1)

  pub atoms_self : (s t : ℕ) → s ≡ t → IsAtomSet c s → AreAtomsMet c s t s
  atoms_self s t same live =
      let there = atom_filled c made s live in
      let met = with_itself AtomStands c s (λ d o. (there.0, (atoms_stay c d made o s there.0 live).0 there.1)) in
      subst (λ n. AreAtomsMet c s n s) same (record { met = met; each = item_filled s live })

  pub graph_self : (a b : ℕ) → a ≡ b → IsGraph c a → IsMeet c a b c a
  graph_self a b same live = subst (λ n. IsMeet c a n c a) same (live, λ p. ((λ h. (h, h)), (λ h. h.0)))

-- some program stands in both graphs that have a meet
pub program_in_both : (c : List Entry) (a b : ℕ) (d : List Entry) (g : ℕ) → IsWellMade d → IsMeet c a b d g → (p : Atoms) × ProgramStands c a p × ProgramStands c b p
program_in_both c a b d g made met =
    let found = program_filled d made g met.0 in
    let both = (met.1 found.0).0 found.1 in
    (found.0, both.0, both.1)

-- the mirror
met_mirror : {A S : Type 0} (Has : List Entry → S → A → Type 0) (c : List Entry) (x y z : S) → AreMet Has c x y z → AreMet Has c y x z
met_mirror Has c x y z m = record {
  both = λ d o a. ((λ h. let both = (m.both d o a).0 h in (both.1, both.0)), (λ h. (m.both d o a).1 (h.1, h.0)));
  some = m.some;
}

apart_mirror : {A S : Type 0} (Has : List Entry → S → A → Type 0) (c : List Entry) (x y : S) → AreApart Has c x y → AreApart Has c y x
apart_mirror Has c x y m = λ d o a h k. m d o a k h

pub places_mirror : (c : List Entry) (s t : ℕ) (made : Option ℕ) → PlaceSetsMeet c s t made → PlaceSetsMeet c t s made
places_mirror c s t None m = apart_mirror PlaceStands c s t m
places_mirror c s t (Some n) m = met_mirror PlaceStands c s t n m

-- what a table tells of a pair
pub entry_right : {S : Type 0} (Meet : ℕ → ℕ → Option ℕ → Type 0) (table : HashMap (ℕ × ℕ) (Option ℕ) S) (s t : ℕ) (made : Option ℕ) → AreRight Meet table → get pair_eq table (s, t) ≡ Some made → Meet s t made
entry_right Meet table s t made right h = right.each (s, t) made h
