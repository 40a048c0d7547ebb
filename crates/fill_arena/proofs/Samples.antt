-- The sets and graphs of small arenas, for tests; the crates above use them too.
use Rattle.std.proofs.Common.{◌≡◌, ℕ, zero, suc, ◌<◌, ◌≤◌, List, [], ◌∷◌, length, Some, slice_get, refl, sym, ap, subst, lit<, lit≤, arith}
use Rattle.std.proofs.lemmas.Option.{slice_get_within}
use Rattle.fill_arena.specs.Contents.{In, EachIn, IsPlaceSet, IsSourceSet, IsAtomSet, Extends}
use Rattle.fill_arena.specs.WellMade.{AreAtoms, IsAtomItem, IsGraphOf, Path}
use Rattle.fill_arena.specs.declared.entry.Entry.{Entry}
use Rattle.fill_arena.specs.declared.entry.Entry.TheVariants as kind
use Rattle.fill_arena.specs.declared.entry.AtomItem.TheVariants.{Const, Whole, Sub}
use Rattle.fill_arena.specs.declared.entry.Edge.{Edge}

pub each_nil : {A : Type 0} (P : A → Type 0) → EachIn P []
each_nil P k x e = absurd cc

pub each_cons : {A : Type 0} (P : A → Type 0) (y : A) (ys : List A) → P y → EachIn P ys → EachIn P (y ∷ ys)
each_cons P y ys first rest zero x e = let same : y ≡ x = cc in subst P same first
each_cons P y ys first rest (suc k) x e = rest k x e

pub sample_atoms : (c : List Entry) (t : List ℕ) (whole left right : ℕ) → length t ≤ 100 → IsSourceSet c whole → IsPlaceSet c left → IsPlaceSet c right
    → AreAtoms c (length c) (Const t ∷ Whole whole ∷ Sub whole left right ∷ [])
sample_atoms c t whole left right few sources lefts rights =
    let first = slice_get_within c whole (kind.Sources sources.0) sources.1 in
    let second = slice_get_within c left (kind.Places lefts.0) lefts.1 in
    let third = slice_get_within c right (kind.Places rights.0) rights.1 in
    let P = IsAtomItem c (length c) in
    record {
      some = lit< tt;
      each = each_cons P (Const t) (Whole whole ∷ Sub whole left right ∷ []) few
          (each_cons P (Whole whole) (Sub whole left right ∷ []) (sources, first)
          (each_cons P (Sub whole left right) [] ((sources, first), (lefts, second), (rights, third)) (each_nil P)));
    }

-- edges from the first node to the second
abbrev pub step : ℕ → Edge
step atoms = record { from = 0; to = 1; atoms = atoms }

abbrev pub steps : List ℕ → List Edge
steps [] = []
steps (a ∷ sets) = step a ∷ steps sets

ends : (sets : List ℕ) (k : ℕ) (e : Edge) → slice_get (steps sets) k ≡ Some e → (e.from ≡ 0) × (e.to ≡ 1) × In e.atoms sets
ends [] k e h = absurd cc
ends (a ∷ sets) zero e h =
    let same : step a ≡ e = cc in
    (sym (ap (λ (f : Edge). f.from) same), sym (ap (λ (f : Edge). f.to) same), (0, ap (λ (f : Edge). Some f.atoms) same))
ends (a ∷ sets) (suc k) e h = let r = ends sets k e h in (r.0, r.1, (suc r.2.0, r.2.1))

-- no path goes further than one edge
short : (sets : List ℕ) (from to : ℕ) (path : List Edge) → Path (steps sets) from path to → length path ≤ 1
short sets from to [] h = lit≤ tt
short sets from to (e ∷ []) h = lit≤ tt
short sets from to (e ∷ f ∷ rest) h =
    let first = ends sets h.0.0 e h.0.1 in
    let second = ends sets h.2.0.0 f h.2.0.1 in
    let onward : f.from ≡ e.to = h.2.1 in
    absurd (omega (arith, first.1, second.0, onward))

pub sample_graph : (c : List Entry) (a : ℕ) (sets : List ℕ) → EachIn (IsAtomSet c) (a ∷ sets) → IsGraphOf c (length c) 2 (steps (a ∷ sets))
sample_graph c a sets live =
    record {
      some = lit< tt;
      each = λ k e at.
          let end = ends (a ∷ sets) k e at in
          let set = live end.2.0 e.atoms end.2.1 in
          let from = end.0 in
          let to = end.1 in
          record { onward = omega arith; within = omega arith; atoms = (set, slice_get_within c e.atoms (kind.Atoms set.0) set.1) };
      from_first = λ m lt. elim m as (λ n. n < 2 → (path : List Edge) × Path (steps (a ∷ sets)) 0 path n) [
        | zero ↦ λ _. ([], refl)
        | suc k ↦ λ less. let one : k ≡ 0 = omega arith in (step a ∷ [], ((0, refl), refl, ap suc (sym one)))
      ] lt;
      to_last = λ m lt. elim m as (λ n. n < 2 → (path : List Edge) × Path (steps (a ∷ sets)) n path 1) [
        | zero ↦ λ _. (step a ∷ [], ((0, refl), refl, refl))
        | suc k ↦ λ less. let one : k ≡ 0 = omega arith in ([], ap suc one)
      ] lt;
      short = λ from to path h. let few = short (a ∷ sets) from to path h in omega arith;
    }

-- the one set of a graph with one edge
pub one_set : (c : List Entry) (a : ℕ) → IsAtomSet c a → EachIn (IsAtomSet c) (a ∷ [])
one_set c a live = each_cons (IsAtomSet c) a [] live (each_nil (IsAtomSet c))

pub two_sets : (c : List Entry) (a b : ℕ) → IsAtomSet c a → IsAtomSet c b → EachIn (IsAtomSet c) (a ∷ b ∷ [])
two_sets c a b first second = each_cons (IsAtomSet c) a (b ∷ []) first (one_set c b second)

-- a set is there in what extends its arena
pub places_later : (c d : List Entry) (s : ℕ) → Extends c d → IsPlaceSet c s → IsPlaceSet d s
places_later c d s f live = (live.0, f s (kind.Places live.0) live.1)

pub sources_later : (c d : List Entry) (s : ℕ) → Extends c d → IsSourceSet c s → IsSourceSet d s
sources_later c d s f live = (live.0, f s (kind.Sources live.0) live.1)

pub atoms_later : (c d : List Entry) (s : ℕ) → Extends c d → IsAtomSet c s → IsAtomSet d s
atoms_later c d s f live = (live.0, f s (kind.Atoms live.0) live.1)
