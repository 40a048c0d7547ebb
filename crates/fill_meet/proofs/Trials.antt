-- Sets that are apart, by what they list.
use Rattle.std.proofs.Common.{◌≡◌, ◌⊎◌, inl, inr, ℕ, zero, suc, List, [], ◌∷◌, ◌++◌, take, drop, set, replicate, subst, Some, Result, Ok, Err, slice_get, sym, ◌∙◌}
use Rattle.std.specs.Prelude.{IfOk, OnOk}
use Rattle.fill_text.specs.declared.error.NoMemory.{NoMemory}
use Rattle.std.proofs.lemmas.Bool.{cases_eq}
use Rattle.fill_tokens.specs.declared.place.Place.{Place}
use Rattle.fill_tree.specs.Tree.{SourceTree, col, select}
use Rattle.fill_arena.specs.Contents.{In, SomeIn, EachIn}
use Rattle.fill_arena.specs.Stands.{PlaceStands, SourceStands, AtomStands}
use Rattle.fill_arena.specs.declared.entry.Entry.{Entry}
use Rattle.fill_arena.specs.declared.entry.Entry.TheVariants.{Places, Sources, Atoms}
use Rattle.fill_arena.specs.declared.entry.AtomItem.{AtomItem}
use Rattle.fill_arena.specs.declared.entry.SourceItem.{SourceItem}
use Rattle.fill_arena.specs.declared.entry.SourceItem.TheVariants.{Col, Select}
use Rattle.fill_arena.proofs.Lists.{get_of_taken}
use Rattle.fill_trim.proofs.Ranks.{set_other}
use Rattle.fill_meet.specs.Meet.{AreApart}
use Rattle.fill_meet.specs.Sets.{AtomIn, SourceIn}
use Rattle.fill_meet.specs.Verdicts.{AreAlike}
use Rattle.fill_meet.proofs.Listed.{set_apart, ListsPlace, ListsSource, ListsAtom, one_places, one_sources, one_atoms}

-- two items that one source stands in
like_items : (d : List Entry) (a : SourceTree) (x y : SourceItem) → SourceIn d x a → SourceIn d y a → AreAlike x y
like_items d (col n) (Col u) (Col v) f g = f ∙ sym g
like_items d (col n) (Col u) (Select y) f g = g
like_items d (col n) (Select x) y f g = absurd f
like_items d (select column table key row) (Col u) y f g = absurd f
like_items d (select column table key row) (Select x) (Col v) f g = g
like_items d (select column table key row) (Select x) (Select y) f g = (f.0 ∙ sym g.0, f.1 ∙ sym g.1, f.2 ∙ sym g.2)

module _ (c : List Entry) (s t : ℕ) where
  pub places_unshared : (xs ys : List Place) → slice_get c s ≡ Some (Places xs) → slice_get c t ≡ Some (Places ys) → (SomeIn (λ p. In p ys) xs → ⊥) → AreApart PlaceStands c s t
  places_unshared xs ys hs ht none = set_apart ListsPlace Places one_places c s t xs ys hs ht (λ d o p f g. none (p, f, g))

  pub sources_unlike : (xs ys : List SourceItem) → slice_get c s ≡ Some (Sources xs) → slice_get c t ≡ Some (Sources ys) → (SomeIn (λ x. SomeIn (AreAlike x) ys) xs → ⊥) → AreApart SourceStands c s t
  sources_unlike xs ys hs ht none =
      set_apart ListsSource Sources one_sources c s t xs ys hs ht (λ d o a f g. none (f.0, f.1, (g.0, g.1, like_items d a f.0 g.0 f.2 g.2)))

  pub atoms_unshared : (xs ys : List AtomItem) → slice_get c s ≡ Some (Atoms xs) → slice_get c t ≡ Some (Atoms ys) → EachIn (λ x. EachIn (AreApart AtomIn c x) ys) xs → AreApart AtomStands c s t
  atoms_unshared xs ys hs ht all =
      set_apart ListsAtom Atoms one_atoms c s t xs ys hs ht (λ d o a f g. all f.1.0 f.0 f.1.1 g.1.0 g.0 g.1.1 d o a f.2 g.2)

-- what is known of a result by what is known of it otherwise
pub ok_map : {A : Type 0} (r : Result A NoMemory) (P Q : A → Type 0) → ((x : A) → P x → Q x) → IfOk r P → IfOk r Q
ok_map (Ok x) P Q f h = f x h
ok_map (Err e) P Q f h = h

pub done_map : (r : Result (Unit {0}) NoMemory) (P Q : Type 0) → (P → Q) → OnOk r P → OnOk r Q
done_map (Ok x) P Q f h = f h
done_map (Err e) P Q f h = h

pub done_both : (r : Result (Unit {0}) NoMemory) (P Q R : Type 0) → (P → Q → R) → OnOk r P → OnOk r Q → OnOk r R
done_both (Ok x) P Q R f h g = f h g
done_both (Err e) P Q R f h g = h

pub done_any : (r : Result (Unit {0}) NoMemory) (P : Type 0) → P → OnOk r P
done_any (Ok x) P h = h
done_any (Err e) P h = tt

set_there : {A : Type 0} (xs : List A) (at : ℕ) (x y : A) → slice_get (set xs at x) at ≡ Some y → x ≡ y
set_there [] at x y h = absurd cc
set_there (z ∷ xs) zero x y h = cc
set_there (z ∷ xs) (suc at) x y h = set_there xs at x y h

-- what is told with one answer more
pub kept_told : {A : Type 0} (P : A → Type 0) (xs ys : List A) (at : ℕ) (x : A) → (ys ≡ xs) ⊎ (ys ≡ set xs at x) → P x → EachIn P xs → EachIn P ys
kept_told P xs ys at x h p all = elim h [
  | inl e ↦ subst (EachIn P) (sym e) all
  | inr e ↦ subst (EachIn P) (sym e) (λ k y there. elim (cases_eq k at) [
    | inl same ↦ (let q = subst (λ n. slice_get (set xs at x) n ≡ Some y) same there in subst P (set_there xs at x y q) p)
    | inr other ↦ all k y (sym (set_other xs at k x other) ∙ there)
  ])
]

pub kept_somewhere : {A : Type 0} (P : A → Type 0) (xs ys : List A) (x : A) → (ys ≡ xs) ⊎ ((at : ℕ) × (ys ≡ set xs at x)) → P x → EachIn P xs → EachIn P ys
kept_somewhere P xs ys x (inl e) p all = kept_told P xs ys 0 x (inl e) p all
kept_somewhere P xs ys x (inr q) p all = kept_told P xs ys q.0 x (inr q.1) p all

in_append : {A : Type 0} (xs ys : List A) (k : ℕ) (x : A) → slice_get (xs ++ ys) k ≡ Some x → In x xs ⊎ In x ys
in_append [] ys k x h = inr (k, h)
in_append (z ∷ xs) ys zero x h = inl (0, h)
in_append (z ∷ xs) ys (suc k) x h = elim (in_append xs ys k x h) [ inl a ↦ inl (suc a.0, a.1) | inr b ↦ inr b ]

in_drop : {A : Type 0} (m : ℕ) (ys : List A) (k : ℕ) (x : A) → slice_get (drop m ys) k ≡ Some x → In x ys
in_drop zero ys k x h = (k, h)
in_drop (suc m) [] k x h = absurd cc
in_drop (suc m) (y ∷ ys) k x h = let r = in_drop m ys k x h in (suc r.0, r.1)

-- what a list has that was lent and came back
pub each_lent : {A : Type 0} (P : A → Type 0) (n m : ℕ) (new old : List A) → EachIn P new → EachIn P old → EachIn P (take n (new ++ drop m old))
each_lent P n m new old a b k x h = elim (in_append new (drop m old) k x (get_of_taken n (new ++ drop m old) k x h).1) [
  | inl q ↦ a q.0 x q.1
  | inr q ↦ (let r = in_drop m old q.0 x q.1 in b r.0 x r.1)
]

-- what is put down many times is the same at each place
pub each_same : {A : Type 0} (n : ℕ) (x : A) → EachIn (λ y. y ≡ x) (replicate n x)
each_same zero x k y there = absurd cc
each_same (suc n) x zero y there = cc
each_same (suc n) x (suc k) y there = each_same n x k y there
