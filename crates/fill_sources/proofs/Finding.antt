-- What was found of the places of texts stays so as the arena grows and as more is found.
use Rattle.std.proofs.Common.{◌≡◌, ◌⊎◌, inl, inr, ℕ, zero, suc, ◌<◌, Bool, true, false, cond, List, [], ◌∷◌, length, get_or, replicate, Some, slice_get, slice_set, refl, sym, ◌∙◌, subst}
use Rattle.std.proofs.lemmas.Bool.{cases_eq}
use Rattle.std.specs.BTreeMap.{get, Updates}
use Rattle.std.specs.Ordering.{is_eq, nat_cmp}
use Rattle.fill_arena.specs.Contents.{EachIn, Extends}
use Rattle.fill_arena.specs.declared.entry.Entry.{Entry}
use Rattle.fill_arena.proofs.Lists.{extends_on}
use Rattle.fill_sources.specs.Found.{AreFound, AreRecalled, IsFound, PlacesStand}
use Rattle.fill_sources.specs.declared.memo.TextPlaces.{TextPlaces}
use Rattle.fill_sources.specs.declared.memory.Found.{Found}
use Rattle.fill_sources.specs.declared.memory.Found.TheVariants.{NotYet, Nowhere, In}
use Rattle.fill_sources.specs.declared.memory.StoredText.{StoredText}
use Rattle.fill_sources.specs.declared.memory.PlaceMemory.{PlaceMemory}
use Rattle.fill_sources.proofs.Lists.{here, set_other}
use Rattle.fill_tokens.specs.declared.token_set.TokenSet.{TokenSet}

-- what was found is so in each arena that extends this one
module _ (token_set : TokenSet) (c d : List Entry) (o : Extends c d) where
  found_stays : (v : List ℕ) (k : ℕ) (f : Found) → IsFound token_set c v k f → IsFound token_set d v k f
  found_stays v k NotYet h = tt
  found_stays v k Nowhere h = λ e x. h e (extends_on c d e o x)
  found_stays v k (In s) h = λ e x. h e (extends_on c d e o x)

  are_found_still : (v : List ℕ) (xs : List Found) → AreFound token_set c v xs → AreFound token_set d v xs
  are_found_still v xs h k f at = found_stays v k f (h k f at)

  pub recalled_stays : (texts : List (List ℕ)) (places : List TextPlaces) → AreRecalled token_set c texts places → AreRecalled token_set d texts places
  recalled_stays texts places h i t v at text = are_found_still v t.found.items (h i t v at text)

pub places_stand_on : (c d : List Entry) → Extends c d → (m : PlaceMemory) → PlacesStand c m → PlacesStand d m
places_stand_on c d o m h = record { each = λ n k there. are_found_still k.token_set c d o k.text k.found.items (h.each n k there) }

-- where nothing was found yet
pub none_found : (token_set : TokenSet) (c : List Entry) (v : List ℕ) (xs : List Found) → EachIn (λ f. f ≡ NotYet) xs → AreFound token_set c v xs
none_found token_set c v xs h k f at = subst (λ g. IsFound token_set c v k g) (sym (h k f at)) tt

pub empty_found : (token_set : TokenSet) (c : List Entry) (v : List ℕ) → AreFound token_set c v []
empty_found token_set c v k f at = absurd cc

pub each_same : {A : Type 0} (n : ℕ) (x : A) → EachIn (λ y. y ≡ x) (replicate n x)
each_same zero x k y there = absurd cc
each_same (suc n) x zero y there = cc
each_same (suc n) x (suc k) y there = each_same n x k y there

set_there : {A : Type 0} (xs : List A) (at : ℕ) (x y : A) → slice_get (slice_set xs at x) at ≡ Some y → x ≡ y
set_there [] at x y h = absurd cc
set_there (z ∷ xs) zero x y h = cc
set_there (z ∷ xs) (suc at) x y h = set_there xs at x y h

-- what was found of a position of a text
pub recalled_at : (token_set : TokenSet) (c : List Entry) (texts : List (List ℕ)) (places : List TextPlaces) → AreRecalled token_set c texts places → (k : ℕ) (t : TextPlaces) (v : List ℕ)
    → k < length places → t ≡ get_or places k t → slice_get texts k ≡ Some v → (found : List Found) → found ≡ t.found.items → (at : ℕ) (told f : Found) → at < length found → told ≡ get_or found at told → told ≡ f
    → IsFound token_set c v at f
recalled_at token_set c texts places right k t v within is there found same at told f inside read e =
    subst (IsFound token_set c v at) e (right k t v (here places k t within is) there at told (subst (λ (xs : List Found). slice_get xs at ≡ Some told) same (here found at told inside read)))

-- with more of one text
pub recalled_put : (token_set : TokenSet) (c : List Entry) (texts : List (List ℕ)) (places : List TextPlaces) → AreRecalled token_set c texts places → (k : ℕ) (t new : TextPlaces)
    → k < length places → t ≡ get_or places k t → ((v : List ℕ) → slice_get texts k ≡ Some v → AreFound token_set c v t.found.items → AreFound token_set c v new.found.items)
    → AreRecalled token_set c texts (slice_set places k new)
recalled_put token_set c texts places right k t new within is more i u v at there = elim (cases_eq i k) [
  | inl same ↦ (
      let here_at = subst (λ n. slice_get (slice_set places k new) n ≡ Some u) same at in
      let this = subst (λ n. slice_get texts n ≡ Some v) same there in
      subst (λ (w : TextPlaces). AreFound token_set c v w.found.items) (set_there places k new u here_at) (more v this (right k t v (here places k t within is) this)))
  | inr other ↦ right i u v (sym (set_other places k i new other) ∙ at) there
]

-- with one position more
pub found_put : (token_set : TokenSet) (c : List Entry) (v : List ℕ) (xs ys : List Found) (at : ℕ) (f : Found) → (ys ≡ xs) ⊎ (ys ≡ slice_set xs at f)
    → AreFound token_set c v xs → IsFound token_set c v at f → AreFound token_set c v ys
found_put token_set c v xs ys at f h all is = elim h [
  | inl e ↦ subst (AreFound token_set c v) (sym e) all
  | inr e ↦ subst (AreFound token_set c v) (sym e) (λ k g there. elim (cases_eq k at) [
    | inl same ↦ (let q = subst (λ n. slice_get (slice_set xs at f) n ≡ Some g) same there in subst (λ n. IsFound token_set c v n g) (sym same) (subst (IsFound token_set c v at) (set_there xs at f g q) is))
    | inr other ↦ all k g (sym (set_other xs at k f other) ∙ there)
  ])
]

-- with one text more
module _ (c : List Entry) (old new : PlaceMemory) (number : ℕ) (made : StoredText) where
  put_step : (n : ℕ) (k : StoredText) (same : Bool) → is_eq (nat_cmp number n) ≡ same → get nat_cmp new.texts n ≡ cond same (Some made) (get nat_cmp old.texts n) → get nat_cmp new.texts n ≡ Some k
      → AreFound made.token_set c made.text made.found.items → PlacesStand c old → AreFound k.token_set c k.text k.found.items
  put_step n k true e u h is r =
      let q : Some made ≡ Some k = sym u ∙ h in
      let same_entry : made ≡ k = cc in
      subst (λ (f : StoredText). AreFound f.token_set c f.text f.found.items) same_entry is
  put_step n k false e u h is r = r.each n k (sym u ∙ h)

  pub text_put : Updates nat_cmp old.texts new.texts number (Some made) → AreFound made.token_set c made.text made.found.items → PlacesStand c old → PlacesStand c new
  text_put u is r = record { each = λ n k h. put_step n k (is_eq (nat_cmp number n)) refl (u.0 n) h is r }
