-- The sets of places of an arena are the slices of its pool as entries come, and as the last ones go.
use Rattle.std.proofs.Common.{◌≡◌, ℕ, suc, zero, ◌+◌, ◌<◌, ◌≤◌, List, [], ◌∷◌, ◌++◌, map, length, take, get_or, slice_get, Some, refl, sym, ap, ◌∙◌, subst, arith}
use Rattle.std.proofs.lemmas.List.{get_or-take, get_or_append_left, map-append, take-map, take_more, get_or_at}
use Rattle.fill_tokens.specs.declared.place.Place.{Place}
use Rattle.fill_arena.specs.Entries.{AreInPool, IsItems, entry_at}
use Rattle.fill_arena.specs.declared.entry.Entry.TheVariants as kind
use Rattle.fill_arena.specs.declared.entries.Stored.{Stored}
use Rattle.fill_arena.specs.declared.entries.Stored.TheVariants.{Places, Sources, Atom, Atoms, Graph}

in_order : (a b : ℕ) (ks : List Stored) → AreInPool a ks b → a ≤ b
in_order a b [] h = omega arith
in_order a b (Places s m ∷ ks) h = let rest = in_order (a + 1) b ks h.2 in omega arith
in_order a b (Sources xs ∷ ks) h = in_order a b ks h
in_order a b (Atom x ∷ ks) h = in_order a b ks h
in_order a b (Atoms xs ∷ ks) h = in_order a b ks h
in_order a b (Graph n xs ∷ ks) h = in_order a b ks h

pub places_pushed : (a b : ℕ) (ks : List Stored) → AreInPool a ks b → AreInPool a (ks ++ Places b b ∷ []) (b + 1)
places_pushed a b [] h = (sym h, sym h, ap (λ n. n + 1) h)
places_pushed a b (Places s m ∷ ks) h = (h.0, h.1, places_pushed (a + 1) b ks h.2)
places_pushed a b (Sources xs ∷ ks) h = places_pushed a b ks h
places_pushed a b (Atom x ∷ ks) h = places_pushed a b ks h
places_pushed a b (Atoms xs ∷ ks) h = places_pushed a b ks h
places_pushed a b (Graph n xs ∷ ks) h = places_pushed a b ks h

pub items_pushed : (a b : ℕ) (ks : List Stored) (k : Stored) → IsItems k → AreInPool a ks b → AreInPool a (ks ++ k ∷ []) b
items_pushed a b [] (Places s m) is h = absurd is
items_pushed a b [] (Sources xs) is h = h
items_pushed a b [] (Atom x) is h = h
items_pushed a b [] (Atoms xs) is h = h
items_pushed a b [] (Graph n xs) is h = h
items_pushed a b (Places s m ∷ ks) k is h = (h.0, h.1, items_pushed (a + 1) b ks k is h.2)
items_pushed a b (Sources xs ∷ ks) k is h = items_pushed a b ks k is h
items_pushed a b (Atom x ∷ ks) k is h = items_pushed a b ks k is h
items_pushed a b (Atoms xs ∷ ks) k is h = items_pushed a b ks k is h
items_pushed a b (Graph n xs ∷ ks) k is h = items_pushed a b ks k is h

-- without its last entry, which is a set of places, or none
places_off : (a b : ℕ) (ks : List Stored) (s m : ℕ) → AreInPool a (ks ++ Places s m ∷ []) b → AreInPool a ks m
places_off a b [] s m h = sym h.1
places_off a b (Places t n ∷ ks) s m h = (h.0, h.1, places_off (a + 1) b ks s m h.2)
places_off a b (Sources xs ∷ ks) s m h = places_off a b ks s m h
places_off a b (Atom x ∷ ks) s m h = places_off a b ks s m h
places_off a b (Atoms xs ∷ ks) s m h = places_off a b ks s m h
places_off a b (Graph n xs ∷ ks) s m h = places_off a b ks s m h

items_off : (a b : ℕ) (ks : List Stored) (k : Stored) → IsItems k → AreInPool a (ks ++ k ∷ []) b → AreInPool a ks b
items_off a b [] (Places s m) is h = absurd is
items_off a b [] (Sources xs) is h = h
items_off a b [] (Atom x) is h = h
items_off a b [] (Atoms xs) is h = h
items_off a b [] (Graph n xs) is h = h
items_off a b (Places s m ∷ ks) k is h = (h.0, h.1, items_off (a + 1) b ks k is h.2)
items_off a b (Sources xs ∷ ks) k is h = items_off a b ks k is h
items_off a b (Atom x ∷ ks) k is h = items_off a b ks k is h
items_off a b (Atoms xs ∷ ks) k is h = items_off a b ks k is h
items_off a b (Graph n xs ∷ ks) k is h = items_off a b ks k is h

-- the first ones are in the pool up to some number
some_end : (a b : ℕ) (ks : List Stored) (i : ℕ) → AreInPool a ks b → (m : ℕ) × AreInPool a (take i ks) m
some_end a b ks zero h = (a, refl)
some_end a b [] (suc i) h = (a, refl)
some_end a b (Places s m ∷ ks) (suc i) h = let r = some_end (a + 1) b ks i h.2 in (r.0, (h.0, h.1, r.1))
some_end a b (Sources xs ∷ ks) (suc i) h = some_end a b ks i h
some_end a b (Atom x ∷ ks) (suc i) h = some_end a b ks i h
some_end a b (Atoms xs ∷ ks) (suc i) h = some_end a b ks i h
some_end a b (Graph n xs ∷ ks) (suc i) h = some_end a b ks i h

-- what stands before the i-th entry, which is a set of places
pub before_places : (b : ℕ) (ks : List Stored) (i s m : ℕ) → i < length ks → get_or ks i (Places s m) ≡ Places s m → AreInPool 0 ks b → AreInPool 0 (take i ks) m
before_places b ks i s m lt is h =
    let r = some_end 0 b ks (i + 1) h in
    let shape : take (i + 1) ks ≡ take i ks ++ Places s m ∷ [] = take_more ks i (Places s m) lt ∙ ap (λ k. take i ks ++ k ∷ []) is in
    places_off 0 r.0 (take i ks) s m (subst (λ l. AreInPool 0 l r.0) shape r.1)

-- an entry of another kind leaves the end where it is
pub before_items : (b : ℕ) (ks : List Stored) (i : ℕ) (k : Stored) → i < length ks → get_or ks i k ≡ k → IsItems k → AreInPool 0 (take (i + 1) ks) b → AreInPool 0 (take i ks) b
before_items b ks i k lt is items h =
    let shape : take (i + 1) ks ≡ take i ks ++ k ∷ [] = take_more ks i k lt ∙ ap (λ x. take i ks ++ x ∷ []) is in
    items_off 0 b (take i ks) k items (subst (λ l. AreInPool 0 l b) shape h)

-- two pools that agree up to the end show the same entries
pub shown_same : (a b : ℕ) (ks : List Stored) (xss yss : List (List Place)) → AreInPool a ks b → ((s : ℕ) → s < b → get_or yss s [] ≡ get_or xss s []) → map (entry_at yss) ks ≡ map (entry_at xss) ks
shown_same a b [] xss yss h same = refl
shown_same a b (Places s m ∷ ks) xss yss h same =
    let le = in_order (a + 1) b ks h.2 in
    ap (λ l. kind.Places l ∷ map (entry_at yss) ks) (same s (omega (arith, h.0))) ∙ ap (λ l. kind.Places (get_or xss s []) ∷ l) (shown_same (a + 1) b ks xss yss h.2 same)
shown_same a b (Sources xs ∷ ks) xss yss h same = ap (λ l. kind.Sources xs ∷ l) (shown_same a b ks xss yss h same)
shown_same a b (Atom x ∷ ks) xss yss h same = ap (λ l. kind.Atoms (x ∷ []) ∷ l) (shown_same a b ks xss yss h same)
shown_same a b (Atoms xs ∷ ks) xss yss h same = ap (λ l. kind.Atoms xs ∷ l) (shown_same a b ks xss yss h same)
shown_same a b (Graph n xs ∷ ks) xss yss h same = ap (λ l. kind.Graph n xs.value ∷ l) (shown_same a b ks xss yss h same)

-- what a set of places adds to what is shown
pub shown_pushed : (ks : List Stored) (xss : List (List Place)) (xs : List Place) → AreInPool 0 ks (length xss)
    → map (entry_at (xss ++ xs ∷ [])) (ks ++ Places (length xss) (length xss) ∷ []) ≡ map (entry_at xss) ks ++ kind.Places xs ∷ []
shown_pushed ks xss xs h =
    let yss = xss ++ xs ∷ [] in
    map-append (entry_at yss) ks (Places (length xss) (length xss) ∷ [])
    ∙ ap (λ l. l ++ kind.Places (get_or yss (length xss) []) ∷ []) (shown_same 0 (length xss) ks xss yss h (λ s lt. get_or_append_left xss (xs ∷ []) [] s lt))
    ∙ ap (λ l. map (entry_at xss) ks ++ kind.Places l ∷ []) (get_or_at xss xs [] [] (length xss) refl)

pub shown_more : (ks : List Stored) (k : Stored) (xss : List (List Place)) → IsItems k → map (entry_at xss) (ks ++ k ∷ []) ≡ map (entry_at xss) ks ++ entry_at [] k ∷ []
shown_more ks (Places s m) xss is = absurd is
shown_more ks (Sources xs) xss is = map-append (entry_at xss) ks (Sources xs ∷ [])
shown_more ks (Atom x) xss is = map-append (entry_at xss) ks (Atom x ∷ [])
shown_more ks (Atoms xs) xss is = map-append (entry_at xss) ks (Atoms xs ∷ [])
shown_more ks (Graph n xs) xss is = map-append (entry_at xss) ks (Graph n xs ∷ [])

-- the first n entries, over the slices up to where they end
pub shown_cut : (ks : List Stored) (n m : ℕ) (xss : List (List Place)) → AreInPool 0 (take n ks) m → map (entry_at (take m xss)) (take n ks) ≡ take n (map (entry_at xss) ks)
shown_cut ks n m xss h = shown_same 0 m (take n ks) xss (take m xss) h (λ s lt. get_or-take m xss s [] lt) ∙ sym (take-map (entry_at xss) n ks)

-- the end of the first entries lies within the pool
pub end_within : (b : ℕ) (ks : List Stored) (n m : ℕ) → AreInPool 0 ks b → AreInPool 0 (take n ks) m → m ≤ b
end_within b ks n m = within 0 b ks n m where
  within : (a b : ℕ) (ks : List Stored) (n m : ℕ) → AreInPool a ks b → AreInPool a (take n ks) m → m ≤ b
  within a b ks zero m h g = let le = in_order a b ks h in omega (arith, g)
  within a b [] (suc n) m h g = omega (arith, g, h)
  within a b (Places s t ∷ ks) (suc n) m h g = within (a + 1) b ks n m h.2 g.2
  within a b (Sources xs ∷ ks) (suc n) m h g = within a b ks n m h g
  within a b (Atom x ∷ ks) (suc n) m h g = within a b ks n m h g
  within a b (Atoms xs ∷ ks) (suc n) m h g = within a b ks n m h g
  within a b (Graph k xs ∷ ks) (suc n) m h g = within a b ks n m h g

-- a set of places names a slice that is there
pub slice_there : (a b : ℕ) (ks : List Stored) (i s m : ℕ) → slice_get ks i ≡ Some (Places s m) → AreInPool a ks b → s < b
slice_there a b [] i s m is h = absurd cc
slice_there a b (Places t n ∷ ks) zero s m is h =
    let same : Places t n ≡ Places s m = cc in let first : t ≡ s = cc in let le = in_order (a + 1) b ks h.2 in omega (arith, h.0)
slice_there a b (Places t n ∷ ks) (suc i) s m is h = slice_there (a + 1) b ks i s m is h.2
slice_there a b (Sources xs ∷ ks) zero s m is h = absurd cc
slice_there a b (Sources xs ∷ ks) (suc i) s m is h = slice_there a b ks i s m is h
slice_there a b (Atom x ∷ ks) zero s m is h = absurd cc
slice_there a b (Atoms xs ∷ ks) zero s m is h = absurd cc
slice_there a b (Atom x ∷ ks) (suc i) s m is h = slice_there a b ks i s m is h
slice_there a b (Atoms xs ∷ ks) (suc i) s m is h = slice_there a b ks i s m is h
slice_there a b (Graph n xs ∷ ks) zero s m is h = absurd cc
slice_there a b (Graph n xs ∷ ks) (suc i) s m is h = slice_there a b ks i s m is h

pub get_shown : (ks : List Stored) (i : ℕ) (k : Stored) (xss : List (List Place)) → slice_get ks i ≡ Some k → slice_get (map (entry_at xss) ks) i ≡ Some (entry_at xss k)
get_shown [] i k xss h = absurd cc
get_shown (x ∷ ks) zero k xss h = let same : x ≡ k = cc in ap (λ y. Some (entry_at xss y)) same
get_shown (x ∷ ks) (suc i) k xss h = get_shown ks i k xss h

pub no_places : (k : Stored) → ((s m : ℕ) → k ≡ Places s m → ⊥) → IsItems k
no_places (Places s m) h = h s m refl
no_places (Sources xs) h = tt
no_places (Atom x) h = tt
no_places (Atoms xs) h = tt
no_places (Graph n xs) h = tt
