-- What an edit makes of rising examples, by the places before its row and through it.
use Rattle.std.proofs.Common.{◌≡◌, ℕ, suc, ◌+◌, ◌<◌, ◌≤◌, nat_le, true, false, List, [], ◌∷◌, ◌++◌, length, take, drop, All, count_by, refl, sym, ap, subst, ◌∙◌, arith}
use Rattle.std.proofs.lemmas.Bool.{le-ltb, false≢true, true≢false}
use Rattle.std.proofs.lemmas.List.Elements.{All-cons, All-head, All-tail}
use Rattle.fill_tree.specs.declared.user.Example.{Example}
use Rattle.fill_session.specs.Edits.{with_example, without_example}
use Rattle.fill_session.specs.Outcome.{has_example}
use Rattle.fill_session.proofs.Rising.{Above, Rises, side, below, here, over, before, through, above_less, none_through, none_before, none_here, all_kept, one_more, all_counted}

pub spliced_with : (e : Example) (xs : List Example) → Rises xs → with_example e xs ≡ take (before e.row xs) xs ++ e ∷ drop (through e.row xs) xs
spliced_with e [] h = refl
spliced_with e (x ∷ xs) h = elim (side x.row e.row) [
  | below a b c d lt ↦
      let p : 1 + before e.row xs ≡ suc (before e.row xs) = omega arith in
      let q : 1 + through e.row xs ≡ suc (through e.row xs) = omega arith in
      rw (a, b, p, q) (ap (λ (ys : List Example). x ∷ ys) (spliced_with e xs h.1))
  | here a b c d same ↦
      let none : through e.row xs ≡ 0 = none_through e.row xs (subst (λ n. Above n xs) same h.0) in
      rw (a, b, d, none) refl
  | over a b c d lt ↦ rw (a, b, d) refl
]

pub spliced_without : (n : ℕ) (xs : List Example) → Rises xs → without_example n xs ≡ take (before n xs) xs ++ drop (through n xs) xs
spliced_without n [] h = refl
spliced_without n (x ∷ xs) h = elim (side x.row n) [
  | below a b c d lt ↦
      let p : 1 + before n xs ≡ suc (before n xs) = omega arith in
      let q : 1 + through n xs ≡ suc (through n xs) = omega arith in
      rw (a, b, d, p, q) (ap (λ (ys : List Example). x ∷ ys) (spliced_without n xs h.1))
  | here a b c d same ↦
      let later : Above n xs = subst (λ m. Above m xs) same h.0 in
      rw (a, b, d, none_through n xs later) (all_kept n xs later)
  | over a b c d lt ↦ rw (a, b, d) (ap (λ (ys : List Example). x ∷ ys) (all_kept n xs (above_less n x.row xs (omega arith) h.0)))
]

-- where the row has an example, it is the only one between the places
pub one_here : (n : ℕ) (xs : List Example) → Rises xs → has_example xs n ≡ true → through n xs ≡ before n xs + 1
one_here n [] h has = absurd (false≢true has)
one_here n (x ∷ xs) h has = elim (side x.row n) [
  | below a b c d lt ↦ rw (a, b) (let rest = one_here n xs h.1 (rw d at has) in omega arith)
  | here a b c d same ↦ rw (a, b) (let none = none_through n xs (subst (λ m. Above m xs) same h.0) in omega arith)
  | over a b c d lt ↦ absurd (false≢true (sym (none_here n xs (above_less n x.row xs (omega arith) h.0)) ∙ (rw d at has)))
]

pub none_between : (n : ℕ) (xs : List Example) → has_example xs n ≡ false → through n xs ≡ before n xs
none_between n [] has = refl
none_between n (x ∷ xs) has = elim (side x.row n) [
  | below a b c d lt ↦ rw (a, b) (let rest = none_between n xs (rw d at has) in omega arith)
  | here a b c d same ↦ absurd (true≢false (rw d at has))
  | over a b c d lt ↦ rw (a, b) refl
]

-- the place of an example is within the list
pub place_within : (n : ℕ) (xs : List Example) → has_example xs n ≡ true → before n xs < length xs
place_within n [] has = absurd (false≢true has)
place_within n (x ∷ xs) has = elim (side x.row n) [
  | below a b c d lt ↦ rw a (let rest = place_within n xs (rw d at has) in omega arith)
  | here a b c d same ↦ rw a (omega arith)
  | over a b c d lt ↦ rw a (omega arith)
]

above_with : (m : ℕ) (e : Example) (xs : List Example) → m < e.row → Above m xs → Above m (with_example e xs)
above_with m e [] lt h = (lt, tt)
above_with m e (x ∷ xs) lt h = elim (side x.row e.row) [
  | below a b c d less ↦ rw a (h.0, above_with m e xs lt h.1)
  | here a b c d same ↦ rw (a, d) (lt, h.1)
  | over a b c d more ↦ rw (a, d) (lt, h)
]

pub rises_with : (e : Example) (xs : List Example) → Rises xs → Rises (with_example e xs)
rises_with e [] h = (tt, tt)
rises_with e (x ∷ xs) h = elim (side x.row e.row) [
  | below a b c d less ↦ rw a (above_with x.row e xs less h.0, rises_with e xs h.1)
  | here a b c d same ↦ rw (a, d) (subst (λ m. Above m xs) same h.0, h.1)
  | over a b c d more ↦ rw (a, d) ((more, above_less e.row x.row xs (omega arith) h.0), h)
]

-- the example's place stays where it was
pub before_with : (e : Example) (xs : List Example) → before e.row (with_example e xs) ≡ before e.row xs
before_with e [] = rw (le-ltb e.row e.row (omega arith)) refl
before_with e (x ∷ xs) = elim (side x.row e.row) [
  | below a b c d less ↦ rw (a, a) (let rest = before_with e xs in omega arith)
  | here a b c d same ↦ rw (a, d, le-ltb e.row e.row (omega arith)) refl
  | over a b c d more ↦ rw (a, d, le-ltb e.row e.row (omega arith)) refl
]

pub before_without : (n : ℕ) (xs : List Example) → Rises xs → before n (without_example n xs) ≡ before n xs
before_without n [] h = refl
before_without n (x ∷ xs) h = elim (side x.row n) [
  | below a b c d less ↦ rw (d, a) (let rest = before_without n xs h.1 in omega arith)
  | here a b c d same ↦
      let later : Above n xs = subst (λ m. Above m xs) same h.0 in
      rw (d, a, all_kept n xs later) (none_before n xs later)
  | over a b c d more ↦ rw (d, a) refl
]

-- the examples of the row and later ones are those from its place on
pub later_counted : (n : ℕ) (xs : List Example) → Rises xs → count_by (λ x. nat_le n x.row) xs ≡ length (drop (before n xs) xs)
later_counted n [] h = refl
later_counted n (x ∷ xs) h = elim (side x.row n) [
  | below a b c d less ↦
      let p : 1 + before n xs ≡ suc (before n xs) = omega arith in
      one_more n x xs false c ∙ rw (a, p) (let rest = later_counted n xs h.1 in omega arith)
  | here a b c d same ↦
      one_more n x xs true c ∙ rw a (let rest = all_counted n xs (subst (λ m. Above m xs) same h.0) in omega arith)
  | over a b c d more ↦
      one_more n x xs true c ∙ rw a (let rest = all_counted n xs (above_less n x.row xs (omega arith) h.0) in omega arith)
]

pub count_with : (e : Example) (xs : List Example) → length (with_example e xs) ≤ length xs + 1
count_with e [] = omega arith
count_with e (x ∷ xs) = elim (side x.row e.row) [
  | below a b c d less ↦ rw a (let rest = count_with e xs in omega arith)
  | here a b c d same ↦ rw (a, d) (omega arith)
  | over a b c d more ↦ rw (a, d) (omega arith)
]

pub count_replaced : (e : Example) (xs : List Example) → Rises xs → has_example xs e.row ≡ true → length (with_example e xs) ≡ length xs
count_replaced e [] h has = absurd (false≢true has)
count_replaced e (x ∷ xs) h has = elim (side x.row e.row) [
  | below a b c d less ↦ rw a (let rest = count_replaced e xs h.1 (rw d at has) in omega arith)
  | here a b c d same ↦ rw (a, d) (omega arith)
  | over a b c d more ↦ absurd (false≢true (sym (none_here e.row xs (above_less e.row x.row xs (omega arith) h.0)) ∙ (rw d at has)))
]

pub all_with : (P : Example → Type 0) (e : Example) (xs : List Example) → P e → All P xs → All P (with_example e xs)
all_with P e [] p h = All-cons P e [] p h
all_with P e (x ∷ xs) p h = elim (side x.row e.row) [
  | below a b c d less ↦ rw a (All-cons P x (with_example e xs) (All-head P x xs h) (all_with P e xs p (All-tail P x xs h)))
  | here a b c d same ↦ rw (a, d) (All-cons P e xs p (All-tail P x xs h))
  | over a b c d more ↦ rw (a, d) (All-cons P e (x ∷ xs) p h)
]

pub all_without : (P : Example → Type 0) (n : ℕ) (xs : List Example) → All P xs → All P (without_example n xs)
all_without P n [] h = h
all_without P n (x ∷ xs) h = elim (side x.row n) [
  | below a b c d less ↦ rw d (All-cons P x (without_example n xs) (All-head P x xs h) (all_without P n xs (All-tail P x xs h)))
  | here a b c d same ↦ rw d (all_without P n xs (All-tail P x xs h))
  | over a b c d more ↦ rw d (All-cons P x (without_example n xs) (All-head P x xs h) (all_without P n xs (All-tail P x xs h)))
]
