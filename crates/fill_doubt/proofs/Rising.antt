-- A piece put where it belongs.
use Rattle.std.proofs.Common.{◌≡◌, ◌≢◌, ◌↔◌, ◌⊎◌, inl, inr, ⊎_elim, ℕ, zero, suc, ◌+◌, ◌<◌, ◌≤◌, List, [], ◌∷◌, ◌++◌, length, take, drop, map, get_or, Some, slice_get, refl, sym, ap, subst, ◌∙◌, arith}
use Rattle.std.specs.List.{All, AllPairs}
use Rattle.std.specs.Ordering.{nat_cmp, ordering_reverse}
use Rattle.std.specs.Cmp.Lexicographic.{slice_cmp}
use Rattle.std.specs.declared.cmp.Ordering.{Ordering}
use Rattle.std.specs.declared.cmp.Ordering.TheVariants.{Less, Equal, Greater}
use Rattle.std.proofs.lemmas.Bool.{cases_lt, cases_eq}
use Rattle.std.proofs.lemmas.Cmp.{nat_list_cmp_total}
use Rattle.std.proofs.lemmas.List.Elements.{All-cons, All-head, All-tail, All-append, All-take, All-drop}
use Rattle.std.proofs.lemmas.List.Kept.{AllPairs-cons}
use Rattle.std.proofs.lemmas.Map.Lookups.{exact_unsigned}
use Rattle.std.proofs.lemmas.Option.{slice_get_within, slice_get-get_or}
use Rattle.fill_tokens.proofs.OrderingLemmas.{exact_lists}
use Rattle.fill_arena.specs.Contents.{In, SomeIn, EachIn}
use Rattle.fill_arena.proofs.Lists.{get_there}
use Rattle.fill_eval.specs.Piece.{IsWithin, piece_text}
use Rattle.fill_eval.specs.declared.piece.Piece.{Piece}
use Rattle.fill_doubt.specs.Values.{AreRising}
use Rattle.fill_doubt.proofs.Gains.{SomeBelow}

module _ {A : Type 0} (R : A → A → Type 0) where
  pairs_head : (x : A) (xs : List A) → AllPairs R (x ∷ xs) → All (R x) xs
  pairs_head x xs a k d l = a zero (suc k) d (omega arith) (omega arith)

  pairs_tail : (x : A) (xs : List A) → AllPairs R (x ∷ xs) → AllPairs R xs
  pairs_tail x xs a i j d l w = a (suc i) (suc j) d (omega arith) (omega arith)

  pub pairs_insert : (xs : List A) (n : ℕ) (p : A) → AllPairs R xs → All (λ x. R x p) (take n xs) → All (R p) (drop n xs) → AllPairs R (take n xs ++ p ∷ drop n xs)
  pairs_insert xs zero p pairs before after = AllPairs-cons R p xs after pairs
  pairs_insert [] (suc n) p pairs before after = AllPairs-cons R p [] (λ k d l. absurd (omega arith)) pairs
  pairs_insert (x ∷ xs) (suc n) p pairs before after =
      let first = pairs_head x xs pairs in
      AllPairs-cons R x (take n xs ++ p ∷ drop n xs)
      (All-append (R x) (take n xs) (p ∷ drop n xs) (All-take (R x) n xs first) (All-cons (R x) p (drop n xs) (All-head (λ y. R y p) x (take n xs) before) (All-drop (R x) n xs first)))
      (pairs_insert xs n p (pairs_tail x xs pairs) (All-tail (λ y. R y p) x (take n xs) before) after)

module _ {A : Type 0} (P : A → Type 0) where
  pub all_items : (xs : List A) → ((k : ℕ) (x : A) → slice_get xs k ≡ Some x → P x) → All P xs
  all_items xs each k d l = each k (get_or xs k d) (slice_get-get_or xs k d l)

  pub all_taken : (xs : List A) (n : ℕ) → ((k : ℕ) (x : A) → k < n → slice_get xs k ≡ Some x → P x) → All P (take n xs)
  all_taken xs zero each = λ k d l. absurd (omega arith)
  all_taken [] (suc n) each = λ k d l. absurd (omega arith)
  all_taken (x ∷ xs) (suc n) each = All-cons P x (take n xs) (each zero x (omega arith) refl) (all_taken xs n (λ k y lt h. each (suc k) y (omega arith) h))

  pub all_dropped : (xs : List A) (n : ℕ) → ((k : ℕ) (x : A) → n ≤ k → slice_get xs k ≡ Some x → P x) → All P (drop n xs)
  all_dropped xs zero each = all_items xs (λ k x h. each k x (omega arith) h)
  all_dropped [] (suc n) each = λ k d l. absurd (omega arith)
  all_dropped (x ∷ xs) (suc n) each = all_dropped xs n (λ k y le h. each (suc k) y (omega arith) h)

-- what an inserted list has
pub in_inserted : {A : Type 0} (xs : List A) (n : ℕ) (p x : A) → In x (take n xs ++ p ∷ drop n xs) → In x xs ⊎ (p ≡ x)
in_inserted xs zero p x (zero, h) = inr cc
in_inserted xs zero p x (suc k, h) = inl (k, h)
in_inserted [] (suc n) p x (zero, h) = inr cc
in_inserted [] (suc n) p x (suc k, h) = absurd cc
in_inserted (y ∷ xs) (suc n) p x (zero, h) = inl (zero, h)
in_inserted (y ∷ xs) (suc n) p x (suc k, h) = ⊎_elim (λ l. inl (suc l.0, l.1)) (λ r. inr r) (in_inserted xs n p x (k, h))

pub inserted_in : {A : Type 0} (xs : List A) (n : ℕ) (p x : A) → In x xs → In x (take n xs ++ p ∷ drop n xs)
inserted_in xs zero p x (k, h) = (suc k, h)
inserted_in [] (suc n) p x (k, h) = absurd cc
inserted_in (y ∷ xs) (suc n) p x (zero, h) = (zero, h)
inserted_in (y ∷ xs) (suc n) p x (suc k, h) = let r = inserted_in xs n p x (k, h) in (suc r.0, r.1)

pub inserted_here : {A : Type 0} (xs : List A) (n : ℕ) (p : A) → In p (take n xs ++ p ∷ drop n xs)
inserted_here xs zero p = (zero, refl)
inserted_here [] (suc n) p = (zero, refl)
inserted_here (y ∷ xs) (suc n) p = let r = inserted_here xs n p in (suc r.0, r.1)

abbrev pub text_cmp : List ℕ → List ℕ → Ordering
text_cmp = slice_cmp nat_cmp

reversed : (o : Ordering) → o ≢ Less → o ≢ Equal → ordering_reverse o ≡ Less
reversed Less l e = absurd (l refl)
reversed Equal l e = absurd (e refl)
reversed Greater l e = refl

after_it : (t u : List ℕ) → text_cmp u t ≢ Less → u ≢ t → text_cmp t u ≡ Less
after_it t u less other = nat_list_cmp_total.antisymm t u ∙ reversed (text_cmp u t) less (λ e. other (exact_lists nat_cmp exact_unsigned u t e))

module _ (order : List Piece) (rising : AreRising order) (at : ℕ) (p : Piece) (before : (k : ℕ) (x : Piece) → k < at → slice_get order k ≡ Some x → text_cmp (piece_text x) (piece_text p) ≡ Less) where
  pub rising_insert : ((x : Piece) → slice_get order at ≡ Some x → (text_cmp (piece_text x) (piece_text p) ≢ Less) × (piece_text x ≢ piece_text p)) → AreRising (take at order ++ p ∷ drop at order)
  rising_insert here =
      pairs_insert (λ x y. text_cmp (piece_text x) (piece_text y) ≡ Less) order at p rising (all_taken (λ x. text_cmp (piece_text x) (piece_text p) ≡ Less) order at before)
      (all_dropped (λ x. text_cmp (piece_text p) (piece_text x) ≡ Less) order at later)
    where
      later : (k : ℕ) (x : Piece) → at ≤ k → slice_get order k ≡ Some x → text_cmp (piece_text p) (piece_text x) ≡ Less
      later k x le h =
          let w = slice_get_within order k x h in
          let y = get_there order at (omega arith) in
          let facts = here y.0 y.1 in
          let first = after_it (piece_text p) (piece_text y.0) facts.0 facts.1 in
          ⊎_elim
          (λ same.
          let one : slice_get order at ≡ Some x = subst (λ j. slice_get order j ≡ Some x) same h in
          let eq : y.0 ≡ x = (let there = y.1 in cc) in
          subst (λ z. text_cmp (piece_text p) (piece_text z) ≡ Less) eq first)
          (λ apart.
          let lt : at < k = omega arith in
          let less = rising at k x lt w in
          let left : get_or order at x ≡ y.0 = item order at x y.0 y.1 in
          let right : get_or order k x ≡ x = item order k x x h in
          let both = subst (λ z. text_cmp (piece_text z) (piece_text (get_or order k x)) ≡ Less) left less in
          let last = subst (λ z. text_cmp (piece_text y.0) (piece_text z) ≡ Less) right both in
          nat_list_cmp_total.trans (piece_text p) (piece_text y.0) (piece_text x) first last)
          (cases_eq k at)
        where
          item : (xs : List Piece) (i : ℕ) (d x : Piece) → slice_get xs i ≡ Some x → get_or xs i d ≡ x
          item xs i d x h = let w = slice_get_within xs i x h in let e : slice_get xs i ≡ Some (get_or xs i d) = slice_get-get_or xs i d w in cc

-- the texts of pieces
pub in_map : {A B : Type 0} (f : A → B) (xs : List A) (b : B) → In b (map f xs) ↔ SomeIn (λ x. f x ≡ b) xs
in_map {A} {B} f xs b = ((λ h. to xs h.0 h.1), (λ h. back xs h.1.0 h.0 h.1.1 h.2))
  where
    to : (ys : List A) (k : ℕ) → slice_get (map f ys) k ≡ Some b → SomeIn (λ x. f x ≡ b) ys
    to [] k h = absurd cc
    to (y ∷ ys) zero h = (y, (zero, refl), cc)
    to (y ∷ ys) (suc k) h = let r = to ys k h in (r.0, (suc r.1.0, r.1.1), r.2)

    back : (ys : List A) (k : ℕ) (x : A) → slice_get ys k ≡ Some x → f x ≡ b → In b (map f ys)
    back [] k x h e = absurd cc
    back (y ∷ ys) zero x h e = (zero, (let same : y ≡ x = cc in ap Some (ap f same ∙ e)))
    back (y ∷ ys) (suc k) x h e = let r = back ys k x h e in (suc r.0, r.1)

pub map_rising : (xs : List Piece) → AreRising xs → AllPairs (λ v w. text_cmp v w ≡ Less) (map piece_text xs)
map_rising [] a = λ i j d l w. absurd (omega arith)
map_rising (x ∷ xs) a =
    AllPairs-cons (λ v w. text_cmp v w ≡ Less) (piece_text x) (map piece_text xs)
    (heads xs (pairs_head (λ y z. text_cmp (piece_text y) (piece_text z) ≡ Less) x xs a))
    (map_rising xs (pairs_tail (λ y z. text_cmp (piece_text y) (piece_text z) ≡ Less) x xs a))
  where
    heads : (ys : List Piece) → All (λ y. text_cmp (piece_text x) (piece_text y) ≡ Less) ys → All (λ v. text_cmp (piece_text x) v ≡ Less) (map piece_text ys)
    heads [] all = λ k d l. absurd (omega arith)
    heads (y ∷ ys) all =
        All-cons (λ v. text_cmp (piece_text x) v ≡ Less) (piece_text y) (map piece_text ys) (All-head (λ z. text_cmp (piece_text x) (piece_text z) ≡ Less) y ys all)
        (heads ys (All-tail (λ z. text_cmp (piece_text x) (piece_text z) ≡ Less) y ys all))

-- pieces put in one after the other
pub within_nil : (xs : List Piece) → xs ≡ [] → EachIn IsWithin xs
within_nil [] e k x h = absurd cc
within_nil (y ∷ xs) e k x h = absurd cc

pub rising_nil : (xs : List Piece) → xs ≡ [] → AreRising xs
rising_nil [] e = λ i j d l w. absurd (omega arith)
rising_nil (y ∷ xs) e = absurd cc

pub exact_nil : (xs ys : List Piece) → xs ≡ [] → (v : List ℕ) → SomeIn (λ x. piece_text x ≡ v) xs ↔ SomeBelow 0 ys (λ x. piece_text x ≡ v)
exact_nil [] ys e v = ((λ h. let at = h.1.1 in absurd cc), (λ h. let lt = h.2 in absurd (omega arith)))
exact_nil (x ∷ xs) ys e v = absurd cc

pub exact_more : (old new ys : List Piece) (i : ℕ) (p : Piece) → slice_get ys i ≡ Some p → ((v : List ℕ) → SomeIn (λ x. piece_text x ≡ v) old ↔ SomeBelow i ys (λ x. piece_text x ≡ v))
    → ((v : List ℕ) → SomeIn (λ x. piece_text x ≡ v) new ↔ (SomeIn (λ x. piece_text x ≡ v) old ⊎ (piece_text p ≡ v))) → (v : List ℕ) → SomeIn (λ x. piece_text x ≡ v) new ↔ SomeBelow (i + 1) ys (λ x. piece_text x ≡ v)
exact_more old new ys i p at exact gains v = (
  (λ h. ⊎_elim (λ l. let b = (exact v).0 l in let lt = b.2 in (b.0, b.1, omega arith, b.3, b.4)) (λ r. (i, p, omega arith, at, r)) ((gains v).0 h)),
  (λ h. (gains v).1 (⊎_elim (λ less. inl ((exact v).1 (h.0, h.1, less, h.3, h.4))) (λ past.
      let lt = h.2 in
      let same : h.0 ≡ i = omega arith in
      let there : slice_get ys i ≡ Some h.1 = subst (λ j. slice_get ys j ≡ Some h.1) same h.3 in
      let one : h.1 ≡ p = cc in
      inr (ap piece_text (sym one) ∙ h.4)) (cases_lt h.0 i))),
)

pub exact_end : (xs ys : List Piece) (i : ℕ) → length ys ≤ i → ((v : List ℕ) → SomeIn (λ x. piece_text x ≡ v) xs ↔ SomeBelow i ys (λ x. piece_text x ≡ v)) → (v : List ℕ)
    → In v (map piece_text xs) ↔ SomeIn (λ x. piece_text x ≡ v) ys
exact_end xs ys i past exact v = (
  (λ h. let b = (exact v).0 ((in_map piece_text xs v).0 h) in (b.1, (b.0, b.3), b.4)),
  (λ h. let w = slice_get_within ys h.1.0 h.0 h.1.1 in (in_map piece_text xs v).1 ((exact v).1 (h.1.0, h.0, omega arith, h.1.1, h.2))),
)

module _ (old new : List Piece) (at : ℕ) (p : Piece) (is : new ≡ take at old ++ p ∷ drop at old) where
  pub inserted_within : EachIn IsWithin old → IsWithin p → EachIn IsWithin new
  inserted_within within own k x h =
      ⊎_elim (λ l. within l.0 x l.1) (λ r. subst IsWithin r own) (in_inserted old at p x (k, subst (λ (xs : List Piece). slice_get xs k ≡ Some x) is h))

  pub inserted_gains : (v : List ℕ) → SomeIn (λ x. piece_text x ≡ v) new ↔ (SomeIn (λ x. piece_text x ≡ v) old ⊎ (piece_text p ≡ v))
  inserted_gains v = (
    (λ h. ⊎_elim (λ l. inl (h.0, l, h.2)) (λ r. inr (ap piece_text r ∙ h.2)) (in_inserted old at p h.0 (subst (λ (xs : List Piece). In h.0 xs) is h.1))),
    (λ h. ⊎_elim (λ l. (l.0, subst (λ (xs : List Piece). In l.0 xs) (sym is) (inserted_in old at p l.0 l.1), l.2)) (λ r. (p, subst (λ (xs : List Piece). In p xs) (sym is) (inserted_here old at p), r)) h),
  )

  pub inserted_rising : AreRising old → ((k : ℕ) (x : Piece) → k < at → slice_get old k ≡ Some x → text_cmp (piece_text x) (piece_text p) ≡ Less)
      → ((x : Piece) → slice_get old at ≡ Some x → text_cmp (piece_text x) (piece_text p) ≢ Less) → ¬ ((x : Piece) × (slice_get old at ≡ Some x) × (piece_text x ≡ piece_text p)) → AreRising new
  inserted_rising rising before here apart =
      subst AreRising (sym is) (rising_insert old rising at p before (λ x h. (here x h, λ e. apart (x, h, e))))
