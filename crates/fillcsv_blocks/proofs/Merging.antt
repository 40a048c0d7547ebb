-- Rows of two lists in rising order, and the part that they make.
use Rattle.std.proofs.Common.{◌≡◌, ◌∙◌, ℕ, zero, suc, ◌+◌, ◌<◌, ◌≤◌, ◌==◌, nat_lt, if◌then◌else◌, false, List, [], ◌∷◌, ◌++◌, length, All, Contains, Option, get_or, ap, append_assoc, append-nil, arith, length-append, refl, subst, sym}
use Rattle.std.specs.List.{AllZip}
use Rattle.std.proofs.lemmas.Bool.{cond_both, eqb-true, ltb-false, ltb-true}
use Rattle.std.proofs.lemmas.Bool.Decides.{nat_tests}
use Rattle.std.proofs.lemmas.List.Elements.{All-cons, All-head, All-map, All-nil, All-tail}
use Rattle.std.proofs.lemmas.List.Kept.{AllPairs-cons}
use Rattle.fill_text.specs.Data.{SheetData}
use Rattle.fill_sheet.specs.Sheet.{row_of}
use Rattle.fillcsv_blocks.specs.Merged.{IsRowOf, PartData, RowsRise, merged, no_rows, numbers_of, placed_in, with_row, with_rows}
use Rattle.fillcsv_blocks.specs.Numbers.{HasRow, Rise}
use Rattle.fillcsv_blocks.specs.declared.numbered.Numbered.{Numbered}

abbrev Over : ℕ → Numbered → Type 0
Over n it = n < it.number

abbrev Less : Numbered → Numbered → Type 0
Less a b = a.number < b.number

abbrev Has : ℕ → List Numbered → Type 0
Has n rows = Contains (numbers_of rows) n

rises_head : (x : Numbered) (xs : List Numbered) → RowsRise (x ∷ xs) → All (Over x.number) xs
rises_head x xs h k d lt = h 0 (suc k) d (omega arith) (omega arith)

rises_tail : (x : Numbered) (xs : List Numbered) → RowsRise (x ∷ xs) → RowsRise xs
rises_tail x xs h i j d less lt = h (suc i) (suc j) d (omega arith) (omega arith)

has_here : (x : Numbered) (xs : List Numbered) (n : ℕ) → x.number ≡ n → Has n (x ∷ xs)
has_here x xs n is = (0, omega arith, is)

has_later : (x : Numbered) (xs : List Numbered) (n : ℕ) → Has n xs → Has n (x ∷ xs)
has_later x xs n c = (suc c.0, omega (arith, c.1), c.2)

-- how a list begins whose first row is one or another
module _ (P : List Numbered → Type 0) (x y : Numbered) (below same over : List Numbered)
    (b : y.number < x.number → P below) (s : y.number ≡ x.number → P same) (o : x.number < y.number → P over) where
  by_order : P (if nat_lt y.number x.number then below else if y.number == x.number then same else over)
  by_order = cond_both (nat_lt y.number x.number) below (if y.number == x.number then same else over) P (λ e. b (ltb-true y.number x.number e))
      (λ e. cond_both (y.number == x.number) same over P (λ q. s (eqb-true y.number x.number q)) (λ q. o (apart (ltb-false y.number x.number e) q)))
    where
      apart : x.number ≤ y.number → (y.number == x.number) ≡ false → x.number < y.number
      apart le other = grind (arith, nat_tests)

module _ (x : Numbered) (above : List Numbered → List Numbered) where
  placed_all : (P : Numbered → Type 0) → P x → ((zs : List Numbered) → All P zs → All P (above zs)) → (ys : List Numbered) → All P ys → All P (placed_in x above ys)
  placed_all P here f [] all = All-cons P x (above []) here (f [] (All-nil P))
  placed_all P here f (y ∷ ys) all =
      by_order (All P) x y (y ∷ placed_in x above ys) (x ∷ above ys) (x ∷ above (y ∷ ys))
      (λ lt. All-cons P y (placed_in x above ys) (All-head P y ys all) (placed_all P here f ys (All-tail P y ys all)))
      (λ same. All-cons P x (above ys) here (f ys (All-tail P y ys all)))
      (λ le. All-cons P x (above (y ∷ ys)) here (f (y ∷ ys) all))

  -- no row that comes with those above is below a number that is not above this row's
  module _ (high : (n : ℕ) → n ≤ x.number → (zs : List Numbered) → All (Over n) zs → All (Over n) (above zs)) (rises : (zs : List Numbered) → RowsRise zs → RowsRise (above zs)) where
    led : (zs : List Numbered) → All (Over x.number) zs → RowsRise zs → RowsRise (x ∷ above zs)
    led zs all r = AllPairs-cons Less x (above zs) (high x.number (omega arith) zs all) (rises zs r)

    placed_rises : (ys : List Numbered) → RowsRise ys → RowsRise (placed_in x above ys)
    placed_rises [] r = led [] (All-nil (Over x.number)) r
    placed_rises (y ∷ ys) r =
        let over = rises_head y ys r in
        by_order RowsRise x y (y ∷ placed_in x above ys) (x ∷ above ys) (x ∷ above (y ∷ ys))
        (λ lt. AllPairs-cons Less y (placed_in x above ys) (placed_all (Over y.number) lt (high y.number (omega (arith, lt))) ys over) (placed_rises ys (rises_tail y ys r)))
        (λ same. led ys (λ k d lt. let l = over k d lt in omega (arith, same, l)) (rises_tail y ys r))
        (λ lt. led (y ∷ ys) (All-cons (Over x.number) y ys lt (λ k d within. let l = over k d within in omega (arith, lt, l))) r)

  placed_has : (ys : List Numbered) → Has x.number (placed_in x above ys)
  placed_has [] = has_here x (above []) x.number refl
  placed_has (y ∷ ys) =
      by_order (Has x.number) x y (y ∷ placed_in x above ys) (x ∷ above ys) (x ∷ above (y ∷ ys))
      (λ lt. has_later y (placed_in x above ys) x.number (placed_has ys)) (λ same. has_here x (above ys) x.number refl) (λ le. has_here x (above (y ∷ ys)) x.number refl)

  -- a number that is there with those above, or among the others
  placed_keeps : (n : ℕ) → ((zs : List Numbered) → Has n zs → Has n (above zs)) → (ys : List Numbered) → Has n ys → Has n (placed_in x above ys)
  placed_keeps n f [] has = absurd (let lt = has.1 in omega (arith, lt))
  placed_keeps n f (y ∷ ys) (zero, lt, is) =
      by_order (Has n) x y (y ∷ placed_in x above ys) (x ∷ above ys) (x ∷ above (y ∷ ys))
      (λ lt. has_here y (placed_in x above ys) n is) (λ same. has_here x (above ys) n (sym same ∙ is)) (λ lt. has_later x (above (y ∷ ys)) n (f (y ∷ ys) (has_here y ys n is)))
  placed_keeps n f (y ∷ ys) (suc k, lt, is) =
      let has : Has n ys = (k, omega (arith, lt), is) in
      by_order (Has n) x y (y ∷ placed_in x above ys) (x ∷ above ys) (x ∷ above (y ∷ ys))
      (λ lt. has_later y (placed_in x above ys) n (placed_keeps n f ys has)) (λ same. has_later x (above ys) n (f ys has)) (λ lt. has_later x (above (y ∷ ys)) n (f (y ∷ ys) (has_later y ys n has)))

  placed_adds : (n : ℕ) → ((zs : List Numbered) → Has n (above zs)) → (ys : List Numbered) → Has n (placed_in x above ys)
  placed_adds n f [] = has_later x (above []) n (f [])
  placed_adds n f (y ∷ ys) =
      by_order (Has n) x y (y ∷ placed_in x above ys) (x ∷ above ys) (x ∷ above (y ∷ ys))
      (λ lt. has_later y (placed_in x above ys) n (placed_adds n f ys)) (λ same. has_later x (above ys) n (f ys)) (λ lt. has_later x (above (y ∷ ys)) n (f (y ∷ ys)))

pub merged_all : (P : Numbered → Type 0) (xs ys : List Numbered) → All P xs → All P ys → All P (merged xs ys)
merged_all P [] ys first second = second
merged_all P (x ∷ xs) ys first second = placed_all x (merged xs) P (All-head P x xs first) (λ zs all. merged_all P xs zs (All-tail P x xs first) all) ys second

pub merged_rises : (xs ys : List Numbered) → RowsRise xs → RowsRise ys → RowsRise (merged xs ys)
merged_rises [] ys first second = second
merged_rises (x ∷ xs) ys first second =
    placed_rises x (merged xs) (λ n le zs all. merged_all (Over n) xs zs (λ k d lt. let l = rises_head x xs first k d lt in omega (arith, le, l)) all)
    (λ zs r. merged_rises xs zs (rises_tail x xs first) r) ys second

second_stays : (n : ℕ) (xs ys : List Numbered) → Has n ys → Has n (merged xs ys)
second_stays n [] ys has = has
second_stays n (x ∷ xs) ys has = placed_keeps x (merged xs) n (second_stays n xs) ys has

first_stays : (n : ℕ) (xs ys : List Numbered) → Has n xs → Has n (merged xs ys)
first_stays n [] ys has = absurd (let lt = has.1 in omega (arith, lt))
first_stays n (x ∷ xs) ys (zero, lt, is) = subst (λ m. Has m (placed_in x (merged xs) ys)) is (placed_has x (merged xs) ys)
first_stays n (x ∷ xs) ys (suc k, lt, is) = placed_adds x (merged xs) n (λ zs. first_stays n xs zs (k, omega (arith, lt), is)) ys

-- the numbers of all rows of a list
each_has : (rows : List Numbered) → All (λ it. Has it.number rows) rows
each_has rows = each rows
  where
    each : (rows : List Numbered) → All (λ it. Has it.number rows) rows
    each [] = All-nil (λ it. Has it.number [])
    each (x ∷ xs) = All-cons (λ it. Has it.number (x ∷ xs)) x xs (has_here x xs x.number refl) (λ k d lt. has_later x xs (get_or xs k d).number (each xs k d lt))

rise_of : (rows : List Numbered) → RowsRise rows → Rise (numbers_of rows)
rise_of [] r = λ i j d less lt. absurd (omega (arith, lt))
rise_of (x ∷ xs) r = AllPairs-cons (λ a b. a < b) x.number (numbers_of xs) (All-map (λ n. x.number < n) (λ it. it.number) xs (rises_head x xs r)) (rise_of xs (rises_tail x xs r))

zip_push : {X Y : Type 0} (R : X → Y → Type 0) (xs : List X) (ys : List Y) (x : X) (y : Y) → AllZip R xs ys → R x y → AllZip R (xs ++ x ∷ []) (ys ++ y ∷ [])
zip_push R [] [] x y z r = (r, tt)
zip_push R [] (b ∷ ys) x y z r = absurd z
zip_push R (a ∷ xs) [] x y z r = absurd z
zip_push R (a ∷ xs) (b ∷ ys) x y z r = (z.0, zip_push R xs ys x y z.1 r)

-- a part with these rows
module _ (output : Option ℕ) where
  numbers_grow : (part : PartData) (xs : List Numbered) → (with_rows output part xs).numbers ≡ part.numbers ++ numbers_of xs
  numbers_grow part [] = sym (append-nil part.numbers)
  numbers_grow part (x ∷ xs) = numbers_grow (with_row output part x) xs ∙ append_assoc part.numbers (x.number ∷ []) (numbers_of xs)

  pub rows_match : (long : SheetData) (part : PartData) (xs : List Numbered) → part.sheet.inputs ≡ long.inputs → AllZip (HasRow long.rows) part.numbers part.sheet.rows → All (IsRowOf long output) xs
      → let made = with_rows output part xs in (made.sheet.inputs ≡ long.inputs) × AllZip (HasRow long.rows) made.numbers made.sheet.rows
  rows_match long part [] same z all = (same, z)
  rows_match long part (x ∷ xs) same z all =
      let here = subst (λ (inputs : List ℕ). HasRow long.rows x.number (row_of inputs output x.fields)) (sym same) (All-head (IsRowOf long output) x xs all) in
      rows_match long (with_row output part x) xs same (zip_push (HasRow long.rows) part.numbers part.sheet.rows x.number (row_of part.sheet.inputs output x.fields) z here)
      (All-tail (IsRowOf long output) x xs all)

  pub as_long : (part : PartData) (xs : List Numbered) → length part.numbers ≡ length part.sheet.rows → let made = with_rows output part xs in length made.numbers ≡ length made.sheet.rows
  as_long part [] same = same
  as_long part (x ∷ xs) same = as_long (with_row output part x) xs
      (length-append part.numbers (x.number ∷ []) ∙ ap (λ n. n + 1) same ∙ sym (length-append part.sheet.rows (row_of part.sheet.inputs output x.fields ∷ [])))

  module _ (inputs : List ℕ) (xs ys : List Numbered) where
    abbrev pub made : PartData
    made = with_rows output (no_rows inputs) (merged xs ys)

    numbers_are : made.numbers ≡ numbers_of (merged xs ys)
    numbers_are = numbers_grow (no_rows inputs) (merged xs ys)

    pub numbers_rise : RowsRise xs → RowsRise ys → Rise made.numbers
    numbers_rise first second = subst Rise (sym numbers_are) (rise_of (merged xs ys) (merged_rises xs ys first second))

    pub first_there : All (λ it. Contains made.numbers it.number) xs
    first_there k d lt = subst (λ (l : List ℕ). Contains l (get_or xs k d).number) (sym numbers_are) (first_stays (get_or xs k d).number xs ys (each_has xs k d lt))

    pub second_there : All (λ it. Contains made.numbers it.number) ys
    second_there k d lt = subst (λ (l : List ℕ). Contains l (get_or ys k d).number) (sym numbers_are) (second_stays (get_or ys k d).number xs ys (each_has ys k d lt))
