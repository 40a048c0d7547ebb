-- Places of rows in the order of their cells.
use Rattle.std.proofs.Common.{◌≡◌, ◌≢◌, ℕ, ◌+◌, ◌-◌, ◌<◌, ◌≤◌, ◌&&◌, List, [], ◌∷◌, length, get_or, take, drop, map, position, Bool, true, false, not, ◌==◌, Option, None, Some, slice_get, All, Contains, ltb, inl, inr, refl, sym, ap, ◌∙◌, arith}
use Rattle.std.specs.Ordering.{nat_cmp, is_eq, ordering_then, ordering_reverse, ordering_index}
use Rattle.std.specs.Cmp.{IsTotalOrder}
use Rattle.std.specs.Cmp.Lexicographic.{options_total, pointwise}
use Rattle.std.specs.List.{AllWithin, insert, position_or_len}
use Rattle.std.specs.List.Sorted.{IsNonDecreasingBy}
use Rattle.std.specs.declared.cmp.Ordering.{Ordering}
use Rattle.std.specs.declared.cmp.Ordering.TheVariants.{Less, Equal, Greater}
use Rattle.std.proofs.Math.Seq.{drop-cons}
use Rattle.std.proofs.lemmas.Bool.{cases_order, cases_lt, cases_eq}
use Rattle.std.proofs.lemmas.Bool.Decides.{nat_tests}
use Rattle.std.proofs.lemmas.Cmp.{lists_total, nat_list_cmp_total}
use Rattle.std.proofs.lemmas.List.{length-take, get_or-take, get_or_default, drop_all, drop_more}
use Rattle.std.proofs.lemmas.Option.{slice_get_within, get_or_from_slice_get, slice_get-get_or}
use Rattle.std.proofs.lemmas.List.Edits.{get_or-insert_at, get_or-insert_below, get_or-insert_above, length-insert}
use Rattle.std.proofs.lemmas.List.Elements.{All-append, All-take, All-drop, All-cons}
use Rattle.std.proofs.lemmas.List.Sums.{position_or_len_is}
use Rattle.std.proofs.lemmas.Map.Text.{is_eq-slice_cmp}
use Rattle.fill_text.specs.Data.{nth}
use Rattle.fill_tables.specs.Rows.{same_cell}
use Rattle.fill_tables.specs.Orders.{cell_cmp, cells_cmp, cells_at, IsOrder}

-- the order is total
pub cells_total : IsTotalOrder cells_cmp
cells_total = lists_total (options_total nat_list_cmp_total)

same_cell-cmp : (a b : Option (List ℕ)) → same_cell a b ≡ is_eq (cell_cmp a b)
same_cell-cmp None None = refl
same_cell-cmp None (Some b) = refl
same_cell-cmp (Some a) None = refl
same_cell-cmp (Some a) (Some b) = sym (is_eq-slice_cmp a b)

is_eq-then : (o p : Ordering) → is_eq (ordering_then o p) ≡ (is_eq o && is_eq p)
is_eq-then Less p = refl
is_eq-then Equal p = refl
is_eq-then Greater p = refl

-- cells are the same where neither is before the other
pub same_cells-cmp : (xs ys : List (Option (List ℕ))) → pointwise same_cell xs ys ≡ is_eq (cells_cmp xs ys)
same_cells-cmp [] [] = refl
same_cells-cmp [] (y ∷ ys) = refl
same_cells-cmp (x ∷ xs) [] = refl
same_cells-cmp (x ∷ xs) (y ∷ ys) = rw (same_cell-cmp x y, same_cells-cmp xs ys) (sym (is_eq-then (cell_cmp x y) (cells_cmp xs ys)))

index-most : (o : Ordering) → ordering_index o ≤ 2
index-most Less = omega arith
index-most Equal = omega arith
index-most Greater = omega arith

-- where a is before b, a stands to x no later than b does
rises-to : (a b x : List (Option (List ℕ))) → cells_cmp a b ≡ Less → ordering_index (cells_cmp a x) ≤ ordering_index (cells_cmp b x)
rises-to a b x less = elim (cells_cmp b x) as (λ o. cells_cmp b x ≡ o → ordering_index (cells_cmp a x) ≤ ordering_index o) [
  | Less ↦ λ is. rw (cells_total.trans a b x less is) (omega arith)
  | Equal ↦ λ is.
      let back : cells_cmp b a ≡ cells_cmp x a = cells_total.congr b x a is in
      let first : cells_cmp a x ≡ Less = cells_total.antisymm a x ∙ ap ordering_reverse (sym back) ∙ sym (cells_total.antisymm a b) ∙ less in
      rw first (omega arith)
  | Greater ↦ λ is. index-most (cells_cmp a x)
] refl

pub order-rises : (columns : List ℕ) (rows : List (List (List ℕ))) (end : ℕ) (order : List ℕ) (x : List (Option (List ℕ))) → IsOrder columns rows end order
    → IsNonDecreasingBy (λ place. ordering_index (cells_cmp (cells_at columns rows place) x)) order
order-rises columns rows end order x is i j d le lt = elim (cases_order i j) [
  | inl same ↦ rw same (omega arith)
  | inr (inl less) ↦ rises-to (cells_at columns rows (get_or order i d)) (cells_at columns rows (get_or order j d)) x (is.rises i j d less lt)
  | inr (inr more) ↦ absurd (omega arith)
]

position-past : {X : Type 0} (p : X → Bool) (xs : List X) → position_or_len p xs ≡ length xs → position p xs ≡ None
position-past p xs past = let no : ltb (position_or_len p xs) (length xs) ≡ false = grind (arith, nat_tests) in rw no refl

position-here : {X : Type 0} (p : X → Bool) (xs : List X) (i : ℕ) → position_or_len p xs ≡ i → i < length xs → position p xs ≡ Some i
position-here p xs i is lt = let yes : ltb i (length xs) ≡ true = grind (arith, nat_tests) in rw (is, yes) refl

-- no row passes where none of the places in order does
pub order-missing : (columns : List ℕ) (rows : List (List (List ℕ))) (end : ℕ) (order : List ℕ) (p : List (List ℕ) → Bool) → end ≤ length rows → IsOrder columns rows end order
    → ((k : ℕ) → k < length order → p (get_or rows (get_or order k 0) []) ≡ false) → position p (take end rows) ≡ None
order-missing columns rows end order p le is fails =
    let size : length (take end rows) ≡ end = length-take end rows ∙ omega arith in
    let none : position_or_len p (take end rows) ≡ length (take end rows) = position_or_len_is p (take end rows) (length (take end rows)) [] (omega arith)
    (λ k lt. let there = is.whole k (omega arith) in
    let same : get_or order there.0 0 ≡ k = get_or_default order there.0 0 k there.1 ∙ there.2 in
    let no = fails there.0 there.1 in
    rw (get_or-take end rows k [] (omega arith)) (rw same at no))
    (λ lt. absurd (omega arith)) in
    position-past p (take end rows) none

-- two places in order have different cells
order-apart : (columns : List ℕ) (rows : List (List (List ℕ))) (end : ℕ) (order : List ℕ) (j k : ℕ) → IsOrder columns rows end order → j < end → k < length order → j ≢ get_or order k 0
    → cells_cmp (cells_at columns rows j) (cells_at columns rows (get_or order k 0)) ≢ Equal
order-apart columns rows end order j k is lt within other equal =
    let there = is.whole j lt in
    let same : get_or order there.0 0 ≡ j = get_or_default order there.0 0 j there.1 ∙ there.2 in
    elim (cases_order there.0 k) [
      | inl at ↦ other (sym (rw at at same))
      | inr (inl less) ↦ let first = rw same at (is.rises there.0 k 0 less within) in cc
      | inr (inr more) ↦
          let second = rw same at (is.rises k there.0 0 more there.1) in
          let greater = cells_total.antisymm (cells_at columns rows j) (cells_at columns rows (get_or order k 0)) ∙ ap ordering_reverse second in
          cc
    ]

other-cells : (columns : List ℕ) (rows : List (List (List ℕ))) (end : ℕ) (order : List ℕ) (x : List (Option (List ℕ))) (j k : ℕ) → IsOrder columns rows end order → j < end → k < length order → j ≢ get_or order k 0
    → cells_cmp (cells_at columns rows (get_or order k 0)) x ≡ Equal → is_eq (cells_cmp (cells_at columns rows j) x) ≡ false
other-cells columns rows end order x j k is lt within other equal =
    elim (cells_cmp (cells_at columns rows j) x) as (λ o. cells_cmp (cells_at columns rows j) x ≡ o → is_eq o ≡ false) [
      | Less ↦ λ _. refl
      | Greater ↦ λ _. refl
      | Equal ↦ λ same.
          let first = cells_total.congr (cells_at columns rows j) x (cells_at columns rows (get_or order k 0)) same in
          let second = cells_total.antisymm x (cells_at columns rows (get_or order k 0)) ∙ ap ordering_reverse equal in
          absurd (order-apart columns rows end order j k is lt within other (first ∙ second))
    ] refl

-- the place in order whose cells are x is that of the only row that passes a test for them
pub order-found : (columns : List ℕ) (rows : List (List (List ℕ))) (end : ℕ) (order : List ℕ) (p : List (List ℕ) → Bool) (x : List (Option (List ℕ))) (k : ℕ) → end ≤ length rows → IsOrder columns rows end order
    → ((row : List (List ℕ)) → p row ≡ is_eq (cells_cmp (map (nth row) columns) x)) → k < length order → cells_cmp (cells_at columns rows (get_or order k 0)) x ≡ Equal
    → position p (take end rows) ≡ Some (get_or order k 0)
order-found columns rows end order p x k le is test within equal =
    let r = get_or order k 0 in
    let lt : r < end = is.within k 0 within in
    let size : length (take end rows) ≡ end = length-take end rows ∙ omega arith in
    let first : position_or_len p (take end rows) ≡ r = position_or_len_is p (take end rows) r [] (omega arith)
    (λ j less. rw (get_or-take end rows j [] (omega arith), test (get_or rows j [])) (other-cells columns rows end order x j k is (omega arith) within (λ same. absurd (omega arith)) equal))
    (λ _. rw (get_or-take end rows r [] lt, test (get_or rows r []), equal) refl) in
    position-here p (take end rows) r first (omega arith)

insert-above : (order : List ℕ) (place y d j : ℕ) → place < j → place ≤ length order → get_or (insert order place y) j d ≡ get_or order (j - 1) d
insert-above order place y d j lt le = let same : j - 1 + 1 ≡ j = omega arith in rw same at (get_or-insert_above order place y d (j - 1) (omega arith) le)

moved : (order : List ℕ) (place y r : ℕ) → place ≤ length order → Contains order r → Contains (insert order place y) r
moved order place y r le there =
    let size = length-insert order place y le in
    let within : there.0 < length order = there.1 in
    elim (cases_lt there.0 place) [
      | inl below ↦ (there.0, omega arith, get_or-insert_below order place y r there.0 below le ∙ there.2)
      | inr above ↦ (there.0 + 1, omega arith, get_or-insert_above order place y r there.0 above le ∙ there.2)
    ]

-- one more row at its place among the others
pub order-inserted : (columns : List ℕ) (rows : List (List (List ℕ))) (end : ℕ) (order : List ℕ) (place : ℕ) → IsOrder columns rows end order → place ≤ length order
    → AllWithin (λ k. cells_cmp (cells_at columns rows k) (cells_at columns rows end) ≡ Less) order 0 place
    → AllWithin (λ k. cells_cmp (cells_at columns rows k) (cells_at columns rows end) ≡ Greater) order place (length order)
    → IsOrder columns rows (end + 1) (insert order place end)
order-inserted columns rows end order place is le before after =
    let size = length-insert order place end le in
    let old : All (λ k. k < end + 1) order = λ k d lt. let less = is.within k d lt in omega arith in
    record {
      within = All-append (λ k. k < end + 1) (take place order) (end ∷ drop place order) (All-take (λ k. k < end + 1) place order old) (All-cons (λ k. k < end + 1) end (drop place order) (omega arith) (All-drop (λ k. k < end + 1) place order old));
      whole = λ r lt. elim (cases_eq r end) [
        | inl same ↦ (place, omega arith, rw same (get_or-insert_at order place end end le))
        | inr other ↦ moved order place end r le (is.whole r (omega arith))
      ];
      rises = λ i j d less lt. elim (cases_order j place) [
        | inl at ↦ rw (at, get_or-insert_at order place end d le, get_or-insert_below order place end d i (omega arith) le) (before i d (omega arith) (omega arith))
        | inr (inl below) ↦ rw (get_or-insert_below order place end d i (omega arith) le, get_or-insert_below order place end d j below le) (is.rises i j d less (omega arith))
        | inr (inr above) ↦ rw (insert-above order place end d j above le) (elim (cases_order i place) [
          | inl at ↦ rw (at, get_or-insert_at order place end d le) (cells_total.antisymm (cells_at columns rows end) (cells_at columns rows (get_or order (j - 1) d)) ∙ ap ordering_reverse (after (j - 1) d (omega arith) (omega arith)))
          | inr (inl below) ↦ rw (get_or-insert_below order place end d i below le) (is.rises i (j - 1) d (omega arith) (omega arith))
          | inr (inr past) ↦ rw (insert-above order place end d i past le) (is.rises (i - 1) (j - 1) d (omega arith) (omega arith))
        ])
      ];
    }

-- cells against texts, from a place on where there is no further text
pub cells-longer : (row : List (List ℕ)) (columns : List ℕ) (texts : List (List ℕ)) (i : ℕ) → i < length columns → length texts ≤ i → cells_cmp (map (nth row) (drop i columns)) (map Some (drop i texts)) ≡ Greater
cells-longer row columns texts i lt past = rw (drop-cons columns i 0, drop_all i texts past) refl

-- the same where there is no further column
pub cells-rest : (row : List (List ℕ)) (columns : List ℕ) (texts : List (List ℕ)) (i : ℕ) → i ≡ length columns → i ≤ length texts → cells_cmp (map (nth row) (drop i columns)) (map Some (drop i texts)) ≡ nat_cmp (length columns) (length texts)
cells-rest row columns texts i is there = elim (cases_lt i (length texts)) [
  | inl less ↦
      let order : nat_cmp (length columns) (length texts) ≡ Less = grind (arith, nat_tests) in
      rw (drop_all i columns (omega arith), drop-cons texts i [], order) refl
  | inr past ↦
      let order : nat_cmp (length columns) (length texts) ≡ Equal = grind (arith, nat_tests) in
      rw (drop_all i columns (omega arith), drop_all i texts past, order) refl
]

-- the same where there are both, by the first of them
pub cells-step : (row : List (List ℕ)) (columns : List ℕ) (texts : List (List ℕ)) (i d : ℕ) (text : List ℕ) → i < length columns → slice_get texts i ≡ Some text
    → cells_cmp (map (nth row) (drop i columns)) (map Some (drop i texts))
    ≡ ordering_then (cell_cmp (nth row (get_or columns i d)) (Some text)) (cells_cmp (map (nth row) (drop (i + 1) columns)) (map Some (drop (i + 1) texts)))
cells-step row columns texts i d text lt here =
    let within = slice_get_within texts i text here in
    rw (drop_more columns i d lt, drop_more texts i text within, get_or_from_slice_get texts i text text here) refl

-- an order that is not equal decides, and an equal one does not
pub then-decided : (o p : Ordering) → not (ordering_index o == 1) ≡ true → ordering_then o p ≡ o
then-decided Less p h = refl
then-decided Equal p h = cc
then-decided Greater p h = refl

pub then-equal : (o p : Ordering) → not (ordering_index o == 1) ≡ false → ordering_then o p ≡ p
then-equal Less p h = cc
then-equal Equal p h = refl
then-equal Greater p h = cc

-- no text is at a place past the last
pub past-last : {A : Type 0} (xs : List A) (i : ℕ) → slice_get xs i ≡ None → length xs ≤ i
past-last xs i none = elim (cases_lt i (length xs)) [
  | inl less ↦ elim xs as (λ ys. slice_get ys i ≡ None → i < length ys → length ys ≤ i) [
    | [] ↦ λ _ lt. absurd (omega arith)
    | x ∷ rest ↦ λ is lt. let some = slice_get-get_or (x ∷ rest) i x lt in cc
  ] none less
  | inr past ↦ past
]

-- no row passes a test for cells that belong between the places in order
pub order-absent : (columns : List ℕ) (rows : List (List (List ℕ))) (end : ℕ) (order : List ℕ) (p : List (List ℕ) → Bool) (x : List (Option (List ℕ))) (place : ℕ) → end ≤ length rows → IsOrder columns rows end order
    → ((row : List (List ℕ)) → p row ≡ is_eq (cells_cmp (map (nth row) columns) x)) → AllWithin (λ k. cells_cmp (cells_at columns rows k) x ≡ Less) order 0 place
    → AllWithin (λ k. cells_cmp (cells_at columns rows k) x ≡ Greater) order place (length order) → position p (take end rows) ≡ None
order-absent columns rows end order p x place le is test before after = order-missing columns rows end order p le is (λ k lt. elim (cases_lt k place) [
  | inl below ↦ rw (test (get_or rows (get_or order k 0) []), before k 0 (omega arith) below) refl
  | inr above ↦ rw (test (get_or rows (get_or order k 0) []), after k 0 above lt) refl
])
