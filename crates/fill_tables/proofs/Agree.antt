-- Rows that agree in some columns.
use Rattle.std.proofs.Common.{◌≡◌, ◌≢◌, ℕ, zero, suc, ◌+◌, ◌<◌, List, [], ◌∷◌, ◌++◌, length, get_or, take, drop, map, slice_get, position, Bool, true, false, Option, None, Some, leb, inl, inr, refl, sym, ap, ◌∙◌, add-one, append_assoc, append-nil, arith, length-append}
use Rattle.std.specs.Bool.{Decides}
use Rattle.std.specs.List.{position_or_len}
use Rattle.std.proofs.Math.Seq.{drop-cons, take-suc, get_or-append_seam}
use Rattle.std.proofs.Math.ListN.{get_or-append}
use Rattle.std.proofs.lemmas.Bool.{lt-ltb, leb-true, leb-false, cases_order}
use Rattle.std.proofs.lemmas.List.{length-take, get_or-take}
use Rattle.std.proofs.lemmas.Slice.Eq.{slice_eq-Decides, bytes_eq-Decides}
use Rattle.std.proofs.lemmas.List.Quantifiers.{position-Some}
use Rattle.std.proofs.lemmas.List.Sums.{fails_before_first}
use Rattle.std.proofs.lemmas.Option.{slice_get-get_or, slice_get_within, get_or_from_slice_get}
use Rattle.fill_text.specs.Data.{nth}
use Rattle.fill_tables.specs.Keys.{Distinguish}
use Rattle.fill_tables.specs.Rows.{same_cell, agree, has_cells, or_later, clash_after, first_clash}

same_cell-Decides : (a b : Option (List ℕ)) → Decides (same_cell a b) (a ≡ b)
same_cell-Decides None None = ((λ _. refl), (λ _. refl))
same_cell-Decides None (Some b) = ((λ no. cc), (λ no. cc))
same_cell-Decides (Some a) None = ((λ no. cc), (λ no. cc))
same_cell-Decides (Some a) (Some b) = ((λ yes. ap (λ (t : List ℕ). Some t) ((bytes_eq-Decides a b).0 yes)), (λ yes. let same : a ≡ b = cc in (bytes_eq-Decides a b).1 same))

pub agree-Decides : (columns : List ℕ) (row other : List (List ℕ)) → Decides (agree columns row other) (map (nth row) columns ≡ map (nth other) columns)
agree-Decides columns row other = slice_eq-Decides same_cell-Decides (map (nth row) columns) (map (nth other) columns) (agree columns row other) refl

pub has_cells-Decides : (columns : List ℕ) (texts row : List (List ℕ)) → Decides (has_cells columns texts row) (map (nth row) columns ≡ map Some texts)
has_cells-Decides columns texts row = slice_eq-Decides same_cell-Decides (map (nth row) columns) (map Some texts) (has_cells columns texts row) refl

-- where no place is found no item passes
pub position-None : {X : Type 0} (p : X → Bool) (xs : List X) (k : ℕ) (d : X) → position p xs ≡ None → k < length xs → p (get_or xs k d) ≡ false
position-None p xs k d none lt = elim (leb (length xs) (position_or_len p xs)) as (λ b. leb (length xs) (position_or_len p xs) ≡ b → p (get_or xs k d) ≡ false) [
  | true ↦ λ is. let past = leb-true (length xs) (position_or_len p xs) is in fails_before_first p xs k d (omega arith)
  | false ↦ λ is.
      let within = leb-false (length xs) (position_or_len p xs) is in
      let found = lt-ltb (position_or_len p xs) (length xs) within in
      let some : position p xs ≡ Some (position_or_len p xs) = rw found refl in
      cc
] refl

-- the row at a place is after the earlier ones, and the later ones follow it
pub clash_after-next : (columns : List ℕ) (rows : List (List (List ℕ))) (i : ℕ) (d : List (List ℕ)) → i < length rows → position (λ other. agree columns other (get_or rows i d)) (take i rows) ≡ None
    → clash_after columns (take i rows) (drop i rows) ≡ clash_after columns (take (i + 1) rows) (drop (i + 1) rows)
clash_after-next columns rows i d lt none = rw (drop-cons rows i d, none, add-one i, take-suc rows i d lt) refl

pub clash_after-here : (columns : List ℕ) (rows : List (List (List ℕ))) (i : ℕ) (d : List (List ℕ)) (place : ℕ) → i < length rows → position (λ other. agree columns other (get_or rows i d)) (take i rows) ≡ Some place
    → clash_after columns (take i rows) (drop i rows) ≡ Some (place + 1, i + 1)
clash_after-here columns rows i d place lt found =
    let size : length (take i rows) ≡ i = length-take i rows ∙ omega arith in
    rw (drop-cons rows i d, found, size) refl

by_place : (columns : List ℕ) (earlier : List (List (List ℕ))) (row : List (List ℕ)) (later : List (List (List ℕ))) (k : ℕ) (d : List (List ℕ)) → position (λ other. agree columns other row) earlier ≡ None
    → ((j : ℕ) → j < length later → position (λ other. agree columns other (get_or later j d)) ((earlier ++ row ∷ []) ++ take j later) ≡ None) → k < suc (length later)
    → position (λ other. agree columns other (get_or (row ∷ later) k d)) (earlier ++ take k (row ∷ later)) ≡ None
by_place columns earlier row later zero d is rest lt = rw (append-nil earlier) is
by_place columns earlier row later (suc k) d is rest lt = rw (append_assoc earlier (row ∷ []) (take k later)) at (rest k (omega arith))

-- where no row agrees with an earlier one, none of the later rows agrees with any before it
clash_after-None : (columns : List ℕ) (earlier later : List (List (List ℕ))) (k : ℕ) (d : List (List ℕ)) → clash_after columns earlier later ≡ None → k < length later
    → position (λ other. agree columns other (get_or later k d)) (earlier ++ take k later) ≡ None
clash_after-None columns earlier [] k d none lt = absurd (omega arith)
clash_after-None columns earlier (row ∷ later) k d none lt =
    elim (position (λ other. agree columns other row) earlier)
    as (λ found. position (λ other. agree columns other row) earlier ≡ found → or_later (length earlier + 1) found (clash_after columns (earlier ++ row ∷ []) later) ≡ None → position (λ other. agree columns other (get_or (row ∷ later) k d)) (earlier ++ take k (row ∷ later)) ≡ None) [
      | None ↦ λ is rest. by_place columns earlier row later k d is (λ j less. clash_after-None columns (earlier ++ row ∷ []) later j d rest less) lt
      | Some place ↦ λ is rest. cc
    ] refl none

-- two rows at places in order do not agree where none agrees with an earlier one
first_clash-apart : (columns : List ℕ) (rows : List (List (List ℕ))) (i k : ℕ) (cells others : List (List ℕ)) → first_clash columns rows ≡ None → i < k → slice_get rows i ≡ Some cells → slice_get rows k ≡ Some others
    → map (nth cells) columns ≢ map (nth others) columns
first_clash-apart columns rows i k cells others none lt here there same =
    let within = slice_get_within rows k others there in
    let row : get_or rows k others ≡ others = get_or_from_slice_get rows k others others there in
    let found : position (λ other. agree columns other (get_or rows k others)) (take k rows) ≡ None = clash_after-None columns [] rows k others none within in
    let size : length (take k rows) ≡ k = length-take k rows ∙ omega arith in
    let differs : agree columns (get_or (take k rows) i cells) (get_or rows k others) ≡ false = position-None (λ other. agree columns other (get_or rows k others)) (take k rows) i cells found (omega arith) in
    let first : get_or (take k rows) i cells ≡ cells = get_or-take k rows i cells lt ∙ get_or_from_slice_get rows i cells cells here in
    let agrees : agree columns cells others ≡ true = (agree-Decides columns cells others).1 same in
    let no : agree columns cells others ≡ false = rw (first, row) at differs in
    cc

pub Distinguish-from_None : (columns : List ℕ) (rows : List (List (List ℕ))) → first_clash columns rows ≡ None → Distinguish columns rows
Distinguish-from_None columns rows none zero other cells others here there same = cc
Distinguish-from_None columns rows none (suc i) zero cells others here there same = cc
Distinguish-from_None columns rows none (suc i) (suc k) cells others here there same = elim (cases_order i k) [
  | inl is ↦ ap suc is
  | inr (inl lt) ↦ absurd (first_clash-apart columns rows i k cells others none lt here there same)
  | inr (inr lt) ↦ absurd (first_clash-apart columns rows k i others cells none lt there here (sym same))
]

-- a row that agrees with an earlier one shows that the columns distinguish not all rows
clash_after-Some : (columns : List ℕ) (earlier later : List (List (List ℕ))) (clash : ℕ × ℕ) → clash_after columns earlier later ≡ Some clash → ¬ (Distinguish columns (earlier ++ later))
clash_after-Some columns earlier [] clash some apart = cc
clash_after-Some columns earlier (row ∷ later) clash some apart =
    elim (position (λ other. agree columns other row) earlier)
    as (λ found. position (λ other. agree columns other row) earlier ≡ found → or_later (length earlier + 1) found (clash_after columns (earlier ++ row ∷ []) later) ≡ Some clash → ⊥) [
      | None ↦ λ is rest. clash_after-Some columns (earlier ++ row ∷ []) later clash rest (rw (append_assoc earlier (row ∷ []) later) apart)
      | Some place ↦ λ is rest.
          let facts = position-Some (λ other. agree columns other row) earlier place row is in
          let within : place < length earlier = facts.0 in
          let all = earlier ++ row ∷ later in
          let size : length all ≡ length earlier + suc (length later) = length-append earlier (row ∷ later) in
          let first : get_or all place row ≡ get_or earlier place row = get_or-append earlier (row ∷ later) row place within in
          let second : get_or all (length earlier) row ≡ row = get_or-append_seam earlier row later row in
          let here : slice_get all place ≡ Some (get_or earlier place row) = slice_get-get_or all place row (omega arith) ∙ ap (λ (r : List (List ℕ)). Some r) first in
          let there : slice_get all (length earlier) ≡ Some row = slice_get-get_or all (length earlier) row (omega arith) ∙ ap (λ (r : List (List ℕ)). Some r) second in
          let same = apart (suc place) (suc (length earlier)) (get_or earlier place row) row here there ((agree-Decides columns (get_or earlier place row) row).0 facts.1) in
          absurd (omega arith)
    ] refl some

pub Distinguish-not_Some : (columns : List ℕ) (rows : List (List (List ℕ))) (clash : ℕ × ℕ) → first_clash columns rows ≡ Some clash → ¬ (Distinguish columns rows)
Distinguish-not_Some columns rows clash some = clash_after-Some columns [] rows clash some
