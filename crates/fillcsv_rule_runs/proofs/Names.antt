-- Columns by their names, one after another.
use Rattle.std.proofs.Common.{◌≡◌, ℕ, ◌+◌, ◌<◌, ◌≤◌, List, [], ◌∷◌, ◌++◌, length, drop, get_or, All, Bool, true, false, Result, Ok, Err, refl, sym, ap, ◌∙◌, arith, append_assoc, append-nil}
use Rattle.std.specs.Prelude.{if◌then◌else◌}
use Rattle.std.specs.Str.{bytes_eq}
use Rattle.std.proofs.lemmas.List.{drop_more, drop_all}
use Rattle.std.proofs.lemmas.List.Elements.{All-cons, All-nil}
use Rattle.fillcsv_columns.specs.Columns.{named}
use Rattle.fillcsv_rule_runs.specs.Places.{Misplaced, onward, source_in, sources_in}

-- the columns of a name count from 1
counted_one : (found : Bool) (n : ℕ) (more : List ℕ) → 0 < n → All (λ column. 0 < column) more → All (λ column. 0 < column) (if found then n ∷ more else more)
counted_one true n more lt all = All-cons (λ column. 0 < column) n more lt all
counted_one false n more lt all = all

counted_from : (word : List ℕ) (n : ℕ) (names : List (List ℕ)) → 0 < n → All (λ column. 0 < column) (named word n names)
counted_from word n [] lt = All-nil (λ column. 0 < column)
counted_from word n (name ∷ more) lt = counted_one (bytes_eq name word) n (named word (n + 1) more) lt (counted_from word (n + 1) more (omega arith))

pub named_counted : (word : List ℕ) (names : List (List ℕ)) → All (λ column. 0 < column) (named word 1 names)
named_counted word names = counted_from word 1 names (omega arith)

-- the columns that were found, before those of the names that are left
abbrev pub after_places : List ℕ → Result (List ℕ) Misplaced → Result (List ℕ) Misplaced
after_places done (Ok rest) = Ok (done ++ rest)
after_places done (Err e) = Err e

after_none : (r : Result (List ℕ) Misplaced) → after_places [] r ≡ r
after_none (Ok rest) = refl
after_none (Err e) = refl

after_one : (done : List ℕ) (column : ℕ) (r : Result (List ℕ) Misplaced) → after_places done (onward r (λ columns. Ok (column ∷ columns))) ≡ after_places (done ++ column ∷ []) r
after_one done column (Ok rest) = ap Ok (sym (append_assoc done (column ∷ []) rest))
after_one done column (Err e) = refl

module _ (header : List (List ℕ)) (names : List (List ℕ)) where
  pub sources_start : after_places [] (sources_in header (drop 0 names)) ≡ sources_in header names
  sources_start = after_none (sources_in header names)

  pub sources_more : (i : ℕ) (name : List ℕ) (column : ℕ) (done : List ℕ) (whole : Result (List ℕ) Misplaced) → i < length names → name ≡ get_or names i name → source_in header name ≡ Ok column
      → after_places done (sources_in header (drop i names)) ≡ whole → after_places (done ++ column ∷ []) (sources_in header (drop (i + 1) names)) ≡ whole
  sources_more i name column done whole lt is found all =
      let next : drop i names ≡ name ∷ drop (i + 1) names = rw (← is) at (drop_more names i name lt) in
      let one : sources_in header (name ∷ drop (i + 1) names) ≡ onward (sources_in header (drop (i + 1) names)) (λ columns. Ok (column ∷ columns)) =
      ap (λ (r : Result ℕ Misplaced). onward r (λ c. onward (sources_in header (drop (i + 1) names)) (λ columns. Ok (c ∷ columns)))) found in
      sym (after_one done column (sources_in header (drop (i + 1) names))) ∙ ap (after_places done) (sym one) ∙ ap (λ (l : List (List ℕ)). after_places done (sources_in header l)) (sym next) ∙ all

  pub sources_stop : (i : ℕ) (name : List ℕ) (e : Misplaced) (done : List ℕ) (whole : Result (List ℕ) Misplaced) → i < length names → name ≡ get_or names i name → source_in header name ≡ Err e
      → after_places done (sources_in header (drop i names)) ≡ whole → whole ≡ Err e
  sources_stop i name e done whole lt is failed all =
      let next : drop i names ≡ name ∷ drop (i + 1) names = rw (← is) at (drop_more names i name lt) in
      let one : sources_in header (name ∷ drop (i + 1) names) ≡ Err e =
      ap (λ (r : Result ℕ Misplaced). onward r (λ c. onward (sources_in header (drop (i + 1) names)) (λ columns. Ok (c ∷ columns)))) failed in
      sym all ∙ ap (λ (l : List (List ℕ)). after_places done (sources_in header l)) next ∙ ap (after_places done) one

  pub sources_all : (i : ℕ) (done : List ℕ) (whole : Result (List ℕ) Misplaced) → length names ≤ i → after_places done (sources_in header (drop i names)) ≡ whole → whole ≡ Ok done
  sources_all i done whole past all =
      sym all ∙ ap (λ (l : List (List ℕ)). after_places done (sources_in header l)) (drop_all i names past) ∙ ap Ok (append-nil done)
