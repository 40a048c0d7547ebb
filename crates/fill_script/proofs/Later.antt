-- Lines after the one that is refused.
use Rattle.std.proofs.Common.{◌≡◌, ◌≢◌, ℕ, zero, suc, ◌+◌, ◌-◌, ◌<◌, ◌≤◌, List, [], ◌∷◌, ◌++◌, length, take, drop, cond, Bool, true, false, not, nat_lt, Option, None, Some, Ok, Err, Result, position, refl, ap, arith, length-append}
use Rattle.std.specs.Prelude.{if◌then◌else◌}
use Rattle.std.specs.List.{position_or_len}
use Rattle.std.proofs.lemmas.Bool.{lt-ltb}
use Rattle.std.proofs.lemmas.Bool.Decides.{nat_tests}
use Rattle.std.proofs.lemmas.List.{take_all, take-append-le, drop-append-le}
use Rattle.fill_script.specs.Line.{is_begin}
use Rattle.fill_script.specs.Opening.{after_line, after_lines, onward, unset}
use Rattle.fill_script.specs.Entries.{before, entries_from, entry_at}
use Rattle.fill_script.specs.Script.{assembled, script_from, script_in, script_of, script_with, unless_more}
use Rattle.fill_script.specs.declared.error.ScriptError.{ScriptError}
use Rattle.fill_script.specs.declared.error.ScriptError.TheVariants as error
use Rattle.fill_script.specs.declared.opening.Opening.{Opening}
use Rattle.fill_script.specs.declared.script.Entry.{Entry}
use Rattle.fill_script.specs.declared.script.Script.{Script}

abbrev Lines : Type 0
Lines = List (List (List ℕ))

opening_refused : (o : Opening) (number : ℕ) (lines later : Lines) (e : ScriptError) → after_lines o number lines ≡ Err e → after_lines o number (lines ++ later) ≡ Err e
opening_refused o number [] later e is = cc
opening_refused o number (line ∷ more) later e is =
    elim (after_line o number line)
    as (λ r. onward (λ p. after_lines p (number + 1) more) r ≡ Err e → onward (λ p. after_lines p (number + 1) (more ++ later)) r ≡ Err e) [
      | Ok p ↦ λ h. opening_refused p (number + 1) more later e h
      | Err r ↦ λ h. h
    ] is

before_refused : (f : Entry) (r : Result (List Entry) ScriptError) (e : ScriptError) → onward (before f) r ≡ Err e → r ≡ Err e
before_refused f (Ok es) e is = cc
before_refused f (Err r) e is = is

entries_refused : (number : ℕ) (lines later : Lines) (e : ScriptError) → entries_from number lines ≡ Err e → entries_from number (lines ++ later) ≡ Err e
entries_refused number [] later e is = cc
entries_refused number (line ∷ more) later e is =
    elim (entry_at number line)
    as (λ r. onward (λ f. onward (before f) (entries_from (number + 1) more)) r ≡ Err e → onward (λ f. onward (before f) (entries_from (number + 1) (more ++ later))) r ≡ Err e) [
      | Ok f ↦ λ h. ap (onward (before f)) (entries_refused (number + 1) more later e (before_refused f (entries_from (number + 1) more) e h))
      | Err r ↦ λ h. h
    ] is

-- the first place at which a test passes, with more items at the end
first_in : {X : Type 0} (p : X → Bool) (xs ys : List X) → position_or_len p xs < length xs → position_or_len p (xs ++ ys) ≡ position_or_len p xs
first_in p [] ys lt = absurd (omega arith)
first_in p (x ∷ xs) ys lt =
    elim (p x) as (λ b. cond (not b) (1 + position_or_len p xs) 0 < length (x ∷ xs) → cond (not b) (1 + position_or_len p (xs ++ ys)) 0 ≡ cond (not b) (1 + position_or_len p xs) 0) [
      | true ↦ λ _. refl
      | false ↦ λ less. ap (λ n. 1 + n) (first_in p xs ys (omega arith))
    ] lt

first_past : {X : Type 0} (p : X → Bool) (xs ys : List X) → length xs ≤ position_or_len p xs → length xs ≤ position_or_len p (xs ++ ys)
first_past p [] ys le = omega arith
first_past p (x ∷ xs) ys le =
    elim (p x) as (λ b. length (x ∷ xs) ≤ cond (not b) (1 + position_or_len p xs) 0 → length (x ∷ xs) ≤ cond (not b) (1 + position_or_len p (xs ++ ys)) 0) [
      | true ↦ λ none. absurd (omega arith)
      | false ↦ λ past. let rest = first_past p xs ys (omega arith) in omega arith
    ] le

take_past : {X : Type 0} (xs ys : List X) (k : ℕ) → length xs ≤ k → take k (xs ++ ys) ≡ xs ++ take (k - length xs) ys
take_past [] ys k le = let same : k - 0 ≡ k = omega arith in rw same refl
take_past (x ∷ xs) ys zero le = absurd (omega arith)
take_past (x ∷ xs) ys (suc k) le = let same : suc k - length (x ∷ xs) ≡ k - length xs = omega arith in rw (take_past xs ys k (omega arith), same) refl

made_refused : (o : Opening) (sheet inputs : List ℕ) (r : Result (List Entry) ScriptError) (e : ScriptError) → onward (λ es. Ok (assembled o sheet inputs es)) r ≡ Err e → r ≡ Err e
made_refused o sheet inputs (Ok es) e is = cc
made_refused o sheet inputs (Err r) e is = cc

with_refused : (o : Opening) (sheet inputs : Option (List ℕ)) (r s : Result (List Entry) ScriptError) (e : ScriptError) → (r ≡ Err e → s ≡ Err e) → script_with o sheet inputs r ≡ Err e → script_with o sheet inputs s ≡ Err e
with_refused o None inputs r s e later is = is
with_refused o (Some sheet) None r s e later is = is
with_refused o (Some sheet) (Some inputs) r s e later is = ap (onward (λ es. Ok (assembled o sheet inputs es))) (later (made_refused o sheet inputs r e is))

more_refused : (more : Bool) (r : Result (List Entry) ScriptError) (e : ScriptError) → r ≡ Err e → unless_more more r ≡ Err e
more_refused true r e is = ap (onward (λ (es : List Entry). Err (error.TooManyRecords 1000))) is
more_refused false r e is = is

begun_later : (lines later : Lines) (place : ℕ) (more : Bool) (e : ScriptError) → place < length lines → script_from lines false (Some place) ≡ Err e → script_from (lines ++ later) more (Some place) ≡ Err e
begun_later lines later place more e lt is =
    let heads : take place (lines ++ later) ≡ take place lines = take-append-le place lines later (omega arith) in
    let rest : drop (place + 1) (lines ++ later) ≡ drop (place + 1) lines ++ later = drop-append-le (place + 1) lines later (omega arith) in
    let here = entries_from (place + 2) (drop (place + 1) lines) in
    let there = entries_from (place + 2) (drop (place + 1) lines ++ later) in
    let after : here ≡ Err e → unless_more more there ≡ Err e = λ h. more_refused more there e (entries_refused (place + 2) (drop (place + 1) lines) later e h) in
    rw (heads, rest) (elim (after_lines unset 1 (take place lines))
    as (λ r. onward (λ o. script_with o o.sheet o.inputs here) r ≡ Err e → onward (λ o. script_with o o.sheet o.inputs (unless_more more there)) r ≡ Err e) [
      | Ok o ↦ λ h. with_refused o o.sheet o.inputs here (unless_more more there) e after h
      | Err r ↦ λ h. h
    ] is)

-- where no line is `begin`, one of them is refused
unbegun_refused : (r : Result Opening ScriptError) (e : ScriptError) → e ≢ error.MissingBegin → onward (λ (o : Opening). let s : Result Script ScriptError = Err error.MissingBegin in s) r ≡ Err e → r ≡ Err e
unbegun_refused (Ok o) e other is = let same : e ≡ error.MissingBegin = cc in absurd (other same)
unbegun_refused (Err r) e other is = cc

refused_anywhere : (lines later : Lines) (more : Bool) (e : ScriptError) (place : Option ℕ) → ((k : ℕ) → place ≡ Some k → length lines ≤ k) → after_lines unset 1 lines ≡ Err e → script_from (lines ++ later) more place ≡ Err e
refused_anywhere lines later more e None past is = rw (opening_refused unset 1 lines later e is) refl
refused_anywhere lines later more e (Some k) past is =
    let heads : take k (lines ++ later) ≡ lines ++ take (k - length lines) later = take_past lines later k (past k refl) in
    rw (heads, opening_refused unset 1 lines (take (k - length lines) later) e is) refl

chosen_is : (b : Bool) (n k : ℕ) → (if b then Some n else None) ≡ Some k → n ≡ k
chosen_is true n k is = cc
chosen_is false n k is = cc

script_later : (lines later : Lines) (more : Bool) (e : ScriptError) → e ≢ error.MissingBegin → script_in lines false ≡ Err e → script_in (lines ++ later) more ≡ Err e
script_later lines later more e other is =
    let k = position_or_len is_begin lines in
    let m = position_or_len is_begin (lines ++ later) in
    elim (nat_lt k (length lines)) as (λ b. nat_lt k (length lines) ≡ b → script_from lines false (if b then Some k else None) ≡ Err e → script_in (lines ++ later) more ≡ Err e) [
      | true ↦ λ test h.
          let lt : k < length lines = grind (arith, nat_tests) in
          let same : m ≡ k = first_in is_begin lines later lt in
          let size = length-append lines later in
          let found : position is_begin (lines ++ later) ≡ Some k = rw (lt-ltb m (length (lines ++ later)) (omega arith)) (ap Some same) in
          rw found (begun_later lines later k more e lt h)
      | false ↦ λ test h.
          let le : length lines ≤ k = grind (arith, nat_tests) in
          let past : length lines ≤ m = first_past is_begin lines later le in
          refused_anywhere lines later more e (position is_begin (lines ++ later)) (λ n found. let same = chosen_is (nat_lt m (length (lines ++ later))) m n found in omega arith)
          (unbegun_refused (after_lines unset 1 lines) e other h)
    ] refl is

-- where the lines are too many, or one of them is refused, lines that follow change nothing
pub later_lines : (lines later : Lines) (e : ScriptError) → e ≢ error.MissingBegin → script_of lines ≡ Err e → script_of (lines ++ later) ≡ Err e
later_lines lines later e other is =
    let size = length-append lines later in
    elim (nat_lt 1000 (length lines)) as (λ b. nat_lt 1000 (length lines) ≡ b → script_in (take 1000 lines) b ≡ Err e → script_of (lines ++ later) ≡ Err e) [
      | true ↦ λ test h.
          let many : 1000 < length lines = grind (arith, nat_tests) in
          let still : nat_lt 1000 (length (lines ++ later)) ≡ true = lt-ltb 1000 (length (lines ++ later)) (omega arith) in
          rw (still, take-append-le 1000 lines later (omega arith)) h
      | false ↦ λ test h.
          let few : length lines ≤ 1000 = grind (arith, nat_tests) in
          let whole : script_in lines false ≡ Err e = rw (take_all 1000 lines few) at h in
          rw (take_past lines later 1000 few) (script_later lines (take (1000 - length lines) later) (nat_lt 1000 (length (lines ++ later))) e other whole)
    ] refl is
