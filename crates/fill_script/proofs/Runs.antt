-- One line after another.
use Rattle.std.proofs.Common.{◌≡◌, ℕ, ◌<◌, List, ◌++◌, length, take, Ok, Err, Result, nat_lt, refl, arith}
use Rattle.std.proofs.lemmas.Bool.Decides.{nat_tests}
use Rattle.std.proofs.lemmas.List.{take-take, length-take}
use Rattle.fill_script.specs.Script.{script_of}
use Rattle.fill_script.specs.declared.error.ScriptError.{ScriptError}
use Rattle.fill_script.specs.declared.script.Entry.{Entry}

-- the entries that were read, before those of the lines that are left
abbrev pub after_entries : List Entry → Result (List Entry) ScriptError → Result (List Entry) ScriptError
after_entries done (Err e) = Err e
after_entries done (Ok rest) = Ok (done ++ rest)

same_test : (a b n : ℕ) → (n < a → n < b) → (n < b → n < a) → nat_lt n a ≡ nat_lt n b
same_test a b n there back = grind (arith, nat_tests)

-- one record more than a session may have is enough to decide
pub script_of-take : (records : List (List (List ℕ))) → script_of (take 1001 records) ≡ script_of records
script_of-take records =
    let front : take 1000 (take 1001 records) ≡ take 1000 records = take-take 1000 1001 records (omega arith) in
    let size = length-take 1001 records in
    let test : nat_lt 1000 (length (take 1001 records)) ≡ nat_lt 1000 (length records) = same_test (length (take 1001 records)) (length records) 1000 (λ lt. omega arith) (λ lt. omega arith) in
    rw (front, test) refl
