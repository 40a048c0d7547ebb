-- What decides whether records are a table.
use Rattle.std.proofs.Common.{◌≡◌, ℕ, ◌<◌, ◌≤◌, List, length, take, true, false, Option, None, Some, Ok, Err, nat_lt, get_or, refl, arith}
use Rattle.std.proofs.lemmas.Bool.Decides.{nat_tests}
use Rattle.std.proofs.lemmas.List.{take-take, length-take, length-map}
use Rattle.std.proofs.lemmas.List.Elements.{All-map, All-nil}
use Rattle.std.proofs.lemmas.List.FromFn.{length-map-range_with_len}
use Rattle.fill_records.specs.Texts.{first_bad, text_in}
use Rattle.fill_tables.specs.Reading.{columns_of, row_of, width_of, table_of, table_with}
use Rattle.fill_tables.specs.Keys.{IsKey}
use Rattle.fill_tables.specs.Tables.{IsTable}
use Rattle.fill_tables.specs.declared.error.TableError.TheVariants.{TooManyRows, NotUtf8}
use Rattle.fill_tables.proofs.Fields.{width_of-narrow}

-- the bad field that is looked for
abbrev pub bad_in : List (List (List ℕ)) → Option (ℕ × ℕ)
bad_in records = first_bad (columns_of (take 2000 records)) 1 (take 2000 records)

pub table_of-bad : (name : List ℕ) (records : List (List (List ℕ))) (number column : ℕ) → bad_in records ≡ Some (number, column) → table_of name records ≡ Err (NotUtf8 number column)
table_of-bad name records number column bad = rw bad refl

pub table_of-many : (name : List ℕ) (records : List (List (List ℕ))) → bad_in records ≡ None → 2000 < length records → table_of name records ≡ Err (TooManyRows 2000)
table_of-many name records none many = let more : nat_lt 2000 (length records) ≡ true = grind (arith, nat_tests) in rw (none, more) refl

pub table_of-rows : (name : List ℕ) (records : List (List (List ℕ))) → bad_in records ≡ None → length records ≤ 2000 → table_of name records ≡ Ok (table_with name (take 2000 records))
table_of-rows name records none few = let more : nat_lt 2000 (length records) ≡ false = grind (arith, nat_tests) in rw (none, more) refl

same_test : (a b n : ℕ) → (n < a → n < b) → (n < b → n < a) → nat_lt n a ≡ nat_lt n b
same_test a b n there back = grind (arith, nat_tests)

-- one record more than a table may have is enough to decide
pub table_of-take : (name : List ℕ) (records : List (List (List ℕ))) → table_of name (take 2001 records) ≡ table_of name records
table_of-take name records =
    let front : take 2000 (take 2001 records) ≡ take 2000 records = take-take 2000 2001 records (omega arith) in
    let size = length-take 2001 records in
    let test : nat_lt 2000 (length (take 2001 records)) ≡ nat_lt 2000 (length records) = same_test (length (take 2001 records)) (length records) 2000 (λ lt. omega arith) (λ lt. omega arith) in
    rw (front, test) refl

-- the table that is made is one
pub made-table : (name : List ℕ) (records : List (List (List ℕ))) → length records ≤ 2000 → IsTable (table_with name records)
made-table name records few =
    record {
      narrow = width_of-narrow records;
      limited = omega (arith, few, length-map records (row_of (columns_of records)));
      full = All-map (λ row. length row ≡ width_of records) (row_of (columns_of records)) records (λ k d lt. length-map-range_with_len (text_in (get_or records k d)) 1 (width_of records));
      few = omega arith;
      keyed = All-nil (IsKey (width_of records) (table_with name records).rows);
    }
