-- The tables and keys that words ask for are proper.
use Rattle.std.proofs.Common.{◌≡◌, ℕ, List, [], ◌∷◌, ◌++◌, map, Option, Some, Result, Ok, Err, All, subst}
use Rattle.std.specs.Prelude.{IfOk, codes, length, nat_lt, ◌==◌}
use Rattle.std.specs.List.{after_first, before_first, position_or_len}
use Rattle.std.proofs.lemmas.List.Elements.{All-push, All-nil}
use Rattle.clap.specs.Words.{Row, Text}
use Rattle.fill_tables.specs.Keys.{AreKeyColumns}
use Rattle.fill_numbers.specs.Columns.{columns_in as numbers_of_columns}
use Rattle.fill_numbers.proofs.Spelled.{columns-within, if_some, map_some, then_some}
use Rattle.fillcsv_options.specs.declared.asked.Asked.{Asked}
use Rattle.fillcsv_options.specs.declared.refusal.Refusal.{Refusal}
use Rattle.fillcsv_options.specs.Words.{Answers, AskedData, IsLookup, Key, LookupData, Table, added, columns_in, key_in, lookup_data, lookups_in, meaning_of_rows, table_in, texts_of}
use Rattle.fillcsv_options.proofs.Choice.{ComesOf, are_chosen, rows_come}

-- what each word gives is proper, and so is all that words give
added_all : {D : Type 0} (P : D → Type 0) (one : Text → Option D) → ((w : Text) (x : D) → one w ≡ Some x → P x)
    → (before : List D) (words : List Text) (all : List D) → All P before → added one before words ≡ Some all → All P all
added_all P one each before [] all are is = let same : before ≡ all = cc in subst (All P) same are
added_all P one each before (w ∷ more) all are is =
    let found = then_some (λ x. added one (before ++ x ∷ []) more) (one w) all is in
    added_all P one each (before ++ found.0 ∷ []) more all (All-push P before found.0 are (each w found.0 found.1)) found.2

table_proper : (w : Text) (x : LookupData) → table_in w ≡ Some x → IsLookup x
table_proper w x is =
    let made = (if_some (nat_lt (position_or_len (λ b. b == 61) w) (length w)) (Some (Table (before_first (λ b. b == 61) w) (after_first (λ b. b == 61) w))) x is).1 in
    let same : Table (before_first (λ b. b == 61) w) (after_first (λ b. b == 61) w) ≡ x = cc in
    subst IsLookup same tt

columns_proper : (fields : List Text) (columns : List ℕ) → numbers_of_columns 0 3 4294967295 fields ≡ Some columns → AreKeyColumns columns
columns_proper fields columns is =
    let are = columns-within 0 3 4294967295 fields columns is in
    record { some = are.some; few = are.few; first = λ k d lt. (are.each k d lt).0; distinct = are.distinct }

key_proper : (w : Text) (x : LookupData) → key_in w ≡ Some x → IsLookup x
key_proper w x is =
    let list = columns_in (after_first (λ b. b == 58) w) in
    let made = (if_some (nat_lt (position_or_len (λ b. b == 58) w) (length w)) _ x is).1 in
    let found = map_some (Key (before_first (λ b. b == 58) w)) (numbers_of_columns 0 3 4294967295 list) x made in
    subst IsLookup found.2 (columns_proper list found.0 found.1)

lookups_proper : (tables keys : List Text) (all : List LookupData) → lookups_in tables keys ≡ Some all → All IsLookup all
lookups_proper tables keys all is =
    let found = then_some (λ before. added key_in before keys) (added table_in [] tables) all is in
    added_all IsLookup key_in key_proper found.0 keys all (added_all IsLookup table_in table_proper [] tables found.0 (All-nil IsLookup) found.1) found.2

pub comes_proper : (rows : List Row) (a : AskedData) → ComesOf rows a → All IsLookup a.lookups
comes_proper rows a comes =
    let given = (are_chosen _ _ _ _ _ _ _ comes.choice comes.means).lookups in
    subst (λ (x : AskedData). All IsLookup x.lookups) comes.same (lookups_proper (texts_of (codes "table") rows) (texts_of (codes "key") rows) comes.choice.lookups given)

-- the tables and keys of words that `clap` takes
pub rows_proper : (rows : List Row) (result : Result Asked Refusal) → Answers (meaning_of_rows rows) result
    → IfOk result (λ asked. All IsLookup (map lookup_data asked.lookups.items))
rows_proper rows (Ok asked) is = comes_proper rows _ (rows_come rows _ is)
rows_proper rows (Err why) is = tt
