-- Whatever words ask for is sound.
use Rattle.std.proofs.Common.{◌≡◌, ◌≢◌, ◌⊎◌, inl, inr, ◌∙◌, ◌&&◌, ◌||◌, Bool, true, false, not, List, [], ◌∷◌, Option, Some, All, ap, refl, sym}
use Rattle.std.specs.List.{list_any}
use Rattle.std.specs.Option.{option_map_or}
use Rattle.std.specs.Str.{bytes_eq}
use Rattle.std.proofs.lemmas.Bool.{true≢false}
use Rattle.std.proofs.lemmas.List.Elements.{All-cons, All-nil}
use Rattle.std.proofs.lemmas.Slice.Eq.{bytes_eq-Decides}
use Rattle.clap.specs.Words.{Row, Text, matches_of}
use Rattle.fillcsv_options.specs.Conflicts.{has_none, is_read, is_table_at, learns_nothing, saves_over}
use Rattle.fillcsv_options.specs.Options.{app}
use Rattle.fillcsv_options.specs.Sound.{IsElsewhere, IsSound}
use Rattle.fillcsv_options.specs.Words.{AskedData, Asks, Key, LookupData, Table, TypedData, asked_in}
use Rattle.fillcsv_options.proofs.Choice.{ComesOf, words_come}
use Rattle.fillcsv_options.proofs.Loud.{comes_loud}
use Rattle.fillcsv_options.proofs.Proper.{comes_proper}

neither : (a b : Bool) → (a || b) ≡ false → (a ≡ false) × (b ≡ false)
neither true b is = cc
neither false b is = (refl, is)

elsewhere : (path file : Text) → bytes_eq file path ≡ false → file ≢ path
elsewhere path file is same = true≢false (sym ((bytes_eq-Decides file path).1 same) ∙ is)

tables_elsewhere : (path : Text) (lookups : List LookupData) → list_any (is_table_at path) lookups ≡ false → All (IsElsewhere path) lookups
tables_elsewhere path [] is = All-nil (IsElsewhere path)
tables_elsewhere path (Table name file ∷ more) is =
    let both = neither (bytes_eq file path) (list_any (is_table_at path) more) is in
    All-cons (IsElsewhere path) (Table name file) more (elsewhere path file both.0) (tables_elsewhere path more both.1)
tables_elsewhere path (Key table columns ∷ more) is = All-cons (IsElsewhere path) (Key table columns) more tt (tables_elsewhere path more is)

something_learned : (replace ask : Bool) (examples : List TypedData) → (replace && (not ask && has_none examples)) ≡ false → replace ≡ true
    → (ask ≡ true) ⊎ (examples ≢ [])
something_learned false ask examples is wanted = cc
something_learned true true examples is wanted = inl refl
something_learned true false [] is wanted = cc
something_learned true false (e ∷ more) is wanted = inr (λ same. true≢false (sym (ap has_none same)))

comes_sound : (rows : List Row) (a : AskedData) → ComesOf rows a → IsSound a
comes_sound rows a comes =
    let fits = neither (learns_nothing a) (saves_over a) comes.fits in
    let unread : (path : Text) → a.save ≡ Some path → (bytes_eq a.file path ≡ false) × (list_any (is_table_at path) a.lookups ≡ false) =
    λ path is. neither (bytes_eq a.file path) (list_any (is_table_at path) a.lookups) (sym (ap (λ (o : Option Text). option_map_or (is_read a) o false) is) ∙ fits.1) in
    record {
      sheet_apart = λ path is. elsewhere path a.file (unread path is).0;
      tables_apart = λ path is. tables_elsewhere path a.lookups (unread path is).1;
      learns = something_learned a.replace a.ask a.examples fits.0;
      loud = comes_loud rows a comes;
      lookups = comes_proper rows a comes;
    }

pub asks_soundly : (words : List Text) (a : AskedData) → asked_in words ≡ Asks a → IsSound a
asks_soundly words a is = comes_sound (matches_of app words) a (words_come words a is)
