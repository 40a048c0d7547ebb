-- Records whose fields are UTF-8 in the columns that are read.
use Rattle.std.proofs.Common.{◌≡◌, ℕ, ◌+◌, List, [], ◌∷◌, ◌++◌, length, All, Bool, true, false, not, IsTrue, None, Option, Some, ap, arith, refl}
use Rattle.std.specs.Prelude.{option_to_list}
use Rattle.std.specs.Option.{is_some}
use Rattle.std.specs.Str.{is_utf8}
use Rattle.std.proofs.lemmas.List.Elements.{All-append, All-cons, All-head, All-nil}
use Rattle.std.proofs.lemmas.List.Sorted.{All-permutation}
use Rattle.fill_records.specs.Records.{field_of}
use Rattle.fill_records.specs.Texts.{IsText, bad_column, or_later}
use Rattle.fill_records.proofs.Texts.{texts_from_no_bad}
use Rattle.fill_sheet.specs.Columns.{rising}
use Rattle.fill_sheet.proofs.Rising.{rising-permutation}
use Rattle.fill_output.specs.Fields.{Fields}
use Rattle.fillcsv_blocks.specs.Merged.{IsReadable}
use Rattle.fillcsv_blocks.specs.declared.numbered.Numbered.{Numbered}
use Rattle.fillcsv_filling.specs.Reading.{AreFrom}

-- what a test for a value tells
pub not_some : {A : Type 0} (o : Option A) (b : Bool) → b ≡ is_some o → b ≡ false → o ≡ None
not_some None b is lacks = refl
not_some (Some x) b is lacks = cc

pub none_is : {A : Type 0} (o : Option A) (b : Bool) → is_some o ≡ not b → b ≡ true → o ≡ None
none_is None b is holds = refl
none_is (Some x) true is holds = cc
none_is (Some x) false is holds = cc

text_of : (columns : List ℕ) (fields : Fields) → bad_column columns fields ≡ None → IsText columns fields
text_of columns fields none = All-head (IsText columns) fields [] (texts_from_no_bad columns 0 (fields ∷ []) (ap (λ bad. or_later 0 bad None) none))

-- the inputs are read in rising order
pub reads_text : (inputs : List ℕ) (output : Option ℕ) (fields : Fields) → bad_column inputs fields ≡ None → bad_column (option_to_list output) fields ≡ None
    → IsText (rising inputs ++ option_to_list output) fields
reads_text inputs output fields none no_output =
    let Good : ℕ → Type 0 = λ column. IsTrue (is_utf8 (field_of column fields)) in
    All-append Good (rising inputs) (option_to_list output) (All-permutation Good inputs (rising inputs) (rising-permutation inputs) (text_of inputs fields none)) (text_of (option_to_list output) fields no_output)

-- a row more
pub readable_more : (inputs : List ℕ) (output : Option ℕ) (rows : List Numbered) (row : Numbered) → All (IsReadable inputs output) rows → IsReadable inputs output row
    → All (IsReadable inputs output) (rows ++ row ∷ [])
readable_more inputs output rows row all is =
    All-append (IsReadable inputs output) rows (row ∷ []) all (All-cons (IsReadable inputs output) row [] is (All-nil (IsReadable inputs output)))

pub from_more : (first : ℕ) (rows : List Numbered) (row : Numbered) → AreFrom first rows → row.number ≡ first + length rows → AreFrom first (rows ++ row ∷ [])
from_more first [] row is next = (omega (arith, next), tt)
from_more first (x ∷ xs) row is next = (is.0, from_more (first + 1) xs row is.1 (omega (arith, next)))
