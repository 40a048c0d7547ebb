-- What a row of a long sheet gives.
use Rattle.std.proofs.Common.{◌≡◌, ◌∙◌, ℕ, List, [], ◌∷◌, length, Bool, true, false, not, suc, Option, None, Some, ap, arith, refl, sym}
use Rattle.std.proofs.lemmas.Bool.{eqb-true}
use Rattle.std.specs.Prelude.{◌==◌, option_and_then}
use Rattle.fill_text.specs.Data.{nth}
use Rattle.fill_records.specs.Records.{field_of}
use Rattle.fill_sheet.specs.Columns.{rising}
use Rattle.fill_sheet.specs.Sheet.{given_in, row_of, unless_empty}
use Rattle.fillcsv_rows.specs.Learned.{given_by, typed_at}
use Rattle.fill_output.specs.Fields.{Fields}
use Rattle.fillcsv_blocks.specs.declared.numbered.Numbered.{Numbered}
use Rattle.fillcsv_filling.specs.Long.{rows_of, sheet_over}
use Rattle.fillcsv_filling.specs.Rows.{GivesNone, IsRow}
use Rattle.fillcsv_filling.specs.Long.{LongData}
use Rattle.fillcsv_filling.proofs.Numbering.{nth_map}
use Rattle.std.specs.Str.{chars}

-- nothing is typed, and the cell gives none
pub gives_none : (s : LongData) (it : Numbered) → IsRow s it → typed_at s.typed it.number ≡ None → given_in s.output it.fields ≡ None → GivesNone s it
gives_none s it is typed cell =
    let here = nth_map (row_of (rising s.inputs) s.output) (rows_of s) it.number it.fields is in
    ap (λ (o : Option (List ℕ)). given_by o (option_and_then (λ r. r.given) (nth (sheet_over s.inputs s.output (rows_of s)).rows it.number))) typed ∙ ap (option_and_then (λ r. r.given)) here ∙ cell

-- an empty cell gives none
no_text : (field : List ℕ) → (length field == 0) ≡ true → unless_empty (chars field) ≡ None
unfolding chars
no_text [] is = refl
no_text (c ∷ field) is = let none = eqb-true (suc (length field)) 0 is in absurd (omega (arith, none))

pub empty_cell : (column : ℕ) (fields : Fields) (empty : Bool) → empty ≡ (length (field_of column fields) == 0) → not empty ≡ false → given_in (Some column) fields ≡ None
empty_cell column fields true is none = no_text (field_of column fields) (sym is)
empty_cell column fields false is none = cc
