-- The records of first rows, and of one row more.
use Rattle.std.proofs.Common.{ℕ, ◌+◌, List, [], ◌∷◌, ◌++◌, Option}
use Rattle.std.specs.Io.KnownBytes.{Appends}
use Rattle.std.proofs.KnownBytes.{Appends-nil}
use Rattle.fill_edge.specs.Outside.{AppendsPart}
use Rattle.fill_sheet.specs.Report.{record_text}
use Rattle.fill_apply.specs.Applied.{IsAppliedRecord}
use Rattle.fill_open.specs.Apply.{Applied}
use Rattle.fill_output.specs.Fields.{Fields}
use Rattle.fill_output.proofs.Bytes.{appends_more, part_more}
use Rattle.fill_output.proofs.Numbered.{rows_more}
use Rattle.fill_command.specs.Output.{WritesPartOfRows, WritesRows}

module _ (a : Applied) (old : Option (List ℕ)) where
  pub rows_none : WritesRows a 0 old old
  rows_none = ([], tt, Appends-nil old)

  pub row_next : (mid new : Option (List ℕ)) (n : ℕ) → WritesRows a n old mid → (fields : Fields) × IsAppliedRecord a.sheet a.tables a.switch (n + 1) fields × Appends mid new (record_text fields)
      → WritesRows a (n + 1) old new
  row_next mid new n w h =
      (w.0 ++ h.0 ∷ [], rows_more (IsAppliedRecord a.sheet a.tables a.switch) n w.0 h.0 w.1 h.1, appends_more old mid new w.0 h.0 w.2 h.2)

  pub row_part : (mid new : Option (List ℕ)) (n : ℕ) → WritesRows a n old mid → (fields : Fields) × IsAppliedRecord a.sheet a.tables a.switch (n + 1) fields × AppendsPart mid new (record_text fields)
      → WritesPartOfRows a (n + 1) old new
  row_part mid new n w h =
      (w.0 ++ h.0 ∷ [], rows_more (IsAppliedRecord a.sheet a.tables a.switch) n w.0 h.0 w.1 h.1, part_more old mid new w.0 h.0 w.2 h.2)
