-- The sheet that lies on a desk, as a long one, and how the writing of it ends.
use Rattle.std.proofs.Common.{◌≡◌, ◌∙◌, ◌++◌, ℕ, List, All, Bool, Option, None, Some, Result, Ok, Err, ap, arith, inr, length, option_to_list, subst, sym}
use Rattle.std.specs.Prelude.{option_map}
use Rattle.std.specs.Option.{ForSome}
use Rattle.fill_text.specs.Data.{TableData}
use Rattle.fill_records.specs.Records.{records_of}
use Rattle.fill_records.specs.Texts.{IsText}
use Rattle.fill_sheet.specs.Columns.{IsColumn, IsOutput, rising}
use Rattle.fill_stream.specs.Records.{Rows}
use Rattle.fill_tree.specs.declared.user.Example.{Example}
use Rattle.fill_space.specs.declared.ground.Ground.{Ground}
use Rattle.fill_output.specs.declared.halt.Halt.{Halt}
use Rattle.fill_output.specs.declared.halt.Halt.TheVariants as halt
use Rattle.fillcsv_rows.specs.Learned.{AreLearned}
use Rattle.fillcsv_rows.specs.declared.learning.Refused.{Refused}
use Rattle.fillcsv_blocks.specs.Blocks.{BlockData, StandsFor}
use Rattle.fill_passes.specs.Files.{IsTold, told_bytes}
use Rattle.fillcsv_filling.specs.Long.{IsLong, IsSet, LongData, ground_of, long_of, rows_in, rows_of}
use Rattle.fillcsv_filling.specs.Rows.{IsWritten, WritesSheet}
use Rattle.fillcsv_filling.specs.Taught.{Teaches, tables_of}
use Rattle.fillcsv_filling.specs.declared.learning.Learned.{Learned}
use Rattle.fillcsv_filling.specs.declared.sheet.Basis.{Basis}
use Rattle.fillcsv_filling.specs.declared.sheet.LongSheet.{LongSheet}
use Rattle.fillcsv_filling.specs.declared.writing.Written.{Written}
use Rattle.fillcsv_run.specs.Filling.{EndsPage, EndsSheet}
use Rattle.fillcsv_run.specs.Pages.{IsBegun, IsDone, PageData}
use Rattle.fillcsv_run.specs.Read.{IsFilled, IsLaid, IsReady, frame_data, page_data, page_over, sheet_in}
use Rattle.fillcsv_run.specs.Saved.{FrameData, IsSavedText}
use Rattle.fillcsv_run.specs.declared.desk.Desk.{Desk}
use Rattle.fillcsv_run.specs.declared.fill.Filled.{Filled}
use Rattle.fillcsv_run.specs.declared.saving.RuleFrame.{RuleFrame}
use Rattle.fillcsv_run.specs.declared.told.Told.{Told}

-- the parts of a long sheet are those of the sheet on the desk
pub record IsOn (d : Desk) (s : LongSheet) : Type 0 where
  pub header : s.header ≡ d.header
  pub inputs : s.inputs.now ≡ d.choice.from.items
  pub output : s.output ≡ d.output
  pub typed : s.typed.now ≡ d.typed
  pub settings : s.settings ≡ d.settings
  pub form : s.form ≡ d.form
  pub head : s.head.now ≡ d.head

column_of : (inputs : List ℕ) (output : Option ℕ) → IsOutput inputs output → ForSome output IsColumn
column_of inputs None is column here = cc
column_of inputs (Some output) is column here = let same : output ≡ column = cc in subst IsColumn same is.0

module _ (d : Desk) (s : LongSheet) (on : IsOn d s) where
  same_page : (bytes : List ℕ) → page_over (long_of bytes s) d.tables (option_map frame_data d.saving) ≡ page_data bytes d
  same_page bytes = λ i. record {
    form = on.form i;
    typed = on.typed i;
    over = record { settings = on.settings i; sheet = sheet_in (on.header i) (on.inputs i) (on.output i) bytes; tables = d.tables };
    rows = rows_in (on.header i) bytes;
    head = on.head i;
    saving = option_map frame_data d.saving;
  }

  pub is_set : IsLaid d → IsSet s
  is_set laid = record {
    settings = rw on.settings laid.settings;
    inputs = rw on.inputs laid.inputs;
    output = rw on.output (column_of d.choice.from.items d.output laid.output);
    column = rw on.form laid.column;
    states = rw on.form laid.states;
  }

  texts_on : (bytes : List ℕ) → All (IsText (rising d.choice.from.items ++ option_to_list d.output)) (rows_in d.header bytes)
      → All (IsText (rising s.inputs.now ++ option_to_list s.output)) (rows_in s.header bytes)
  texts_on bytes text = rw (on.inputs, on.output, on.header) text

  pub is_long : (bytes : List ℕ) → IsReady bytes d → IsLong (long_of bytes s)
  is_long bytes ready =
      let set = is_set ready.laid in
      record {
        settings = set.settings;
        inputs = set.inputs;
        output = set.output;
        text = texts_on bytes ready.readable.text;
        few = ready.readable.few;
        column = set.column;
        states = set.states;
      }

  -- the writing of the long sheet is that of the page on the desk
  pub page_ends : (old new : Option (List ℕ)) (bytes : List ℕ) (tables : List TableData) (saving : Option RuleFrame) (r : Result Told Halt) → tables ≡ d.tables → saving ≡ d.saving
      → EndsPage old new (page_over (long_of bytes s) tables (option_map frame_data saving)) r → EndsPage old new (page_data bytes d) r
  page_ends old new bytes tables saving r same_tables same_saving w =
      let a = subst (λ (t : List TableData). EndsPage old new (page_over (long_of bytes s) t (option_map frame_data saving)) r) same_tables w in
      let b = subst (λ (f : Option RuleFrame). EndsPage old new (page_over (long_of bytes s) d.tables (option_map frame_data f)) r) same_saving a in
      subst (λ (p : PageData). EndsPage old new p r) (same_page bytes) b

-- ---- what is told of a sheet that was written

module _ (old new : Option (List ℕ)) (s : LongData) (tables : List TableData) (saving : Option FrameData) where
  module _ (f : Filled) (w : IsFilled old new (page_over s tables None) f) where
    pub done_of : (refused : List Refused) (unsure : Bool) (text : Option (List ℕ)) → refused ≡ f.learned.refused → unsure ≡ f.summary.unsure
        → ((g : Ground) (examples : List Example) → StandsFor g f.block examples → IsSavedText saving g examples text) → IsDone old new (page_over s tables saving) refused unsure text
    done_of refused unsure text same_refused same_unsure saved = (
      f.learned.examples,
      w.0,
      subst (λ (r : List Refused). AreLearned s.typed (ground_of s tables) f.learned.examples r) (sym same_refused) w.1,
      w.2,
      same_unsure ∙ w.3,
      w.4,
      saved (ground_of s tables) f.learned.examples w.5,
    )

    pub begun_of : IsBegun old new (page_over s tables saving)
    begun_of = inr (f.learned.examples, f.learned.refused, length (rows_of s), w.1, (omega arith, w.4))

  -- nothing more is told where the writing halted
  pub halted_page : (h : Halt) → EndsSheet old new (page_over s tables None) (Err h) → EndsPage old new (page_over s tables saving) (Err h)
  halted_page halt.Fault w = w
  halted_page halt.NoMemory w = w

-- ---- how the writing of a long sheet ends

-- a pass from the front of a file, whose bytes are told
pub read_whole : (files : Option (List ℕ → Option (List ℕ))) (name bytes : List ℕ) (rest : Option Rows) → rest ≡ option_map records_of (told_bytes files name) → IsTold files name bytes → rest ≡ Some (records_of bytes)
read_whole files name bytes rest whole told = whole ∙ ap (option_map records_of) told

module _ (old new : Option (List ℕ)) (s : LongData) (learned : Learned) (b : Basis) (teaches : Teaches s (tables_of b) learned b) where
  pub halted_sheet : (h : Halt) → WritesSheet s learned b s.head old new (Err h) → EndsSheet old new (page_over s (tables_of b) None) (Err h)
  halted_sheet halt.Fault w = (learned.examples, learned.refused, w.0, teaches.learned, (w.1, w.2))
  halted_sheet halt.NoMemory w = inr (learned.examples, learned.refused, w.0, teaches.learned, (w.1, w.2))

  module _ (written : Written) (after : Basis) (w : IsWritten s learned b s.head old new written after) where
    -- all was written, and the block for what is told of it
    pub filled_sheet : (block : BlockData) → StandsFor (ground_of s (tables_of after)) block learned.examples
        → EndsSheet old new (page_over s (tables_of b) None) (Ok (record { learned = learned; summary = written.summary; block = block }))
    filled_sheet block stands =
        let states = w.states in
        (states.0, teaches.learned, states.1, states.2, w.whole, subst (λ (tables : List TableData). StandsFor (ground_of s tables) block learned.examples) w.tables stands)

    -- all was written, and there was no memory for that block
    pub written_sheet : EndsSheet old new (page_over s (tables_of b) None) (Err halt.NoMemory)
    written_sheet = inr (learned.examples, learned.refused, length (rows_of s), teaches.learned, (omega arith, w.whole))

-- the tables of the basis are those that were learned over
module _ (s : LongData) (tables : List TableData) (learned : Learned) (b : Basis) (teaches : Teaches s tables learned b) where
  pub teaches_basis : Teaches s (tables_of b) learned b
  teaches_basis = subst (λ (t : List TableData). Teaches s t learned b) (sym teaches.tables) teaches

  pub ends_over : (old new : Option (List ℕ)) (r : Result Filled Halt) → EndsSheet old new (page_over s (tables_of b) None) r → EndsSheet old new (page_over s tables None) r
  ends_over old new r ends = subst (λ (t : List TableData). EndsSheet old new (page_over s t None) r) teaches.tables ends
