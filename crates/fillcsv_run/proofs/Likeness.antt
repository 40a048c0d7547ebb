-- A saved rule answers on its sheet as it was learned.
use Rattle.std.proofs.Common.{◌≡◌, ℕ, ◌+◌, zero, suc, List, [], ◌∷◌, length, map, Bool, true, false, Option, None, Some, Result, Ok, Err, refl, sym, ap, subst, ◌∙◌}
use Rattle.std.specs.Prelude.{nat_lt, option_map}
use Rattle.std.proofs.lemmas.Option.{slice_get-map}
use Rattle.fill_text.specs.Data.{SheetData, nth}
use Rattle.fill_records.specs.Records.{records_of}
use Rattle.fill_records.specs.Texts.{first_bad, text_in}
use Rattle.fill_sheet.specs.Columns.{rising, used}
use Rattle.fill_sheet.specs.Sheet.{decided, headers, read_up_to, row_of, row_records, row_sheet}
use Rattle.fill_sheet.specs.declared.error.SheetError.{SheetError}
use Rattle.fill_tree.specs.Guard.{SwitchIs}
use Rattle.fill_tree.specs.Switch.{SwitchTree}
use Rattle.fill_tree.specs.Value.{IsValue}
use Rattle.fill_tree.specs.declared.user.Example.{Example}
use Rattle.fill_eval.proofs.Guards.{switch_of as switch_value}
use Rattle.fill_eval.proofs.Values.{alike}
use Rattle.fill_session.specs.Answers.{AnswerIs, switch_of}
use Rattle.fill_session.specs.Branches.{AreBranches, BranchData}
use Rattle.fill_session.specs.declared.answer.Answer.{Answer}
use Rattle.fill_session.proofs.OneFate.{branches_are_one}
use Rattle.fillcsv_rules.proofs.Alike.{of_cells}
use Rattle.fill_output.specs.Fields.{Fields}
use Rattle.fillcsv_rule_runs.specs.Filled.{ValueIs}
use Rattle.fill_opening.specs.Opened.{Held, Opened, Opening, Passed, Refused, Unread, at_once, further}
use Rattle.fillcsv_columns.specs.Choice.{ChoiceData, Refusal}
use Rattle.fillcsv_tables.specs.Tables.{lookups_open}
use Rattle.fillcsv_options.specs.Words.{AskedData}
use Rattle.fillcsv_run.specs.Alike.{learned}
use Rattle.fillcsv_run.specs.Ends.{rows_of}
use Rattle.fillcsv_run.specs.Ground.{ground_of}
use Rattle.fillcsv_run.specs.Opening.{SheetRead, choice_of, examples_in, from_bytes, from_sheet, most_records, output_of, records_in, sheet_file_opens, sheet_in, sheet_opens, with_choice, with_examples, with_rows, with_tables}
use Rattle.fillcsv_run.proofs.Switching.{takes_branch}

-- the sheet is that of its bytes in the chosen columns
abbrev IsSheetOf : AskedData → SheetRead → Type 0
IsSheetOf asked read = read_up_to most_records asked.header read.choice.from (output_of asked.replace read.choice.to) read.bytes ≡ Ok read.sheet

-- where steps pass, the first of them did, and so did the others
passed_through : {R A B : Type 0} (rest : A → Opening R B) (o : Opened R A) (y : B) → (further rest o).outcome ≡ Passed y → (x : A) × (o ≡ Passed x) × ((rest x).outcome ≡ Passed y)
passed_through rest (Unread name) y is = cc
passed_through rest (Refused line) y is = cc
passed_through rest (Passed x) y is = (x, refl, is)

record IsReadOf (asked : AskedData) (bytes : List ℕ) (choice : ChoiceData) (r : Result SheetData SheetError) (read : SheetRead) : Type 0 where
  sheet : r ≡ Ok read.sheet
  bytes_are : bytes ≡ read.bytes
  choice_is : choice ≡ read.choice

of_examples : (asked : AskedData) (bytes : List ℕ) (choice : ChoiceData) (sheet : SheetData) (o : Opened (List ℕ) (List Example)) (read : SheetRead) → with_examples bytes choice sheet o ≡ Passed read
    → IsReadOf asked bytes choice (Ok sheet) read
of_examples asked bytes choice sheet (Unread name) read is = cc
of_examples asked bytes choice sheet (Refused line) read is = cc
of_examples asked bytes choice sheet (Passed typed) read is =
    let same : record { bytes = bytes; choice = choice; sheet = sheet; typed = typed; tables = [] } ≡ read = cc in
    record {
      sheet = ap (λ (x : SheetRead). Ok x.sheet) same;
      bytes_are = ap (λ (x : SheetRead). x.bytes) same;
      choice_is = ap (λ (x : SheetRead). x.choice) same;
    }

of_rows : (asked : AskedData) (bytes : List ℕ) (choice : ChoiceData) (r : Result SheetData SheetError) (read : SheetRead) → with_rows asked bytes choice r ≡ Passed read → IsReadOf asked bytes choice r read
of_rows asked bytes choice (Ok sheet) read is = of_examples asked bytes choice sheet (examples_in asked (length sheet.rows)) read is
of_rows asked bytes choice (Err e) read is = cc

of_choice : (asked : AskedData) (bytes : List ℕ) (c : Result ChoiceData Refusal) (read : SheetRead) → with_choice asked bytes c ≡ Passed read
    → (choice : ChoiceData) × IsReadOf asked bytes choice (read_up_to most_records asked.header choice.from (output_of asked.replace choice.to) bytes) read
of_choice asked bytes (Ok choice) read is = (choice, of_rows asked bytes choice (read_up_to most_records asked.header choice.from (output_of asked.replace choice.to) bytes) read is)
of_choice asked bytes (Err e) read is = cc

-- what was opened: the sheet, and the tables
record IsOpened (asked : AskedData) (held : Held) (read : SheetRead) : Type 0 where
  sheet : IsSheetOf asked read
  tables : (lookups_open held [] asked.lookups).outcome ≡ Passed read.tables

opened_is : (asked : AskedData) (held : Held) (read : SheetRead) → (sheet_opens asked held).outcome ≡ Passed read → IsOpened asked held read
opened_is asked held read is =
    let bytes = passed_through (from_bytes asked held) (sheet_file_opens held asked.file).outcome read is in
    let first = passed_through (from_sheet asked held) (sheet_in asked bytes.0) read bytes.2 in
    let found = of_choice asked bytes.0 (choice_of asked (records_in bytes.0)) first.0 first.1 in
    let tables = passed_through (λ tables. at_once (Passed (with_tables first.0 tables))) (lookups_open held [] asked.lookups).outcome read first.2 in
    let same : with_tables first.0 tables.0 ≡ read = (let whole : Passed (with_tables first.0 tables.0) ≡ Passed read = tables.2 in cc) in
    let sheet : IsSheetOf asked first.0 =
    ap (λ (b : List ℕ). read_up_to most_records asked.header first.0.choice.from (output_of asked.replace first.0.choice.to) b) (sym found.1.bytes_are)
    ∙ ap (λ (c : ChoiceData). read_up_to most_records asked.header c.from (output_of asked.replace c.to) bytes.0) (sym found.1.choice_is) ∙ found.1.sheet in
    record {
      sheet = subst (IsSheetOf asked) same sheet;
      tables = tables.1 ∙ ap (λ (x : SheetRead). Passed x.tables) same;
    }

nth-map : {A B : Type 0} (f : A → B) (xs : List A) (n : ℕ) → nth (map f xs) n ≡ option_map f (nth xs n)
nth-map f xs zero = refl
nth-map f xs (suc i) = slice_get-map f xs i

decided_ok : (most : ℕ) (bad : Option (ℕ × ℕ)) (more : Bool) (made sheet : SheetData) → decided most bad more made ≡ Ok sheet → made ≡ sheet
decided_ok most (Some bad) more made sheet is = cc
decided_ok most None true made sheet is = cc
decided_ok most None false made sheet is = cc

-- the sheet has a row for each record
sheet_is : (asked : AskedData) (read : SheetRead) → IsSheetOf asked read
    → record { inputs = rising read.choice.from; rows = map (row_of (rising read.choice.from) (output_of asked.replace read.choice.to)) (row_records most_records asked.header (records_of read.bytes)) } ≡ read.sheet
unfolding read_up_to
sheet_is asked read is =
    let output = output_of asked.replace read.choice.to in
    let records = records_of read.bytes in
    decided_ok most_records (first_bad (used read.choice.from output) (headers asked.header + 1) (row_records most_records asked.header records)) (nat_lt most_records (length records))
    (record { inputs = rising read.choice.from; rows = map (row_of (rising read.choice.from) output) (row_records most_records asked.header records) }) read.sheet is

row_is : (asked : AskedData) (read : SheetRead) (row : ℕ) (fields : Fields) → IsSheetOf asked read → nth (rows_of asked read) row ≡ Some fields
    → nth read.sheet.rows row ≡ Some (row_of (rising read.choice.from) (output_of asked.replace read.choice.to) fields)
row_is asked read row fields is here =
    let inputs = rising read.choice.from in
    let output = output_of asked.replace read.choice.to in
    ap (λ (s : SheetData). nth s.rows row) (sym (sheet_is asked read is))
    ∙ nth-map (row_of inputs output) (rows_of asked read) row ∙ ap (option_map (row_of inputs output)) here

alike_on : (asked : AskedData) (read : SheetRead) (e : Example) (es : List Example) (branches : List BranchData) (switch : SwitchTree) (row : ℕ) (fields : Fields) (answer : Answer)
    → IsSheetOf asked read → AreBranches (ground_of asked read) (e ∷ es) branches → switch_of branches ≡ Some switch
    → nth (rows_of asked read) row ≡ Some fields → AnswerIs (ground_of asked read) (e ∷ es) row answer
    → ValueIs (learned asked read switch) (rising read.choice.from) fields answer.text
alike_on asked read e es branches switch row fields answer is are program here a =
    let g = ground_of asked read in
    let same : a.0 ≡ branches = branches_are_one g (e ∷ es) a.0 branches a.2 are in
    let taken = takes_branch g row a.0 switch a.1 a.3.0 a.3.1 a.2.guarded (ap switch_of same ∙ program) (a.3.2, a.3.3, a.3.4) in
    let value = switch_value read.sheet read.tables row switch a.1.program answer.text taken a.4 in
    let made = row_of (rising read.choice.from) (output_of asked.replace read.choice.to) fields in
    let on_cells = alike (SwitchIs read.sheet read.tables row switch) (SwitchIs (row_sheet read.sheet.inputs made.cells) read.tables 1 switch) answer.text
    (λ v. of_cells read.sheet read.tables row made switch v (row_is asked read row fields is here)) value in
    let inputs : read.sheet.inputs ≡ rising read.choice.from = ap (λ (s : SheetData). s.inputs) (sym (sheet_is asked read is)) in
    subst (λ (l : List ℕ). IsValue (SwitchIs (row_sheet l (map (text_in fields) (rising read.choice.from))) read.tables 1 switch) answer.text) inputs on_cells

pub answers_alike : (asked : AskedData) (held : Held) (read : SheetRead) (e : Example) (es : List Example) (branches : List BranchData) (switch : SwitchTree) (row : ℕ) (fields : Fields) (answer : Answer)
    → (sheet_opens asked held).outcome ≡ Passed read → AreBranches (ground_of asked read) (e ∷ es) branches → switch_of branches ≡ Some switch
    → nth (rows_of asked read) row ≡ Some fields → AnswerIs (ground_of asked read) (e ∷ es) row answer
    → ValueIs (learned asked read switch) (rising read.choice.from) fields answer.text
answers_alike asked held read e es branches switch row fields answer opens = alike_on asked read e es branches switch row fields answer (opened_is asked held read opens).sheet

pub same_tables : (asked : AskedData) (held : Held) (read : SheetRead) → (sheet_opens asked held).outcome ≡ Passed read → (lookups_open held [] asked.lookups).outcome ≡ Passed read.tables
same_tables asked held read opens = (opened_is asked held read opens).tables
