use Rattle.std.proofs.Common.{ℕ, List, Bool, true, false, Option, Some, subst, sym}
use Rattle.fill_sheet.specs.Columns.{IsOutput}
use Rattle.fillcsv_options.specs.Words.{data_of}
use Rattle.fillcsv_run.specs.Opening.{most_records, output_of}
use Rattle.fillcsv_run.specs.Read.{AreReadable, read_data, sheet_in}
use Rattle.fillcsv_run.proofs.Rows.{all_rows}
use Rattle.fillcsv_run.proofs.desk.Desk.of.Goals as goal

is_output : (inputs : List ℕ) (replace : Bool) (column : ℕ) → IsOutput inputs (Some column) → IsOutput inputs (output_of replace column)
is_output inputs false column is = is
is_output inputs true column is = tt

pub returns-clause-laid : goal.returns-clause-laid
returns-clause-laid c =
    let inputs = c.args.read.choice.from.items in
    record {
      settings = c.settings_of.ensures.bounded;
      inputs = c.requires.inputs;
      output = subst (λ (o : Option ℕ). IsOutput inputs o) (sym c.output_of.ensures) (is_output inputs c.args.asked.now.replace c.args.read.choice.to c.requires.output);
      column = c.form_of-form.ensures.column;
      states = c.form_of-form.ensures.states;
    }

pub returns-clause-page : goal.returns-clause-page
returns-clause-page c = λ bytes parts.
    let r = read_data (data_of c.args.asked.now) bytes c.args.read in
    let form = c.form_of-form.ensures.form bytes parts in
    let head = c.in_ok-head.ensures bytes parts form in
    let saving = c.in_ok-saving.ensures bytes parts in
    λ i. record {
      form = form i;
      typed = r.typed;
      over = record {
        settings = c.settings_of.ensures.value i;
        sheet = sheet_in c.args.asked.now.header c.args.read.choice.from.items (c.output_of.ensures i) bytes;
        tables = c.args.read.tables;
      };
      rows = (sym (all_rows most_records c.args.asked.now.header bytes parts.readable.few)) i;
      head = head i;
      saving = saving i;
    }

pub returns-clause-ready : goal.returns-clause-ready
returns-clause-ready c = λ bytes parts.
    let inputs = c.args.read.choice.from.items in
    record {
      laid = record {
        settings = c.settings_of.ensures.bounded;
        inputs = c.requires.inputs;
        output = subst (λ (o : Option ℕ). IsOutput inputs o) (sym c.output_of.ensures) (is_output inputs c.args.asked.now.replace c.args.read.choice.to c.requires.output);
        column = c.form_of-form.ensures.column;
        states = c.form_of-form.ensures.states;
      };
      readable = subst (λ (o : Option ℕ). AreReadable c.args.asked.now.header inputs o bytes) (sym c.output_of.ensures) parts.readable;
    }
