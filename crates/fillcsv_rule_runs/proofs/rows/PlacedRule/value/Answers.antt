use Rattle.std.proofs.Common.{ℕ, List, All, Contains, ◌∙◌, ap, map, subst, sym}
use Rattle.csv.specs.Records.{fields_of}
use Rattle.fill_records.specs.Texts.{text_in}
use Rattle.fill_sheet.specs.Sheet.{row_sheet}
use Rattle.fill_tree.specs.Switch.{switch_tree}
use Rattle.fill_apply.specs.Saved.{columns_read}
use Rattle.fill_apply.proofs.FirstOthers.{cases_read}
use Rattle.fillcsv_rule_runs.specs.Loaded.{loaded_data}
use Rattle.fillcsv_rule_runs.proofs.Cells.{gives, value_by}
use Rattle.fillcsv_rule_runs.proofs.rows.PlacedRule.value.Goals as goal

pub cells_value-requires-clause-inputs : goal.cells_value-requires-clause-inputs
cells_value-requires-clause-inputs c =
    let rule = c.args.self.now.loaded.now.rule in
    let tree = switch_tree rule.switch in
    let reads = subst (λ (columns : List ℕ). All (Contains columns) (columns_read tree.cases)) (sym c.deref-2.ensures.value) c.requires.valid.rule.reads in
    cases_read (row_sheet c.deref-2.result.now c.in_ok-cells.cells) rule.switch.cases reads

pub returns : goal.returns
returns c =
    let fields = fields_of c.args.row.now in
    let p = c.args.self.now in
    let rule = p.loaded.now.rule in
    let cells = c.in_ok-cells.ensures ∙ ap (map (text_in fields)) c.deref.ensures.value in
    gives (loaded_data p.loaded.now) p.places.sources.items fields c.in_ok-value.value c.utf8_of.result
    (value_by (switch_tree rule.switch) p.loaded.now.tables rule.inputs.items c.deref-2.result.now (map (text_in fields) p.places.sources.items) c.in_ok-cells.cells c.in_ok-value.value
    c.deref-2.ensures.value cells c.in_ok-value.ensures)
    c.utf8_of.ensures
