use Rattle.std.proofs.Common.{All, sym, subst}
use Rattle.fill_text.specs.Data.{SheetData}
use Rattle.fill_tree.specs.Guard.{ReadsInputs}
use Rattle.fillcsv_rules.proofs.value.cells_value.Goals as goal

pub switch_value-requires-clause-inputs : goal.switch_value-requires-clause-inputs
switch_value-requires-clause-inputs c = subst (λ (sheet : SheetData). All (λ k. ReadsInputs sheet k.guard) c.args.s.now.cases) (sym c.in_ok-sheet.ensures) c.requires.inputs
