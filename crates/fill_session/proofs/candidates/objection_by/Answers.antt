use Rattle.std.proofs.Common.{List, subst}
use Rattle.std.proofs.lemmas.Bool.{false≢true}
use Rattle.fill_text.specs.Data.{SheetData, TableData}
use Rattle.fill_tree.specs.Meaning.{program_tree}
use Rattle.fill_tree.specs.Value.{IsValue, ProgramIs}
use Rattle.fill_session.proofs.OneAnswer.{value_is_one}
use Rattle.fill_session.proofs.candidates.objection_by.Goals as goal

pub returns : goal.returns
returns c =
    let g = c.args.spaces.now.ground in
    let row = c.args.row in
    let p = program_tree c.args.program.now in
    let text = c.in_ok-text.text in
    let value : IsValue (ProgramIs g.sheet g.tables row p) text =
    subst (λ (tables : List TableData). IsValue (ProgramIs g.sheet tables row p) text) c.tables.ensures
    (subst (λ (sheet : SheetData). IsValue (ProgramIs sheet c.tables.result.now row p) text) c.sheet.ensures c.in_ok-text.ensures) in
    record {
      same = c.in_ok-program.ensures;
      otherwise = λ agrees. false≢true (c.if-is_same.ensures.1 (value_is_one (ProgramIs g.sheet g.tables row p) text c.args.said.now value agrees));
      value = value;
    }
