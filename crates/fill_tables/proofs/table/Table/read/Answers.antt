use Rattle.std.proofs.Common.{◌≡◌, ◌≢◌, ◌∙◌, ap, subst, IfOk, IfErr, Ok, Err, Result, List, ℕ}
use Rattle.fill_text.specs.Data.{TableData}
use Rattle.fill_tables.specs.declared.error.TableError.{TableError}
use Rattle.fill_tables.specs.declared.error.TableError.TheVariants.{NoMemory}
use Rattle.fill_records.specs.Records.{records_of}
use Rattle.fill_tables.specs.Reading.{read_table, table_of}
use Rattle.fill_tables.proofs.Decisions.{table_of-take}
use Rattle.fill_tables.proofs.table.Table.read.Goals as goal

pub returns-clause-ok : goal.returns-clause-ok
unfolding read_table
returns-clause-ok c =
    let whole = ap (λ (records : List (List (List ℕ))). table_of c.args.name records) (c.as_slice.ensures ∙ c.in_ok-records.ensures) ∙ table_of-take c.args.name (records_of c.args.bytes.now) in
    subst (λ (made : Result TableData TableError). IfOk c.of_records.result (λ table. made ≡ Ok table)) whole c.of_records.ensures.ok

pub returns-clause-err : goal.returns-clause-err
unfolding read_table
returns-clause-err c =
    let whole = ap (λ (records : List (List (List ℕ))). table_of c.args.name records) (c.as_slice.ensures ∙ c.in_ok-records.ensures) ∙ table_of-take c.args.name (records_of c.args.bytes.now) in
    subst (λ (made : Result TableData TableError). IfErr c.of_records.result (λ e. e ≢ NoMemory → made ≡ Err e)) whole c.of_records.ensures.err
