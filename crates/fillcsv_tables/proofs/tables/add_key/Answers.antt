use Rattle.std.proofs.Common.{◌≢◌, ap}
use Rattle.fill_tables.specs.declared.error.TableError.TheVariants as error
use Rattle.fill_opening.specs.Opened.{checked}
use Rattle.fillcsv_tables.specs.Lines.{lookup_line}
use Rattle.fillcsv_tables.specs.Tables.{key_in}
use Rattle.fillcsv_tables.proofs.Refusals.{refused_by}
use Rattle.fillcsv_tables.proofs.tables.add_key.Goals as goal

pub returns-in-Err-clause-stopped : goal.returns-in-Err-clause-stopped
returns-in-Err-clause-stopped c =
    let a = c.args in
    refused_by (key_in a.name.now a.columns.now a.tables.now) (lookup_line a.name.now c.in-Err.e) (c.in-Err.e ≢ error.NoMemory)
    c.lookup_line.result c.refused.result c.refused.ensures c.lookup_line.ensures.line c.lookup_line.ensures.memory (λ m. ap (checked (lookup_line a.name.now)) (c.in-Err.ensures.err m))
