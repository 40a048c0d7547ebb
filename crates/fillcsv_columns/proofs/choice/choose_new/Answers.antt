use Rattle.std.proofs.Common.{map}
use Rattle.std.specs.Prelude.{option_copied, string_bytes}
use Rattle.fillcsv_columns.specs.Columns.{named, names_of}
use Rattle.fillcsv_columns.proofs.Sources.{inputs_good, new_is_column, output_good, sources_good}
use Rattle.fillcsv_columns.proofs.choice.choose_new.Goals as goal

pub returns-clause-inputs : goal.returns-clause-inputs
returns-clause-inputs c =
    inputs_good c.in_ok-to.to c.in_ok-from.from.items
    (sources_good (names_of (option_copied c.args.header)) c.args.width c.in_ok-to.to (map string_bytes c.args.from.now) c.in_ok-from.from.items c.in_ok-from.ensures.ok)

pub returns-clause-output : goal.returns-clause-output
returns-clause-output c = (
  new_is_column (named c.args.name.now 1 (names_of (option_copied c.args.header))) c.args.width c.args.name.now c.in_ok-to.to c.in_ok-to.ensures.ok,
  output_good c.in_ok-to.to c.in_ok-from.from.items
      (sources_good (names_of (option_copied c.args.header)) c.args.width c.in_ok-to.to (map string_bytes c.args.from.now) c.in_ok-from.from.items c.in_ok-from.ensures.ok).0,
)
