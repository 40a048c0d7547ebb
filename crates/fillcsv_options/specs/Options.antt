-- What `clap` is told of the program's words.
use Rattle.std.specs.Prelude.{List, [], ◌∷◌, ◌++◌, Some, true, codes}
use Rattle.clap.specs.Words.{App, Rule, Text, new_app, new_rule as plain_rule}
use Rattle.clap.specs.declared.builder.action.ArgAction.TheVariants.{Append, SetTrue}
use Rattle.clap.specs.declared.builder.value_parser.ValueParser.TheVariants.{NonEmptyString}
use Rattle.clap.specs.Simple.{on_top}

-- an option that takes a value
abbrev pub value_rule : Text → Rule
value_rule name = record (plain_rule name) { long = Some name; value_names = 1 }

-- an option that takes none
abbrev pub flag_rule : Text → Rule
flag_rule name = record (plain_rule name) { long = Some name; action = Some SetTrue }

abbrev pub file_rule : Rule
file_rule = record (plain_rule (codes "FILE")) { required = true; parser = Some NonEmptyString }

-- an option whose value is not empty
abbrev pub text_rule : Text → Rule
text_rule name = record (value_rule name) { parser = Some NonEmptyString }

-- an option that may stand several times
abbrev pub several_rule : Text → Rule
several_rule name = record (value_rule name) { action = Some Append }

abbrev pub from_rule : Rule
from_rule = record (text_rule (codes "from")) { action = Some Append }

-- the file of the rule; `--save` is the option's old name
abbrev pub save_rule : Rule
save_rule = record (text_rule (codes "save-rule")) { aliases = codes "save" ∷ [] }

-- the words that say what is read
abbrev pub inputs : List Rule
inputs = file_rule ∷ value_rule (codes "to") ∷ text_rule (codes "new") ∷ from_rule ∷ flag_rule (codes "no-header") ∷ several_rule (codes "example") ∷ flag_rule (codes "replace") ∷ []

-- the words that say in which tables is looked up, and which language the rules have
abbrev pub rules : List Rule
rules = several_rule (codes "table") ∷ several_rule (codes "key") ∷ value_rule (codes "depth") ∷ value_rule (codes "profile") ∷ []

-- the words that say what is written
abbrev pub outputs : List Rule
outputs = flag_rule (codes "state") ∷ value_rule (codes "only") ∷ flag_rule (codes "strict") ∷ flag_rule (codes "quiet") ∷ flag_rule (codes "explain") ∷ flag_rule (codes "ask") ∷ []

-- the words that say where the rule is saved
abbrev pub saving : List Rule
saving = save_rule ∷ []

-- the words that say which saved rule is run, and how much is told of it
abbrev pub runs : List Rule
runs = text_rule (codes "rule") ∷ flag_rule (codes "quiet") ∷ []

-- a command with further rules
abbrev pub with_rules : App → List Rule → App
with_rules a rules = on_top (λ s. record s { rules = s.rules ++ rules }) a

-- a program that takes no words but `--help` and `--version`
abbrev pub bare_app : App
bare_app = on_top (λ s. record s { no_binary_name = true; has_version = true }) (new_app (codes "fillcsv"))

-- the words that the program takes to fill a sheet: beside these `--help` and `--version`, and `--` before a FILE that begins with `-`
unfoldable pub app : App
app = with_rules (with_rules (with_rules (with_rules bare_app inputs) rules) outputs) saving

-- and the words that it takes to run a saved rule
unfoldable pub run_app : App
run_app = with_rules bare_app runs
