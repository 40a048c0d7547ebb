-- The index of tables by their names.
use Rattle.std.specs.Prelude.{◌≡◌, List, map, All, IsUtf8, string_bytes}
use Rattle.std.specs.Str.{chars}
use Rattle.std.specs.declared.string.String.{String}
use Rattle.fill_text.specs.Data.{TableData}

-- these are the names of the tables, in their order
pub record IsIndex {A : Type 0} (names : List (String A)) (tables : List TableData) : Type 0 where
  pub same : map (λ n. chars (string_bytes n)) names ≡ map (λ t. t.name) tables
  pub text : All (λ n. IsUtf8 (string_bytes n)) names
