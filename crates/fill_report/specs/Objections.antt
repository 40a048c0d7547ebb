-- What is told of the objection on a row.
use Rattle.std.specs.Prelude.{◌≡◌, ℕ, List, [], ◌∷◌, Option, None, Some, codes}
use Rattle.std.specs.Fmt.{decimal}
use Rattle.fill_output.specs.Fields.{Fields, answer_field, value_word}
use Rattle.fill_tree.specs.declared.user.Example.{Example}
use Rattle.fill_print.specs.Notation.{program_text}
use Rattle.fill_space.specs.Objector.{ObjectionTree}
use Rattle.fill_space.specs.declared.ground.Ground.{Ground}
use Rattle.fill_session.specs.Objector.{ObjectorIs}

-- the record of the objection on a row: the program and its value, if there is one
abbrev pub object_record : ℕ → Option ObjectionTree → Fields
object_record row None = codes "object" ∷ decimal row ∷ [] ∷ [] ∷ codes "agreed" ∷ []
object_record row (Some o) = codes "object" ∷ decimal row ∷ program_text o.program ∷ answer_field o.text ∷ value_word o.text ∷ []

-- the record is that of the objection on the row
abbrev pub IsObjectRecord : Ground → List Example → ℕ → Fields → Type 0
IsObjectRecord g examples row fields = (found : Option ObjectionTree) × ObjectorIs g examples row found × (fields ≡ object_record row found)
