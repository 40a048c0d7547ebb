-- When the rest of a program leaves the whole program with the answer that was said.
use Rattle.std.specs.Prelude.{ℕ, List, Option, None, Some, drop}
use Rattle.fill_tree.specs.Tree.{Atoms}
use Rattle.fill_tree.specs.Value.{IsValue, ProgramIs}
use Rattle.fill_object.specs.declared.row.OnRow.{OnRow}
use Rattle.fill_object.specs.declared.wanted.Wanted.{Wanted}
use Rattle.fill_object.specs.declared.wanted.Wanted.TheVariants.{Any, Other, Value}

-- the value that a property has is the one that is not wanted
abbrev pub Agrees : List ℕ → Wanted → (List ℕ → Type 0) → Type 0
Agrees answer Any P = ⊥
Agrees answer (Other from) P = IsValue P (Some (drop from answer))
Agrees answer Value P = IsValue P None

-- the same of what the rest of a program answers on the row
abbrev pub RestAgrees : OnRow → List ℕ → Wanted → Atoms → Type 0
RestAgrees on answer w q = Agrees answer w (ProgramIs on.sheet.now on.tables.now on.row q)

-- what is not wanted of a whole program: what was said
abbrev pub wanted_first : Option (List ℕ) → Wanted
wanted_first None = Value
wanted_first (Some t) = Other 0
