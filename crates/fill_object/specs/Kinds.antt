-- Places, sources, atoms and rows of conditions, as they are listed.
use Rattle.std.specs.Prelude.{◌↔◌, ℕ, List}
use Rattle.fill_text.specs.Orders.{AtMost}
use Rattle.fill_tokens.specs.Value.{HasValue}
use Rattle.fill_tokens.specs.declared.place.Place.{Place}
use Rattle.fill_tokens.specs.declared.prices.Prices.{Prices}
use Rattle.fill_tree.specs.Grammar.{HasPart}
use Rattle.fill_tree.specs.Meaning.{atom_tree, program_tree, source_tree}
use Rattle.fill_tree.specs.Tree.{SourceTree, AtomTree, Atoms}
use Rattle.fill_tree.specs.Value.{SourceIs, AtomIs, ConditionsAre}
use Rattle.fill_tree.specs.declared.tree.Program.{Program}
use Rattle.fill_tree.specs.Order.{place_rank, source_rank, atom_rank, row_rank}
use Rattle.fill_object.specs.Leasts.{Kind, valued}
use Rattle.fill_object.specs.declared.row.OnRow.{OnRow}
use Rattle.fill_object.specs.declared.valued.Spot.{Spot}
use Rattle.fill_object.specs.declared.valued.ValuedSource.{ValuedSource}
use Rattle.fill_object.specs.declared.valued.ValuedAtom.{ValuedAtom}

-- places with their values in a text
abbrev pub spots_in : Prices → List ℕ → Kind Spot Place
spots_in prices t = valued (λ x. x.place) (λ x. x.at) (place_rank prices) (λ p. HasValue p t)

-- sources and atoms with their texts on a row
abbrev pub sources_on : OnRow → Kind ValuedSource SourceTree
sources_on on = valued (λ x. source_tree x.source) (λ x. x.text) (source_rank on.prices.now) (SourceIs on.sheet.now on.tables.now on.row)

abbrev pub atoms_on : OnRow → Kind ValuedAtom AtomTree
atoms_on on = valued (λ x. atom_tree x.atom) (λ x. x.text) (atom_rank on.prices.now) (AtomIs on.sheet.now on.tables.now on.row)

-- a row of conditions has the texts of another one on the row, has a part where the other one has, and is at most it
pub record IsRowFor (on : OnRow) (y x : Atoms) : Type 0 where
  pub at_most : AtMost (row_rank on.prices.now x y)
  pub part : HasPart y → HasPart x
  pub texts : (ts : List (List ℕ)) → ConditionsAre on.sheet.now on.tables.now on.row x ts ↔ ConditionsAre on.sheet.now on.tables.now on.row y ts

abbrev pub rows_on : OnRow → Kind Program Atoms
rows_on on = record {
  tree = program_tree;
  Right = λ x. Unit {0};
  Like = λ x y. IsRowFor on (program_tree y) (program_tree x);
  For = λ y x. IsRowFor on y (program_tree x);
}
