-- Programs as plain trees: what the definitions and the laws speak of.
use Rattle.std.specs.Prelude.{ℕ, List, [], ◌∷◌}
use Rattle.fill_tokens.specs.declared.place.Place.{Place}

mutual
  -- a cell of the row by its column, or a cell of a table: its column, the table, the key and the key's conditions
  pub data SourceTree : Type 0 where
    col : ℕ → SourceTree
    select : ℕ → ℕ → ℕ → Atoms → SourceTree

  pub data AtomTree : Type 0 where
    constant : List ℕ → AtomTree
    whole : SourceTree → AtomTree
    sub : SourceTree → Place → Place → AtomTree

  -- a list of atoms: a program, or the conditions of a lookup
  pub data Atoms : Type 0 where
    end : Atoms
    more : AtomTree → Atoms → Atoms

abbrev pub atoms_of : List AtomTree → Atoms
atoms_of [] = end
atoms_of (a ∷ rest) = more a (atoms_of rest)
