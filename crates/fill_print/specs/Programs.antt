-- Programs at the front of bytes, atom by atom.
use Rattle.std.specs.Prelude.{◌≡◌, ℕ, Bool, true, false, List, [], ◌∷◌, ◌++◌, Option, Some, None}
use Rattle.fill_tokens.specs.declared.token_set.TokenSet.{TokenSet}
use Rattle.fill_tree.specs.Tree.{AtomTree, Atoms}
use Rattle.fill_print.specs.Notation.{atom_text, program_text}
use Rattle.fill_print.specs.Reading.{ManyFrom}
use Rattle.fill_print.specs.Rules.{IsAtom, IsProgram}

abbrev pub ProgramAtom : TokenSet → AtomTree → List ℕ → List ℕ → Type 0
ProgramAtom token_set a s k = IsAtom token_set a × (s ≡ atom_text a ++ k)

-- a comma stands between two atoms
abbrev pub between : Bool → List ℕ
between true = []
between false = 44 ∷ []

-- the next atom, or the bracket
abbrev pub AtomStep : TokenSet → Bool → Option AtomTree → List ℕ → List ℕ → Type 0
AtomStep token_set first None s k = s ≡ 41 ∷ k
AtomStep token_set first (Some a) s k = (m : List ℕ) × (s ≡ between first ++ m) × ProgramAtom token_set a m k

abbrev pub then_later : Bool → AtomTree → Bool
then_later first a = false

abbrev pub ProgramAtoms : TokenSet → Bool → List AtomTree → List ℕ → List ℕ → Type 0
ProgramAtoms token_set = ManyFrom (AtomStep token_set) then_later

abbrev pub ProgramFront : TokenSet → Atoms → List ℕ → List ℕ → Type 0
ProgramFront token_set p s k = IsProgram token_set p × (s ≡ program_text p ++ k)
