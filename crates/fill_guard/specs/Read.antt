-- What rows of a sheet have in a column, and what literals say of it.
use Rattle.std.specs.Prelude.{◌≡◌, ℕ, ◌≤◌, List, Some, length, All}
use Rattle.std.specs.List.{AllZip}
use Rattle.fill_text.specs.Data.{SheetData, cell_at}
use Rattle.fill_tokens.specs.declared.token.Token.{Token}
use Rattle.fill_tree.specs.Guard.{NegatedWhere, LiteralHolds}
use Rattle.fill_tree.specs.declared.guard.Literal.{Literal}
use Rattle.fill_guard.specs.Matches.{IsMatchCount}

-- the sheet has a row of this number
abbrev pub IsRowOf : SheetData → ℕ → Type 0
IsRowOf sheet row = (1 ≤ row) × (row ≤ length sheet.rows)

-- these are the cells of the rows in the column
abbrev pub AreCells : SheetData → ℕ → List ℕ → List (List ℕ) → Type 0
AreCells sheet column rows cells = AllZip (λ row t. cell_at sheet row column ≡ Some t) rows cells

-- the numbers of matches of the sequence in the rows' cells of the column, counted up to three
abbrev pub AreCounts : SheetData → ℕ → List Token → List ℕ → List ℕ → Type 0
AreCounts sheet column r rows counts = AllZip (λ row count. (t : List ℕ) × (cell_at sheet row column ≡ Some t) × IsMatchCount r t count) rows counts

-- the literal holds on a cell with this number of matches of its sequence, counted up to three
abbrev pub Passes : Literal → ℕ → Type 0
Passes l count = NegatedWhere l.negated (l.least ≤ count)

-- the literal holds on all of the rows
abbrev pub HoldsOn : SheetData → List ℕ → Literal → Type 0
HoldsOn sheet rows l = All (λ row. LiteralHolds sheet row l) rows
