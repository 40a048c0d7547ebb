-- When guards hold on a row, and which program a conditional program takes there.
use Rattle.std.specs.Prelude.{◌≡◌, ◌⊎◌, ℕ, ◌+◌, ◌≤◌, List, ◌∷◌, ◌++◌, length, All, Contains, Bool, true, false, Some, IfSome}
use Rattle.fill_text.specs.Data.{SheetData, TableData, cell_at}
use Rattle.fill_tokens.specs.Span.{Begins}
use Rattle.fill_tokens.specs.Value.{IsCount}
use Rattle.fill_tokens.specs.declared.token.Token.{Token}
use Rattle.fill_tree.specs.Tree.{Atoms}
use Rattle.fill_tree.specs.Switch.{CaseTree, SwitchTree}
use Rattle.fill_tree.specs.Value.{ProgramIs}
use Rattle.fill_tree.specs.declared.guard.Literal.{Literal}
use Rattle.fill_tree.specs.declared.guard.Guard.{Guard}

-- pieces that the sequence spans begin at the least number of positions of the text, or at more
abbrev pub HasMatches : List Token → List ℕ → ℕ → Type 0
HasMatches r t least = (count : ℕ) × IsCount (Begins r t) (length t + 1) count × (least ≤ count)

-- the opposite where negated
abbrev pub NegatedWhere : Bool → Type 0 → Type 0
NegatedWhere true P = ¬ P
NegatedWhere false P = P

abbrev pub LiteralHolds : SheetData → ℕ → Literal → Type 0
LiteralHolds sheet row l = (t : List ℕ) × (cell_at sheet row l.column ≡ Some t) × NegatedWhere l.negated (HasMatches l.seq t l.least)

abbrev pub GuardHolds : SheetData → ℕ → Guard → Type 0
GuardHolds sheet row g = LiteralHolds sheet row g.first × IfSome g.second (LiteralHolds sheet row)

-- the guard reads cells of input columns alone
abbrev pub ReadsInputs : SheetData → Guard → Type 0
ReadsInputs sheet g = Contains sheet.inputs g.first.column × IfSome g.second (λ l. Contains sheet.inputs l.column)

-- no guard of these cases holds on the row
abbrev pub NoneHolds : SheetData → ℕ → List CaseTree → Type 0
NoneHolds sheet row cases = All (λ c. ¬ (GuardHolds sheet row c.guard)) cases

-- on the row the program is that of the first case whose guard holds, or the last one where no guard holds
abbrev pub Takes : SheetData → ℕ → SwitchTree → Atoms → Type 0
Takes sheet row s p =
    ((before : List CaseTree) × (c : CaseTree) × (after : List CaseTree) × (s.cases ≡ before ++ c ∷ after)
    × NoneHolds sheet row before × GuardHolds sheet row c.guard × (p ≡ c.program))
    ⊎ (NoneHolds sheet row s.cases × (p ≡ s.last))

-- the value on the row of the program that is taken there
abbrev pub SwitchIs : SheetData → List TableData → ℕ → SwitchTree → List ℕ → Type 0
SwitchIs sheet tables row s v = (p : Atoms) × Takes sheet row s p × ProgramIs sheet tables row p v
