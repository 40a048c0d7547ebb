-- The rules of the notation by tokens of a set, each as a chain of what is read one after the other.
use Rattle.std.specs.Prelude.{ℕ, Bool, true, false, List, [], ◌∷◌, codes, Option, Some, None}
use Rattle.fill_tokens.specs.declared.token.Token.{Token}
use Rattle.fill_tokens.specs.declared.token_set.TokenSet.{TokenSet}
use Rattle.fill_tokens.specs.declared.place.Place.{Place}
use Rattle.fill_tokens.specs.declared.place.Place.TheVariants.{CPos, Pos}
use Rattle.fill_tree.specs.Tree.{SourceTree, AtomTree, Atoms, col, select, constant, whole, sub, atoms_of}
use Rattle.fill_tree.specs.Switch.{CaseTree, SwitchTree}
use Rattle.fill_tree.specs.declared.guard.Literal.{Literal}
use Rattle.fill_print.specs.Conditions.{PlaceFront, SourceFront, ConditionFront, Conditions, at_start}
use Rattle.fill_print.specs.Ints.{Int}
use Rattle.fill_print.specs.Numbers.{Number}
use Rattle.fill_print.specs.Programs.{ProgramAtom, ProgramAtoms, ProgramFront}
use Rattle.fill_print.specs.Reading.{Then, Plain, Gives}
use Rattle.fill_print.specs.Seqs.{TokenSeq, AtStart}
use Rattle.fill_print.specs.Switches.{LiteralFront, SecondFront, Cases}
use Rattle.fill_print.specs.Texts.{Quoted}

abbrev pub greatest : ℕ
greatest = 4294967295

abbrev pub not_empty : List Token → Bool
not_empty [] = false
not_empty (t ∷ ts) = true

abbrev pub AtCount : Place → List ℕ → List ℕ → Type 0
AtCount = Then (Plain (codes "CPos(")) (λ u. Then (Int true 41) (λ z. Gives (CPos z)))

abbrev pub Between : TokenSet → Place → List ℕ → List ℕ → Type 0
Between token_set = Then (Plain (codes "Pos([")) (λ u. Then (TokenSeq token_set true false (AtStart 3 true)) (λ r. Then (Plain (codes ",[")) (λ v.
    Then (TokenSeq token_set false true (AtStart 3 (not_empty r))) (λ s. Then (Plain (codes ",")) (λ w. Then (Int false 41) (λ z. Gives (Pos r s z)))))))

abbrev pub Column : SourceTree → List ℕ → List ℕ → Type 0
Column = Then (Plain (codes "Col(")) (λ u. Then (Number greatest 41) (λ n. Gives (col n)))

abbrev pub Lookup : TokenSet → ℕ → SourceTree → List ℕ → List ℕ → Type 0
Lookup token_set depth = Then (Plain (codes "Select(")) (λ u. Then (Number greatest 44) (λ c. Then (Number greatest 44) (λ t. Then (Number greatest 44) (λ k.
    Then (Conditions token_set depth at_start) (λ xs. Gives (select c t k (atoms_of xs)))))))

abbrev pub Constant : Bool → AtomTree → List ℕ → List ℕ → Type 0
Constant may_be_empty = Then (Plain (codes "Const('")) (λ u. Then (Quoted may_be_empty) (λ t. Then (Plain (codes ")")) (λ v. Gives (constant t))))

abbrev pub WholePart : TokenSet → ℕ → AtomTree → List ℕ → List ℕ → Type 0
WholePart token_set depth = Then (Plain (codes "Whole(")) (λ u. Then (SourceFront token_set depth) (λ t. Then (Plain (codes ")")) (λ v. Gives (whole t))))

abbrev pub SubPart : TokenSet → ℕ → AtomTree → List ℕ → List ℕ → Type 0
SubPart token_set depth = Then (Plain (codes "Sub(")) (λ u. Then (SourceFront token_set depth) (λ t. Then (Plain (codes ",")) (λ v. Then (PlaceFront token_set) (λ p.
    Then (Plain (codes ",")) (λ w. Then (PlaceFront token_set) (λ q. Then (Plain (codes ")")) (λ x. Gives (sub t p q))))))))

abbrev pub WholeProgram : TokenSet → Atoms → List ℕ → List ℕ → Type 0
WholeProgram token_set = Then (Plain (codes "Concat(")) (λ u. Then (ProgramAtoms token_set true) (λ xs. Gives (atoms_of xs)))

abbrev pub Matched : TokenSet → Bool → Literal → List ℕ → List ℕ → Type 0
Matched token_set negated = Then (Plain (codes "Match(")) (λ u. Then (Number greatest 44) (λ c. Then (Plain (codes "[")) (λ v. Then (TokenSeq token_set true true (AtStart 2 false)) (λ r.
    Then (Plain (codes ",")) (λ w. Then (Number 3 41) (λ n. Gives (record { negated = negated; column = c; seq = r; least = n })))))))

abbrev pub SecondLiteral : TokenSet → Option Literal → List ℕ → List ℕ → Type 0
SecondLiteral token_set = Then (LiteralFront token_set) (λ l. Then (Plain (codes "=>")) (λ u. Gives (Some l)))

abbrev pub NoSecond : Option Literal → List ℕ → List ℕ → Type 0
NoSecond = Then (Plain (codes "=>")) (λ u. Gives None)

abbrev pub WholeCase : TokenSet → CaseTree → List ℕ → List ℕ → Type 0
WholeCase token_set = Then (LiteralFront token_set) (λ l. Then (SecondFront token_set) (λ o. Then (ProgramFront token_set) (λ p. Then (Plain (codes ";")) (λ u.
    Gives (record { guard = record { first = l; second = o }; program = p })))))

abbrev pub WholeSwitch : TokenSet → SwitchTree → List ℕ → List ℕ → Type 0
WholeSwitch token_set = Then (Plain (codes "Switch(")) (λ u. Then (Cases token_set 7) (λ cs. Then (ProgramFront token_set) (λ p. Then (Plain (codes ")")) (λ v.
    Gives (record { cases = cs; last = p })))))

abbrev pub NoAtom : Option AtomTree → List ℕ → List ℕ → Type 0
NoAtom = Then (Plain (codes ")")) (λ u. Gives None)

abbrev pub SomeAtom : TokenSet → Option AtomTree → List ℕ → List ℕ → Type 0
SomeAtom token_set = Then (ProgramAtom token_set) (λ a. Gives (Some a))

abbrev pub NoCase : Option CaseTree → List ℕ → List ℕ → Type 0
NoCase = Then (Plain (codes "else=>")) (λ u. Gives None)

abbrev pub SomeCase : TokenSet → Option CaseTree → List ℕ → List ℕ → Type 0
SomeCase token_set = Then (WholeCase token_set) (λ c. Gives (Some c))

-- conditions: the first one, one behind a comma, and none
abbrev pub FirstCondition : TokenSet → ℕ → Option AtomTree → List ℕ → List ℕ → Type 0
FirstCondition token_set depth = Then (ConditionFront token_set depth false) (λ a. Gives (Some a))

abbrev pub LaterCondition : TokenSet → ℕ → Bool → Option AtomTree → List ℕ → List ℕ → Type 0
LaterCondition token_set depth only_part = Then (Plain (codes ",")) (λ u. Then (ConditionFront token_set depth only_part) (λ a. Gives (Some a)))
