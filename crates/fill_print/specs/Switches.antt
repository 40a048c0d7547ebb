-- Literals, guards, cases and conditional programs at the front of bytes.
use Rattle.std.specs.Prelude.{◌≡◌, ℕ, ◌-◌, ◌<◌, List, ◌++◌, codes, Option, Some, None, IfSome}
use Rattle.fill_tokens.specs.declared.token_set.TokenSet.{TokenSet}
use Rattle.fill_tree.specs.Switch.{CaseTree, SwitchTree}
use Rattle.fill_tree.specs.declared.guard.Literal.{Literal}
use Rattle.fill_print.specs.Notation.{literal_text, second_text, case_text, switch_text}
use Rattle.fill_print.specs.Reading.{ManyFrom}
use Rattle.fill_print.specs.Rules.{IsLiteral, IsCase, IsSwitch}

abbrev pub LiteralFront : TokenSet → Literal → List ℕ → List ℕ → Type 0
LiteralFront token_set l s k = IsLiteral token_set l × (s ≡ literal_text l ++ k)

-- the rest of a guard, and the arrow behind it
abbrev pub SecondFront : TokenSet → Option Literal → List ℕ → List ℕ → Type 0
SecondFront token_set o s k = IfSome o (IsLiteral token_set) × (s ≡ second_text o ++ codes "=>" ++ k)

abbrev pub CaseFront : TokenSet → CaseTree → List ℕ → List ℕ → Type 0
CaseFront token_set c s k = IsCase token_set c × (s ≡ case_text c ++ k)

-- the next case, of which at most `room` may still come, or what stands before the last program
abbrev pub CaseStep : TokenSet → ℕ → Option CaseTree → List ℕ → List ℕ → Type 0
CaseStep token_set room None s k = s ≡ codes "else=>" ++ k
CaseStep token_set room (Some c) s k = (0 < room) × CaseFront token_set c s k

abbrev pub one_less : ℕ → CaseTree → ℕ
one_less room c = room - 1

abbrev pub Cases : TokenSet → ℕ → List CaseTree → List ℕ → List ℕ → Type 0
Cases token_set = ManyFrom (CaseStep token_set) one_less

abbrev pub SwitchFront : TokenSet → SwitchTree → List ℕ → List ℕ → Type 0
SwitchFront token_set t s k = IsSwitch token_set t × (s ≡ switch_text t ++ k)
