-- Which row to look at next: of the rows in doubt that are not passed over the one whose objector comes first.
use Rattle.std.specs.Prelude.{◌≡◌, Bool, ℕ, suc, ◌<◌, ◌≤◌, ◌^◌, List, length, map, All, Contains, Option, None, Some, false, true, slice_get}
use Rattle.std.specs.declared.cmp.Ordering.{Ordering}
use Rattle.std.specs.declared.cmp.Ordering.TheVariants.{Less}
use Rattle.std.specs.Ordering.{nat_cmp, ordering_then}
use Rattle.fill_tokens.specs.declared.prices.Prices.{Prices}
use Rattle.fill_tree.specs.Cost.{program_cost}
use Rattle.fill_tree.specs.Meaning.{program_tree}
use Rattle.fill_tree.specs.Order.{Before, program_cmp}
use Rattle.fill_tree.specs.Tree.{Atoms}
use Rattle.fill_tree.specs.Value.{IsValue, ProgramIs}
use Rattle.fill_tree.specs.declared.user.Example.{Example}
use Rattle.fill_tree.specs.declared.user.TheConstants.{MOST_PROGRAMS}
use Rattle.fill_object.specs.Objector.{Answers}
use Rattle.fill_object.specs.declared.graph.Objection.{Objection}
use Rattle.fill_space.specs.Best.{AreBestOn}
use Rattle.fill_space.specs.declared.ground.Ground.{Ground}
use Rattle.fill_space.specs.Objector.{IsObjectionOn, ObjectionTree, ObjectsOn, objection_tree}
use Rattle.fill_space.specs.Spaces.{GuideStands, SpacesData, SpaceStands}
use Rattle.fill_session.specs.Answers.{AnswerIs}
use Rattle.fill_session.specs.Branches.{AreBranches, BranchData}
use Rattle.fill_session.specs.Objector.{ObjectorIs}
use Rattle.fill_session.specs.State.{IsBranch, SessionData}
use Rattle.fill_session.specs.declared.answer.Answer.{Answer}
use Rattle.fill_session.specs.declared.candidates.Verdict.{Verdict}
use Rattle.fill_session.specs.declared.candidates.Verdict.TheVariants.{Found, Nothing, Unknown}
use Rattle.fill_session.specs.declared.leads.Lead.{Lead}
use Rattle.fill_session.specs.declared.suggestion.Suggestion.{Suggestion}

-- a row, what is answered there, and who objects
pub record Asked : Type 0 where
  pub row : ℕ
  pub said : Option (List ℕ)
  pub objector : ObjectionTree

-- the row is one of the sheet in doubt, and none of those passed over: this is answered there, and so is objected
pub record IsAsked (g : Ground) (examples : List Example) (passed : List ℕ) (q : Asked) : Type 0 where
  pub first : 1 ≤ q.row
  pub last : q.row ≤ length g.sheet.rows
  pub left : ¬ (Contains passed q.row)
  pub said : (a : Answer) × AnswerIs g examples q.row a × (a.text ≡ q.said)
  pub objector : ObjectorIs g examples q.row (Some q.objector)

abbrev pub is_silent : Option (List ℕ) → Bool
is_silent None = true
is_silent (Some text) = false

-- a row without an answer comes first
abbrev pub rank_of : Option (List ℕ) → ℕ
rank_of None = 0
rank_of (Some text) = 1

-- of two rows in doubt the one without an answer comes first, then that with the earlier objector, then the upper one
abbrev pub asked_cmp : Prices → Asked → Asked → Ordering
asked_cmp prices p q = ordering_then (nat_cmp (rank_of p.said) (rank_of q.said)) (ordering_then (program_cmp prices p.objector.program q.objector.program) (nat_cmp p.row q.row))

-- the row to look at next, beside those passed over; none where no other row is in doubt
abbrev pub SuggestionIs : Ground → List Example → List ℕ → Option Asked → Type 0
SuggestionIs g examples passed None = (q : Asked) → ¬ (IsAsked g examples passed q)
SuggestionIs g examples passed (Some q) = IsAsked g examples passed q × ((p : Asked) → IsAsked g examples passed p → ¬ (asked_cmp g.settings.profile.prices p q ≡ Less))

-- what the code's suggestion stands for
abbrev pub asked_of : Suggestion → Asked
asked_of s = record { row = s.row; said = s.answer; objector = objection_tree s.objection }

-- How it is found.

-- what leads the search in a space: its guide, and its first programs
pub record LeadStands (s : SpacesData) (lead : Lead) : Type 0 where
  pub guide : GuideStands s lead.space lead.guide
  pub candidates : (l : List Example) → SpaceStands s lead.space l → AreBestOn s.ground l MOST_PROGRAMS (map program_tree lead.candidates)
  pub few : All (λ p. program_cost s.ground.settings.profile.prices (program_tree p) < 2 ^ 64) lead.candidates

-- for each branch its space, and what leads the search for objections there
pub record LeadsStand (s : SessionData) (leads : List Lead) : Type 0 where
  pub many : (branches : List BranchData) → AreBranches s.spaces.ground s.examples branches → length leads ≡ length branches
  pub spaces : (k : ℕ) (lead : Lead) → slice_get leads k ≡ Some lead → (list : List Example) → IsBranch s.spaces.ground s.examples (suc k) list → SpaceStands s.spaces lead.space list
  pub each : (k : ℕ) (lead : Lead) → slice_get leads k ≡ Some lead → LeadStands s.spaces lead

-- the program comes before the objector so far, if there is one
abbrev pub ComesFirst : Prices → Option Suggestion → Atoms → Type 0
ComesFirst prices None p = Unit {0}
ComesFirst prices (Some held) p = Before prices p (program_tree held.objection.program)

-- the objector's cost is a number of 64 bits
abbrev pub IsFew : Prices → Suggestion → Type 0
IsFew prices s = program_cost prices (program_tree s.objection.program) < 2 ^ 64

-- the objection is this program, with its value on the row, which is not what was said
pub record ObjectsBy (g : Ground) (row : ℕ) (said : Option (List ℕ)) (p : Atoms) (o : Objection) : Type 0 where
  pub same : program_tree o.program ≡ p
  pub otherwise : ¬ (Answers g.sheet g.tables row said p)
  pub value : IsValue (ProgramIs g.sheet g.tables row p) o.text

-- what the candidates of a branch tell of a row where this is answered: the objection, if it comes before the objector so far, or that none does
abbrev pub VerdictIs : Ground → List Example → ℕ → Option (List ℕ) → Option Suggestion → Verdict → Type 0
VerdictIs g examples row said best (Found o) = IsObjectionOn g examples row said (objection_tree o) × ComesFirst g.settings.profile.prices best (program_tree o.program)
VerdictIs g examples row said best Nothing = (p : Atoms) → ObjectsOn g examples row said p → ¬ (ComesFirst g.settings.profile.prices best p)
VerdictIs g examples row said best Unknown = Unit {0}

-- the cost of what is found is a number of 64 bits
abbrev pub VerdictFew : Prices → Verdict → Type 0
VerdictFew prices (Found o) = program_cost prices (program_tree o.program) < 2 ^ 64
VerdictFew prices Nothing = Unit {0}
VerdictFew prices Unknown = Unit {0}

-- the objector of a row in doubt, if it costs no more than the limit, if there is one
abbrev pub ObjectorWithin : Ground → List Example → ℕ → Option ℕ → Option ObjectionTree → Type 0
ObjectorWithin g examples row limit (Some o) = ObjectorIs g examples row (Some o)
ObjectorWithin g examples row None None = ⊥
ObjectorWithin g examples row (Some most) None = (o : ObjectionTree) → ObjectorIs g examples row (Some o) → most < program_cost g.settings.profile.prices o.program

-- what the objector so far costs
abbrev pub cost_of : Prices → Option Suggestion → Option ℕ
cost_of prices None = None
cost_of prices (Some s) = Some (program_cost prices (program_tree s.objection.program))

-- no row that is asked is this one, with an answer or without one, but those whose objector does not come before the objector so far
abbrev pub NoneAsked : Ground → List Example → List ℕ → Bool → ℕ → Option Suggestion → Type 0
NoneAsked g examples passed silent row best = (q : Asked) → IsAsked g examples passed q → is_silent q.said ≡ silent → q.row ≡ row → ¬ (ComesFirst g.settings.profile.prices best q.objector.program)

-- the row is asked, with an answer or without one, and comes before the best row so far
pub record IsAskedAt (g : Ground) (examples : List Example) (passed : List ℕ) (silent : Bool) (row : ℕ) (best : Option Suggestion) (s : Suggestion) : Type 0 where
  pub asked : IsAsked g examples passed (asked_of s)
  pub kind : is_silent s.answer ≡ silent
  pub here : s.row ≡ row
  pub earlier : ComesFirst g.settings.profile.prices best (program_tree s.objection.program)

-- of the first rows those that are asked, with an answer or without one: that to look at first
abbrev pub FirstAsked : Ground → List Example → List ℕ → Bool → ℕ → Option Suggestion → Type 0
FirstAsked g examples passed silent rows None = (q : Asked) → IsAsked g examples passed q → is_silent q.said ≡ silent → q.row ≤ rows → ⊥
FirstAsked g examples passed silent rows (Some s) = IsAsked g examples passed (asked_of s) × (is_silent s.answer ≡ silent) × (s.row ≤ rows)
    × ((p : Asked) → IsAsked g examples passed p → is_silent p.said ≡ silent → p.row ≤ rows → ¬ (asked_cmp g.settings.profile.prices p (asked_of s) ≡ Less))
