-- Sources, conditions and other atoms by tokens of a set at the front of bytes, and a lookup's conditions one after the other.
use Rattle.std.specs.Prelude.{◌≡◌, ℕ, ◌-◌, ◌<◌, ◌≤◌, Bool, true, false, ◌||◌, List, [], ◌∷◌, ◌++◌, Option, Some, None, ◌==◌, if◌then◌else◌}
use Rattle.fill_tokens.specs.TokenSet.{IsPlaceOf}
use Rattle.fill_tokens.specs.declared.place.Place.{Place}
use Rattle.fill_tokens.specs.declared.token_set.TokenSet.{TokenSet}
use Rattle.fill_tree.specs.Grammar.{source_depth, atom_depth, is_part}
use Rattle.fill_tree.specs.Tree.{SourceTree, AtomTree}
use Rattle.fill_print.specs.Notation.{place_text, source_text, atom_text}
use Rattle.fill_print.specs.Reading.{ManyFrom}
use Rattle.fill_print.specs.Rules.{IsSource, IsCondition}

abbrev pub PlaceFront : TokenSet → Place → List ℕ → List ℕ → Type 0
PlaceFront token_set p s k = IsPlaceOf token_set p × (s ≡ place_text p ++ k)

-- the text of a source in which lookups stand at most `depth` deep inside each other
abbrev pub SourceFront : TokenSet → ℕ → SourceTree → List ℕ → List ℕ → Type 0
SourceFront token_set depth t s k = IsSource token_set t × (source_depth t ≤ depth) × (s ≡ source_text t ++ k)

abbrev pub AtomFront : TokenSet → ℕ → AtomTree → List ℕ → List ℕ → Type 0
AtomFront token_set depth a s k = IsCondition token_set a × (atom_depth a ≤ depth) × (s ≡ atom_text a ++ k)

-- an atom that is no constant
abbrev pub PartFront : TokenSet → ℕ → AtomTree → List ℕ → List ℕ → Type 0
PartFront token_set depth a s k = (is_part a ≡ true) × AtomFront token_set depth a s k

-- how many conditions may still come, and whether one that is no constant was there
pub record Room : Type 0 where
  pub room : ℕ
  pub seen : Bool

abbrev pub at_start : Room
at_start = record { room = 3; seen = false }

abbrev pub after_one : Room → AtomTree → Room
after_one r a = record { room = r.room - 1; seen = r.seen || is_part a }

-- a comma stands before each condition but the first of the three
abbrev pub comma : ℕ → List ℕ
comma room = if room == 3 then [] else 44 ∷ []

-- the next condition, which where it is the last chance is no constant, or the bracket
abbrev pub ConditionStep : TokenSet → ℕ → Room → Option AtomTree → List ℕ → List ℕ → Type 0
ConditionStep token_set depth r None s k = (r.seen ≡ true) × (s ≡ 41 ∷ k)
ConditionStep token_set depth r (Some a) s k = (0 < r.room) × (m : List ℕ) × (s ≡ comma r.room ++ m) × (r.room ≡ 1 → r.seen ≡ false → is_part a ≡ true) × AtomFront token_set depth a m k

abbrev pub Conditions : TokenSet → ℕ → Room → List AtomTree → List ℕ → List ℕ → Type 0
Conditions token_set depth = ManyFrom (ConditionStep token_set depth) after_one

-- a state that reading comes to: each can be gone on from to an end
pub record IsRoom (r : Room) : Type 0 where
  pub few : r.room ≤ 3
  pub first : r.room ≡ 3 → r.seen ≡ false
  pub alive : r.seen ≡ false → 0 < r.room

-- a condition, and where only that may come, one that is no constant
abbrev pub ConditionFront : TokenSet → ℕ → Bool → AtomTree → List ℕ → List ℕ → Type 0
ConditionFront token_set depth only_part a s k = (only_part ≡ true → is_part a ≡ true) × AtomFront token_set depth a s k
