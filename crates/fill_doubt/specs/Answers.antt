-- Lists of answers, and what is added to them.
use Rattle.std.specs.Prelude.{◌≡◌, ◌↔◌, ◌⊎◌, ℕ, List, Bool, true, Option, None, Some, nat_lt, if◌then◌else◌, slice_range}
use Rattle.fill_arena.specs.Contents.{SomeIn}
use Rattle.fill_eval.specs.Piece.{piece_text}
use Rattle.fill_doubt.specs.declared.answers.Texts.{Texts}
use Rattle.fill_doubt.specs.declared.answers.Pieces.{Pieces}
use Rattle.fill_doubt.specs.declared.answers.Positions.{Positions}

-- the answers that a list and a mark for none stand for, where each item stands for a value
abbrev pub Have : {A B : Type 0} → (A → B) → List A → Bool → Option B → Type 0
Have f xs none None = none ≡ true
Have f xs none (Some b) = SomeIn (λ x. f x ≡ b) xs

abbrev pub TextsHave : Texts → Option (List ℕ) → Type 0
TextsHave f = Have (λ x. x.now) f.texts.items f.none

abbrev pub PiecesHave : Pieces → Option (List ℕ) → Type 0
PiecesHave f = Have piece_text f.pieces.items f.none

abbrev pub PositionsHave : Positions → Option ℕ → Type 0
PositionsHave f = Have (λ x. x) f.positions.items f.none

-- the answers are the old ones and those of the property
abbrev pub Gains : {A : Type 0} → (Option A → Type 0) → (Option A → Type 0) → (Option A → Type 0) → Type 0
Gains {A} old new R = (o : Option A) → new o ↔ (old o ⊎ R o)

-- the answers are old ones or some of those of the property
abbrev pub GainsSome : {A : Type 0} → (Option A → Type 0) → (Option A → Type 0) → (Option A → Type 0) → Type 0
GainsSome {A} old new R = (o : Option A) → new o → old o ⊎ R o

-- the answers are the old ones and some of those of the property, among them all that are sought
pub record Covers {A : Type 0} (sought old new R : Option A → Type 0) : Type 0 where
  pub some : GainsSome old new R
  pub kept : (o : Option A) → old o → new o
  pub all : (o : Option A) → sought o → R o → new o

-- no value on the one side goes with some answer of the other
abbrev pub Lack : {A B : Type 0} → (Option A → Type 0) → (Option B → Type 0) → Type 0
Lack {A} {B} L R = (L None × ((b : Option B) × R b)) ⊎ (R None × ((a : Option A) × L a))

-- answers of two sides put together
abbrev pub AreJoined : {A B C : Type 0} → (Option A → Option B → Option C) → (Option A → Type 0) → (Option B → Type 0) → Option C → Type 0
AreJoined {A} {B} {C} join L R o = (a : Option A) × (b : Option B) × L a × R b × (o ≡ join a b)

-- the piece of the text from one position to a later one
abbrev pub between : List ℕ → Option ℕ → Option ℕ → Option (List ℕ)
between t None b = None
between t (Some a) None = None
between t (Some a) (Some b) = if nat_lt a b then Some (slice_range t a b) else None

abbrev pub AreBetween : List ℕ → (Option ℕ → Type 0) → (Option ℕ → Type 0) → Option (List ℕ) → Type 0
AreBetween t L R = AreJoined (between t) L R

-- from one position to each of a list
abbrev pub AreBetweenFrom : List ℕ → ℕ → List ℕ → Option (List ℕ) → Type 0
AreBetweenFrom t a bs o = SomeIn (λ b. o ≡ between t (Some a) (Some b)) bs
