-- What entries write, one after the other, from state to state.
use Rattle.std.specs.Prelude.{◌≡◌, ◌⊎◌, ℕ, ◌+◌, List, [], ◌∷◌, ◌++◌, take}
use Rattle.fill_script.specs.declared.script.Entry.{Entry}

-- what entries write: the records, each its fields as bytes; how many of them are refusals; and the most steps that the
-- edits among the entries may take
pub record Written : Type 0 where
  pub records : List (List (List ℕ))
  pub refused : ℕ
  pub term : ℕ

-- nothing is written
abbrev pub nothing : Written
nothing = record { records = []; refused = 0; term = 0 }

-- this is written, and then more
abbrev pub followed : Written → Written → Written
followed w more = record { records = w.records ++ more.records; refused = w.refused + more.refused; term = w.term + more.term }

-- the first records of what is written; refusals are counted only where all is written
abbrev pub first_of : ℕ → Written → Written
first_of n w = record { records = take n w.records; refused = 0; term = w.term }

-- nothing is written, or the first records, some or all, of a writing of this kind
abbrev pub FirstOf : (Written → Type 0) → Written → Written → Type 0
FirstOf Kind none w = (w ≡ none) ⊎ ((whole : Written) × (n : ℕ) × Kind whole × (w ≡ first_of n whole))

-- by the steps of the entries in order, where `step s e w t` says that the entry writes w in the state s and leaves t:
-- from this state the entries write this, and leave the last state
abbrev pub Runs : {S : Type 0} → (S → Entry → Written → S → Type 0) → S → List Entry → Written → S → Type 0
Runs step s [] w last = (w ≡ nothing) × (last ≡ s)
Runs {S} step s (e ∷ es) w last =
    (first : Written) × (next : S) × (others : Written) × step s e first next × Runs step next es others last × (w ≡ followed first others)

-- from this state the entries before one of them write all that they write, and this one is begun, where `begin s e w`
-- says that w is a beginning of what the entry writes in the state s
abbrev pub Begins : {S : Type 0} → (S → Entry → Written → S → Type 0) → (S → Entry → Written → Type 0) → S → List Entry → Written → Type 0
Begins step begin s [] w = ⊥
Begins {S} step begin s (e ∷ es) w = begin s e w
    ⊎ ((first : Written) × (next : S) × (others : Written) × step s e first next × Begins step begin next es others × (w ≡ followed first others))
