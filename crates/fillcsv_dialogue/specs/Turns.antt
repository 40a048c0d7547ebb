-- One turn of a dialogue.
use Rattle.std.specs.Prelude.{◌≡◌, ◌⊎◌, ℕ, List, ◌++◌, Bool, true, false, Option, None, Some, ⊤}
use Rattle.std.specs.Str.Lines.{lines}
use Rattle.fill_tree.specs.declared.user.Example.{Example}
use Rattle.fill_space.specs.declared.ground.Ground.{Ground}
use Rattle.fill_session.specs.Suggested.{Asked}
use Rattle.fillcsv_dialogue.specs.declared.replies.Kept.{Kept}
use Rattle.fillcsv_dialogue.specs.Dialogue.{IsDialogue}
use Rattle.fillcsv_dialogue.specs.Lines.{AreLinesOf, IsNextLine}
use Rattle.fillcsv_dialogue.specs.Replies.{replied, reply_in}

-- whatever is heard later: what it makes of these replies is what the lines heard so far and it make of those at the start
pub record LeadsTo (g : Ground) (words : List Example) (start : List Kept) (heard : List (List ℕ)) (kept : List Kept) : Type 0 where
  pub leads : (more : List (List ℕ)) (after : List Kept) → IsDialogue g words kept more after → IsDialogue g words start (heard ++ more) after

-- these lines stand in front of those to come, where they are told
abbrev pub AreHeard : Option (List ℕ) → Option (List ℕ) → List (List ℕ) → Type 0
AreHeard None come heard = ⊤
AreHeard (Some bytes) None heard = ⊥
AreHeard (Some bytes) (Some come) heard = lines bytes ≡ heard ++ lines come

-- a line was heard that goes on with the dialogue
abbrev pub GoesOn : Ground → List Example → List Kept → List Kept → Option (List ℕ) → Option (List ℕ) → Type 0
GoesOn g words old new bytes come = (heard : List (List ℕ)) × AreHeard bytes come heard × LeadsTo g words old heard new

-- the dialogue is over: the lines to come change nothing, or there are none
abbrev pub IsOver : Ground → List Example → List Kept → Option (List ℕ) → ℕ → ℕ → Type 0
IsOver g words kept bytes before now = (heard : List (List ℕ)) × AreLinesOf bytes before now heard × IsDialogue g words kept heard kept

-- the same at a flag that tells whether it goes on
abbrev pub Turns : Bool → Ground → List Example → List Kept → List Kept → Option (List ℕ) → Option (List ℕ) → ℕ → ℕ → Type 0
Turns true g words old new bytes come before now = GoesOn g words old new bytes come
Turns false g words old new bytes come before now = (new ≡ old) × IsOver g words old bytes before now

-- what is heard after a question: a line that is a reply to it, or one that ends the dialogue, or none
abbrev pub Hears : Bool → Asked → List Kept → List Kept → Option (List ℕ) → Option (List ℕ) → ℕ → ℕ → Type 0
Hears true q old new bytes come before now = (line : List ℕ) × IsNextLine bytes come before now (Some line) × (replied q (reply_in line) old ≡ Some new)
Hears false q old new bytes come before now = (new ≡ old)
    × (IsNextLine bytes come before now None ⊎ ((line : List ℕ) × IsNextLine bytes come before now (Some line) × (replied q (reply_in line) old ≡ None)))
