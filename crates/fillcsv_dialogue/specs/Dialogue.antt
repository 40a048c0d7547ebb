-- A dialogue about the rows in doubt: what is asked, and what the lines of the answers make of it.
use Rattle.std.specs.Prelude.{◌≡◌, ◌⊎◌, ℕ, List, [], ◌∷◌, ◌++◌, map, MatchOption, Option, None, Some}
use Rattle.fill_tree.specs.declared.user.Example.{Example}
use Rattle.fill_space.specs.declared.ground.Ground.{Ground}
use Rattle.fill_session.specs.Suggested.{Asked, SuggestionIs}
use Rattle.fillcsv_rows.specs.Learned.{AreLearned}
use Rattle.fillcsv_rows.specs.declared.learning.Refused.{Refused}
use Rattle.fillcsv_dialogue.specs.declared.replies.Kept.{Kept}
use Rattle.fillcsv_dialogue.specs.Lines.{AreLinesOf}
use Rattle.fillcsv_dialogue.specs.Replies.{replied, reply_in, rows_of, typed_with}

-- what is asked after these replies: the row to look at next once all is learned that is typed so far, beside the rows that
-- were replied to and those whose text is not learned from; none where no other row is in doubt
abbrev pub QuestionIs : Ground → List Example → List Kept → Option Asked → Type 0
QuestionIs g words kept found = (examples : List Example) × (refused : List Refused)
    × AreLearned (typed_with words kept) g examples refused × SuggestionIs g examples (rows_of kept ++ map (λ r. r.row) refused) found

-- the replies once these lines are heard: each replies to the question of its time; the dialogue is over where nothing is left to
-- ask, and where a line ends it
abbrev pub IsDialogue : Ground → List Example → List Kept → List (List ℕ) → List Kept → Type 0
IsDialogue g words kept [] after = after ≡ kept
IsDialogue g words kept (line ∷ more) after = (QuestionIs g words kept None × (after ≡ kept))
    ⊎ ((q : Asked) × QuestionIs g words kept (Some q)
    × MatchOption (replied q (reply_in line) kept) (after ≡ kept) (λ now. IsDialogue g words now more after))

-- the typed texts after a dialogue over the lines of what a source has left: the same as if the words had given those of the
-- replies
abbrev pub AreAnswered : Ground → List Example → Option (List ℕ) → ℕ → ℕ → List Example → Type 0
AreAnswered g words left before now typed = (heard : List (List ℕ)) × (kept : List Kept)
    × AreLinesOf left before now heard × IsDialogue g words [] heard kept × (typed ≡ typed_with words kept)
