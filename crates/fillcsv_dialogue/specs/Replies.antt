-- What a line replies to a question, and what replies teach.
use Rattle.std.specs.Prelude.{ℕ, ◌-◌, ◌==◌, List, [], ◌∷◌, ◌++◌, bytes_eq, codes, filter_map, length, map, option_map, take, unwrap_or, if◌then◌else◌, Option, None, Some}
use Rattle.std.specs.Str.{chars, is_utf8}
use Rattle.fill_tree.specs.declared.user.Example.{Example}
use Rattle.fill_session.specs.Suggested.{Asked}
use Rattle.fillcsv_dialogue.specs.declared.replies.Kept.{Kept}
use Rattle.fillcsv_dialogue.specs.declared.replies.Reply.{Reply}
use Rattle.fillcsv_dialogue.specs.declared.replies.Reply.TheVariants.{Back, Empty, First, Given, Quit, Second, Skip, Unclear}

-- the text of a line: what stands behind `=` (61), or else the line
abbrev pub text_in : List ℕ → List ℕ
text_in [] = []
text_in (first ∷ more) = if first == 61 then more else first ∷ more

-- the reply of a line that is UTF-8
abbrev pub reply_of : List ℕ → Reply
reply_of line = if bytes_eq line [] then First else (if bytes_eq line (codes "2") then Second else
    (if bytes_eq line (codes "-") then Empty else (if bytes_eq line (codes "s") then Skip else
    (if bytes_eq line (codes "u") then Back else (if bytes_eq line (codes "q") then Quit else Given (chars (text_in line)))))))

-- the reply of a line
abbrev pub reply_in : List ℕ → Reply
reply_in line = if is_utf8 line then reply_of line else Unclear

-- a row gets this text, or an empty one where that is none
abbrev pub kept_text : ℕ → Option (List ℕ) → Kept
kept_text row text = record { row = row; text = Some (unwrap_or text []) }

-- the replies so far with that to a question about a row: the text that stands there, that of the objector, an empty one, a given
-- one, or none; or without the last one; or as they were. None where the dialogue is over
abbrev pub replied : Asked → Reply → List Kept → Option (List Kept)
replied q First kept = Some (kept ++ kept_text q.row q.said ∷ [])
replied q Second kept = Some (kept ++ kept_text q.row q.objector.text ∷ [])
replied q Empty kept = Some (kept ++ kept_text q.row None ∷ [])
replied q (Given text) kept = Some (kept ++ kept_text q.row (Some text) ∷ [])
replied q Skip kept = Some (kept ++ (record { row = q.row; text = None }) ∷ [])
replied q Back kept = Some (take (length kept - 1) kept)
replied q Unclear kept = Some kept
replied q Quit kept = None

-- the example of a reply, where it gives a text
abbrev pub example_of : Kept → Option Example
example_of kept = option_map (λ text. record { row = kept.row; text = text }) kept.text

-- the typed texts: those of the replies, and those that the words give for other rows
abbrev pub typed_with : List Example → List Kept → List Example
typed_with words kept = filter_map example_of kept ++ words

-- the rows of the replies, which are not asked again
abbrev pub rows_of : List Kept → List ℕ
rows_of kept = map (λ k. k.row) kept
