-- What moves made one after the other come to: edits, undo, redo and forget.
use Rattle.std.specs.Prelude.{◌≡◌, ℕ, ◌+◌, List, [], ◌∷◌, Option, Some, Result, Ok, Err, ⊤}
use Rattle.fill_text.specs.Data.{SheetData}
use Rattle.fill_tree.specs.declared.user.Edit.{Edit}
use Rattle.fill_tree.specs.declared.user.Edit.TheVariants as edit
use Rattle.fill_tree.specs.declared.user.Example.{Example}
use Rattle.fill_undo.specs.Moves.{no_moves}
use Rattle.fill_undo.specs.declared.done.Done.{Done}
use Rattle.fill_space.specs.declared.ground.Ground.{Ground}
use Rattle.fill_session.specs.Outcome.{Answers, first_reason, term}
use Rattle.fill_session.specs.Timeline.{RedoIs, Timeline, UndoIs, edited_by, forgotten}
use Rattle.fill_session.specs.declared.error.EditError.{EditError}
use Rattle.fill_session.specs.declared.moves.Move.{Move}
use Rattle.fill_session.specs.declared.moves.Move.TheVariants as move
use Rattle.fill_session.specs.declared.moves.Reply.{Reply}
use Rattle.fill_session.specs.declared.moves.Reply.TheVariants as reply

-- no examples yet, and no edit to undo
abbrev pub start : Timeline
start = record { examples = []; moves = no_moves }

-- a reason that is seen without a look at programs is told, and to take all examples away is never refused
pub record IsCertain (sheet : SheetData) (examples : List Example) (e : Edit) (answer : Result ⊤ EditError) : Type 0 where
  pub told : (reason : EditError) → first_reason sheet examples e ≡ Some reason → answer ≡ Err reason
  pub cleared : e ≡ edit.Clear → answer ≡ Ok tt

-- what a move comes to, and the timeline after it
abbrev pub MoveIs : Ground → Timeline → Move → Reply → Timeline → Type 0
MoveIs g a (move.Edit e) r b = (answer : Result ⊤ EditError) × (r ≡ reply.Edited answer)
    × Answers g a.examples e answer b.examples × IsCertain g.sheet a.examples e answer × (b ≡ edited_by a e answer)
MoveIs g a move.Undo r b = (done : Option Done) × (r ≡ reply.Undone done) × UndoIs a done b
MoveIs g a move.Redo r b = (done : Option Done) × (r ≡ reply.Redone done) × RedoIs a done b
MoveIs g a move.Forget r b = (r ≡ reply.Forgotten) × (b ≡ forgotten a)

-- the most steps of a move: an edit alone takes any
abbrev pub move_term : SheetData → List Example → Move → ℕ
move_term sheet examples (move.Edit e) = term sheet examples e
move_term sheet examples move.Undo = 0
move_term sheet examples move.Redo = 0
move_term sheet examples move.Forget = 0

-- what moves come to, one after the other, with the most steps that they may take together and the timeline in the end
abbrev pub AreMade : Ground → Timeline → List Move → List Reply → ℕ → Timeline → Type 0
AreMade g a [] [] n b = (n ≡ 0) × (b ≡ a)
AreMade g a [] (r ∷ replies) n b = ⊥
AreMade g a (m ∷ moves) [] n b = ⊥
AreMade g a (m ∷ moves) (r ∷ replies) n b = (next : Timeline) × (rest : ℕ)
    × MoveIs g a m r next × (n ≡ move_term g.sheet a.examples m + rest) × AreMade g next moves replies rest b
