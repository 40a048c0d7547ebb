-- Examples with the history of their edits, along which undo and redo go back and forth.
use Rattle.std.specs.Prelude.{◌≡◌, List, [], ◌∷◌, ◌++◌, Option, None, Some, Result, Ok, Err, ⊤}
use Rattle.fill_tree.specs.declared.user.Edit.{Edit}
use Rattle.fill_tree.specs.declared.user.Example.{Example}
use Rattle.fill_undo.specs.Done.{done_of}
use Rattle.fill_undo.specs.Moves.{Moves, latest, no_moves}
use Rattle.fill_undo.specs.declared.done.Done.{Done}
use Rattle.fill_session.specs.Edits.{changed}
use Rattle.fill_session.specs.State.{SessionData}
use Rattle.fill_session.specs.declared.error.EditError.{EditError}

-- the examples that are present, and the edits before and after them, each with the examples on its other side
pub record Timeline : Type 0 where
  pub examples : List Example
  pub moves : Moves (List Example)

-- that of a session
abbrev pub timeline : SessionData → Timeline
timeline s = record { examples = s.examples; moves = s.moves }

-- after an accepted edit: the 32 latest edits can be undone, and none can be redone
abbrev pub edited : Timeline → Edit → Timeline
edited t edit = record {
  examples = changed t.examples edit;
  moves = record { past = latest (t.moves.past ++ (record { state = t.examples; done = done_of edit }) ∷ []); future = [] };
}

-- after an edit with this answer
abbrev pub edited_by : Timeline → Edit → Result ⊤ EditError → Timeline
edited_by t edit (Ok done) = edited t edit
edited_by t edit (Err reason) = t

-- no edit can be undone or redone any more
abbrev pub forgotten : Timeline → Timeline
forgotten t = record { examples = t.examples; moves = no_moves }

-- the last edit of the past is undone: it stands at the end of the future, with the examples of before on its other side
pub record IsUndone (a : Timeline) (done : Done) (b : Timeline) : Type 0 where
  pub past : a.moves.past ≡ b.moves.past ++ (record { state = b.examples; done = done }) ∷ []
  pub future : b.moves.future ≡ a.moves.future ++ (record { state = a.examples; done = done }) ∷ []

-- the last edit of the future is done again, the other way round
pub record IsRedone (a : Timeline) (done : Done) (b : Timeline) : Type 0 where
  pub future : a.moves.future ≡ b.moves.future ++ (record { state = b.examples; done = done }) ∷ []
  pub past : b.moves.past ≡ a.moves.past ++ (record { state = a.examples; done = done }) ∷ []

-- what undo answers, and what it leaves: all as it was where there is nothing to undo
abbrev pub UndoIs : Timeline → Option Done → Timeline → Type 0
UndoIs a None b = (a.moves.past ≡ []) × (b ≡ a)
UndoIs a (Some done) b = IsUndone a done b

-- likewise redo
abbrev pub RedoIs : Timeline → Option Done → Timeline → Type 0
RedoIs a None b = (a.moves.future ≡ []) × (b ≡ a)
RedoIs a (Some done) b = IsRedone a done b
