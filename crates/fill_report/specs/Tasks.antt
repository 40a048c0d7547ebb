-- What an entry does: it makes an edit, goes along the history, or asks.
use Rattle.std.specs.Prelude.{◌≤◌, ⊤}
use Rattle.fill_tree.specs.declared.user.Edit.{Edit}
use Rattle.fill_tree.specs.declared.user.TheConstants.{MOST_PROGRAMS}
use Rattle.fill_script.specs.declared.script.Entry.{Entry}
use Rattle.fill_script.specs.declared.script.Entry.TheVariants as entry
use Rattle.fill_report.specs.declared.tasks.Query.{Query}
use Rattle.fill_report.specs.declared.tasks.Query.TheVariants as query
use Rattle.fill_report.specs.declared.tasks.Task.{Task}
use Rattle.fill_report.specs.declared.tasks.Task.TheVariants as task
use Rattle.fill_report.specs.declared.tasks.Way.{Way}
use Rattle.fill_report.specs.declared.tasks.Way.TheVariants as way

-- an edit of the examples; a way along the history; or a question, which leaves the examples and the history
pub data TaskData : Type 0 where
  change : Edit → TaskData
  go : Way → TaskData
  ask : Query → TaskData

-- what a task of the code stands for
abbrev pub task_data : Task → TaskData
task_data (task.Change e) = change e.now
task_data (task.Go w) = go w
task_data (task.Ask q) = ask q

-- what the entry does
abbrev pub task_in : Entry → TaskData
task_in (entry.Edit e) = change e
task_in entry.Undo = go way.Back
task_in entry.Redo = go way.Forth
task_in entry.Programs = ask query.Programs
task_in entry.Switch = ask query.Switch
task_in entry.Fill = ask query.Fill
task_in entry.Count = ask query.Count
task_in (entry.Answer row) = ask (query.Answer row)
task_in (entry.Object row) = ask (query.Object row)
task_in (entry.Best branch k) = ask (query.Best branch k)

-- one program at least is asked for, and no more than there may be
abbrev pub AsksSome : Query → Type 0
AsksSome (query.Best branch k) = (1 ≤ k) × (k ≤ MOST_PROGRAMS)
AsksSome q = ⊤

abbrev pub IsProper : TaskData → Type 0
IsProper (ask q) = AsksSome q
IsProper other = ⊤
