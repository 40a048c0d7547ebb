-- The fields of records.
use Rattle.std.specs.Prelude.{ℕ, ◌+◌, List, [], ◌∷◌, ◌++◌, Option, None, Some, codes}
use Rattle.std.specs.Fmt.{decimal}
use Rattle.fill_output.specs.Fields.{Fields}
use Rattle.fill_tree.specs.Meaning.{program_tree}
use Rattle.fill_tree.specs.Switch.{SwitchTree}
use Rattle.fill_tree.specs.Tree.{Atoms}
use Rattle.fill_tree.specs.declared.guard.Guard.{Guard}
use Rattle.fill_tree.specs.declared.user.Edit.{Edit}
use Rattle.fill_undo.specs.Done.{done_of}
use Rattle.fill_undo.specs.declared.done.Done.{Done}
use Rattle.fill_undo.specs.declared.done.Kind.{Kind}
use Rattle.fill_undo.specs.declared.done.Kind.TheVariants as kind
use Rattle.fill_print.specs.Notation.{guard_text, program_text, switch_text}
use Rattle.fill_session.specs.Branches.{BranchData}
use Rattle.fill_session.specs.declared.branch.Branch.{Branch}
use Rattle.fill_session.specs.Texts.{reason_text}
use Rattle.fill_session.specs.declared.error.EditError.{EditError}
use Rattle.fill_report.specs.declared.tasks.Way.{Way}
use Rattle.fill_report.specs.declared.tasks.Way.TheVariants as way

-- the word of what an edit does
abbrev pub kind_word : Kind → List ℕ
kind_word kind.Add = codes "add"
kind_word kind.Correct = codes "correct"
kind_word kind.Retract = codes "retract"
kind_word kind.Clear = codes "clear"

-- its row, where it is of one
abbrev pub row_fields : Kind → ℕ → List (List ℕ)
row_fields kind.Add row = decimal row ∷ []
row_fields kind.Correct row = decimal row ∷ []
row_fields kind.Retract row = decimal row ∷ []
row_fields kind.Clear row = []

-- the fields of what an edit does
abbrev pub done_fields : Done → List (List ℕ)
done_fields done = kind_word done.kind ∷ row_fields done.kind done.row

-- the record of an edit that was made
abbrev pub ok_record : Edit → Fields
ok_record e = codes "ok" ∷ done_fields (done_of e)

-- the record of an edit that was refused
abbrev pub refused_record : Edit → EditError → Fields
refused_record e reason = codes "refused" ∷ (done_fields (done_of e) ++ reason_text reason ∷ [])

-- the word for a way along the history
abbrev pub way_word : Way → List ℕ
way_word way.Back = codes "undo"
way_word way.Forth = codes "redo"

-- why there is nothing on the way
abbrev pub way_reason : Way → List ℕ
way_reason way.Back = codes "nothing to undo"
way_reason way.Forth = codes "nothing to redo"

-- the record of an edit that was undone or redone, and the refusal where there was none
abbrev pub move_record : Way → Option Done → Fields
move_record to None = codes "refused" ∷ way_word to ∷ way_reason to ∷ []
move_record to (Some done) = codes "ok" ∷ way_word to ∷ done_fields done

-- the guard of a branch; the last one has none
abbrev pub guard_field : Option Guard → List ℕ
guard_field None = codes "else"
guard_field (Some guard) = guard_text guard

-- the record of the branch of this number
abbrev pub branch_record : ℕ → Option Guard → Atoms → Fields
branch_record n guard program = codes "branch" ∷ decimal n ∷ guard_field guard ∷ program_text program ∷ []

-- the records of branches, numbered from n on
abbrev pub branch_records : ℕ → List BranchData → List Fields
branch_records n [] = []
branch_records n (b ∷ bs) = branch_record n b.guard b.program ∷ branch_records (n + 1) bs

-- the record of a branch as a session shows it
abbrev pub shown_record : ℕ → Branch → Fields
shown_record n b = branch_record n b.guard (program_tree b.program)

-- the records of branches as a session shows them, numbered from n on
abbrev pub shown_records : ℕ → List Branch → List Fields
shown_records n [] = []
shown_records n (b ∷ bs) = shown_record n b ∷ shown_records (n + 1) bs

-- the text of a conditional program, empty where there is none
abbrev pub switch_field : Option SwitchTree → List ℕ
switch_field None = []
switch_field (Some s) = switch_text s

-- the record of a conditional program
abbrev pub switch_record : Option SwitchTree → Fields
switch_record s = codes "switch" ∷ switch_field s ∷ []

-- the record of what was asked for, by this word, on a row that the sheet has not
abbrev pub no_row_record : List ℕ → ℕ → Fields
no_row_record word row = codes "refused" ∷ word ∷ decimal row ∷ codes "no such row" ∷ []

-- the record of the best program of a number, of a branch
abbrev pub best_record : ℕ → ℕ → Atoms → Fields
best_record branch n program = codes "best" ∷ decimal branch ∷ decimal n ∷ program_text program ∷ []

-- the records of best programs of a branch, numbered from n on
abbrev pub best_records : ℕ → ℕ → List Atoms → List Fields
best_records branch n [] = []
best_records branch n (p ∷ ps) = best_record branch n p ∷ best_records branch (n + 1) ps

-- the record of best programs that were asked for of a branch that there is not
abbrev pub no_branch_record : ℕ → Fields
no_branch_record branch = codes "refused" ∷ codes "best" ∷ decimal branch ∷ codes "no such branch" ∷ []
