-- What an edit does.
use Rattle.fill_tree.specs.declared.user.Edit.{Edit}
use Rattle.fill_tree.specs.declared.user.Edit.TheVariants as edit
use Rattle.fill_undo.specs.declared.done.Done.{Done}
use Rattle.fill_undo.specs.declared.done.Kind.TheVariants as kind

-- the kind of an edit and its row, 0 where it has none
abbrev pub done_of : Edit → Done
done_of (edit.Add row text) = record { kind = kind.Add; row = row }
done_of (edit.Correct row text) = record { kind = kind.Correct; row = row }
done_of (edit.Retract row) = record { kind = kind.Retract; row = row }
done_of edit.Clear = record { kind = kind.Clear; row = 0 }
