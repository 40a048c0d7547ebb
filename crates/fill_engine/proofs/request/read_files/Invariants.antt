use Rattle.std.proofs.Common.{◌≡◌}
use Rattle.fill_engine.specs.Request.{files_from}
use Rattle.fill_engine.proofs.request.read_files.Given as goal

-- the files so far, and then those that are left, are all files
abbrev pub invariant-loop-left : goal.invariant-loop-left
invariant-loop-left l = files_from l.left l.files.files l.rest ≡ files_from l.initial.left l.initial.files.files l.initial.rest

abbrev pub decreases-loop-left : goal.decreases-loop-left
decreases-loop-left l = l.left
