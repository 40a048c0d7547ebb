use Rattle.std.proofs.Common.{◌≡◌, drop}
use Rattle.fillcsv_rows.specs.Learned.{typed_at}
use Rattle.fillcsv_rows.proofs.given.typed_at.Given as goal

-- none so far is for the row
abbrev pub invariant-loop-example : goal.invariant-loop-example
invariant-loop-example l = typed_at (drop l.example-index l.typed) l.row ≡ typed_at l.typed l.row
