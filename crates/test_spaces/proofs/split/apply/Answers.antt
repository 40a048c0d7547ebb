use Rattle.std.proofs.Common.{◌≡◌, ◌+◌, ℕ, List, ◌++◌, length, take, drop, arith, length-append, length-drop}
use Rattle.std.proofs.lemmas.List.{length-take-le}
use Rattle.fill_split.specs.declared.change.Change.{Change}
use Rattle.fill_split.specs.Changes.{changed, put_in, taken_out, IsPlace}
use Rattle.fill_split.proofs.Changing.{is_within}
use Rattle.test_spaces.proofs.split.apply.Goals as goal

changed_long : (change : Change ℕ) (at : ℕ) (items : List ℕ) → IsPlace change at (length items) → length (changed change at items) + taken_out change ≡ length items + length (put_in change)
changed_long change at items h =
    let w = is_within change at (length items) h in
    let a = length-append (take at items ++ put_in change) (drop (at + taken_out change) items) in
    let b = length-append (take at items) (put_in change) in
    let t = length-take-le at items (omega arith) in
    let d = length-drop (at + taken_out change) items in
    omega arith

pub refold-requires-clause-stands : goal.refold-requires-clause-stands
refold-requires-clause-stands g c =
    let r = c.requires in
    let e = c.in-Some.ensures in
    (r.0, r.1, rw r.2 e.0)

pub returns-in-Ok : goal.returns-in-Ok
returns-in-Ok g c =
    let r = c.requires in
    let e = c.in-Some.ensures in
    let same = e.1 in
    let count = r.2 in
    let long = changed_long c.change_of-at.result.1 c.change_of-at.result.0 r.0 (rw r.2 e.0) in
    (changed c.change_of-at.result.1 c.change_of-at.result.0 r.0, c.in-Ok.ensures.folds r.0 r.1, omega arith)
