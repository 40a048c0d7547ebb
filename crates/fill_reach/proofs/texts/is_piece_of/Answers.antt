use Rattle.std.proofs.Common.{◌≢◌, ◌+◌, ◌<◌, ℕ, length, slice_range, arith}
use Rattle.std.proofs.lemmas.Bool.Decides.{Decides-eqb}
use Rattle.std.proofs.lemmas.Slice.Eq.{slice_eq-Decides}
use Rattle.fill_reach.proofs.StepLaws.{piece_none, none_more}
use Rattle.fill_reach.proofs.texts.is_piece_of.Goals as goal

pub returns-else-eq : goal.returns-else-eq
returns-else-eq c =
    let cell = c.args.cell.now in
    let text = c.args.text.now in
    let from = c.loop-from.from in
    let here : slice_range text from (from + length cell) ≢ cell = λ is.
    let same = (slice_eq-Decides Decides-eqb (slice_range text from (from + length cell)) cell c.eq.result c.eq.ensures).1 is in
    let not' = c.if-eq.false in
    cc
    in
    let none : (a : ℕ) → a < from + 1 → slice_range text a (a + length cell) ≢ cell = none_more text cell from here c.loop-from.invariant in
    ((λ e. cc), (λ h. absurd (piece_none cell text (from + 1) (omega arith) none h)))
