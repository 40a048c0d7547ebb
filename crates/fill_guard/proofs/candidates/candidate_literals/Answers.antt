use Rattle.std.proofs.Common.{◌≡◌, ◌<◌, ℕ, List, Some, slice_get, arith, get_or, length, subst, ap}
use Rattle.std.proofs.lemmas.Option.{slice_get-get_or}
use Rattle.fill_guard.proofs.CandidateLaws.{columns_more, columns_all}
use Rattle.fill_guard.proofs.candidates.candidate_literals.Goals as goal

pub loop-i-preserved : goal.loop-i-preserved
loop-i-preserved c =
    let inputs : List ℕ = c.inputs-inputs.result.now in
    let column : ℕ = get_or c.inputs-inputs.result.now c.loop-i.i 0 in
    let lt : c.loop-i.i < length c.inputs-inputs.result.now = omega arith in
    let at : slice_get c.args.sheet.now.inputs c.loop-i.i ≡ Some column = subst (λ (xs : List ℕ). slice_get xs c.loop-i.i ≡ Some column) c.inputs-inputs.ensures (slice_get-get_or inputs c.loop-i.i 0 lt) in
    columns_more c.args.sheet.now c.args.inside.now c.args.outside.now c.args.settings.now.profile.tokens c.args.sheet.now.inputs c.loop-i.i column c.new-candidates.result.items c.loop-i.candidates.items c.keep_column.new.candidates.items
    c.rows-rows.ensures.shape.rises at c.loop-i.invariant c.in_ok-keep_column.ensures

pub returns : goal.returns
returns c =
    let same : length c.inputs-inputs.result.now ≡ length c.args.sheet.now.inputs = ap length c.inputs-inputs.ensures in
    columns_all c.args.sheet.now c.args.inside.now c.args.outside.now c.args.settings.now c.loop-i.i c.new-candidates.result.items c.loop-i.candidates.items c.new-candidates.ensures.items (omega arith) c.loop-i.invariant
