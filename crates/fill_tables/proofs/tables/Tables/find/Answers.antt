use Rattle.std.proofs.Common.{◌≡◌, ◌<◌, length, map, refl}
use Rattle.fill_tables.proofs.Found.{too-many}
use Rattle.fill_tables.proofs.tables.Tables.find.Goals as goal

pub returns : goal.returns
returns c =
    let same : map (λ slice. slice.now) c.as_slice-2.result.now ≡ c.args.cells.now = rw (c.as_slice-2.ensures.value, c.in_ok-slices.ensures, c.as_slice.ensures) refl in
    rw same at c.find_slices.ensures

pub returns-in_err-slices : goal.returns-in_err-slices
returns-in_err-slices c =
    let many : 3 < length c.args.cells.now = rw c.as_slice.ensures at c.in_err-slices.ensures in
    rw c.from_residual.ensures (too-many c.args.self.now c.args.table c.args.key c.args.cells.now (rw c.self.view_is at c.self.invariant.0) many)
