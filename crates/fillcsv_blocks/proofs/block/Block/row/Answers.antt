-- A number that is found is that of a row, and one that is not is none of the block's.
use Rattle.std.proofs.Common.{◌≡◌, ◌∙◌, ◌<◌, ℕ, List, Contains, get_or, length, ap, subst, sym}
use Rattle.fillcsv_blocks.specs.Blocks.{BlockData}
use Rattle.fillcsv_blocks.specs.Numbers.{Rise}
use Rattle.fillcsv_blocks.proofs.Numbers.{has_found, lacks}
use Rattle.fillcsv_blocks.proofs.Standing.{has_number}
use Rattle.fillcsv_blocks.proofs.block.Block.row.Goals as goal
use Rattle.fillcsv_blocks.proofs.block.Block.row.Goals.{After-deref}

read : (c : After-deref) → c.deref.result.now ≡ c.args.self.now.numbers
read c = c.deref.ensures.value ∙ ap (λ (b : BlockData). b.numbers) c.self.view_is

rise : (c : After-deref) → Rise c.deref.result.now
rise c = subst Rise (sym c.deref.ensures.value) c.self.invariant.0

pub returns-in-Ok : goal.returns-in-Ok
returns-in-Ok c =
    let d = (goal.at.returns-in-Ok c).After-deref in
    let number = c.args.number in
    let at = has_found c.deref.result.now (rise d) number c.binary_search.result c.binary_search.ensures.position c.in-Ok.above c.in-Ok.is in
    let here = subst (λ (l : List ℕ). (c.in-Ok.above < length l) × (get_or l c.in-Ok.above 0 ≡ number) × Contains l number) (read d) at in
    let size = subst (λ (b : BlockData). length b.numbers ≡ length b.session.spaces.ground.sheet.rows) c.self.view_is c.self.invariant.1 in
    has_number c.args.self.now size number c.in-Ok.above here.0 here.1 here.2

pub returns-in-Err : goal.returns-in-Err
returns-in-Err c = λ has.
    let d = (goal.at.returns-in-Err c).After-deref in
    lacks c.deref.result.now (rise d) c.args.number c.binary_search.result c.binary_search.ensures.position c.in-Err.field-0 c.in-Err.is (subst (λ (l : List ℕ). Contains l c.args.number) (sym (read d)) has)
