use Rattle.std.proofs.Common.{subst}
use Rattle.fill_object.specs.Kinds.{rows_on}
use Rattle.fill_object.specs.Leasts.{Gains}
use Rattle.fill_object.specs.Rows.{IsLonger}
use Rattle.fill_object.proofs.RowLaws.{fixed_or_part}
use Rattle.fill_object.proofs.rows.put_in_front.Goals as goal

pub returns : goal.returns
returns c on =
    subst (λ xs. Gains (rows_on on) (IsLonger c.args.constant.now c.args.parts.now c.args.rests.now) xs c.put_parts.new.fronts.items) c.new-fronts.ensures.items
    (fixed_or_part on c.args.constant.now c.args.parts.now c.args.rests.now c.new-fronts.result.items c.put_constant.new.fronts.items c.put_parts.new.fronts.items
    (c.in_ok-put_constant.ensures on) (c.in_ok-put_parts.ensures on))
