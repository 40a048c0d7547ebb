use Rattle.fill_arena.specs.Stands.{PartStands}
use Rattle.fill_arena.proofs.Maps.{found_right}
use Rattle.fill_object.specs.Kinds.{atoms_on}
use Rattle.fill_object.specs.Leasts.{AreLeasts}
use Rattle.fill_object.proofs.memo.Memo.parts.Goals as goal

pub returns : goal.returns
returns c on memo = found_right (λ o. AreLeasts (atoms_on on) (PartStands on.arena.now c.args.s) o.value.items) _ _ c.get.ensures.value (memo.parts c.args.s)
