use Rattle.fill_arena.specs.Stands.{AtomStands}
use Rattle.fill_arena.proofs.Maps.{found_right}
use Rattle.fill_object.specs.Kinds.{atoms_on}
use Rattle.fill_object.specs.Leasts.{AreLeasts}
use Rattle.fill_object.proofs.memo.Memo.atoms.Goals as goal

pub returns : goal.returns
returns c on memo = found_right (λ o. AreLeasts (atoms_on on) (AtomStands on.arena.now c.args.s) o.value.items) _ _ c.get.ensures.value (memo.atoms c.args.s)
