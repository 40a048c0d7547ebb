use Rattle.fill_arena.specs.Stands.{SourceStands}
use Rattle.fill_arena.proofs.Maps.{found_right}
use Rattle.fill_object.specs.Kinds.{sources_on}
use Rattle.fill_object.specs.Leasts.{AreLeasts}
use Rattle.fill_object.proofs.memo.Memo.sources.Goals as goal

pub returns : goal.returns
returns c on memo = found_right (λ o. AreLeasts (sources_on on) (SourceStands on.arena.now c.args.s) o.value.items) _ _ c.get.ensures.value (memo.sources c.args.s)
