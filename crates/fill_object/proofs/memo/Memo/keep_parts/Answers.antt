use Rattle.std.proofs.Common.{nat_eq}
use Rattle.std.specs.HashMap.{get}
use Rattle.fill_arena.specs.Stands.{PartStands}
use Rattle.fill_arena.proofs.Maps.{put_right}
use Rattle.fill_object.specs.Kinds.{atoms_on}
use Rattle.fill_object.specs.Leasts.{AreLeasts}
use Rattle.fill_object.proofs.memo.Memo.keep_parts.Goals as goal

pub returns-in-Ok : goal.returns-in-Ok
returns-in-Ok c on memo least =
    let u = c.in-Ok.ensures.updates in
    record {
      parts = put_right (λ q. get nat_eq c.args.self.now.parts q) (λ q. get nat_eq c.insert.new.self q) (λ q o. AreLeasts (atoms_on on) (PartStands on.arena.now q) o.value.items) c.args.s c.args.leasts u.1 u.2 memo.parts least;
      sources = memo.sources;
      atoms = memo.atoms;
      spots = memo.spots;
    }
