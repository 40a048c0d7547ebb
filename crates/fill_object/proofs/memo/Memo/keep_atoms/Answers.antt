use Rattle.std.proofs.Common.{nat_eq}
use Rattle.std.specs.HashMap.{get}
use Rattle.fill_arena.specs.Stands.{AtomStands}
use Rattle.fill_arena.proofs.Maps.{put_right}
use Rattle.fill_object.specs.Kinds.{atoms_on}
use Rattle.fill_object.specs.Leasts.{AreLeasts}
use Rattle.fill_object.proofs.memo.Memo.keep_atoms.Goals as goal

pub returns-in-Ok : goal.returns-in-Ok
returns-in-Ok c on memo least =
    let u = c.in-Ok.ensures.updates in
    record {
      atoms = put_right (λ q. get nat_eq c.args.self.now.atoms q) (λ q. get nat_eq c.insert.new.self q) (λ q o. AreLeasts (atoms_on on) (AtomStands on.arena.now q) o.value.items) c.args.s c.args.leasts u.1 u.2 memo.atoms least;
      sources = memo.sources;
      parts = memo.parts;
      spots = memo.spots;
    }
