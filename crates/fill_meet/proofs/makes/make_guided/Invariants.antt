use Rattle.fill_arena.specs.Contents.{Extends}
use Rattle.fill_meet.specs.Guides.{IsGuide}
use Rattle.fill_meet.specs.Memory.{IsRight}
use Rattle.fill_meet.specs.Sets.{ArePaired}
use Rattle.fill_meet.proofs.makes.make_guided.Given as goal

abbrev pub invariant-loop-place : goal.invariant-loop-place
invariant-loop-place l =
    record {
      extends : Extends l.initial.arena l.arena;
      memo : IsRight l.arena l.memo;
      guide : IsGuide l.arena l.guide;
      paired : ArePaired l.arena l.s l.t l.place 0 l.zs;
    }
