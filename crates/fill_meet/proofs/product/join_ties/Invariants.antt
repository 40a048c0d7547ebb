use Rattle.std.specs.Prelude.{IfSome}
use Rattle.fill_arena.specs.Contents.{Extends}
use Rattle.fill_meet.specs.Guides.{IsGuide}
use Rattle.fill_meet.specs.Memory.{IsRight}
use Rattle.fill_meet.specs.Ties.{NameSets}
use Rattle.fill_meet.proofs.Seams.{JoinedSoFar}
use Rattle.fill_meet.proofs.product.join_ties.Given as goal

abbrev pub invariant-loop-i : goal.invariant-loop-i
invariant-loop-i l =
    record {
      extends : Extends l.initial.arena l.arena;
      memo : IsRight l.arena l.memo;
      guide : IfSome l.guide (IsGuide l.arena);
      sets : NameSets l.arena l.ties;
      joined : JoinedSoFar l.arena l.live l.ties l.i l.edges;
    }
