use Rattle.fill_arena.specs.Contents.{Extends}
use Rattle.fill_meet.specs.Guides.{IsMadeTo, IsSharedOf, IsTask}
use Rattle.fill_meet.specs.Memory.{IsRight}
use Rattle.fill_meet.specs.Rows.{ArePiecesDone}
use Rattle.fill_meet.specs.Runs.{Grows}
use Rattle.fill_meet.proofs.makes.make_pieces.Given as goal

abbrev pub invariant-loop-k : goal.invariant-loop-k
invariant-loop-k l =
    record {
      extends : Extends l.initial.arena l.arena;
      memo : IsRight l.arena l.memo;
      task : IsTask l.arena l.task;
      made : IsMadeTo l.arena l.task l.task.place l.zs;
      grown : Grows l.initial.zs l.zs;
      done : ArePiecesDone l.arena l.task.guide.now.index (IsSharedOf l.arena l.task l.zs) l.task.guide.now.mates.lists.numbers.items (record { start = l.fn.begins.start; end = l.k }) l.fn.ends;
    }
