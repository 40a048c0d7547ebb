use Rattle.fill_arena.specs.Contents.{Extends}
use Rattle.fill_sources.specs.Sets.{AreRowTexts}
use Rattle.fill_build.specs.Edges.{EdgesSoFar}
use Rattle.fill_build.proofs.edges.piece_edges.Given as goal

abbrev pub invariant-loop-from : goal.invariant-loop-from
invariant-loop-from l =
    record {
      extends : Extends l.initial.arena l.arena;
      row_texts : AreRowTexts l.on l.arena l.row_texts;
      state : EdgesSoFar l.on l.text l.from 0 l.arena l.edges;
    }
