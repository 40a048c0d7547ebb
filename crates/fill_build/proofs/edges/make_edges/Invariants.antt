use Rattle.std.proofs.Common.{◌≤◌, ◌+◌, ℕ, drop}
use Rattle.fill_arena.specs.Contents.{Extends}
use Rattle.fill_sources.specs.Sets.{AreRowTexts, texts_of}
use Rattle.fill_build.specs.Edges.{EdgesSoFar}
use Rattle.fill_build.specs.Hits.{AreHits}
use Rattle.fill_build.proofs.edges.make_edges.Given as goal

abbrev pub invariant-loop-done : goal.invariant-loop-done
invariant-loop-done l =
    record {
      extends : Extends l.initial.arena l.arena;
      row_texts : AreRowTexts l.on l.arena l.row_texts;
      hits : (m : ℕ) × (m ≤ l.done + 1) × AreHits (texts_of l.row_texts) (drop l.node.from l.node.text.now) m l.hits.items;
      state : EdgesSoFar l.on l.node.text.now l.node.from l.done l.arena l.edges;
    }
