use Rattle.std.proofs.Common.{◌≡◌}
use Rattle.fill_arena.specs.Contents.{Extends}
use Rattle.fill_sources.specs.Sets.{AreRowTexts, texts_of}
use Rattle.fill_build.proofs.Readers.{ItemsSoFar}
use Rattle.fill_build.proofs.atoms.piece_atoms.Given as goal

abbrev pub invariant-loop-i : goal.invariant-loop-i
invariant-loop-i l =
    record {
      extends : Extends l.initial.arena l.arena;
      row_texts : AreRowTexts l.on l.arena l.row_texts;
      texts : texts_of l.row_texts ≡ texts_of l.initial.row_texts;
      items : ItemsSoFar l.on (texts_of l.initial.row_texts) l.piece l.hits l.i l.arena l.items;
    }
