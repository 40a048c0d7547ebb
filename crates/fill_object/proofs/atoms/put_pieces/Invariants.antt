use Rattle.fill_tree.specs.Meaning.{source_tree}
use Rattle.fill_arena.specs.Contents.{SomeBelow}
use Rattle.fill_object.specs.Kinds.{atoms_on}
use Rattle.fill_object.specs.Memo.{IsMemoOf}
use Rattle.fill_object.specs.Leasts.{Gains}
use Rattle.fill_object.specs.Pieces.{IsPieceOf}
use Rattle.fill_object.proofs.atoms.put_pieces.Given as goal

abbrev pub invariant-loop-source : goal.invariant-loop-source
invariant-loop-source l = record {
  memo : IsMemoOf l.on l.memo;
  gains : Gains (atoms_on l.on) (λ a. SomeBelow l.source-index l.sources (λ x. IsPieceOf l.on.arena.now (source_tree x.source) l.lefts l.rights a)) l.initial.rivals.items l.rivals.items;
}
