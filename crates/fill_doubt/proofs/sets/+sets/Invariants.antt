use Rattle.std.proofs.Common.{◌+◌, ◌*◌}
use Rattle.fill_arena.specs.Contents.{EachIn}
use Rattle.fill_eval.specs.Piece.{IsWithin}
use Rattle.fill_doubt.specs.Answers.{Gains, PiecesHave, TextsHave}
use Rattle.fill_doubt.specs.Memo.{IsMemoOf, PartItemAnswers, SourceItemAnswers}
use Rattle.fill_doubt.proofs.Gains.{SomeBelow}
use Rattle.fill_doubt.proofs.Items.{AreJoinedTo}
use Rattle.fill_doubt.proofs.sets.+sets.Given as goal

-- what a set lists is older than the set
abbrev pub decreases-sources_of : goal.decreases-sources_of
decreases-sources_of l = 8 * l.s + 7

abbrev pub decreases-scan_sources : goal.decreases-scan_sources
decreases-scan_sources l = 8 * l.s + 6

abbrev pub decreases-put_source : goal.decreases-put_source
decreases-put_source l = 8 * l.set + 5

abbrev pub decreases-put_lookups : goal.decreases-put_lookups
decreases-put_lookups l = 8 * l.set + 4

abbrev pub decreases-conditions_of : goal.decreases-conditions_of
decreases-conditions_of l = 8 * l.set + 3

abbrev pub decreases-condition_of : goal.decreases-condition_of
decreases-condition_of l = 8 * l.set + 2

abbrev pub decreases-condition_parts : goal.decreases-condition_parts
decreases-condition_parts l = 8 * l.set + 1

abbrev pub decreases-parts_of : goal.decreases-parts_of
decreases-parts_of l = 8 * l.s + 7

abbrev pub decreases-scan_parts : goal.decreases-scan_parts
decreases-scan_parts l = 8 * l.s + 6

abbrev pub decreases-put_part : goal.decreases-put_part
decreases-put_part l = 8 * l.set + 5

abbrev pub invariant-scan_sources-loop-item : goal.invariant-scan_sources-loop-item
invariant-scan_sources-loop-item l = record {
  memo : IsMemoOf l.on l.memo;
  gains : Gains (TextsHave l.initial.found) (TextsHave l.found) (λ o. SomeBelow l.item-index l.items (λ i. SourceItemAnswers l.on i o));
}

abbrev pub invariant-scan_parts-loop-item : goal.invariant-scan_parts-loop-item
invariant-scan_parts-loop-item l = record {
  memo : IsMemoOf l.on l.memo;
  within : EachIn IsWithin l.found.pieces.items;
  gains : Gains (PiecesHave l.initial.found) (PiecesHave l.found) (λ o. SomeBelow l.item-index l.items (λ i. PartItemAnswers l.on i o));
}

abbrev pub invariant-conditions_of-loop-i : goal.invariant-conditions_of-loop-i
invariant-conditions_of-loop-i l = record {
  memo : IsMemoOf l.on l.memo;
  joined : AreJoinedTo l.on l.items l.i l.made.items;
}
