use Rattle.std.proofs.Common.{◌∙◌, map, Contains, subst, sym, arith}
use Rattle.std.proofs.lemmas.List.{length-set}
use Rattle.fill_reach.specs.Marks.{IsMarkedAs}
use Rattle.fill_reach.specs.Spots.{IsSpot, spot_of}
use Rattle.fill_reach.specs.declared.rows.ReachedRow.{ReachedRow}
use Rattle.fill_reach.proofs.StepLaws.{marked_more, left_more}
use Rattle.fill_reach.proofs.rounds.mark.Goals as goal

pub marked-requires-clause-spot : goal.marked-requires-clause-spot
marked-requires-clause-spot c =
    let none : ReachedRow = record { table = 0; key = 0; row = 0; depth = 0 } in
    subst (λ (r : ReachedRow). IsSpot c.args.tables.now (spot_of r)) (sym (c.loop-row.invariant.left c.loop-row.row-index none (omega arith))) (c.requires.spots c.loop-row.row-index none c.loop-row-test.true)

pub loop-row-preserved : goal.loop-row-preserved
loop-row-preserved c = record {
  size = length-set c.loop-row.rows c.loop-row.row-index c.marked.result ∙ c.loop-row.invariant.size;
  done = marked_more (IsMarkedAs c.args.tables.now (Contains (map (λ text. text.now) c.args.texts.now)) c.args.depth) c.args.rows.now c.loop-row.rows c.loop-row.row-index
      (record { table = 0; key = 0; row = 0; depth = 0 }) c.marked.result c.loop-row-test.true c.loop-row.invariant.size c.marked.ensures c.loop-row.invariant.done c.loop-row.invariant.left;
  left = left_more c.args.rows.now c.loop-row.rows c.loop-row.row-index c.marked.result c.loop-row.invariant.left;
}
