use Rattle.std.proofs.Common.{[], ◌∷◌, arith, length-append}
use Rattle.fillcsv_columns.proofs.Others.{rest_full, rest_more, rest_none, rest_skips}
use Rattle.fillcsv_columns.proofs.choice.others.Goals as goal
use Rattle.fillcsv_columns.proofs.choice.others.Goals.{else-loop-column-test, then-loop-column-test+then-as_slice-eq-MOST_INPUTS}

pub loop-column-preserved-then-column-to : goal.loop-column-preserved-then-column-to
loop-column-preserved-then-column-to c =
    let here = c.loop-column.invariant in
    record {
      rest = rest_skips c.args.to c.loop-column.from.items c.loop-column.column _ _ (omega arith) c.if-column-to.true here.rest;
      few = here.few;
      last = here.last;
      first = omega arith;
    }

pub loop-column-preserved : goal.loop-column-preserved
loop-column-preserved c =
    let here = c.loop-column.invariant in
    record {
      rest = rest_more c.args.to c.loop-column.from.items _ c.loop-column.column _ _ (omega arith) c.if-column-to.false c.in_ok-push.ensures.items here.rest;
      few = let size = length-append c.loop-column.from.items (c.loop-column.column ∷ []) in rw c.in_ok-push.ensures.items (omega (arith, size));
      last = here.last;
      first = omega arith;
    }

pub returns : goal.returns
returns c =
    let here = c.loop-column.invariant in
    elim c.loop-column-test.branch [
      | else-loop-column-test w ↦ rest_none c.args.to c.loop-column.from.items c.loop-column.column _ _ (omega arith) here.few here.rest
      | then-loop-column-test+then-as_slice-eq-MOST_INPUTS w ↦ rest_full c.args.to c.loop-column.from.items c.loop-column.column _ _ (omega arith) here.rest
    ]
