use Rattle.std.proofs.Common.{◌≡◌, ◌+◌, ◌<◌, suc, length, false, Some, sym, ap, ◌∙◌, arith}
use Rattle.std.proofs.lemmas.Option.{slice_get-get_or}
use Rattle.fill_trim.specs.Marks.{rank}
use Rattle.fill_trim.proofs.Ranks.{rank_true, rank_false, rank_few}
use Rattle.fill_trim.proofs.trim.count_on.Goals as goal
use Rattle.fill_trim.proofs.trim.count_on.Goals.{then-stays, else-stays}

pub overflow_add-count : goal.overflow_add-count
overflow_add-count c =
    let few = rank_few c.args.node_marks.now c.loop-node.node in
    let is = c.loop-node.invariant in
    let test = c.loop-node-test.true in
    omega arith

pub loop-node-preserved : goal.loop-node-preserved
loop-node-preserved c =
    let node_marks = c.args.node_marks.now in
    let node = c.loop-node.node in
    let old = c.loop-node.invariant in
    let within : node < length node_marks = (let test = c.loop-node-test.true in let top = c.requires.within in omega arith) in
    let at = slice_get-get_or node_marks node false within in
    let next : node + 1 ≡ suc node = omega arith in
    elim c.if-stays.branch [
      | then-stays w ↦
          let r = ap (rank node_marks) next ∙ rank_true node_marks node (at ∙ ap Some w.if-stays.true) in
          let is = w.count-is in
          omega arith
      | else-stays w ↦
          let r = ap (rank node_marks) next ∙ rank_false node_marks node (at ∙ ap Some w.if-stays.false) in
          w.count-is ∙ old ∙ sym r
    ]

pub returns : goal.returns
returns c =
    let past = c.loop-node-test.false in
    let most = c.loop-node.auto.node-end in
    let end : c.loop-node.node ≡ c.args.to = omega arith in
    c.loop-node.invariant ∙ ap (rank c.args.node_marks.now) end
