use Rattle.std.proofs.Common.{get_or, arith}
use Rattle.std.proofs.lemmas.Option.{slice_get-get_or}
use Rattle.fill_meet.proofs.LabelLaws.{labels_end, labels_more}
use Rattle.fill_meet.proofs.labels.Labels.new.Goals as goal

pub loop-k-preserved : goal.loop-k-preserved
loop-k-preserved c =
    let put = c.in_ok-put.ensures in
    let edge = get_or c.args.edges.now c.loop-k.k c.index-edges-k.result in
    labels_more c.args.edges.now c.loop-k.k edge c.loop-k.labels.sets.items c.loop-k.labels.of.items c.put.new.self.sets.items c.put.new.self.of.items put.0 (slice_get-get_or c.args.edges.now c.loop-k.k c.index-edges-k.result c.loop-k-test.true) put.1 put.2 c.loop-k.invariant

pub returns : goal.returns
returns c =
    let end = c.loop-k.auto.k-end in
    let test = c.loop-k-test.false in
    labels_end c.args.edges.now c.loop-k.k c.loop-k.labels (omega arith) c.loop-k.invariant
