use Rattle.std.proofs.Common.{ap, ◌∙◌}
use Rattle.fill_text.specs.Classes.{class_of}
use Rattle.fill_spans.proofs.RunLaws.{classes_more}
use Rattle.fill_spans.proofs.runs.classes.Goals as goal

pub loop-i-preserved : goal.loop-i-preserved
loop-i-preserved c =
    classes_more c.args.t.now c.loop-i.i c.loop-i.classes.items c.push.new.self.items c.class_of.result (c.class_of.ensures ∙ ap class_of c.at.ensures) c.in_ok-push.ensures.items c.loop-i.invariant
