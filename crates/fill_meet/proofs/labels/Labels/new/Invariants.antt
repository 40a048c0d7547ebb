use Rattle.fill_meet.proofs.LabelLaws.{LabelsTo}
use Rattle.fill_meet.proofs.labels.Labels.new.Given as goal

abbrev pub invariant-loop-k : goal.invariant-loop-k
invariant-loop-k l =
    LabelsTo l.edges l.k l.labels.sets.items l.labels.of.items
