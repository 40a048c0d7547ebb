use Rattle.std.proofs.Common.{◌∙◌, sym}
use Rattle.fill_records.proofs.Texts.{all_here, all_next, all_past, none_past}
use Rattle.fill_records.proofs.record.Record.is_text.Goals as goal
use Rattle.fill_records.proofs.record.Record.is_text.Goals.{in-Some+else-not-is_text, in_default}

pub returns-then-not-is_text : goal.returns-then-not-is_text
returns-then-not-is_text c = sym (c.loop-i.invariant ∙ all_here c.args.self.now c.loop-i.i c.in-Some.field.now (sym c.in-Some.ensures) (sym c.is_text.ensures ∙ c.if-not-is_text.true))

pub loop-i-preserved : goal.loop-i-preserved
loop-i-preserved c = elim c.match-get.branch [
  | in-Some+else-not-is_text w ↦ c.loop-i.invariant ∙ all_next c.args.self.now c.loop-i.i w.in-Some.field.now (sym w.in-Some.ensures) (sym w.is_text.ensures ∙ w.if-not-is_text.false)
  | in_default w ↦ c.loop-i.invariant ∙ all_past c.args.self.now c.loop-i.i (none_past c.args.self.now c.loop-i.i (sym w.in_default.ensures))
]
