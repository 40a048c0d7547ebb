use Rattle.std.proofs.Common.{◌-◌, ◌∙◌, arith, drop, sym}
use Rattle.std.proofs.lemmas.List.{length-drop}
use Rattle.fillcsv_rules.proofs.Forms.{short_rising}
use Rattle.fillcsv_rules.proofs.lines.is_rising.Goals as goal

pub returns : goal.returns
returns c = sym (short_rising (drop (c.loop-i.i - 1) c.args.numbers.now) (omega (arith, length-drop (c.loop-i.i - 1) c.args.numbers.now))) ∙ c.loop-i.invariant
