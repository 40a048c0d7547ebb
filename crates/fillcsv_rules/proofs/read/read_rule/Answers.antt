use Rattle.std.proofs.Common.{◌∙◌}
use Rattle.fill_tree.specs.Switch.{switch_tree}
use Rattle.fillcsv_rules.specs.Form.{form_data}
use Rattle.fillcsv_rules.proofs.Forms.{file_is, form-proper, rule-of-form}
use Rattle.fillcsv_rules.proofs.read.read_rule.Goals as goal

pub returns-in-Ok-clause-ok : goal.returns-in-Ok-clause-ok
returns-in-Ok-clause-ok c =
    let form = form_data c.in_ok-form.form in
    file_is c.args.bytes.now form (switch_tree c.in-Ok.switch) c.as_slice.result.now c.in_ok-form.ensures.ok (c.as_slice.ensures ∙ c.in_ok-lines.ensures) c.records_are_few.ensures (rw c.as_slice-2.ensures.value at c.in-Ok.ensures.ok)

pub returns-in-Ok-clause-rule : goal.returns-in-Ok-clause-rule
returns-in-Ok-clause-rule c =
    let form = form_data c.in_ok-form.form in
    rule-of-form form (switch_tree c.in-Ok.switch) (form-proper c.as_slice.result.now form c.in_ok-form.ensures.ok) (rw c.as_slice-2.ensures.value at c.in-Ok.ensures.reads)
