use Rattle.std.proofs.Common.{◌≡◌, ◌==◌, ◌∙◌, List, true, false, ap, sym}
use Rattle.std.specs.List.{list_any}
use Rattle.fillcsv_options.specs.declared.asked.Typed.{Typed}
use Rattle.fillcsv_options.proofs.Parts.{example_again, example_more, refused_part}
use Rattle.fillcsv_options.proofs.examples.with_example.Goals as goal

pub returns-then-has_row-clause-err : goal.returns-then-has_row-clause-err
returns-then-has_row-clause-err c =
    let same = ap (λ (l : List Typed). list_any (λ x. x.row == c.args.example.row) l) c.as_slice.ensures.value in
    let there : list_any (λ x. x.row == c.args.example.row) c.args.examples.items ≡ true = sym same ∙ sym c.has_row.ensures ∙ c.if-has_row.true in
    refused_part _ c.of_value.result (example_again c.args.examples.items c.args.example there) c.of_value.ensures

pub returns-in-Ok-clause-ok : goal.returns-in-Ok-clause-ok
returns-in-Ok-clause-ok c =
    let same = ap (λ (l : List Typed). list_any (λ x. x.row == c.args.example.row) l) c.as_slice.ensures.value in
    let fresh : list_any (λ x. x.row == c.args.example.row) c.args.examples.items ≡ false = sym same ∙ sym c.has_row.ensures ∙ c.if-has_row.false in
    example_more c.args.examples.items c.push.new.self.items c.args.example fresh c.in-Ok.ensures.items
