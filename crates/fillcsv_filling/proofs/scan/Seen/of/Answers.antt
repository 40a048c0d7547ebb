use Rattle.std.proofs.Common.{◌≡◌, ◌∙◌, ◌≤◌, ℕ, List, Some, ap, arith, drop, length, refl, sym, take}
use Rattle.fillcsv_columns.specs.Columns.{width}
use Rattle.fill_output.specs.Fields.{Fields}
use Rattle.fill_passes.proofs.Known.{if_some}
use Rattle.fillcsv_filling.specs.Long.{IsSeen, header_in}
use Rattle.fillcsv_filling.proofs.Passed.{count_told, header_more, left_told, next_told, none_over, past_told, taken_all, width_told}
use Rattle.fillcsv_filling.proofs.Scanned.{more_are}
use Rattle.fillcsv_filling.proofs.scan.Seen.of.Goals as goal

pub returns-in-Ok-None : goal.returns-in-Ok-None
returns-in-Ok-None g c =
    let here = c.loop.invariant in
    let n = c.loop.counter in
    let most = c.args.most in
    let few : c.loop.counter ≤ c.args.most = omega arith in
    if_some (λ (all : List Fields). IsSeen c.args.header c.args.most all c.loop.seen) c.args.pass.now
    (λ all told.
    let past = past_told n all c.loop.pass (here.left all told) c.in-Ok-None.field-0 c.in-Ok-None.ensures.found c.in-Ok-None.field-0-is in
    let same = taken_all n most all few past in
    record {
      first = here.first all told ∙ ap (header_in c.args.header) same;
      longest = here.longest all told ∙ ap width same;
      count = here.count all told ∙ ap length same;
      others = here.more ∙ none_over most (length all) (omega (arith, past));
    })

pub loop-preserved : goal.loop-preserved
loop-preserved g c =
    let here = c.loop.invariant in
    let n = c.loop.counter in
    let header = c.args.header in
    let seen = c.loop.seen in
    let fields = c.in-Ok-Some.fields in
    let next = λ (all : List Fields) (told : c.args.pass.now ≡ Some all).
    sym c.in-Ok-Some.field-0-is ∙ next_told n all c.loop.pass (here.left all told) c.in-Ok-Some.field-0 c.in-Ok-Some.ensures.found
    in
    record {
      each = omega (arith, c.add.ensures.records, here.each);
      more = c.add.ensures.more ∙ here.more;
      left = λ all told. left_told n all c.loop.pass (here.left all told) c.next.new.self c.in-Ok-Some.ensures.left;
      first = λ all told.
          header_more header n seen.records all fields seen.header c.add.new.self.header c.add.ensures.header here.each (here.first all told) (next all told);
      longest = λ all told. width_told n all fields (next all told) seen.width c.add.new.self.width c.add.ensures.width (here.longest all told);
      count = λ all told. count_told n all fields (next all told) seen.records c.add.new.self.records c.add.ensures.records (here.count all told);
    }

pub returns-in-Ok : goal.returns-in-Ok
returns-in-Ok g c =
    let here = c.loop.invariant in
    let n = c.loop.counter in
    let full : c.loop.counter ≡ c.args.most = omega arith in
    if_some (λ (all : List Fields). IsSeen c.args.header c.args.most all (record c.loop.seen { more = c.is_some.result })) c.args.pass.now
    (λ all told. record {
      first = here.first all told ∙ ap (λ (k : ℕ). header_in c.args.header (take k all)) full;
      longest = here.longest all told ∙ ap (λ (k : ℕ). width (take k all)) full;
      count = here.count all told ∙ ap (λ (k : ℕ). length (take k all)) full;
      others = more_are n c.args.most all (drop n all) c.in-Ok.next c.is_some.result full refl (next_told n all c.loop.pass (here.left all told) c.in-Ok.next c.in-Ok.ensures.found) c.is_some.ensures;
    })
