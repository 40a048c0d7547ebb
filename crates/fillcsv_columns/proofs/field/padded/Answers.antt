use Rattle.std.proofs.Common.{◌≡◌, ◌∙◌, ℕ, ◌-◌, List, [], ◌++◌, length, replicate, ap, arith}
use Rattle.fillcsv_columns.proofs.Pads.{pad_more}
use Rattle.fillcsv_columns.proofs.field.padded.Goals as goal

pub loop-preserved : goal.loop-preserved
loop-preserved c = record {
  padded = (rw c.new.ensures at c.in_ok-push.ensures.items) ∙ pad_more c.args.fields.items c.loop.fields.items c.loop.counter (omega arith) c.loop.invariant.padded;
  within = omega arith;
}

pub returns : goal.returns
returns c =
    let empty : List ℕ = [] in
    let within = c.loop.invariant.within in
    let count : c.loop.counter - length c.args.fields.items ≡ c.args.column - length c.args.fields.items = omega (arith, within) in
    c.loop.invariant.padded ∙ ap (λ (k : ℕ). c.args.fields.items ++ replicate k empty) count
