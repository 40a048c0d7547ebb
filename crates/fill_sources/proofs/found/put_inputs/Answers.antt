use Rattle.std.proofs.Common.{◌≡◌, length, subst, get_or, arith}
use Rattle.std.proofs.lemmas.Option.{slice_get-get_or}
use Rattle.fill_sources.specs.Origins.{Grown, InputsTo}
use Rattle.fill_sources.proofs.Growing.{inputs_step}
use Rattle.fill_sources.proofs.found.put_inputs.Goals as goal

pub loop-i-preserved : goal.loop-i-preserved
loop-i-preserved c = record {
  numbered = c.in_ok-put_input.ensures.numbered;
  grown = inputs_step c.args.on.now c.args.inputs.now c.loop-i.i (get_or c.args.inputs.now c.loop-i.i 0) (slice_get-get_or c.args.inputs.now c.loop-i.i 0 c.loop-i-test.true)
      c.args.texts.now.named.items c.loop-i.texts.named.items c.put_input.new.texts.named.items c.loop-i.invariant.grown c.in_ok-put_input.ensures.grown;
}

pub returns-clause-grown : goal.returns-clause-grown
returns-clause-grown c =
    let le = c.loop-i.auto.i-end in
    let ge = c.loop-i-test.false in
    let e : c.loop-i.i ≡ length c.args.inputs.now = omega arith in
    subst (λ n. Grown c.args.texts.now.named.items c.loop-i.texts.named.items (InputsTo c.args.on.now c.args.inputs.now n)) e c.loop-i.invariant.grown
