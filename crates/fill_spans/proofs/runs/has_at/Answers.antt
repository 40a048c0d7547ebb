use Rattle.std.proofs.Common.{◌≡◌, arith, slice_index, slice_get, Some, get_or, false}
use Rattle.std.proofs.lemmas.Option.{slice_get-get_or}
use Rattle.fill_text.specs.declared.class.Class.{Class}
use Rattle.fill_spans.proofs.runs.has_at.Goals as goal

pub returns : goal.returns
returns c =
    let none : Class = record { digit = false; upper = false; lower = false; alpha = false; space = false } in
    let ks = c.args.classes.now in
    let k : Class = get_or ks c.args.i none in
    let at : slice_get ks c.args.i ≡ Some k = slice_get-get_or ks c.args.i none (omega (arith, c.requires.classes.long, c.requires.place)) in
    c.is_among.ensures (slice_index c.args.t.now c.args.i) (c.requires.classes.each c.args.i k at)
