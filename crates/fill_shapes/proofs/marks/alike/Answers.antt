use Rattle.std.proofs.Common.{◌≡◌, length, slice_get, Some, refl, sym, ◌∙◌, arith}
use Rattle.std.proofs.lemmas.Option.{slice_get_read}
use Rattle.fill_shapes.proofs.ClassLaws.{same_class}
use Rattle.fill_shapes.proofs.marks.alike.Goals as goal

pub returns-clause-same : goal.returns-clause-same
returns-clause-same c = λ e.
    let ks = c.args.s.now.classes.items in
    let ls = c.args.t.now.classes.items in
    let k = c.index.result.now in
    let l = c.index-2.result.now in
    let u : slice_get ks c.args.i ≡ Some k = slice_get_read ks (length ks) c.args.i k refl (omega (arith, c.requires.first.long, c.requires.place)) c.index.ensures in
    let v : slice_get ls c.args.k ≡ Some l = slice_get_read ls (length ls) c.args.k l refl (omega (arith, c.requires.second.long, c.requires.other)) c.index-2.ensures in
    sym (c.requires.first.each c.args.i k u) ∙ same_class k l (sym c.eq.ensures ∙ e) ∙ c.requires.second.each c.args.k l v
