use Rattle.std.proofs.Common.{arith, ◌≡◌, ℕ, get_or, slice_get, Some}
use Rattle.std.proofs.lemmas.Option.{slice_get-get_or}
use Rattle.fill_places.proofs.HopLaws.{hop_more}
use Rattle.fill_places.proofs.entry.mark_place.Goals as goal

pub returns : goal.returns
returns c =
    let from = c.args.from.now in
    let to = c.args.to.now in
    let a : ℕ = get_or from c.args.i 0 in
    let b : ℕ = get_or to c.args.i 0 in
    let ha : slice_get from c.args.i ≡ Some a = slice_get-get_or from c.args.i 0 (omega (arith, c.requires.place)) in
    let hb : slice_get to c.args.i ≡ Some b = slice_get-get_or to c.args.i 0 (omega (arith, c.requires.place, c.requires.paired)) in
    hop_more c.args.at.now from to c.args.i c.args.n c.args.marks.now c.mark_hop.new.marks a b ha hb
    c.mark_hop.ensures.long c.mark_hop.ensures.sound c.mark_hop.ensures.keeps c.mark_hop.ensures.full
