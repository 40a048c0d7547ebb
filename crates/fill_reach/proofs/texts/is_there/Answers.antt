use Rattle.std.proofs.Common.{ℕ, List, Bor, get_or, []}
use Rattle.std.proofs.lemmas.Bool.Decides.{Decides-eqb}
use Rattle.std.proofs.lemmas.Slice.Eq.{slice_eq-Decides}
use Rattle.fill_reach.proofs.StepLaws.{stands_there}
use Rattle.fill_reach.proofs.texts.is_there.Goals as goal

pub returns : goal.returns
returns c = λ t.
    let texts = c.args.texts.now in
    let place = c.in-Some.place.now in
    let text = c.args.text.now in
    let blank : Bor (List ℕ) = record { ref_ptr = (0, 0); now = [] } in
    let same = (slice_eq-Decides Decides-eqb (get_or texts place blank).now text c.eq.result c.eq.ensures).0 t in
    stands_there texts place blank text c.if-place-texts.false same
