use Rattle.std.proofs.Common.{arith, ◌≡◌, ℕ, refl, get_or, slice_get, Some, true, false}
use Rattle.std.proofs.lemmas.Option.{slice_get-get_or, slice_get_within}
use Rattle.std.proofs.lemmas.Bool.{iff_false}
use Rattle.fill_places.proofs.HopLaws.{until_more}
use Rattle.fill_places.proofs.entry.any_marked.Goals as goal

pub returns-then-marked_at : goal.returns-then-marked_at
returns-then-marked_at c =
    let ks = c.args.ks.now in
    let k : ℕ = get_or ks c.loop-i.i 0 in
    let at : slice_get ks c.loop-i.i ≡ Some k = slice_get-get_or ks c.loop-i.i 0 (omega arith) in
    (λ b. (c.loop-i.i, k, at, (c.marked_at.ensures k at).0 c.if-marked_at.true), λ r. refl)

pub loop-i-preserved : goal.loop-i-preserved
loop-i-preserved c = λ j k lt at.
    until_more c.args.ks.now c.loop-i.i (λ k. slice_get c.args.at.now k ≡ Some true) c.loop-i.invariant
    (λ k at. iff_false (c.marked_at.ensures k at) c.if-marked_at.false) j k lt at

pub returns : goal.returns
returns c = (
  λ b. absurd (let f : false ≡ true = b in cc),
  λ r. absurd (c.loop-i.invariant r.0 r.1 (let u = slice_get_within c.args.ks.now r.0 r.1 r.2 in omega arith) r.2 r.3),
)
