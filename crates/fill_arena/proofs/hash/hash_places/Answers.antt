use Rattle.std.proofs.Common.{◌≡◌, ◌+◌, ◌*◌, ◌/◌, suc, length, slice_get, ap, ◌∙◌, subst, arith}
use Rattle.fill_arena.specs.Hash.{sample_hash, samples_hash}
use Rattle.fill_arena.proofs.hash.hash_places.Goals as goal

pub loop-i-init : goal.loop-i-init
unfolding samples_hash
loop-i-init c = c.mix-hash.ensures

pub loop-i-preserved : goal.loop-i-preserved
unfolding samples_hash
loop-i-preserved c =
    let places = c.args.places.now in
    let next : suc c.loop-i.i ≡ c.loop-i.i + 1 = omega arith in
    subst (λ i. c.hash_sample-hash.result ≡ samples_hash places i) next
    (c.hash_sample-hash.ensures ∙ ap (λ h. sample_hash h (slice_get places (c.loop-i.i * (length places / 8 + 1)))) c.loop-i.invariant)
