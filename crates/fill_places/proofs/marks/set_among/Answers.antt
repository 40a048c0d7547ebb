use Rattle.std.proofs.Common.{◌≡◌, ◌*◌, ◌/◌, ◌%◌, ◌^◌, ◌<◌, ℕ, List, true, length, get_or, refl, subst, arith}
use Rattle.std.proofs.lemmas.Option.{slice_get_read, get_or_from_slice_get}
use Rattle.std.specs.Int.RustNames.{bit_or}
use Rattle.std.proofs.Math.ListN.{set}
use Rattle.fill_places.specs.Bits.{flag_of}
use Rattle.fill_places.proofs.BitLaws.{set_here, set_elsewhere}
use Rattle.fill_places.proofs.marks.set_among.Goals as goal

pub returns-clause-there : goal.returns-clause-there
returns-clause-there c =
    let words : List ℕ = c.args.words.now.items in
    let k : ℕ = c.args.k in
    let lt : c.args.k / 64 < length c.args.words.now.items = omega (arith, c.requires) in
    let r : ℕ = c.index_mut.result.now in
    let e : get_or words (k / 64) 0 ≡ r = get_or_from_slice_get words (k / 64) r 0 (slice_get_read words (length words) (k / 64) r refl lt c.index_mut.ensures.value) in
    subst (λ (z : ℕ). flag_of (set words (k / 64) (bit_or z (1 * 2 ^ (k % 64) % 2 ^ 64))) k ≡ true) e (set_here words k lt)

pub returns-clause-others : goal.returns-clause-others
returns-clause-others c = λ j other.
    let words : List ℕ = c.args.words.now.items in
    let k : ℕ = c.args.k in
    let lt : c.args.k / 64 < length c.args.words.now.items = omega (arith, c.requires) in
    let r : ℕ = c.index_mut.result.now in
    let e : get_or words (k / 64) 0 ≡ r = get_or_from_slice_get words (k / 64) r 0 (slice_get_read words (length words) (k / 64) r refl lt c.index_mut.ensures.value) in
    subst (λ (z : ℕ). flag_of (set words (k / 64) (bit_or z (1 * 2 ^ (k % 64) % 2 ^ 64))) j ≡ flag_of words j) e (set_elsewhere words k j lt other)
