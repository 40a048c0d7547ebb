use Rattle.std.proofs.Common.{◌≡◌, ◌↔◌, ℕ, List, ◌∷◌, Bool, true, Some, slice_get, length, sym, ap, ◌∙◌, subst, arith}
use Rattle.fill_places.specs.Bits.{flag_of}
use Rattle.fill_places.proofs.BitLaws.{flags_long, has_flag}
use Rattle.fill_places.proofs.marks.Marks.has.Goals as goal

pub flag-requires : goal.flag-requires
flag-requires c =
    let words : List ℕ = c.self.inside.first ∷ c.self.inside.more.items in
    let long = sym (flags_long words c.self.inside.size) ∙ ap length c.self.view_is in
    let same = ap length c.deref.ensures.value in
    omega (arith, c.requires, c.self.invariant)

pub returns : goal.returns
returns c =
    let words : List ℕ = c.self.inside.first ∷ c.self.inside.more.items in
    let long = sym (flags_long words c.self.inside.size) ∙ ap length c.self.view_is in
    let is = c.flag.ensures ∙ ap (λ z. flag_of (c.self.inside.first ∷ z) c.args.k) c.deref.ensures.value in
    let iff = subst (λ (z : List Bool). (flag_of words c.args.k ≡ true) ↔ (slice_get z c.args.k ≡ Some true)) c.self.view_is (has_flag words c.self.inside.size c.args.k (omega (arith, c.requires))) in
    (λ b. iff.0 (sym is ∙ b), λ h. is ∙ iff.1 h)
