use Rattle.std.proofs.Common.{ℕ, List, ◌∷◌, Bool, length, sym, ap, ◌∙◌, subst, arith}
use Rattle.fill_tokens.specs.Value.{IsCount}
use Rattle.fill_places.specs.Marks.{Common}
use Rattle.fill_places.specs.Bits.{BothSet, flags_of}
use Rattle.fill_places.proofs.BitLaws.{flags_long, common_flags}
use Rattle.fill_places.proofs.marks.Marks.common_below.Goals as goal

pub common_in-requires-clause-left : goal.common_in-requires-clause-left
common_in-requires-clause-left c =
    let words : List ℕ = c.self.inside.first ∷ c.self.inside.more.items in
    let long = sym (flags_long words c.self.inside.size) ∙ ap length c.self.view_is in
    let same = ap length c.deref.ensures.value in
    omega (arith, c.requires.left, c.self.invariant)

pub common_in-requires-clause-right : goal.common_in-requires-clause-right
common_in-requires-clause-right c =
    let words : List ℕ = c.other.inside.first ∷ c.other.inside.more.items in
    let long = sym (flags_long words c.other.inside.size) ∙ ap length c.other.view_is in
    let same = ap length c.deref-2.ensures.value in
    omega (arith, c.requires.right, c.other.invariant)

pub returns : goal.returns
returns c =
    let k = c.args.k in
    let a : List ℕ = c.self.inside.first ∷ c.self.inside.more.items in
    let b : List ℕ = c.other.inside.first ∷ c.other.inside.more.items in
    let left = sym (flags_long a c.self.inside.size) ∙ ap length c.self.view_is in
    let right = sym (flags_long b c.other.inside.size) ∙ ap length c.other.view_is in
    let both =
    subst (λ (z : List ℕ). IsCount (BothSet a (c.other.inside.first ∷ z)) k c.common_in.result) c.deref-2.ensures.value
    (subst (λ (z : List ℕ). IsCount (BothSet (c.self.inside.first ∷ z) (c.other.inside.first ∷ c.deref-2.result.now)) k c.common_in.result) c.deref.ensures.value c.common_in.ensures) in
    let flags = common_flags a b c.self.inside.size c.other.inside.size k c.common_in.result (omega (arith, c.requires.left)) (omega (arith, c.requires.right)) both in
    subst (λ (z : List Bool). IsCount (Common c.args.self.now z) k c.common_in.result) c.other.view_is
    (subst (λ (z : List Bool). IsCount (Common z (flags_of b c.other.inside.size)) k c.common_in.result) c.self.view_is flags)
