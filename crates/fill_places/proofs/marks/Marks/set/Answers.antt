use Rattle.std.proofs.Common.{◌≡◌, ◌<◌, ◌⊎◌, ℕ, List, ◌∷◌, Bool, true, Some, slice_get, length, sym, ap, ◌∙◌, subst, arith}
use Rattle.fill_places.proofs.BitLaws.{flags_long, set_sound, set_keeps, set_there}
use Rattle.fill_places.proofs.marks.Marks.set.Goals as goal

pub set_flag-requires : goal.set_flag-requires
set_flag-requires c =
    let old : List ℕ = c.self.inside.first ∷ c.self.inside.more.items in
    let long = sym (flags_long old c.self.inside.size) ∙ ap length c.self.view_is in
    omega (arith, c.requires, c.self.invariant)

pub returns-clause-sound : goal.returns-clause-sound
returns-clause-sound c = λ j h.
    let old : List ℕ = c.self.inside.first ∷ c.self.inside.more.items in
    let new : List ℕ = c.set_flag.new.first ∷ c.set_flag.new.more.items in
    let n = c.self.inside.size in
    let k = c.args.k in
    let long = sym (flags_long old c.self.inside.size) ∙ ap length c.self.view_is in
    let lt : c.args.k < c.self.inside.size = omega (arith, c.requires) in
    subst (λ (z : List Bool). (j ≡ k) ⊎ (slice_get z j ≡ Some true)) c.self.view_is (set_sound old new n k lt c.set_flag.ensures.there c.set_flag.ensures.others j h)

pub returns-clause-keeps : goal.returns-clause-keeps
returns-clause-keeps c = λ j h.
    let old : List ℕ = c.self.inside.first ∷ c.self.inside.more.items in
    let new : List ℕ = c.set_flag.new.first ∷ c.set_flag.new.more.items in
    let n = c.self.inside.size in
    let k = c.args.k in
    let long = sym (flags_long old c.self.inside.size) ∙ ap length c.self.view_is in
    let lt : c.args.k < c.self.inside.size = omega (arith, c.requires) in
    set_keeps old new n k lt c.set_flag.ensures.there c.set_flag.ensures.others j (subst (λ (z : List Bool). slice_get z j ≡ Some true) (sym c.self.view_is) h)

pub returns-clause-there : goal.returns-clause-there
returns-clause-there c =
    let old : List ℕ = c.self.inside.first ∷ c.self.inside.more.items in
    let new : List ℕ = c.set_flag.new.first ∷ c.set_flag.new.more.items in
    let n = c.self.inside.size in
    let k = c.args.k in
    let long = sym (flags_long old c.self.inside.size) ∙ ap length c.self.view_is in
    let lt : c.args.k < c.self.inside.size = omega (arith, c.requires) in
    set_there old new n k lt c.set_flag.ensures.there c.set_flag.ensures.others
