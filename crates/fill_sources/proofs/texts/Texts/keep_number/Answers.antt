use Rattle.std.proofs.Common.{◌≡◌, ℕ, List, Option, Some, cond, subst}
use Rattle.std.specs.BTreeMap.{get_by}
use Rattle.std.specs.Cmp.Lexicographic.{slice_cmp}
use Rattle.std.specs.Ordering.{is_eq, nat_cmp}
use Rattle.std.proofs.lemmas.Map.Text.{is_eq-slice_cmp}
use Rattle.std.specs.Str.{bytes_eq}
use Rattle.fill_sources.specs.Origins.{number_in}
use Rattle.fill_sources.proofs.texts.Texts.keep_number.Goals as goal

pub returns-in-Ok-clause-numbers : goal.returns-in-Ok-clause-numbers
returns-in-Ok-clause-numbers c v =
    let after : Option ℕ = get_by (λ y. slice_cmp nat_cmp v y.now) c.insert.new.self in
    let slice = c.as_slice.result.now in
    let put : after ≡ cond (is_eq (slice_cmp nat_cmp slice v)) (Some c.args.k) (number_in c.args.self.now v) = c.in-Ok.ensures.updates.0 (record { ref_ptr = (0, 0); now = v }) in
    subst (λ (w : List ℕ). after ≡ cond (bytes_eq w v) (Some c.args.k) (number_in c.args.self.now v)) c.as_slice.ensures
    (subst (λ b. after ≡ cond b (Some c.args.k) (number_in c.args.self.now v)) (is_eq-slice_cmp slice v) put)
