-- What an example more leads to, over grounds whose rows stand in pairs, in the same order.
use Rattle.std.proofs.Common.{◌≡◌, ◌∙◌, ◌↔◌, ℕ, ◌<◌, ◌==◌, ◌||◌, not, if◌then◌else◌, nat_le, nat_lt, Bool, true, false, List, [], ◌∷◌, length, None, Some, ap, ap₂, refl, subst, sym}
use Rattle.std.specs.Option.{option_or}
use Rattle.fill_tree.specs.declared.user.Example.{Example}
use Rattle.fill_split.proofs.Zips.{zip_lengths}
use Rattle.fill_local.proofs.Paired.{SaySame, SaysSame}
use Rattle.fill_space.specs.declared.ground.Ground.{Ground}
use Rattle.fill_session.specs.Edits.{with_example}
use Rattle.fill_session.specs.Outcome.{count_reason, first_reason, has_example, inputs_length, is_row, length_reason}
use Rattle.fill_session.specs.declared.error.EditError.TheVariants as error
use Rattle.fill_session.specs.declared.error.Part.TheVariants as part
use Rattle.fill_tree.specs.declared.user.Edit.TheVariants.{Add}
use borrow.Author.Tests.{eq-eqb, eqb-true, lt-ltb, ltb-true}

bools_same : (a b : Bool) → (a ≡ true → b ≡ true) → (b ≡ true → a ≡ true) → a ≡ b
bools_same true b to back = sym (to refl)
bools_same false true to back = back refl
bools_same false false to back = refl

below_same : (r q a b : ℕ) → (r < q ↔ a < b) → nat_lt r q ≡ nat_lt a b
below_same r q a b same = bools_same (nat_lt r q) (nat_lt a b) (λ e. lt-ltb a b (same.0 (ltb-true r q e))) (λ e. lt-ltb r q (same.1 (ltb-true a b e)))

equal_same : (r q a b : ℕ) → ((r ≡ q) ↔ (a ≡ b)) → (r == q) ≡ (a == b)
equal_same r q a b same = bools_same (r == q) (a == b) (λ e. eq-eqb a b (same.0 (eqb-true r q e))) (λ e. eq-eqb r q (same.1 (eqb-true a b e)))

module _ (Pair : ℕ → ℕ → Type 0) (once : (r q a b : ℕ) → Pair r a → Pair q b → (r ≡ q) ↔ (a ≡ b)) (order : (r q a b : ℕ) → Pair r a → Pair q b → (r < q) ↔ (a < b)) (e d : Example) (same : SaysSame Pair e d) where
  if_same : (R : List Example → List Example → Type 0) (a b : Bool) (ts fs us vs : List Example) → a ≡ b → R ts us → R fs vs → R (if a then ts else fs) (if b then us else vs)
  if_same R true b ts fs us vs is t f = subst (λ x. R ts (if x then us else vs)) is t
  if_same R false b ts fs us vs is t f = subst (λ x. R fs (if x then us else vs)) is f

  pub with_same : (es ds : List Example) → SaySame Pair es ds → SaySame Pair (with_example e es) (with_example d ds)
  with_same [] [] z = (same, tt)
  with_same [] (y ∷ ds) z = absurd z
  with_same (x ∷ es) [] z = absurd z
  with_same (x ∷ es) (y ∷ ds) z =
      if_same (SaySame Pair) (nat_lt x.row e.row) (nat_lt y.row d.row) (x ∷ with_example e es) (if x.row == e.row then e ∷ es else e ∷ x ∷ es) (y ∷ with_example d ds) (if y.row == d.row then d ∷ ds else d ∷ y ∷ ds)
      (below_same x.row e.row y.row d.row (order x.row e.row y.row d.row z.0.row same.row))
      (z.0, with_same es ds z.1)
      (if_same (SaySame Pair) (x.row == e.row) (y.row == d.row) (e ∷ es) (e ∷ x ∷ es) (d ∷ ds) (d ∷ y ∷ ds) (equal_same x.row e.row y.row d.row (once x.row e.row y.row d.row z.0.row same.row)) (same, z.1) (same, z))

  any_same : (es ds : List Example) → SaySame Pair es ds → has_example es e.row ≡ has_example ds d.row
  any_same [] [] z = refl
  any_same [] (y ∷ ds) z = absurd z
  any_same (x ∷ es) [] z = absurd z
  any_same (x ∷ es) (y ∷ ds) z = ap₂ (λ (a b : Bool). a || b) (equal_same x.row e.row y.row d.row (once x.row e.row y.row d.row z.0.row same.row)) (any_same es ds z.1)

  module _ (g h : Ground) (here : is_row g.sheet e.row ≡ is_row h.sheet d.row) (inside : is_row g.sheet e.row ≡ true) (long : inputs_length g.sheet e.row ≡ inputs_length h.sheet d.row) where
    pub reason_same : (es ds : List Example) → SaySame Pair es ds → first_reason g.sheet es (Add e.row e.text) ≡ first_reason h.sheet ds (Add d.row d.text)
    reason_same es ds z =
        let lengths : length_reason g.sheet e.row e.text ≡ length_reason h.sheet d.row d.text = λ i. if nat_lt 100 (length (same.text i)) then Some (error.TooLong part.Text (length (same.text i))) else
        if nat_lt 1000 (long i) then Some (error.TooLong part.Inputs (long i)) else None in
        let counts : count_reason es ≡ count_reason ds = ap (λ n. if nat_le 64 n then Some error.TooMany else None) (sym (zip_lengths (SaysSame Pair) es ds z)) in
        let left : first_reason g.sheet es (Add e.row e.text) ≡ (if has_example es e.row then Some error.HasExample else option_or (length_reason g.sheet e.row e.text) (count_reason es)) =
        ap (λ b. if not b then Some (error.NoSuchRow (length g.sheet.rows)) else (if has_example es e.row then Some error.HasExample else option_or (length_reason g.sheet e.row e.text) (count_reason es))) inside in
        let right : first_reason h.sheet ds (Add d.row d.text) ≡ (if has_example ds d.row then Some error.HasExample else option_or (length_reason h.sheet d.row d.text) (count_reason ds)) =
        ap (λ b. if not b then Some (error.NoSuchRow (length h.sheet.rows)) else (if has_example ds d.row then Some error.HasExample else option_or (length_reason h.sheet d.row d.text) (count_reason ds))) (sym here ∙ inside) in
        left ∙ ((λ i. if any_same es ds z i then Some error.HasExample else option_or (lengths i) (counts i)) ∙ sym right)
