-- Match counts and the cuts of a number, by the rising lists of the positions.
use Rattle.std.proofs.Common.{◌≡◌, ℕ, zero, suc, ◌+◌, ◌-◌, ◌<◌, ◌≤◌, List, length, get_or, reverse, Some, refl, sym, ap, ◌∙◌, subst, arith}
use Rattle.std.specs.Prelude.{◌↔◌}
use Rattle.std.proofs.lemmas.List.{get_or-reverse, length-reverse}
use Rattle.std.proofs.lemmas.Option.{slice_get-get_or, slice_get_within, get_or_from_slice_get}
use Rattle.fill_text.specs.Data.{nth}
use Rattle.fill_tokens.specs.Span.{Begins, IsCut}
use Rattle.fill_tokens.specs.Value.{IsCount, IsCutFromLeft, IsCutFromRight}
use Rattle.fill_tokens.specs.Cuts.{AreCuts, AreMatches}
use Rattle.fill_tokens.specs.declared.token.Token.{Token}
use Rattle.fill_tokens.proofs.CountLaws.{count_unique}
use Rattle.fill_tokens.proofs.SpanLaws.{seq_within}
use Rattle.fill_tokens.proofs.RisingLaws.{enumerated, back, length-back, back_at, enumerated_back, has_each, count_all, count_at, item_of}

begins_within : (r : List Token) (t : List ℕ) (k : ℕ) → Begins r t k → k ≤ length t
begins_within r t k h = let w = seq_within r t k h.0 h.1 in omega arith

match_total : (r : List Token) (t : List ℕ) (ks : List ℕ) → AreMatches r t ks → IsCount (Begins r t) (length t + 1) (length ks)
match_total r t ks l =
    count_all (Begins r t) ks (length t + 1) (enumerated (Begins r t) ks l (length t + 1))
    (λ j within. let small = begins_within r t (get_or ks j 0) (has_each (Begins r t) ks l j within) in omega arith)

pub matches_counted : (r : List Token) (t : List ℕ) (ks : List ℕ) → AreMatches r t ks → (c : ℕ) → IsCount (Begins r t) (length t + 1) c ↔ (c ≡ length ks)
matches_counted r t ks l c = (
  λ h. count_unique (Begins r t) (length t + 1) c (length ks) h (match_total r t ks l),
  λ e. subst (λ n. IsCount (Begins r t) (length t + 1) n) (sym e) (match_total r t ks l),
)

-- the item of a number that counts from 1, and its place from 0
nth_at : (ks : List ℕ) (j : ℕ) → j < length ks → nth ks (suc j) ≡ Some (get_or ks j 0)
nth_at ks j within = slice_get-get_or ks j 0 within

at_nth : (ks : List ℕ) (c k : ℕ) → nth ks c ≡ Some k → (j : ℕ) × (j < length ks) × (get_or ks j 0 ≡ k) × (c ≡ suc j)
at_nth ks zero k h = cc
at_nth ks (suc j) k h = (j, slice_get_within ks j k h, get_or_from_slice_get ks j k 0 h, refl)

module _ (r s : List Token) (t ks : List ℕ) (l : AreCuts r s t ks) where
  cut_at : (j : ℕ) → j < length ks → IsCut r s t (get_or ks j 0)
  cut_at = has_each (IsCut r s t) ks l

  small : (j : ℕ) → j < length ks → get_or ks j 0 ≤ length t
  small j within = begins_within s t (get_or ks j 0) (cut_at j within).1

  pub from_left : (c k : ℕ) → IsCutFromLeft r s t c k ↔ (nth ks c ≡ Some k)
  from_left c k = (
    λ h.
        let at = item_of (IsCut r s t) ks (length t + 1) (enumerated (IsCut r s t) ks l (length t + 1)) k c (omega (arith, h.0)) h.1 h.2 in
        ap (nth ks) at.3 ∙ nth_at ks at.0 at.1 ∙ ap Some at.2,
    λ e.
        let at = at_nth ks c k e in
        let low = small at.0 at.1 in
        let counted = count_at (IsCut r s t) ks (length t + 1) (enumerated (IsCut r s t) ks l (length t + 1)) at.0 at.1 (omega arith) in
        let number : at.0 + 1 ≡ c = omega arith in (
          subst (λ m. m ≤ length t) at.2 low,
          subst (IsCut r s t) at.2 (cut_at at.0 at.1),
          subst (λ n. IsCount (IsCut r s t) (k + 1) n) number (subst (λ m. IsCount (IsCut r s t) (m + 1) (at.0 + 1)) at.2 counted),
        ),
  )

  pub from_right : (c k : ℕ) → IsCutFromRight r s t c k ↔ (nth (reverse ks) c ≡ Some k)
  from_right c k =
      let n = length t in
      let Q : ℕ → Type 0 = λ i. IsCut r s t (n - i) in
      let gs = back (IsCut r s t) ks l n small in
      let same_length = length-back (IsCut r s t) ks l n small in
      let b = enumerated_back (IsCut r s t) ks l n small in (
        λ h.
            let here : k ≡ n - (n - k) = omega (arith, h.0) in
            let at = item_of Q gs (n + 1) b (n - k) c (omega arith) (subst (IsCut r s t) here h.1) h.2 in
            let within : at.0 < length ks = omega (arith, at.1, same_length) in
            let low = small (length ks - 1 - at.0) (omega arith) in
            let it : get_or ks (length ks - 1 - at.0) 0 ≡ k = omega (arith, h.0, at.2, back_at (IsCut r s t) ks l n small at.0 within) in
            ap (nth (reverse ks)) at.3 ∙ nth_at (reverse ks) at.0 (omega (arith, length-reverse ks)) ∙ ap Some (get_or-reverse ks at.0 0 within ∙ it),
        λ e.
            let at = at_nth (reverse ks) c k e in
            let within : at.0 < length ks = omega (arith, at.1, length-reverse ks) in
            let it : get_or ks (length ks - 1 - at.0) 0 ≡ k = sym (get_or-reverse ks at.0 0 within) ∙ at.2 in
            let low = small (length ks - 1 - at.0) (omega arith) in
            let far : get_or gs at.0 0 ≡ n - k = back_at (IsCut r s t) ks l n small at.0 within ∙ ap (λ x. n - x) it in
            let counted = count_at Q gs (n + 1) b at.0 (omega (arith, same_length)) (omega arith) in
            let number : at.0 + 1 ≡ c = omega (arith, at.3) in (
              subst (λ m. m ≤ n) it low,
              subst (IsCut r s t) it (cut_at (length ks - 1 - at.0) (omega arith)),
              subst (λ i. IsCount Q (n - k + 1) i) number (subst (λ m. IsCount Q (m + 1) (at.0 + 1)) far counted),
            ),
      )
