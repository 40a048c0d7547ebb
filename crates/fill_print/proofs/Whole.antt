-- From what is read at the front to the whole of the bytes.
use Rattle.std.proofs.Common.{◌≡◌, ℕ, zero, suc, ◌-◌, ◌<◌, ◌≤◌, inl, inr, List, [], ◌∷◌, ◌++◌, length, take, length-append, refl, sym, ap, subst, ◌∙◌, arith}
use Rattle.std.proofs.lemmas.Bool.{cases_lt}
use Rattle.std.proofs.lemmas.List.{append_assoc, append-nil}
use Rattle.std.proofs.lemmas.Grind.{common_steps}
use Rattle.fill_tokens.specs.declared.token_set.TokenSet.{TokenSet}
use Rattle.fill_tree.specs.Switch.{SwitchTree}
use Rattle.fill_print.specs.Faults.{IsTextOf, IsFront, IsFault}
use Rattle.fill_print.specs.Grammar.{WholeSwitch}
use Rattle.fill_print.specs.Notation.{switch_text}
use Rattle.fill_print.specs.Reading.{SameHead, Takes, Halts}
use Rattle.fill_print.specs.Rules.{IsSwitch}
use Rattle.fill_print.specs.Switches.{SwitchFront}
use Rattle.fill_print.proofs.Chains.{head_itself, same_takes, same_halts}
use Rattle.fill_print.proofs.SwitchRules.{switch_whole, switch_one}

take_front : (front rest : List ℕ) → take (length front) (front ++ rest) ≡ front
take_front front rest = grind (arith, common_steps)

-- with more than the front comes at least the byte after it
take_past : (front rest : List ℕ) (n : ℕ) → length front < n → n ≤ length (front ++ rest) → (b : ℕ) × (x y : List ℕ) × (rest ≡ b ∷ x) × (take n (front ++ rest) ≡ front ++ b ∷ y)
take_past [] [] n h g = absurd (omega arith)
take_past [] (b ∷ x) zero h g = absurd (omega arith)
take_past [] (b ∷ x) (suc n) h g = (b, x, take n x, refl, refl)
take_past (c ∷ front) rest zero h g = absurd (omega arith)
take_past (c ∷ front) rest (suc n) h g =
    let t = take_past front rest n (omega arith) (omega arith) in
    (t.0, t.1, t.2, t.3, ap (λ z. c ∷ z) t.4)

module _ (token_set : TokenSet) where
  fault : (front rest : List ℕ) → IsFront token_set front → ((t : SwitchTree) (r : List ℕ) → IsSwitch token_set t → SameHead rest r → switch_text t ≡ front ++ r → ⊥) → IsFault token_set (front ++ rest) (length front)
  fault front rest viable wrong = record {
    none = λ t is. wrong t rest is.0 (head_itself rest) (sym is.1);
    within = omega (arith, length-append front rest);
    front = subst (IsFront token_set) (sym (take_front front rest)) viable;
    longest = λ n within some. elim (cases_lt (length front) n) [
      | inl more ↦
          let t = take_past front rest n more within in
          let f : IsFront token_set (front ++ t.0 ∷ t.2) = subst (IsFront token_set) t.4 some in
          let head : SameHead rest (t.0 ∷ (t.2 ++ f.1)) = subst (λ z. SameHead z (t.0 ∷ (t.2 ++ f.1))) (sym t.3) refl in
          absurd (wrong f.0 (t.0 ∷ (t.2 ++ f.1)) f.2 head (f.3 ∙ append_assoc front (t.0 ∷ t.2) f.1))
      | inr less ↦ less
    ];
  }

  pub halts_fault : (bytes : List ℕ) (left : ℕ) → Halts (WholeSwitch token_set) bytes left → IsFault token_set bytes (length bytes - left)
  halts_fault bytes left halt =
      let h : Halts (SwitchFront token_set) bytes left = same_halts (switch_whole token_set) halt in
      let f = fault h.front h.rest (h.some, h.next ∷ h.more, (h.viable []).0, sym (append-nil (switch_text h.some)) ∙ sym (h.viable []).1 ∙ append-nil (h.front ++ h.next ∷ h.more))
      (λ t r is same e. h.wrong t r [] same (is, sym e ∙ sym (append-nil (switch_text t)))) in
      let at : length h.front ≡ length bytes - left = omega (arith, length-append h.front h.rest, ap length h.is, h.size) in
      subst (λ n. IsFault token_set bytes n) at (subst (λ x. IsFault token_set x (length h.front)) (sym h.is) f)

  pub rest_fault : (bytes : List ℕ) (t : SwitchTree) (b : ℕ) (rest after : List ℕ) → Takes (WholeSwitch token_set) bytes t rest → rest ≡ b ∷ after → IsFault token_set bytes (length bytes - length rest)
  rest_fault bytes t b rest after taken e =
      let h : Takes (SwitchFront token_set) bytes t rest = same_takes (switch_whole token_set) taken in
      let whole = h.spelled [] in
      let f = fault h.front rest (t, [], whole.0, sym (append-nil (switch_text t)) ∙ sym whole.1)
      (λ u r is same text.
      let one = (switch_one token_set).law t u (h.front ++ r) r [] (h.spelled r) (is, sym text ∙ sym (append-nil (switch_text u))) in
      let bad : SameHead (b ∷ after) [] = subst (λ x. SameHead (b ∷ after) x) one.1 (subst (λ x. SameHead x r) e same) in
      bad) in
      let at : length h.front ≡ length bytes - length rest = omega (arith, length-append h.front rest, ap length h.is) in
      subst (λ n. IsFault token_set bytes n) at (subst (λ x. IsFault token_set x (length h.front)) (sym h.is) f)

  pub halts_within : (bytes : List ℕ) (left : ℕ) → Halts (WholeSwitch token_set) bytes left → left ≤ length bytes
  halts_within bytes left h = omega (arith, length-append h.front h.rest, ap length h.is, h.size)

  pub whole_text : (bytes : List ℕ) (t : SwitchTree) (rest : List ℕ) → Takes (WholeSwitch token_set) bytes t rest → rest ≡ [] → IsTextOf token_set bytes t
  whole_text bytes t rest taken e =
      let h : Takes (SwitchFront token_set) bytes t rest = same_takes (switch_whole token_set) taken in
      let s = h.spelled [] in
      (s.0, h.is ∙ ap (λ x. h.front ++ x) e ∙ s.1 ∙ append-nil (switch_text t))

  -- different conditional programs have different spellings
  pub one_text : (s t : SwitchTree) → IsSwitch token_set s → IsSwitch token_set t → switch_text s ≡ switch_text t → s ≡ t
  one_text s t p q e = ((switch_one token_set).law s t (switch_text s) [] [] (p, sym (append-nil (switch_text s))) (q, e ∙ sym (append-nil (switch_text t)))).0

  pub same_text : (bytes : List ℕ) (s t : SwitchTree) → IsTextOf token_set bytes s → IsTextOf token_set bytes t → s ≡ t
  same_text bytes s t p q = one_text s t p.0 q.0 (sym p.1 ∙ q.1)
