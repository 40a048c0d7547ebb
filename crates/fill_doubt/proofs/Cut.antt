-- Cuts by the rising list of them.
use Rattle.std.proofs.Common.{◌≡◌, ⊎_elim, ℕ, zero, suc, ◌+◌, ◌-◌, ◌<◌, ◌≤◌, List, [], ◌∷◌, ◌++◌, length, get_or, reverse, Some, slice_get, sym, ap, ◌∙◌, subst, arith}
use Rattle.std.proofs.lemmas.List.{get_or-reverse, length-reverse}
use Rattle.std.proofs.lemmas.Option.{same_Some, slice_get-get_or, slice_get_within}
use Rattle.fill_text.specs.Data.{nth}
use Rattle.fill_tokens.specs.Cuts.{AreCuts, IsRisingListOf}
use Rattle.fill_tokens.specs.Span.{Begins, Ends}
use Rattle.fill_tokens.specs.declared.token.Token.{Token}
use Rattle.fill_arena.proofs.Lists.{get_last, get_pushed}
use Rattle.fill_arena.proofs.Scan.{here}
use Rattle.fill_doubt.specs.Cuts.{AreSides, HasAt}
use Rattle.fill_doubt.specs.Hops.{AreReached, IsReachedBelow}
use Rattle.fill_doubt.specs.declared.cuts.Pair.{Pair}
use Rattle.fill_doubt.specs.declared.sides.Side.{Side}
use Rattle.fill_doubt.specs.declared.sides.Sides.{Sides}
use Rattle.fill_doubt.proofs.Hopped.{at_contained, contains_at}
use Rattle.fill_doubt.proofs.Pushed.{rising_same}

-- items by their numbers
pub nth_within : (ks : List ℕ) (c k : ℕ) → nth ks c ≡ Some k → c ≤ length ks
nth_within ks zero k h = omega arith
nth_within ks (suc c) k h = let w = slice_get_within ks c k h in omega arith

pub nth_left : (ks : List ℕ) (c i : ℕ) → c ≡ i + 1 → i < length ks → nth ks c ≡ Some (get_or ks i 0)
nth_left ks zero i e lt = absurd (omega arith)
nth_left ks (suc c) i e lt = let same : c ≡ i = omega arith in subst (λ m. nth ks (suc c) ≡ Some (get_or ks m 0)) same (slice_get-get_or ks c 0 (omega arith))

pub nth_right : (ks : List ℕ) (c : ℕ) → 0 < c → c ≤ length ks → nth (reverse ks) c ≡ Some (get_or ks (length ks - c) 0)
nth_right ks zero some lt = absurd (omega arith)
nth_right ks (suc c) some lt =
    let n = length-reverse ks in
    let m : length ks - 1 - c ≡ length ks - suc c = omega arith in
    slice_get-get_or (reverse ks) c 0 (omega arith) ∙ ap Some (get_or-reverse ks c 0 (omega arith) ∙ ap (λ j. get_or ks j 0) m)

-- the last item of a list with one more
pub last_at : {A : Type 0} (xs ys : List A) (x : A) (i : ℕ) → ys ≡ xs ++ x ∷ [] → i ≡ length xs → slice_get ys i ≡ Some x
last_at {A} xs ys x i is at = subst (λ j. slice_get ys j ≡ Some x) (sym at) (subst (λ (zs : List A). slice_get zs (length xs) ≡ Some x) (sym is) (get_last xs x))

-- what is known of the sequences, with one sequence more
pub sides_more : (P : List Token → ℕ → Type 0) (old new : List Side) (x : Side) → AreSides P old → new ≡ old ++ x ∷ [] → IsRisingListOf (P x.seq) x.positions.items → AreSides P new
sides_more P old new x are is here i y at =
    ⊎_elim (λ l. are i y l.1) (λ r. subst (λ (z : Side). IsRisingListOf (P z.seq) z.positions.items) r.1 here) (get_pushed old x i y (subst (λ (xs : List Side). slice_get xs i ≡ Some y) is at))

pub sides_start : (P : List Token → ℕ → Type 0) (sides : List Side) → sides ≡ [] → AreSides P sides
sides_start P sides is i x at = absurd (none i x (subst (λ (xs : List Side). slice_get xs i ≡ Some x) is at))
  where
    none : (i : ℕ) (x : Side) → slice_get {X = Side} [] i ≡ Some x → ⊥
    none i x h = cc

-- the positions of the sequence that stands at a place
pub positions_at : (P : List Token → ℕ → Type 0) (sides : Sides) (r : List Token) (i : ℕ) (x : Side) (ks : List ℕ) → AreSides P sides.sides.items → HasAt sides r i → x ≡ get_or sides.sides.items i x
    → ks ≡ x.positions.items → IsRisingListOf (P r) ks
positions_at P sides r i x ks are has is same =
    let at = here sides.sides.items i x (slice_get_within sides.sides.items i has.0 has.1) is in
    let there = has.1 in
    let one : x ≡ has.0 = cc in
    let seq : x.seq ≡ r = subst (λ (y : Side). y.seq ≡ r) (sym one) has.2 in
    subst (IsRisingListOf (P r)) (sym same) (subst (λ (q : List Token). IsRisingListOf (P q) x.positions.items) seq (are i x at))

-- the positions that both sequences have are the cuts
pub are_cuts : (l r : List Token) (t stops starts cuts : List ℕ) → IsRisingListOf (Ends l t) stops → IsRisingListOf (Begins r t) starts → AreReached starts stops stops cuts → AreCuts l r t cuts
are_cuts l r t stops starts cuts ends begins reached = rising_same (IsReachedBelow starts stops stops (length stops)) (λ k. Ends l t k × Begins r t k) cuts reached
    (λ k. (
      (λ h. ((ends.exact k).0 (contains_at stops h.0 k h.4), subst (Begins r t) (same_Some h.1 k (sym h.3 ∙ h.4)) ((begins.exact h.1).0 h.5))),
      (λ h. let at = at_contained stops k ((ends.exact k).1 h.0) in (at.0, k, slice_get_within stops at.0 k at.1, at.1, at.1, (begins.exact k).1 h.1)),
    ))

pub sides_kept : (P : List Token → ℕ → Type 0) (old new : Sides) → new.sides ≡ old.sides → AreSides P old.sides.items → AreSides P new.sides.items
sides_kept P old new same are = subst (λ v. AreSides P v.items) (sym same) are

-- of two sequences alone the cuts are kept
pub cuts_of : (l r : List Token) (t cuts : List ℕ) (p q : Pair) (a b : List Token) → AreCuts l r t cuts → p.left ≡ l → p.right ≡ r → Some p ≡ Some q → q.left ≡ a → q.right ≡ b → AreCuts a b t cuts
cuts_of l r t cuts p q a b are pl pr same ql qr =
    let one : p ≡ q = same_Some p q same in
    let el : l ≡ a = sym pl ∙ ap (λ (x : Pair). x.left) one ∙ ql in
    let er : r ≡ b = sym pr ∙ ap (λ (x : Pair). x.right) one ∙ qr in
    subst (λ x. AreCuts x b t cuts) el (subst (λ y. AreCuts l y t cuts) er are)
