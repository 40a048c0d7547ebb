-- Hops from a set, one after the other.
use Rattle.std.proofs.Common.{◌≡◌, ◌⊎◌, ⊎_elim, inl, inr, ℕ, ◌+◌, ◌<◌, ◌≤◌, List, [], ◌∷◌, ◌++◌, length, get_or, slice_get, Some, sym, ap, ◌∙◌, subst, arith}
use Rattle.std.specs.Prelude.{Contains}
use Rattle.std.specs.List.Sorted.{IsStrictlyIncreasing}
use Rattle.std.proofs.lemmas.Bool.{cases_lt, cases_order}
use Rattle.std.proofs.lemmas.List.Elements.{Contains-get_or}
use Rattle.std.proofs.lemmas.List.Kept.{AllPairs-from_increasing}
use Rattle.std.proofs.lemmas.Option.{same_Some, slice_get_within, slice_get-get_or}
use Rattle.fill_spans.specs.Pieces.{Rises}
use Rattle.fill_tokens.specs.Cuts.{IsRisingListOf}
use Rattle.fill_doubt.specs.Hops.{AreLess, AreLessThanRest, AreReached, AreReachedBelow, IsReachedBelow}
use Rattle.fill_doubt.proofs.Pushed.{rising_more, rising_none, rising_same}

-- what stands at a place
pub item : (xs : List ℕ) (i x d : ℕ) → slice_get xs i ≡ Some x → get_or xs i d ≡ x
item xs i x d h = same_Some _ _ (sym (slice_get-get_or xs i d (slice_get_within xs i x h)) ∙ h)

pub rises_at : (xs : List ℕ) → Rises xs → (i j x y : ℕ) → i < j → slice_get xs i ≡ Some x → slice_get xs j ≡ Some y → x < y
rises_at xs rises i j x y lt a b =
    let e = item xs i x 0 a in
    let f = item xs j y 0 b in
    let up = rises i j 0 lt (slice_get_within xs j y b) in
    omega arith

pub contains_at : (xs : List ℕ) (i x : ℕ) → slice_get xs i ≡ Some x → Contains xs x
contains_at xs i x h = subst (Contains xs) (item xs i x x h) (Contains-get_or xs i x (slice_get_within xs i x h))

pub at_contained : (xs : List ℕ) (x : ℕ) → Contains xs x → (i : ℕ) × (slice_get xs i ≡ Some x)
at_contained xs x h = (h.0, slice_get-get_or xs h.0 x h.1 ∙ ap Some h.2)

-- the walk along the set
pub less_more : (set : List ℕ) (n x k : ℕ) → AreLess set n k → slice_get set n ≡ Some x → x < k → AreLess set (n + 1) k
less_more set n x k less at lt j y below there = ⊎_elim
    (λ before. less j y before there)
    (λ past.
    let same : j ≡ n = omega arith in
    let one : slice_get set n ≡ Some y = subst (λ m. slice_get set m ≡ Some y) same there in
    let e = same_Some y x (sym one ∙ at) in
    omega arith)
    (cases_lt j n)

-- whether the number is in the set is seen at the first place that is not less
pub contained_here : (set : List ℕ) (n k : ℕ) → IsStrictlyIncreasing set → AreLess set n k → ((x : ℕ) → slice_get set n ≡ Some x → k ≤ x) → Contains set k → slice_get set n ≡ Some k
contained_here set n k rising less here h =
    let at = at_contained set k h in
    ⊎_elim
    (λ same. subst (λ m. slice_get set m ≡ Some k) same at.1)
    (λ o. ⊎_elim
    (λ before. absurd (let lt = less at.0 k before at.1 in omega arith))
    (λ after.
    let there = slice_get-get_or set n 0 (let w = slice_get_within set at.0 k at.1 in omega arith) in
    let up = rises_at set (AllPairs-from_increasing set rising) n at.0 (get_or set n 0) k after there at.1 in
    let le = here (get_or set n 0) there in
    absurd (omega arith))
    o)
    (cases_order at.0 n)

pub rest_later : (set from : List ℕ) (n i k : ℕ) → Rises from → slice_get from i ≡ Some k → AreLess set n k → AreLessThanRest set n from (i + 1)
rest_later set from n i k rises at less m q le there j x below here =
    let lt = less j x below here in
    let up = rises_at from rises i m k q (omega arith) at there in
    omega arith

pub rest_start : (set from : List ℕ) → AreLessThanRest set 0 from 0
rest_start set from m k le there j x below here = absurd (omega arith)

-- one hop more
module _ (set from to : List ℕ) (i a b : ℕ) (ha : slice_get from i ≡ Some a) (hb : slice_get to i ≡ Some b) where
  split : (k : ℕ) → IsReachedBelow set from to (i + 1) k → IsReachedBelow set from to i k ⊎ ((k ≡ b) × Contains set a)
  split k h = ⊎_elim
      (λ before. inl (h.0, h.1, before, h.3, h.4, h.5))
      (λ past.
      let less = h.2 in
      let same : h.0 ≡ i = omega arith in
      let e = same_Some h.1 a (sym (subst (λ m. slice_get from m ≡ Some h.1) same h.3) ∙ ha) in
      let f = same_Some k b (sym (subst (λ m. slice_get to m ≡ Some k) same h.4) ∙ hb) in
      inr (f, subst (Contains set) e h.5))
      (cases_lt h.0 i)

  before : (k : ℕ) → IsReachedBelow set from to i k → IsReachedBelow set from to (i + 1) k
  before k h = (h.0, h.1, (let less = h.2 in omega arith), h.3, h.4, h.5)

  pub reached_not : (out : List ℕ) → (Contains set a → ⊥) → AreReachedBelow set from to i out → AreReachedBelow set from to (i + 1) out
  reached_not out not are = rising_same (IsReachedBelow set from to i) (IsReachedBelow set from to (i + 1)) out are
      (λ k. (before k, λ h. ⊎_elim (λ l. l) (λ r. absurd (not r.1)) (split k h)))

  pub reached_more : (out new : List ℕ) → Rises to → Contains set a → new ≡ out ++ b ∷ [] → AreReachedBelow set from to i out → AreReachedBelow set from to (i + 1) new
  reached_more out new rises has is are = subst (λ (xs : List ℕ). AreReachedBelow set from to (i + 1) xs) (sym is)
      (rising_more (IsReachedBelow set from to i) (IsReachedBelow set from to (i + 1)) out b are
      (λ k h. rises_at to rises h.0 i k b h.2 h.4 hb)
      (λ k. ((λ h. ⊎_elim (λ l. inl l) (λ r. inr r.0) (split k h)), (λ h. ⊎_elim (λ l. before k l) (λ e. (i, a, omega arith, ha, subst (λ m. slice_get to i ≡ Some m) (sym e) hb, has)) h))))

pub reached_start : (set from to out : List ℕ) → out ≡ [] → AreReachedBelow set from to 0 out
reached_start set from to out e = subst (λ (xs : List ℕ). AreReachedBelow set from to 0 xs) (sym e) (rising_none (IsReachedBelow set from to 0) (λ k h. let less = h.2 in omega arith))

pub reached_end : (set from to out : List ℕ) (n : ℕ) → length from ≤ n → AreReachedBelow set from to n out → AreReached set from to out
reached_end set from to out n past are = rising_same (IsReachedBelow set from to n) (IsReachedBelow set from to (length from)) out are
    (λ k. (
      (λ h. (h.0, h.1, slice_get_within from h.0 h.1 h.3, h.3, h.4, h.5)),
      (λ h. (h.0, h.1, (let less = h.2 in omega arith), h.3, h.4, h.5)),
    ))

-- positions
pub positions_more : (n : ℕ) (ks new : List ℕ) → new ≡ ks ++ n ∷ [] → IsRisingListOf (λ k. k < n) ks → IsRisingListOf (λ k. k < n + 1) new
positions_more n ks new is are = subst (λ (xs : List ℕ). IsRisingListOf (λ k. k < n + 1) xs) (sym is)
    (rising_more (λ k. k < n) (λ k. k < n + 1) ks n are (λ k h. h)
    (λ k. ((λ h. ⊎_elim (λ less. inl less) (λ past. inr (omega arith)) (cases_lt k n)), (λ h. ⊎_elim (λ l. omega arith) (λ e. omega arith) h))))

pub positions_start : (ks : List ℕ) → ks ≡ [] → IsRisingListOf (λ k. k < 0) ks
positions_start ks e = subst (λ (xs : List ℕ). IsRisingListOf (λ k. k < 0) xs) (sym e) (rising_none (λ k. k < 0) (λ k h. omega arith))

pub positions_all : (n i : ℕ) (ks new : List ℕ) → i ≡ n → new ≡ ks ++ n ∷ [] → IsRisingListOf (λ k. k < i) ks → IsRisingListOf (λ k. k ≤ n) new
positions_all n i ks new e is are =
    rising_same (λ k. k < n + 1) (λ k. k ≤ n) new (positions_more n ks new is (subst (λ m. IsRisingListOf (λ k. k < m) ks) e are)) (λ k. ((λ h. omega arith), (λ h. omega arith)))
