-- The least of what does not answer as said, within a limit of its cost.
use Rattle.std.proofs.Common.{◌≡◌, ◌⊎◌, ◌↔◌, ℕ, ◌+◌, ◌-◌, ◌<◌, ◌≤◌, ◌^◌, List, length, Some, slice_get, inl, inr, refl, sym, ap, subst, ◌∙◌, arith}
use Rattle.std.specs.declared.cmp.Ordering.TheVariants.{Less}
use Rattle.std.specs.Ordering.{nat_cmp, ordering_then}
use Rattle.std.proofs.lemmas.Bool.{cases_lt}
use Rattle.fill_text.specs.Orders.{AtMost}
use Rattle.fill_tokens.specs.declared.prices.Prices.{Prices}
use Rattle.fill_tree.specs.Cost.{atom_cost, program_cost}
use Rattle.fill_tree.specs.Meaning.{program_tree}
use Rattle.fill_tree.specs.Order.{atoms_cmp, program_cmp, chain_rank}
use Rattle.fill_tree.specs.Tree.{AtomTree, Atoms, end, more}
use Rattle.fill_tree.proofs.Ranked.{ranked-less, ranked-less_is, ranked-equal_is}
use Rattle.fill_arena.specs.Contents.{SomeIn}
use Rattle.fill_arena.specs.Best.{IsBest}
use Rattle.fill_arena.specs.Contents.{SomeBelow}
use Rattle.fill_arena.proofs.Below.{none_below, below_split, below_left, below_here, some_below, some_in}
use Rattle.fill_arena.proofs.Best.{at_most-itself, at_most-trans, at_most-not_less, best_first, best_second}
use Rattle.fill_object.specs.Chains.{AreDearer, IsCopy, IsFound, IsLeastWithin, IsLed, IsLesser, IsNoDearer, limit_of}
use Rattle.fill_object.specs.Rests.{IsThen}
use Rattle.fill_tree.specs.declared.chain.Chain.{Chain}
use Rattle.fill_object.specs.declared.chain.Least.{Least}
use Rattle.fill_object.specs.declared.chain.Least.TheVariants.{Absent, Dearer, Found}
use Rattle.fill_object.proofs.Orders.{program-at_most, atom-itself}
use Rattle.fill_tree.proofs.ProgramOrder.{program_total, exact_programs}

pub program-itself : (prices : Prices) (p : Atoms) → AtMost (program_cmp prices p p)
program-itself prices p = at_most-itself (program_cmp prices) (program_total prices) (exact_programs prices) p

-- what is at most another costs no more
pub costs_at_most : (prices : Prices) (p q : Atoms) → AtMost (program_cmp prices p q) → program_cost prices p ≤ program_cost prices q
costs_at_most prices p q (inl less) = elim (ranked-less_is (program_cost prices p) (program_cost prices q) (atoms_cmp p q) less) [ inl lt ↦ omega arith | inr both ↦ let same = both.0 in omega arith ]
costs_at_most prices p q (inr equal) = let same = (ranked-equal_is (program_cost prices p) (program_cost prices q) (atoms_cmp p q) equal).0 in omega arith

cheaper_first : (prices : Prices) (p q : Atoms) → program_cost prices p < program_cost prices q → AtMost (program_cmp prices p q)
cheaper_first prices p q lt = inl (ranked-less (program_cost prices p) (program_cost prices q) (atoms_cmp p q) lt)

-- what the first has is of the second; what does not answer as said is at least something of the first
pub within_through : (prices : Prices) (limit : ℕ) (U S A : Atoms → Type 0) → ((p : Atoms) → U p → S p) →
    ((p : Atoms) → S p → (q : Atoms) × U q × AtMost (program_cmp prices q p) × (A q → A p)) → (o : Least) → IsLeastWithin prices limit U A o → IsLeastWithin prices limit S A o
within_through prices limit U S A from to Absent h = λ p s few. let q = to p s in let less = costs_at_most prices q.0 p q.2 in q.3 (h q.0 q.1 (omega arith))
within_through prices limit U S A from to Dearer h = ((h.0.0, from h.0.0 h.0.1, h.0.2), λ p s apart. let q = to p s in let less = costs_at_most prices q.0 p q.2 in let dear = h.1 q.0 q.1 (λ a. apart (q.3 a)) in omega arith)
within_through prices limit U S A from to (Found x) h = (
  h.0,
  h.1,
  record {
    has = (from (program_tree x.value.atoms) h.2.has.0, h.2.has.1);
    least = λ p s.
        let q = to p s.0 in
        at_most-trans (program_cmp prices) (program_total prices) (exact_programs prices) (program_tree x.value.atoms) q.0 p (h.2.least q.0 (q.1, λ a. s.1 (q.3 a))) q.2;
  },
)

pub within_same : (prices : Prices) (limit : ℕ) (U S A : Atoms → Type 0) → ((p : Atoms) → U p → S p) → ((p : Atoms) → S p → U p) → (o : Least) →
    IsLeastWithin prices limit U A o → IsLeastWithin prices limit S A o
within_same prices limit U S A from to o h = within_through prices limit U S A from (λ p s. (p, to p s, program-itself prices p, λ a. a)) o h

-- the lesser of two, of which the second is no dearer than the first
module _ (prices : Prices) (limit : ℕ) (P Q S A : Atoms → Type 0) (split : (p : Atoms) → S p → P p ⊎ Q p) (left : (p : Atoms) → P p → S p) (right : (p : Atoms) → Q p → S p) where
  abbrev Apart : (Atoms → Type 0) → Atoms → Type 0
  Apart W p = W p × ¬ (A p)

  split_apart : (p : Atoms) → Apart S p → Apart P p ⊎ Apart Q p
  split_apart p s = elim (split p s.0) [ inl h ↦ inl (h, s.1) | inr h ↦ inr (h, s.1) ]

  left_apart : (p : Atoms) → Apart P p → Apart S p
  left_apart p h = (left p h.0, h.1)

  right_apart : (p : Atoms) → Apart Q p → Apart S p
  right_apart p h = (right p h.0, h.1)

  both : ((p : Atoms) → P p → program_cost prices p ≤ limit → A p) → ((p : Atoms) → Q p → program_cost prices p ≤ limit → A p) → (p : Atoms) → S p → program_cost prices p ≤ limit → A p
  both h k p s few = elim (split p s) [ inl a ↦ h p a few | inr a ↦ k p a few ]

  beyond : (W : Atoms → Type 0) (most : ℕ) → ((p : Atoms) → W p → program_cost prices p ≤ most → A p) → (p : Atoms) → W p → ¬ (A p) → most < program_cost prices p
  beyond W most none p w apart = elim (cases_lt most (program_cost prices p)) [ inl dear ↦ dear | inr cheap ↦ absurd (apart (none p w cheap)) ]

  -- all that is beyond what the least costs is after it
  beside : (W : Atoms → Type 0) (x : Atoms) (most : ℕ) → program_cost prices x ≤ most → ((p : Atoms) → W p → ¬ (A p) → most < program_cost prices p) → (p : Atoms) → Apart W p → AtMost (program_cmp prices x p)
  beside W x most few dear p h = let lt = dear p h.0 h.1 in cheaper_first prices x p (omega arith)

  dearer : ((q : Atoms) × S q × ¬ (A q)) → ((p : Atoms) → P p → ¬ (A p) → limit < program_cost prices p) → ((p : Atoms) → Q p → ¬ (A p) → limit < program_cost prices p) → AreDearer prices limit S A
  dearer some h k = (some, λ p s apart. elim (split p s) [ inl f ↦ h p f apart | inr f ↦ k p f apart ])

  same_rank : (x y : Chain) → x.cost ≡ program_cost prices (program_tree x.atoms) → y.cost ≡ program_cost prices (program_tree y.atoms) →
      chain_rank x y ≡ program_cmp prices (program_tree x.atoms) (program_tree y.atoms)
  same_rank x y p q = ap (λ n. ordering_then (nat_cmp n y.cost) (atoms_cmp (program_tree x.atoms) (program_tree y.atoms))) p
      ∙ ap (λ n. ordering_then (nat_cmp (program_cost prices (program_tree x.atoms)) n) (atoms_cmp (program_tree x.atoms) (program_tree y.atoms))) q

  -- what was found of the second property, and nothing within the limit of the first
  second : (y : Chain) → y.cost ≡ program_cost prices (program_tree y.atoms) → y.cost ≤ limit → ((p : Atoms) → P p → ¬ (A p) → limit < program_cost prices p) →
      IsBest (program_cmp prices) (λ p. Q p × ¬ (A p)) (program_tree y.atoms) → IsBest (program_cmp prices) (λ p. S p × ¬ (A p)) (program_tree y.atoms)
  second y own most none best =
      let few : program_cost prices (program_tree y.atoms) ≤ limit = omega arith in
      record {
        has = right_apart (program_tree y.atoms) best.has;
        least = λ p s. elim (split_apart p s) [ inl f ↦ beside P (program_tree y.atoms) limit few none p f | inr f ↦ best.least p f ];
      }

  first : (x : Chain) → x.cost ≡ program_cost prices (program_tree x.atoms) → ((p : Atoms) → Q p → ¬ (A p) → x.cost < program_cost prices p) →
      IsBest (program_cmp prices) (λ p. P p × ¬ (A p)) (program_tree x.atoms) → IsBest (program_cmp prices) (λ p. S p × ¬ (A p)) (program_tree x.atoms)
  first x own none best =
      let few : program_cost prices (program_tree x.atoms) ≤ x.cost = omega arith in
      record {
        has = left_apart (program_tree x.atoms) best.has;
        least = λ p s. elim (split_apart p s) [ inl f ↦ best.least p f | inr f ↦ beside Q (program_tree x.atoms) x.cost few none p f ];
      }

  pub within_lesser : (a b r : Least) → IsLesser a b r → IsLeastWithin prices limit P A a → IsLeastWithin prices (limit_of a limit) Q A b → IsLeastWithin prices limit S A r
  within_lesser Absent Absent r is h k = subst (IsLeastWithin prices limit S A) (sym is) (both h k)
  within_lesser Absent Dearer r is h k = subst (IsLeastWithin prices limit S A) (sym is) (dearer (k.0.0, right k.0.0 k.0.1, k.0.2) (beyond P limit h) k.1)
  within_lesser Absent (Found y) r is h k = subst (IsLeastWithin prices limit S A) (sym is) (k.0, k.1, second y.value k.0 k.1 (beyond P limit h) k.2)
  within_lesser Dearer Absent r is h k = subst (IsLeastWithin prices limit S A) (sym is) (dearer (h.0.0, left h.0.0 h.0.1, h.0.2) h.1 (beyond Q limit k))
  within_lesser Dearer Dearer r is h k = subst (IsLeastWithin prices limit S A) (sym is) (dearer (h.0.0, left h.0.0 h.0.1, h.0.2) h.1 k.1)
  within_lesser Dearer (Found y) r is h k = subst (IsLeastWithin prices limit S A) (sym is) (k.0, k.1, second y.value k.0 k.1 h.1 k.2)
  within_lesser (Found x) Absent r is h k = subst (IsLeastWithin prices limit S A) (sym is) (h.0, h.1, first x.value h.0 (beyond Q x.value.cost k) h.2)
  within_lesser (Found x) Dearer r is h k = subst (IsLeastWithin prices limit S A) (sym is) (h.0, h.1, first x.value h.0 k.1 h.2)
  within_lesser (Found x) (Found y) r (inl is) h k =
      let less : program_cmp prices (program_tree y.value.atoms) (program_tree x.value.atoms) ≡ Less = sym (same_rank y.value x.value k.0 h.0) ∙ is.1 in
      let most = h.1 in
      let own = k.1 in
      let few : y.value.cost ≤ limit = omega arith in
      subst (IsLeastWithin prices limit S A) (sym is.0) (
        k.0,
        few,
        best_second (program_cmp prices) (program_total prices) (exact_programs prices) (Apart P) (Apart Q) (Apart S) split_apart right_apart
            (program_tree x.value.atoms) (program_tree y.value.atoms) h.2 k.2 (inl less),
      )
  within_lesser (Found x) (Found y) r (inr is) h k =
      let not : ¬ (program_cmp prices (program_tree y.value.atoms) (program_tree x.value.atoms) ≡ Less) = λ e. is.1 (same_rank y.value x.value k.0 h.0 ∙ e) in
      subst (IsLeastWithin prices limit S A) (sym is.0) (
        h.0,
        h.1,
        best_first (program_cmp prices) (program_total prices) (exact_programs prices) (Apart P) (Apart Q) (Apart S) split_apart left_apart
            (program_tree x.value.atoms) (program_tree y.value.atoms) h.2 k.2
            (at_most-not_less (program_cmp prices) (program_total prices) (exact_programs prices) (program_tree x.value.atoms) (program_tree y.value.atoms) not),
      )

-- one item after the other
module _ (prices : Prices) (limit : ℕ) {X : Type 0} (F : X → Atoms → Type 0) (A : Atoms → Type 0) (xs : List X) where
  -- of one of the first items
  abbrev pub Upto : ℕ → Atoms → Type 0
  Upto i p = SomeBelow i xs (λ x. F x p)

  pub upto_none : IsLeastWithin prices limit (λ p. SomeBelow 0 xs (λ x. F x p)) A Absent
  upto_none p h few = absurd (none_below F xs p h)

  pub upto_more : (i : ℕ) (x : X) → slice_get xs i ≡ Some x → (a b r : Least) → IsLesser a b r →
      IsLeastWithin prices limit (λ p. SomeBelow i xs (λ y. F y p)) A a → IsLeastWithin prices (limit_of a limit) (F x) A b → IsLeastWithin prices limit (λ p. SomeBelow (i + 1) xs (λ y. F y p)) A r
  upto_more i x at a b r is h k =
      within_lesser prices limit (Upto i) (F x) (Upto (i + 1)) A (below_split F xs i x at) (below_left F xs i) (below_here F xs i x at) a b r is h k

  pub upto_done : (i : ℕ) → length xs ≤ i → (o : Least) → IsLeastWithin prices limit (λ p. SomeBelow i xs (λ x. F x p)) A o → IsLeastWithin prices limit (λ p. SomeIn (λ x. F x p) xs) A o
  upto_done i past o h = within_same prices limit (Upto i) (λ p. SomeIn (λ x. F x p) xs) A (some_in F xs i) (some_below F xs i past) o h

-- what was found within one limit, within another one
pub no_dearer : (prices : Prices) (most limit : ℕ) (W A : Atoms → Type 0) (o r : Least) → IsNoDearer o limit r → (limit ≤ most) ⊎ IsFound o → IsLeastWithin prices most W A o → IsLeastWithin prices limit W A r
no_dearer prices most limit W A Absent r is (inl le) h = subst (IsLeastWithin prices limit W A) (sym is) (λ p w few. h p w (omega arith))
no_dearer prices most limit W A Absent r is (inr found) h = absurd found
no_dearer prices most limit W A Dearer r is (inl le) h = subst (IsLeastWithin prices limit W A) (sym is) (h.0, λ p w apart. let dear = h.1 p w apart in omega arith)
no_dearer prices most limit W A Dearer r is (inr found) h = absurd found
no_dearer prices most limit W A (Found x) r (inl is) le h = subst (IsLeastWithin prices limit W A) (sym is.0) (h.0, is.1, h.2)
no_dearer prices most limit W A (Found x) r (inr is) le h =
    let own = h.0 in
    let dear = is.1 in
    subst (IsLeastWithin prices limit W A) (sym is.0)
    ((program_tree x.value.atoms, h.2.has.0, h.2.has.1), λ p w apart. let less = costs_at_most prices (program_tree x.value.atoms) p (h.2.least p (w, apart)) in omega arith)

-- a copy
pub copied_within : (prices : Prices) (limit : ℕ) (W A : Atoms → Type 0) (o q : Least) → IsCopy o q → IsLeastWithin prices limit W A q → IsLeastWithin prices limit W A o
copied_within prices limit W A Absent Absent is h = h
copied_within prices limit W A Absent Dearer is h = absurd is
copied_within prices limit W A Absent (Found y) is h = absurd is
copied_within prices limit W A Dearer Absent is h = absurd is
copied_within prices limit W A Dearer Dearer is h = h
copied_within prices limit W A Dearer (Found y) is h = absurd is
copied_within prices limit W A (Found x) Absent is h = absurd is
copied_within prices limit W A (Found x) Dearer is h = absurd is
copied_within prices limit W A (Found x) (Found y) is h =
    subst (λ (z : Chain). (z.cost ≡ program_cost prices (program_tree z.atoms)) × (z.cost ≤ limit) × IsBest (program_cmp prices) (λ p. W p × ¬ (A p)) (program_tree z.atoms)) (sym is) h

pub copied_found : (o q : Least) → IsCopy o q → IsFound q → IsFound o
copied_found Absent Absent is found = absurd found
copied_found Absent Dearer is found = absurd found
copied_found Absent (Found y) is found = absurd is
copied_found Dearer Absent is found = absurd found
copied_found Dearer Dearer is found = absurd found
copied_found Dearer (Found y) is found = absurd is
copied_found (Found x) q is found = tt

pub found_within : (prices : Prices) (within limit : ℕ) (W A : Atoms → Type 0) (o : Least) → IsFound o → within ≤ limit → IsLeastWithin prices within W A o → IsLeastWithin prices limit W A o
found_within prices within limit W A Absent found le h = absurd found
found_within prices within limit W A Dearer found le h = absurd found
found_within prices within limit W A (Found x) found le h = let most = h.1 in (h.0, omega arith, h.2)

-- an atom before rests
module _ (prices : Prices) (a : AtomTree) (T B A : Atoms → Type 0) (limit : ℕ) where
  abbrev One : AtomTree → Type 0
  One b = b ≡ a

  -- the atom alone is dearer than the limit
  pub then_dear : limit < prices.atom + atom_cost prices a → IsLeastWithin prices limit (IsThen (λ b. b ≡ a) T) A Absent
  then_dear dear end h few = absurd h
  then_dear dear (more b q) h few =
      let own : prices.atom + atom_cost prices b ≡ prices.atom + atom_cost prices a = ap (λ x. prices.atom + atom_cost prices x) h.0 in
      absurd (omega arith)

  -- the atom goes with no rest
  pub then_never : ((q : Atoms) → A (more a q)) → IsLeastWithin prices limit (IsThen (λ b. b ≡ a) T) A Absent
  then_never all end h few = absurd h
  then_never all (more b q) h few = subst (λ x. A (more x q)) (sym h.0) (all q)

  module _ (same : (q : Atoms) → B q ↔ A (more a q)) (left : ℕ) (adds : left + (prices.atom + atom_cost prices a) ≡ limit) where
    pub then_none : IsLeastWithin prices left T B Absent → IsLeastWithin prices limit (IsThen (λ b. b ≡ a) T) A Absent
    then_none none end h few = absurd h
    then_none none (more b q) h few =
        let own : prices.atom + atom_cost prices b ≡ prices.atom + atom_cost prices a = ap (λ x. prices.atom + atom_cost prices x) h.0 in
        let less : program_cost prices q ≤ left = omega arith in
        subst (λ x. A (more x q)) (sym h.0) ((same q).0 (none q h.1 less))

    pub then_dearer : IsLeastWithin prices left T B Dearer → IsLeastWithin prices limit (IsThen (λ b. b ≡ a) T) A Dearer
    then_dearer h = ((more a h.0.0, (refl, h.0.1), λ agrees. h.0.2 ((same h.0.0).1 agrees)), beyond_left)
      where
        beyond_left : (p : Atoms) → IsThen One T p → ¬ (A p) → limit < program_cost prices p
        beyond_left end w apart = absurd w
        beyond_left (more b q) w apart =
            let own : prices.atom + atom_cost prices b ≡ prices.atom + atom_cost prices a = ap (λ x. prices.atom + atom_cost prices x) w.0 in
            let dear = h.1 q w.1 (λ agrees. apart (subst (λ x. A (more x q)) (sym w.0) ((same q).0 agrees))) in
            omega arith

    pub then_some : (x made : Chain) → program_tree made.atoms ≡ more a (program_tree x.atoms) → made.cost + left ≡ limit + x.cost →
        (x.cost ≡ program_cost prices (program_tree x.atoms)) × (x.cost ≤ left) × IsBest (program_cmp prices) (λ p. T p × ¬ (B p)) (program_tree x.atoms) →
        (made.cost ≡ program_cost prices (program_tree made.atoms)) × (made.cost ≤ limit) × IsBest (program_cmp prices) (λ p. IsThen (λ b. b ≡ a) T p × ¬ (A p)) (program_tree made.atoms)
    then_some x made is cost best =
        let own = best.0 in
        let few = best.1 in
        let whole : program_cost prices (program_tree made.atoms) ≡ prices.atom + atom_cost prices a + program_cost prices (program_tree x.atoms) = ap (program_cost prices) is in (
          omega arith,
          omega arith,
          subst (IsBest (program_cmp prices) (λ p. IsThen One T p × ¬ (A p))) (sym is)
              (record { has = ((refl, best.2.has.0), λ h. best.2.has.1 ((same (program_tree x.atoms)).1 h)); least = least }),
        )
      where
        least : (p : Atoms) → IsThen One T p × ¬ (A p) → AtMost (program_cmp prices (more a (program_tree x.atoms)) p)
        least end h = absurd h.0
        least (more b q) h =
            let apart : ¬ (A (more a q)) = subst (λ c. ¬ (A (more c q))) h.0.0 h.1 in
            subst (λ c. AtMost (program_cmp prices (more a (program_tree x.atoms)) (more c q))) (sym h.0.0)
            (program-at_most prices a a (program_tree x.atoms) q (atom-itself prices a) (best.2.least q (h.0.1, λ b. apart ((same q).0 b))))

    -- what was found of the rests, after the atom
    pub then_led : limit < 2 ^ 64 → (o r : Least) → IsLed a (limit - left) o r → IsLeastWithin prices left T B o → IsLeastWithin prices limit (IsThen (λ b. b ≡ a) T) A r
    then_led small Absent r is h = subst (IsLeastWithin prices limit (IsThen (λ b. b ≡ a) T) A) (sym is) (then_none h)
    then_led small Dearer r is h = subst (IsLeastWithin prices limit (IsThen (λ b. b ≡ a) T) A) (sym is) (then_dearer h)
    then_led small (Found x) Absent is h = absurd is
    then_led small (Found x) Dearer is h = absurd is
    then_led small (Found x) (Found y) is h =
        let few = h.1 in
        let sum : y.value.cost ≡ limit - left + x.value.cost = is.1 (omega arith) in
        then_some x.value y.value is.0 (omega arith) h
