-- What is taken in among the first of a property: more of it, one item, what two parts make, and the items of a list.
use Rattle.std.proofs.Common.{◌≡◌, ◌⊎◌, ℕ, ◌+◌, ◌<◌, ◌≤◌, ◌^◌, inl, inr, List, [], ◌∷◌, length, Some, slice_get, refl, sym, ap, subst, ◌∙◌, arith}
use Rattle.std.specs.Prelude.{Contains}
use Rattle.std.specs.Cmp.{IsTotalOrder}
use Rattle.std.specs.declared.cmp.Ordering.{Ordering}
use Rattle.std.specs.Ordering.{ordering_then}
use Rattle.std.proofs.lemmas.Map.Lookups.{CmpEqualImpliesEq}
use Rattle.fill_arena.specs.Contents.{SomeIn}
use Rattle.fill_arena.specs.Contents.{SomeBelow}
use Rattle.fill_arena.proofs.Below.{none_below, below_split, below_left, below_here, some_below, some_in}
use Rattle.fill_best.specs.Cheapest.{Priced, AreCheapest, TakesIn}
use Rattle.fill_best.specs.Costs.{by_cost, linked}
use Rattle.fill_best.specs.First.{Rises, AreFirst, IsMade}
use Rattle.fill_best.specs.declared.costed.Costed.{Costed}
use Rattle.fill_best.proofs.Costs.{by_cost-total, by_cost-exact, linked-first, linked-second}
use Rattle.fill_best.proofs.Firsts.{first_joined, first_same, first_made, first_none}
use Rattle.fill_best.proofs.Items.{none_in, here, which}

module _ {A : Type 0} (cost : A → ℕ) (cmp : A → A → Ordering) (total : IsTotalOrder cmp) (exact : CmpEqualImpliesEq cmp) (k : ℕ) where
  same : (C D : Costed A → Type 0) (xs : List (Costed A)) → ((z : Costed A) → C z → D z) → ((z : Costed A) → D z → C z) → AreFirst (by_cost cmp) C k xs → AreFirst (by_cost cmp) D k xs
  same C D xs to from first = first_same (by_cost cmp) (by_cost-total cmp total) (by_cost-exact cmp exact) C k xs first D to from

  joined : (C D : Costed A → Type 0) (old new : List (Costed A)) → AreFirst (by_cost cmp) C k old → AreFirst (by_cost cmp) (λ z. Contains old z ⊎ D z) k new → AreFirst (by_cost cmp) (λ z. C z ⊎ D z) k new
  joined C D old new = first_joined (by_cost cmp) (by_cost-total cmp total) (by_cost-exact cmp exact) C D k old new

  pub cheapest_same : (P S : A → Type 0) (xs : List (Costed A)) → ((a : A) → P a → S a) → ((a : A) → S a → P a) → AreCheapest cost cmp P k xs → AreCheapest cost cmp S k xs
  cheapest_same P S xs to from = same (Priced cost P) (Priced cost S) xs (λ z p. (p.0, to z.item p.1)) (λ z s. (s.0, from z.item s.1))

  pub takes_same : (P S : A → Type 0) (old new : List (Costed A)) → ((a : A) → P a → S a) → ((a : A) → S a → P a) → TakesIn cost cmp P k old new → TakesIn cost cmp S k old new
  takes_same P S old new to from =
      same (λ z. Contains old z ⊎ Priced cost P z) (λ z. Contains old z ⊎ Priced cost S z) new
      (λ z h. elim h [ inl c ↦ inl c | inr p ↦ inr (p.0, to z.item p.1) ])
      (λ z h. elim h [ inl c ↦ inl c | inr s ↦ inr (s.0, from z.item s.1) ])

  pub takes_none : (P : A → Type 0) (old : List (Costed A)) → ((a : A) → ¬ (P a)) → Rises (by_cost cmp) old → length old ≤ k → TakesIn cost cmp P k old old
  takes_none P old none rising few = record { rising = rising; have = λ x c. inl c; few = few; others = λ z h. elim h [ inl c ↦ inl c | inr p ↦ absurd (none z.item p.1) ] }

  pub takes_more : (P Q S : A → Type 0) (old mid new : List (Costed A)) → ((a : A) → P a → S a) → ((a : A) → Q a → S a) → ((a : A) → S a → P a ⊎ Q a) →
      TakesIn cost cmp P k old mid → TakesIn cost cmp Q k mid new → TakesIn cost cmp S k old new
  takes_more P Q S old mid new left right split first second =
      same (λ z. (Contains old z ⊎ Priced cost P z) ⊎ Priced cost Q z) (λ z. Contains old z ⊎ Priced cost S z) new
      (λ z h. elim h [ inl o ↦ elim o [ inl c ↦ inl c | inr p ↦ inr (p.0, left z.item p.1) ] | inr q ↦ inr (q.0, right z.item q.1) ])
      (λ z h. elim h [ inl c ↦ inl (inl c) | inr s ↦ elim (split z.item s.1) [ inl p ↦ inl (inr (s.0, p)) | inr q ↦ inr (s.0, q) ] ])
      (joined (λ z. Contains old z ⊎ Priced cost P z) (Priced cost Q) mid new first second)

  pub takes_after : (P Q S : A → Type 0) (old new : List (Costed A)) → ((a : A) → P a → S a) → ((a : A) → Q a → S a) → ((a : A) → S a → P a ⊎ Q a) →
      AreCheapest cost cmp P k old → TakesIn cost cmp Q k old new → AreCheapest cost cmp S k new
  takes_after P Q S old new left right split first second =
      same (λ z. Priced cost P z ⊎ Priced cost Q z) (Priced cost S) new
      (λ z h. elim h [ inl p ↦ (p.0, left z.item p.1) | inr q ↦ (q.0, right z.item q.1) ])
      (λ z s. elim (split z.item s.1) [ inl p ↦ inl (s.0, p) | inr q ↦ inr (s.0, q) ])
      (joined (Priced cost P) (Priced cost Q) old new first second)

  pub takes_all : (P : A → Type 0) (old new : List (Costed A)) → old ≡ [] → TakesIn cost cmp P k old new → AreCheapest cost cmp P k new
  takes_all P old new empty =
      same (λ z. Contains old z ⊎ Priced cost P z) (Priced cost P) new
      (λ z h. elim h [ inl c ↦ absurd (none_in z (subst (λ l. Contains l z) empty c)) | inr p ↦ p ])
      (λ z p. inr p)

  pub takes_one : (a : A) (n : ℕ) (old new : List (Costed A)) → n ≡ cost a → AreFirst (by_cost cmp) (λ z. Contains old z ⊎ (z ≡ record { cost = n; item = a })) k new →
      TakesIn cost cmp (λ b. a ≡ b) k old new
  takes_one a n old new paid =
      same (λ z. Contains old z ⊎ (z ≡ record { cost = n; item = a })) (λ z. Contains old z ⊎ Priced cost (λ b. a ≡ b) z) new
      (λ z h. elim h [ inl c ↦ inl c | inr e ↦ inr ((ap (λ (y : Costed A). y.cost) e ∙ paid ∙ ap cost (sym (ap (λ (y : Costed A). y.item) e)), sym (ap (λ (y : Costed A). y.item) e))) ])
      (λ z h. elim h [
        | inl c ↦ inl c
        | inr p ↦
            let costs : z.cost ≡ n = p.0 ∙ ap cost (sym p.1) ∙ sym paid in
            let items : z.item ≡ a = sym p.1 in
            inr (λ i. record { cost = costs i; item = items i })
      ])

  pub cheapest_none : (P : A → Type 0) → ((a : A) → ¬ (P a)) → AreCheapest cost cmp P k []
  cheapest_none P none = first_none (by_cost cmp) (by_cost-total cmp total) (by_cost-exact cmp exact) (Priced cost P) k (λ z p. none z.item p.1)

  pub cheapest_one : (P : A → Type 0) (a : A) (n : ℕ) → 1 ≤ k → n ≡ cost a → P a → ((b : A) → P b → a ≡ b) → AreCheapest cost cmp P k (record { cost = n; item = a } ∷ [])
  cheapest_one P a n some paid p only = record {
    rising = λ i j d l w. absurd (omega arith);
    have = λ z c. elim (which (record { cost = n; item = a }) [] z c) [
      | inl e ↦ subst (Priced cost P) e (paid, p)
      | inr d ↦ absurd (none_in z d)
    ];
    few = some;
    others = λ z q.
        let items : a ≡ z.item = only z.item q.1 in
        let costs : n ≡ z.cost = paid ∙ ap cost items ∙ sym q.0 in
        let all : record { cost = n; item = a } ≡ z = (λ i. record { cost = costs i; item = items i }) in
        inl (subst (Contains (record { cost = n; item = a } ∷ [])) all (here (record { cost = n; item = a }) []));
  }

  -- the items of a list, one after the other
  module _ {X : Type 0} (F : X → A → Type 0) (items : List X) where
    abbrev Below : ℕ → A → Type 0
    Below i a = SomeBelow i items (λ y. F y a)

    pub scan_none : (old : List (Costed A)) → Rises (by_cost cmp) old → length old ≤ k → TakesIn cost cmp (Below 0) k old old
    scan_none old = takes_none (Below 0) old (none_below F items)

    pub scan_more : (i : ℕ) (x : X) (old mid new : List (Costed A)) → slice_get items i ≡ Some x → TakesIn cost cmp (Below i) k old mid → TakesIn cost cmp (F x) k mid new →
        TakesIn cost cmp (Below (i + 1)) k old new
    scan_more i x old mid new at = takes_more (Below i) (F x) (Below (i + 1)) old mid new (below_left F items i) (below_here F items i x at) (below_split F items i x at)

    pub scan_done : (S : A → Type 0) (i : ℕ) (old new : List (Costed A)) → ((a : A) → S a → SomeIn (λ y. F y a) items) → ((a : A) → SomeIn (λ y. F y a) items → S a) →
        length items ≤ i → TakesIn cost cmp (Below i) k old new → TakesIn cost cmp S k old new
    scan_done S i old new to from past = takes_same (Below i) S old new (λ a h. from a (some_in F items i a h)) (λ a s. some_below F items i past a (to a s))

-- what two parts make, each of a property
module _ {A B D : Type 0} (R : A → A → Ordering) (S : B → B → Ordering) (T : D → D → Ordering) (totals : IsTotalOrder R × IsTotalOrder S × IsTotalOrder T) (exact : CmpEqualImpliesEq T)
    (make : A → B → D) (by_parts : (a b : A) (c d : B) → T (make a c) (make b d) ≡ ordering_then (R a b) (S c d)) (link : ℕ)
    (first_cost : A → ℕ) (second_cost : B → ℕ) (whole_cost : D → ℕ) (P : A → Type 0) (Q : B → Type 0) (W : D → Type 0)
    (to : (a : A) (b : B) → P a → Q b → W (make a b)) (from : (d : D) → W d → IsMade make P Q d)
    (adds : (a : A) (b : B) → P a → Q b → whole_cost (make a b) ≡ link + first_cost a + second_cost b) (k : ℕ) (xs : List (Costed A)) (ys : List (Costed B))
    (firsts : AreCheapest first_cost R P k xs) (seconds : AreCheapest second_cost S Q k ys) where
  made_priced : (z : Costed D) → IsMade (linked make link) (Priced first_cost P) (Priced second_cost Q) z → Priced whole_cost W z
  made_priced z m =
      let x = m.0 in
      let y = m.1 in
      let costs : link + x.cost + y.cost ≡ whole_cost (make x.item y.item) =
      ap (λ n. link + n + y.cost) m.2.0 ∙ ap (λ n. link + first_cost x.item + n) m.3.0 ∙ sym (adds x.item y.item m.2.1 m.3.1) in
      subst (Priced whole_cost W) m.4 (costs, to x.item y.item m.2.1 m.3.1)

  priced_made : (z : Costed D) → Priced whole_cost W z → IsMade (linked make link) (Priced first_cost P) (Priced second_cost Q) z
  priced_made z p =
      let m = from z.item p.1 in
      let costs : link + first_cost m.0 + second_cost m.1 ≡ z.cost = sym (adds m.0 m.1 m.2 m.3) ∙ ap whole_cost m.4 ∙ sym p.0 in
      let items : make m.0 m.1 ≡ z.item = m.4 in
      (record { cost = first_cost m.0; item = m.0 }, record { cost = second_cost m.1; item = m.1 }, (refl, m.2), (refl, m.3), λ i. record { cost = costs i; item = items i })

  pub first_of_made : (C : Costed D → Type 0) (zs : List (Costed D)) → AreFirst (by_cost T) (λ z. C z ⊎ IsMade (linked make link) (Contains xs) (Contains ys) z) k zs →
      AreFirst (by_cost T) (λ z. C z ⊎ Priced whole_cost W z) k zs
  first_of_made C zs made =
      let total = by_cost-total T totals.2 in
      let apart = by_cost-exact T exact in
      let all =
      first_made (by_cost R) (by_cost S) (by_cost T) total apart (linked make link) (linked-first R S T make by_parts link totals.1) (linked-second R S T make by_parts link totals.0)
      C (Priced first_cost P) (Priced second_cost Q) k xs ys zs firsts seconds made in
      first_same (by_cost T) total apart (λ z. C z ⊎ IsMade (linked make link) (Priced first_cost P) (Priced second_cost Q) z) k zs all (λ z. C z ⊎ Priced whole_cost W z)
      (λ z h. elim h [ inl c ↦ inl c | inr m ↦ inr (made_priced z m) ])
      (λ z h. elim h [ inl c ↦ inl c | inr p ↦ inr (priced_made z p) ])

  -- what is made costs less than 2^64
  pub made_cheap : ((d : D) → W d → whole_cost d < 2 ^ 64) → (x : Costed A) (y : Costed B) → Contains xs x → Contains ys y → link + x.cost + y.cost < 2 ^ 64
  made_cheap cheap x y c d =
      let z : Costed D = linked make link x y in
      let p = made_priced z (x, y, firsts.have x c, seconds.have y d, refl) in
      subst (λ n. n < 2 ^ 64) (sym p.0) (cheap z.item p.1)

-- two properties after each other
pub two_joined : {A : Type 0} (R : A → A → Ordering) (total : IsTotalOrder R) (exact : CmpEqualImpliesEq R) (k : ℕ) (P Q : A → Type 0) (old mid new : List A) → old ≡ [] →
    AreFirst R (λ z. Contains old z ⊎ P z) k mid → AreFirst R (λ z. Contains mid z ⊎ Q z) k new → AreFirst R (λ z. P z ⊎ Q z) k new
two_joined R total exact k P Q old mid new empty first second =
    first_joined R total exact P Q k mid new
    (first_same R total exact (λ z. Contains old z ⊎ P z) k mid first P
    (λ z h. elim h [ inl c ↦ absurd (none_in z (subst (λ l. Contains l z) empty c)) | inr p ↦ p ]) (λ z p. inr p)) second
