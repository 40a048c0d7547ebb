-- The index follows the entries as they grow and are cut.
use Rattle.std.proofs.Common.{◌≡◌, ℕ, zero, suc, ◌<◌, inl, inr, List, [], ◌∷◌, ◌++◌, length, take, Bool, true, false, ◌||◌, ◌&&◌, nat_eq, cond, rules, Option, Some, None, slice_get, get_or, refl, sym, ap, ◌∙◌, subst, arith, length-append}
use Rattle.std.specs.Option.{MatchOption, is_some}
use Rattle.std.specs.List.{list_any, position}
use Rattle.std.proofs.lemmas.Bool.{cases_lt, false≢true}
use Rattle.std.proofs.lemmas.List.Quantifiers.{position-Some}
use Rattle.std.proofs.lemmas.Option.{slice_get_within}
use Rattle.fill_arena.specs.Contents.{In, Extends, IsAbsent, AreDistinct, Interns}
use Rattle.fill_arena.specs.Hash.{entry_hash}
use Rattle.fill_arena.specs.Index.{IsIndexed, IsFree, AreTaken, slot_at}
use Rattle.fill_arena.specs.declared.entry.Entry.{Entry}
use Rattle.fill_arena.specs.declared.index.Slot.{Slot}
use Rattle.fill_arena.proofs.Lists.{get_left, get_last, get_pushed, get_taken, get_of_taken, get_there, extends_same, extends_pushed}
use Rattle.fill_arena.proofs.Scan.{here}

-- looking for a key that is alike to itself and to nothing else
module _ {K : Type 0} (eq : K → K → Bool) (exact : (a b : K) → eq a b ≡ true → a ≡ b) (own : (a : K) → eq a a ≡ true) where
  any_step : (x : K) (ks : List K) (k : K) → (list_any (eq k) ks ≡ true → In k ks) → (b : Bool) → eq k x ≡ b → list_any (eq k) (x ∷ ks) ≡ true → In k (x ∷ ks)
  any_step x ks k rest true e h = let same = exact k x e in (0, ap Some (sym same))
  any_step x ks k rest false e h = let there = rest (subst (λ b. (b || list_any (eq k) ks) ≡ true) e h) in (suc there.0, there.1)

  any_in : (ks : List K) (k : K) → list_any (eq k) ks ≡ true → In k ks
  any_in [] k h = absurd (false≢true h)
  any_in (x ∷ ks) k h = any_step x ks k (λ r. any_in ks k r) (eq k x) refl h

  or_true : (b d : Bool) → d ≡ true → (b || d) ≡ true
  or_true true d h = refl
  or_true false d h = h

  in_any : (ks : List K) (k : K) (n : ℕ) → slice_get ks n ≡ Some k → list_any (eq k) ks ≡ true
  in_any [] k n h = absurd cc
  in_any (x ∷ ks) k zero h = let same : k ≡ x = cc in subst (λ (b : Bool). (b || list_any (eq k) ks) ≡ true) (sym (subst (λ y. eq k y ≡ true) same (own k))) refl
  in_any (x ∷ ks) k (suc n) h = or_true (eq k x) (list_any (eq k) ks) (in_any ks k n h)

  pub none_any : (ks : List K) (k : K) → (In k ks → ⊥) → list_any (eq k) ks ≡ false
  none_any ks k none = pick (list_any (eq k) ks) refl
    where
      pick : (b : Bool) → list_any (eq k) ks ≡ b → list_any (eq k) ks ≡ false
      pick true e = absurd (none (any_in ks k e))
      pick false e = e

  pub number_right : (ks : List K) (k : K) (o : Option ℕ) → o ≡ position (eq k) ks → is_some o ≡ list_any (eq k) ks → MatchOption o (In k ks → ⊥) (λ n. slice_get ks n ≡ Some k)
  number_right ks k None is found = λ there. false≢true (found ∙ in_any ks k there.0 there.1)
  number_right ks k (Some n) is found =
      let at = position-Some (eq k) ks n k (sym is) in
      here ks n k at.0 (exact k (get_or ks n k) at.1)

taken_lengths : {A B : Type 0} (m : ℕ) (xs : List A) (ys : List B) → length xs ≡ length ys → length (take m ys) ≡ length (take m xs)
taken_lengths zero xs ys e = refl
taken_lengths (suc m) [] [] e = refl
taken_lengths (suc m) [] (y ∷ ys) e = absurd (omega arith)
taken_lengths (suc m) (x ∷ xs) [] e = absurd (omega arith)
taken_lengths (suc m) (x ∷ xs) (y ∷ ys) e = ap suc (taken_lengths m xs ys (omega arith))

-- two slots are one where the hash and the turn are
abbrev pub slot_eq : Slot → Slot → Bool
slot_eq x y = nat_eq x.hash y.hash && nat_eq x.turn y.turn

slot_parts : (x y : Slot) → slot_eq x y ≡ true → (x.hash ≡ y.hash) × (x.turn ≡ y.turn)
slot_parts x y h = search rules

pub slot_same : (x y : Slot) → slot_eq x y ≡ true → x ≡ y
slot_same x y h = let p = slot_parts x y h in ap (λ n. slot_at n x.turn) p.0 ∙ ap (λ t. slot_at y.hash t) p.1

pub slot_own : (x : Slot) → slot_eq x x ≡ true
slot_own x = search rules

-- a key that was not there goes last
pub inserted : (ks new : List Slot) (k : Slot) → (In k ks → ⊥) → new ≡ cond (list_any (slot_eq k) ks) ks (ks ++ k ∷ []) → new ≡ ks ++ k ∷ []
inserted ks new k none h = h ∙ ap (λ b. cond b ks (ks ++ k ∷ [])) (none_any slot_eq slot_same slot_own ks k none)

pub indexed_nil : IsIndexed [] []
indexed_nil = record {
  long = refl;
  hashed = λ n e s h. absurd cc;
  closed = λ n s h. absurd cc;
  once = λ m n s h. absurd cc;
}

pub distinct_nil : AreDistinct []
distinct_nil m n e h = absurd cc

pub distinct_pushed : (c : List Entry) (e : Entry) → AreDistinct c → IsAbsent c e → AreDistinct (c ++ e ∷ [])
distinct_pushed c e apart absent m n x first second = elim (get_pushed c e m x first) [
  | inl a ↦ elim (get_pushed c e n x second) [
    | inl b ↦ apart m n x a.1 b.1
    | inr b ↦ absurd (absent m (a.1 ∙ ap Some (sym b.1)))
  ]
  | inr a ↦ elim (get_pushed c e n x second) [
    | inl b ↦ absurd (absent n (b.1 ∙ ap Some (sym a.1)))
    | inr b ↦ a.0 ∙ sym b.0
  ]
]

pub distinct_taken : (c : List Entry) (m : ℕ) → AreDistinct c → AreDistinct (take m c)
distinct_taken c m apart j k e first second = apart j k e (get_of_taken m c j e first).1 (get_of_taken m c k e second).1

module _ (c : List Entry) (slots : List Slot) (is : IsIndexed c slots) where
  pub indexed_taken : (m : ℕ) → IsIndexed (take m c) (take m slots)
  indexed_taken m = record {
    long = taken_lengths m c slots (sym is.long);
    hashed = λ n e s first second. is.hashed n e s (get_of_taken m c n e first).1 (get_of_taken m slots n s second).1;
    closed = λ n s h t less.
        let there = get_of_taken m slots n s h in
        let before = is.closed n s there.1 t less in
        let lt = there.0 in
        let older = before.1 in
        (before.0, older, get_taken m slots before.0 (omega arith) ∙ before.2);
    once = λ j k s first second. is.once j k s (get_of_taken m slots j s first).1 (get_of_taken m slots k s second).1;
  }

  pub indexed_pushed : (e : Entry) (s : Slot) → IsFree c slots e s → IsIndexed (c ++ e ∷ []) (slots ++ s ∷ [])
  indexed_pushed e s free = record {
    long = (let same = is.long in rw (length-append slots (s ∷ []), length-append c (e ∷ [])) (omega arith));
    hashed = λ n x y first second. elim (get_pushed c e n x first) [
      | inl a ↦ elim (get_pushed slots s n y second) [
        | inl b ↦ is.hashed n x y a.1 b.1
        | inr b ↦ let l = a.0 in let r = b.0 in let same = is.long in absurd (omega arith)
      ]
      | inr a ↦ elim (get_pushed slots s n y second) [
        | inl b ↦ let l = a.0 in let r = b.0 in let same = is.long in absurd (omega arith)
        | inr b ↦ subst (λ (z : Slot). z.hash ≡ entry_hash x) b.1 (free.hash ∙ ap entry_hash a.1)
      ]
    ];
    closed = λ n y h t less. elim (get_pushed slots s n y h) [
      | inl a ↦
          let lt = a.0 in
          let before = is.closed n y a.1 t less in
          let older = before.1 in
          (before.0, older, get_left slots (s ∷ []) before.0 (omega arith) ∙ before.2)
      | inr b ↦
          let there = free.closed t (subst (λ (z : Slot). t < z.turn) (sym b.1) less) in
          let within = slice_get_within slots there.0 (slot_at s.hash t) there.1 in
          let last = b.0 in
          (there.0, omega arith, get_left slots (s ∷ []) there.0 within ∙ there.1 ∙ ap (λ (z : Slot). Some (slot_at z.hash t)) b.1)
    ];
    once = λ m n y first second. elim (get_pushed slots s m y first) [
      | inl a ↦ elim (get_pushed slots s n y second) [
        | inl b ↦ is.once m n y a.1 b.1
        | inr b ↦ absurd (free.fresh (m, a.1 ∙ ap Some (sym b.1)))
      ]
      | inr a ↦ elim (get_pushed slots s n y second) [
        | inl b ↦ absurd (free.fresh (n, b.1 ∙ ap Some (sym a.1)))
        | inr b ↦ a.0 ∙ sym b.0
      ]
    ];
  }

  -- where all slots of a hash before a turn are taken by other entries, and that of the turn is not, the entry has no number
  pub free_here : (e : Entry) (turn : ℕ) → AreTaken c slots e (entry_hash e) turn → (In (slot_at (entry_hash e) turn) slots → ⊥) → IsFree c slots e (slot_at (entry_hash e) turn)
  free_here e turn taken none = record {
    absent = λ n at.
        let within = slice_get_within c n e at in
        let long = is.long in
        let own = get_there slots n (omega arith) in
        let hash = is.hashed n e own.0 at own.1 in
        other n at own.0 own.1 hash;
    hash = refl;
    fresh = none;
    closed = λ t less. let there = taken t less in (there.0, there.1);
  }
    where
      whole : (s : Slot) → s.hash ≡ entry_hash e → s ≡ slot_at (entry_hash e) s.turn
      whole s same = ap (λ h. slot_at h s.turn) same

      other : (n : ℕ) → slice_get c n ≡ Some e → (s : Slot) → slice_get slots n ≡ Some s → s.hash ≡ entry_hash e → ⊥
      other n at s own hash = elim (cases_lt s.turn turn) [
        | inl less ↦
            let there = taken s.turn less in
            let same = is.once n there.0 s own (there.1 ∙ ap Some (sym (whole s hash))) in
            there.2 (subst (λ m. slice_get c m ≡ Some e) same at)
        | inr past ↦ elim (cases_lt turn s.turn) [
          | inl more ↦
              let there = is.closed n s own turn more in
              none (there.0, there.2 ∙ ap (λ h. Some (slot_at h turn)) hash)
          | inr least ↦
              let same : s.turn ≡ turn = omega arith in
              none (n, own ∙ ap Some (whole s hash) ∙ ap (λ t. Some (slot_at (entry_hash e) t)) same)
        ]
      ]

-- what an interned entry's number has, and what stays
pub interned_there : (c d : List Entry) (e : Entry) (n : ℕ) → Interns c d e n → slice_get d n ≡ Some e
interned_there c d e n h = elim h [
  | inl a ↦ subst (λ l. slice_get l n ≡ Some e) (sym a.1) a.0
  | inr b ↦ rw (b.2, b.1) (get_last c e)
]

pub interned_kept : (c d : List Entry) (e : Entry) (n : ℕ) → Interns c d e n → Extends c d
interned_kept c d e n h = elim h [
  | inl a ↦ subst (λ l. Extends c l) (sym a.1) (extends_same c)
  | inr b ↦ subst (λ l. Extends c l) (sym b.2) (extends_pushed c e)
]
