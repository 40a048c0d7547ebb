-- Answers that were gained, among them those that are sought.
use Rattle.std.proofs.Common.{◌≡◌, ◌↔◌, ◌⊎◌, inl, inr, ⊎_elim, ℕ, ◌+◌, ◌≤◌, List, length, Option, Some, slice_get, subst, arith}
use Rattle.std.proofs.lemmas.Bool.{cases_lt}
use Rattle.std.proofs.lemmas.Option.{slice_get_within}
use Rattle.fill_arena.specs.Contents.{SomeIn}
use Rattle.fill_doubt.specs.Answers.{Covers, Gains}
use Rattle.fill_doubt.proofs.Gains.{SomeBelow}

module _ {A : Type 0} where
  pub covers_same : (C a R : Option A → Type 0) → ((o : Option A) → C o → R o → a o) → Covers C a a R
  covers_same C a R h = record { some = λ o x. inl x; kept = λ o x. x; all = h }

  pub covers_gains : (C a b R : Option A → Type 0) → Gains a b R → Covers C a b R
  covers_gains C a b R g = record { some = λ o h. (g o).0 h; kept = λ o h. (g o).1 (inl h); all = λ o c r. (g o).1 (inr r) }

  pub covers_alike : (C a b R S : Option A → Type 0) → ((o : Option A) → R o ↔ S o) → Covers C a b R → Covers C a b S
  covers_alike C a b R S same h = record {
    some = λ o x. ⊎_elim (λ l. inl l) (λ r. inr ((same o).0 r)) (h.some o x);
    kept = h.kept;
    all = λ o c s. h.all o c ((same o).1 s);
  }

  -- of a part of what the property says
  pub covers_into : (C a b F R : Option A → Type 0) → ((o : Option A) → F o → R o) → Covers C a b F → Covers (λ o. C o × F o) a b R
  covers_into C a b F R into h = record {
    some = λ o x. ⊎_elim (λ l. inl l) (λ r. inr (into o r)) (h.some o x);
    kept = h.kept;
    all = λ o c r. h.all o c.0 c.1;
  }

  pub covers_then : (C D a b c R : Option A → Type 0) → Covers C a b R → Covers D b c R → Covers (λ o. C o ⊎ D o) a c R
  covers_then C D a b c R first second = record {
    some = λ o x. ⊎_elim (λ l. first.some o l) (λ r. inr r) (second.some o x);
    kept = λ o x. second.kept o (first.kept o x);
    all = λ o s r. ⊎_elim (λ l. second.kept o (first.all o l r)) (λ d. second.all o d r) s;
  }

  pub covers_by : (C D a b R : Option A → Type 0) → ((o : Option A) → D o → R o → C o) → Covers C a b R → Covers D a b R
  covers_by C D a b R by h = record { some = h.some; kept = h.kept; all = λ o d r. h.all o (by o d r) r }

  -- where all are sought
  pub gains_covers : (C a b R : Option A → Type 0) → ((o : Option A) → R o → C o) → Covers C a b R → Gains a b R
  gains_covers C a b R by h o = ((λ x. h.some o x), (λ x. ⊎_elim (λ l. h.kept o l) (λ r. h.all o (by o r) r) x))

  -- of the first items
  module _ {X : Type 0} (C : Option A → Type 0) (F : X → Option A → Type 0) (xs : List X) where
    abbrev pub Below : ℕ → Option A → Type 0
    Below i o = C o × SomeBelow i xs (λ x. F x o)

    abbrev pub InAll : Option A → Type 0
    InAll o = SomeIn (λ x. F x o) xs

    pub items_start : (a : Option A → Type 0) → Covers (λ o. Below 0 o) a a (λ o. InAll o)
    items_start a = covers_same (λ o. Below 0 o) a (λ o. InAll o) (λ o c r. let lt = c.1.2 in absurd (omega arith))

    pub items_more : (a b c : Option A → Type 0) (i : ℕ) (x : X) → slice_get xs i ≡ Some x → Covers (λ o. Below i o) a b (λ o. InAll o) → Covers C b c (F x) → Covers (λ o. Below (i + 1) o) a c (λ o. InAll o)
    items_more a b c i x at first second =
        covers_by (λ o. Below i o ⊎ (C o × F x o)) (λ o. Below (i + 1) o) a c (λ o. InAll o) split
        (covers_then (λ o. Below i o) (λ o. C o × F x o) a b c (λ o. InAll o) first (covers_into C b c (F x) (λ o. InAll o) (λ o f. (x, (i, at), f)) second))
      where
        split : (o : Option A) → Below (i + 1) o → InAll o → Below i o ⊎ (C o × F x o)
        split o d r = ⊎_elim (λ less. inl (d.0, (d.1.0, d.1.1, less, d.1.3, d.1.4))) (λ past.
            let lt = d.1.2 in
            let same : d.1.0 ≡ i = omega arith in
            let there : slice_get xs i ≡ Some d.1.1 = subst (λ j. slice_get xs j ≡ Some d.1.1) same d.1.3 in
            let one : d.1.1 ≡ x = cc in
            inr (d.0, subst (λ y. F y o) one d.1.4)) (cases_lt d.1.0 i)

    pub items_end : (a b : Option A → Type 0) (i : ℕ) → length xs ≤ i → Covers (λ o. Below i o) a b (λ o. InAll o) → Covers C a b (λ o. InAll o)
    items_end a b i past h =
        covers_by (λ o. Below i o) C a b (λ o. InAll o) (λ o c r. let w = slice_get_within xs r.1.0 r.0 r.1.1 in (c, (r.1.0, r.0, omega arith, r.1.1, r.2))) h
