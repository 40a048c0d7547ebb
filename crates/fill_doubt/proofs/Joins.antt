-- What is gained by going over the answers of one side, or of two.
use Rattle.std.proofs.Common.{◌≡◌, ◌↔◌, ◌⊎◌, inl, inr, ⊎_elim, ℕ, ◌<◌, ◌≤◌, List, Bool, true, false, Option, None, Some, IsTrue, nat_lt, slice_get, slice_range, refl, sym, ap, subst, ◌∙◌, arith}
use Rattle.std.proofs.lemmas.Bool.Decides.{nat_tests}
use Rattle.fill_tokens.specs.Value.{HasValue}
use Rattle.fill_tokens.specs.declared.place.Place.{Place}
use Rattle.fill_tree.specs.Value.{IsValue}
use Rattle.fill_arena.specs.Contents.{SomeIn}
use Rattle.fill_arena.specs.declared.entry.Entry.{Entry}
use Rattle.fill_arena.specs.declared.entry.Entry.TheVariants.{Places}
use Rattle.fill_doubt.specs.Answers.{Have, Gains, Lack, AreBetween, AreBetweenFrom, between, PositionsHave}
use Rattle.fill_doubt.specs.Gives.{PlaceGives}
use Rattle.fill_doubt.specs.declared.answers.Positions.{Positions}
use Rattle.fill_doubt.proofs.Filled.{place_items}
use Rattle.fill_doubt.proofs.Gains.{gains_then, gains_alike, joined_split}

-- each answer of one side becomes some answers, none becomes none
module _ {A B C : Type 0} (f : A → B) (F : Option B → Option C → Type 0) (none : (o : Option C) → F None o ↔ (o ≡ None)) (xs : List A) (n : Bool) where
  made_listed : (o : Option C) → (((o ≡ None) × (n ≡ true)) ⊎ SomeIn (λ x. F (Some (f x)) o) xs) ↔ ((b : Option B) × Have f xs n b × F b o)
  made_listed o = (
    (λ h. ⊎_elim (λ l. (None, l.1, (none o).1 l.0)) (λ r. (Some (f r.0), (r.0, r.1, refl), r.2)) h),
    (λ h. back h.0 h.1 h.2),
  )
    where
      back : (b : Option B) → Have f xs n b → F b o → ((o ≡ None) × (n ≡ true)) ⊎ SomeIn (λ x. F (Some (f x)) o) xs
      back None l r = inl ((none o).0 r, l)
      back (Some b) l r = inr (l.0, l.1, subst (λ y. F (Some y) o) (sym l.2) r)

  pub gains_made : (a b c : Option C → Type 0) → Gains a b (λ o. (o ≡ None) × (n ≡ true)) → Gains b c (λ o. SomeIn (λ x. F (Some (f x)) o) xs) → Gains a c (λ o. (y : Option B) × Have f xs n y × F y o)
  gains_made a b c first second =
      gains_alike a c (λ o. ((o ≡ None) × (n ≡ true)) ⊎ SomeIn (λ x. F (Some (f x)) o) xs) (λ o. (y : Option B) × Have f xs n y × F y o) made_listed
      (gains_then a b c (λ o. (o ≡ None) × (n ≡ true)) (λ o. SomeIn (λ x. F (Some (f x)) o) xs) first second)

between_left : (t : List ℕ) (b : Option ℕ) → between t None b ≡ None
between_left t b = refl

between_right : (t : List ℕ) (a : Option ℕ) → between t a None ≡ None
between_right t None = refl
between_right t (Some a) = refl

pub between_less : (t : List ℕ) (a b : ℕ) → a < b → between t (Some a) (Some b) ≡ Some (slice_range t a b)
between_less t a b lt = let e : nat_lt a b ≡ true = grind (arith, nat_tests) in rw e refl

pub between_past : (t : List ℕ) (a b : ℕ) → b ≤ a → between t (Some a) (Some b) ≡ None
between_past t a b le = let e : nat_lt a b ≡ false = grind (arith, nat_tests) in rw e refl

module _ (t : List ℕ) (lefts rights : Positions) (lacks : Bool) (is : IsTrue lacks ↔ Lack (PositionsHave lefts) (PositionsHave rights)) where
  all_between : (o : Option (List ℕ)) → (((o ≡ None) × (lacks ≡ true)) ⊎ SomeIn (λ a. AreBetweenFrom t a rights.positions.items o) lefts.positions.items) ↔ AreBetween t (PositionsHave lefts) (PositionsHave rights) o
  all_between o =
      let split = joined_split (between t) (between_left t) (between_right t) (PositionsHave lefts) (PositionsHave rights) o in (
        (λ h. split.0 (⊎_elim (λ l. inl (l.0, is.0 l.1)) (λ r. inr (r.0, r.2.0, (r.0, r.1, refl), (r.2.0, r.2.1, refl), r.2.2)) h)),
        (λ h. ⊎_elim (λ l. inl (l.0, is.1 l.1)) (λ r. inr (listed r.0 r.1 r.2 r.3 r.4)) (split.1 h)),
      )
    where
      listed : (a b : ℕ) → PositionsHave lefts (Some a) → PositionsHave rights (Some b) → o ≡ between t (Some a) (Some b) → SomeIn (λ x. AreBetweenFrom t x rights.positions.items o) lefts.positions.items
      listed a b l r e =
          (l.0, l.1, (r.0, r.1, e ∙ ap (λ x. between t (Some x) (Some b)) (sym l.2) ∙ ap (λ y. between t (Some l.0) (Some y)) (sym r.2)))

  pub gains_between : (a b c : Option (List ℕ) → Type 0) → Gains a b (λ o. (o ≡ None) × (lacks ≡ true)) → Gains b c (λ o. SomeIn (λ x. AreBetweenFrom t x rights.positions.items o) lefts.positions.items)
      → Gains a c (AreBetween t (PositionsHave lefts) (PositionsHave rights))
  gains_between a b c first second =
      gains_alike a c (λ o. ((o ≡ None) × (lacks ≡ true)) ⊎ SomeIn (λ x. AreBetweenFrom t x rights.positions.items o) lefts.positions.items) (AreBetween t (PositionsHave lefts) (PositionsHave rights)) all_between
      (gains_then a b c (λ o. (o ≡ None) × (lacks ≡ true)) (λ o. SomeIn (λ x. AreBetweenFrom t x rights.positions.items o) lefts.positions.items) first second)

-- the places of a set
pub places_give : (c : List Entry) (s : ℕ) (places : List Place) → slice_get c s ≡ Some (Places places) → (t : List ℕ) (o : Option ℕ) → SomeIn (λ p. IsValue (HasValue p t) o) places ↔ PlaceGives c s t o
places_give c s places is t o = (
  (λ h. (h.0, (place_items c s places is h.0).1 h.1, h.2)),
  (λ h. (h.0, (place_items c s places is h.0).0 h.1, h.2)),
)
