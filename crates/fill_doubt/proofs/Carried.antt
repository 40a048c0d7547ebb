-- What is gained by carrying positions over to a text.
use Rattle.std.proofs.Common.{◌≡◌, ◌⊎◌, inl, inr, ⊎_elim, ℕ, List, true, Option, None, Some, slice_get, refl}
use Rattle.fill_tokens.specs.declared.place.Place.{Place}
use Rattle.fill_arena.specs.Contents.{SomeIn}
use Rattle.fill_doubt.specs.Answers.{Gains, GainsSome, PositionsHave}
use Rattle.fill_doubt.specs.Shapes.{AreAsked, AreCarried, carried}
use Rattle.fill_doubt.specs.declared.answers.Positions.{Positions}
use Rattle.fill_doubt.proofs.Joins.{gains_made}

module _ (bounds t : List ℕ) (places : List Place) (f : Positions) where
  one : (o : Option ℕ) → ((o ≡ None) × (f.none ≡ true)) ⊎ SomeIn (λ i. o ≡ slice_get bounds i) f.positions.items → AreCarried bounds (PositionsHave f) o
  one o h = ⊎_elim (λ l. (None, l.1, l.0)) (λ r. (Some r.0, (r.0, r.1, refl), r.2)) h

  pub both_sound : (a b d e : Option ℕ → Type 0) → ((o : Option ℕ) → ¬ (a o)) → Gains a b (λ o. (o ≡ None) × (f.none ≡ true)) → GainsSome b d (λ o. SomeIn (λ i. o ≡ slice_get bounds i) f.positions.items)
      → GainsSome d e (AreAsked t places) → (o : Option ℕ) → e o → AreCarried bounds (PositionsHave f) o ⊎ AreAsked t places o
  both_sound a b d e none first second third o h =
      ⊎_elim (λ l. inl (one o (⊎_elim (λ m. ⊎_elim (λ n. absurd (none o n)) (λ n. inl n) ((first o).0 m)) (λ m. inr m) (second o l)))) (λ r. inr r) (third o h)

  pub both_all : (a b d e : Option ℕ → Type 0) → Gains a b (λ o. (o ≡ None) × (f.none ≡ true)) → Gains b d (λ o. SomeIn (λ i. o ≡ slice_get bounds i) f.positions.items)
      → Gains d e (AreAsked t places) → (o : Option ℕ) → AreCarried bounds (PositionsHave f) o ⊎ AreAsked t places o → e o
  both_all a b d e first second third o h =
      (third o).1 (⊎_elim (λ l. inl ((gains_made (λ x. x) (λ i q. q ≡ carried bounds i) (λ q. ((λ g. g), (λ g. g))) f.positions.items f.none a b d first second o).1 (inr l))) (λ r. inr r) h)
