-- What is found of a set's places in the shape of a text, and what it tells of the text.
use Rattle.std.proofs.Common.{◌≡◌, ◌↔◌, ◌⊎◌, inl, inr, ⊎_elim, ℕ, ℤ, ◌+◌, ◌<◌, List, length, get_or, Bool, false, Option, None, Some, MatchOption, slice_get, refl, sym, subst, arith}
use Rattle.std.proofs.lemmas.Bool.{cases_lt}
use Rattle.std.proofs.lemmas.Option.{slice_get-get_or}
use Rattle.fill_tokens.specs.Value.{HasValue}
use Rattle.fill_tokens.specs.declared.place.Place.{Place}
use Rattle.fill_tokens.specs.declared.place.Place.TheVariants.{CPos, Pos}
use Rattle.fill_tokens.specs.declared.token.Token.{Token}
use Rattle.fill_tokens.proofs.ValueLaws.{value_within}
use Rattle.fill_tree.specs.Value.{IsValue}
use Rattle.fill_arena.specs.Contents.{EachIn, SomeIn}
use Rattle.fill_arena.specs.declared.entry.Entry.{Entry}
use Rattle.fill_arena.specs.declared.entry.Entry.TheVariants.{Places}
use Rattle.fill_eval.proofs.Values.{has, never}
use Rattle.fill_shapes.specs.Stretched.{IsStretched}
use Rattle.fill_doubt.specs.Answers.{Gains, PositionsHave}
use Rattle.fill_doubt.specs.Gives.{PlaceGives}
use Rattle.fill_doubt.specs.Placed.{ArePlaced}
use Rattle.fill_doubt.specs.Shapes.{AreAsked, AreCarried, carried}
use Rattle.fill_doubt.specs.Spots.{AreSpotsOf, IsShaped, OtherStands, ShapedGives}
use Rattle.fill_doubt.specs.declared.answers.Positions.{Positions}
use Rattle.fill_doubt.specs.declared.spots.Spots.{Spots}
use Rattle.fill_doubt.proofs.Answered.{answer_one, place_answer, place_is, place_none}
use Rattle.fill_doubt.proofs.Filled.{place_items}
use Rattle.fill_doubt.proofs.Gains.{gains_alike}

-- what a call tells of a place's value is its value, or that it has none
pub value_is : (p : Place) (t : List ℕ) (o : Option ℕ) → MatchOption o ((k : ℕ) → HasValue p t k → ⊥) (λ k. HasValue p t k) → IsValue (HasValue p t) o
value_is p t None h = place_none p t h
value_is p t (Some k) h = place_is p t k h

pub gains_value : (a b : Option ℕ → Type 0) (p : Place) (t : List ℕ) (v : Option ℕ) → MatchOption v ((k : ℕ) → HasValue p t k → ⊥) (λ k. HasValue p t k) → Gains a b (λ o. o ≡ v) → Gains a b (IsValue (HasValue p t))
gains_value a b p t v h =
    let is = value_is p t v h in
    gains_alike a b (λ o. o ≡ v) (IsValue (HasValue p t)) (λ o. ((λ e. subst (IsValue (HasValue p t)) (sym e) is), (λ g. answer_one (HasValue p t) o v g is)))

pub gains_shaped : (a b : Option ℕ → Type 0) (p : Place) (t : List ℕ) (v : Option ℕ) → IsShaped p → MatchOption v ((k : ℕ) → HasValue p t k → ⊥) (λ k. HasValue p t k) → Gains a b (λ o. o ≡ v)
    → Gains a b (λ o. IsShaped p × IsValue (HasValue p t) o)
gains_shaped a b p t v shaped h gains =
    gains_alike a b (IsValue (HasValue p t)) (λ o. IsShaped p × IsValue (HasValue p t) o) (λ o. ((λ g. (shaped, g)), (λ g. g.1))) (gains_value a b p t v h gains)

-- by the set's list
module _ (c : List Entry) (s : ℕ) (places : List Place) (is : slice_get c s ≡ Some (Places places)) where
  pub shaped_give : (w : List ℕ) (o : Option ℕ) → SomeIn (λ p. IsShaped p × IsValue (HasValue p w) o) places ↔ ShapedGives c s w o
  shaped_give w o = (
    (λ h. (h.0, (place_items c s places is h.0).1 h.1, h.2.0, h.2.1)),
    (λ h. (h.0, (place_items c s places is h.0).0 h.1, (h.2, h.3))),
  )

  pub others_stand : (o : Option Place) → SomeIn (λ p. (o ≡ Some p) × ¬ (IsShaped p)) places ↔ OtherStands c s o
  others_stand o = (
    (λ h. (h.0, (place_items c s places is h.0).1 h.1, h.2.0, h.2.1)),
    (λ h. (h.0, (place_items c s places is h.0).0 h.1, (h.2, h.3))),
  )

-- what is known of values in a text and in its shape
abbrev pub AreValuesStretched : Type 0
AreValuesStretched = (w t bounds : List ℕ) → IsStretched w t bounds → (r s : List Token) (n : ℤ) → 0 < length r + length s → (k : ℕ) →
    HasValue (Pos r s n) t k ↔ ((i : ℕ) × (slice_get bounds i ≡ Some k) × HasValue (Pos r s n) w i)

module _ (law : AreValuesStretched) (w t bounds : List ℕ) (is : IsStretched w t bounds) where
  pub carried_is : (p : Place) → IsShaped p → (i : Option ℕ) → IsValue (HasValue p w) i → IsValue (HasValue p t) (carried bounds i)
  carried_is (CPos j) shaped i h = absurd shaped
  carried_is (Pos r s n) shaped None h = place_none (Pos r s n) t (λ k g. let b = (law w t bounds is r s n shaped k).0 g in never (HasValue (Pos r s n) w) b.0 h b.2)
  carried_is (Pos r s n) shaped (Some i) h =
      let there = has (HasValue (Pos r s n) w) i h in
      let le = value_within (Pos r s n) w i there in
      let long = is.long in
      let k = get_or bounds i 0 in
      let at = slice_get-get_or bounds i 0 (omega arith) in
      subst (λ o. IsValue (HasValue (Pos r s n) t) o) (sym at) (place_is (Pos r s n) t k ((law w t bounds is r s n shaped k).1 (i, at, there)))

  module _ (c : List Entry) (s : ℕ) (f : Spots) (are : AreSpotsOf c s w f) where
    -- the positions are bounds' numbers
    pub spots_within : EachIn (λ i. i < length bounds) f.shaped.positions.items
    spots_within k i at =
        let g = (are.shaped (Some i)).0 (i, (k, at), refl) in
        let le = value_within g.0 w i (has (HasValue g.0 w) i g.3) in
        let long = is.long in
        omega arith

    either : (p : Place) → IsShaped p ⊎ (¬ (IsShaped p))
    either (CPos j) = inr (λ h. h)
    either (Pos r q n) = ⊎_elim (λ l. inl l) (λ g. inr (λ h. omega arith)) (cases_lt 0 (length r + length q))

    -- those of the text are what is carried over, and what is asked
    pub spots_give : (o : Option ℕ) → (AreCarried bounds (PositionsHave f.shaped) o ⊎ AreAsked t f.others.items o) ↔ PlaceGives c s t o
    spots_give o = (
      (λ h. ⊎_elim
          (λ l.
          let g = (are.shaped l.0).0 l.1 in
          (g.0, g.1, subst (λ q. IsValue (HasValue g.0 t) q) (sym l.2) (carried_is g.0 g.2 l.0 g.3)))
          (λ r.
          let g = (are.others (Some r.0)).0 (r.0, r.1, refl) in
          let e : r.0 ≡ g.0 = (let q : Some r.0 ≡ Some g.0 = g.2 in cc) in
          (g.0, g.1, subst (λ p. IsValue (HasValue p t) o) e r.2)) h),
      (λ h. ⊎_elim
          (λ shaped.
          let v = place_answer h.0 w in
          inl (v.0, (are.shaped v.0).1 (h.0, h.1, shaped, v.1), answer_one (HasValue h.0 t) o (carried bounds v.0) h.2 (carried_is h.0 shaped v.0 v.1)))
          (λ not.
          let g = (are.others (Some h.0)).1 (h.0, h.1, refl, not) in
          inr (g.0, g.1, subst (λ p. IsValue (HasValue p t) o) (sym g.2) h.2)) (either h.0)),
    )

    -- what is carried over and what is asked are positions of the places
    pub spots_placed : (few : Bool) (found : Positions) → ((o : Option ℕ) → PositionsHave found o → AreCarried bounds (PositionsHave f.shaped) o ⊎ AreAsked t f.others.items o)
        → (few ≡ false → (o : Option ℕ) → AreCarried bounds (PositionsHave f.shaped) o ⊎ AreAsked t f.others.items o → PositionsHave found o) → ArePlaced c s t few found
    spots_placed few found sound all = record { sound = λ o h. (spots_give o).0 (sound o h); all = λ no o g. all no o ((spots_give o).1 g) }
