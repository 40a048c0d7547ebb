-- Moves with another state at a place.
use Rattle.std.proofs.Common.{◌≡◌, ℕ, zero, suc, ◌-◌, ◌<◌, ◌≤◌, List, [], ◌∷◌, ◌++◌, length, length-append, get_or, refl, sym, ap, ◌∙◌, arith, Bool, true, false, Some, inl, inr}
use Rattle.std.specs.Prelude.{slice_get, slice_set, nat_lt, if◌then◌else◌, option_map}
use Rattle.std.proofs.lemmas.Bool.{cases_lt}
use Rattle.std.proofs.lemmas.Bool.Decides.{nat_tests}
use Rattle.std.proofs.lemmas.List.{get_or_append_left, get_or-append_right}
use Rattle.std.proofs.lemmas.Option.{slice_get_read}
use Rattle.fill_undo.specs.declared.done.Moved.{Moved}
use Rattle.fill_undo.specs.Moves.{Moves, count_of, done_at, state_at, with_state, with_state_at}

below : (i n : ℕ) → i < n → nat_lt i n ≡ true
below i n lt = grind (arith, nat_tests)

above : (i n : ℕ) → n ≤ i → nat_lt i n ≡ false
above i n le = grind (arith, nat_tests)

both : (i n : ℕ) → nat_lt (suc i) (suc n) ≡ nat_lt i n
both i n = elim (cases_lt i n) [
  | inl lt ↦ below (suc i) (suc n) (omega arith) ∙ sym (below i n lt)
  | inr le ↦ above (suc i) (suc n) (omega arith) ∙ sym (above i n le)
]

module _ {S : Type 0} where
  set_state : (moves : List (Moved S)) (i : ℕ) (moved : Moved S) (state : S) → i < length moves → moved ≡ get_or moves i moved →
      slice_set moves i (record { state = state; done = moved.done }) ≡ with_state moves i state
  set_state [] i moved state lt e = absurd (omega arith)
  set_state (x ∷ xs) zero moved state lt e = ap (λ (m : Moved S). record x { state = state; done = m.done } ∷ xs) e
  set_state (x ∷ xs) (suc i) moved state lt e = ap (λ l. x ∷ l) (set_state xs i moved state (omega arith) e)

  past_end : (moves : List (Moved S)) (i : ℕ) (state : S) → length moves ≤ i → with_state moves i state ≡ moves
  past_end [] i state le = refl
  past_end (x ∷ xs) zero state le = absurd (omega arith)
  past_end (x ∷ xs) (suc i) state le = ap (λ l. x ∷ l) (past_end xs i state (omega arith))

  pub in_past : (past future : List (Moved S)) (i : ℕ) (moved : Moved S) (state : S) → i < length past → moved ≡ get_or past i moved →
      let made : Moves S = record { past = slice_set past i (record { state = state; done = moved.done }); future = future } in
      made ≡ with_state_at (record { past = past; future = future }) i state
  in_past past future i moved state lt e =
      let other : List (Moved S) = with_state future (i - length past) state in
      ap (λ (p : List (Moved S)). record { past = p; future = future }) (set_state past i moved state lt e)
      ∙ ap (λ (b : Bool). record { past = with_state past i state; future = if b then future else other }) (sym (below i (length past) lt))

  pub in_future : (past future : List (Moved S)) (i at : ℕ) (moved : Moved S) (state : S) → length past ≤ i → at ≡ i - length past → at < length future → moved ≡ get_or future at moved →
      let made : Moves S = record { past = past; future = slice_set future at (record { state = state; done = moved.done }) } in
      made ≡ with_state_at (record { past = past; future = future }) i state
  in_future past future i at moved state le is lt e =
      let other : List (Moved S) = with_state future (i - length past) state in
      ap (λ (f : List (Moved S)). record { past = past; future = f }) (set_state future at moved state lt e ∙ ap (λ k. with_state future k state) is)
      ∙ ap (λ (p : List (Moved S)). record { past = p; future = other }) (sym (past_end past i state le))
      ∙ ap (λ (b : Bool). record { past = with_state past i state; future = if b then future else other }) (sym (above i (length past) le))

  pub state_in_past : (past future : List (Moved S)) (i : ℕ) (moved : Moved S) → i < length past → moved ≡ get_or past i moved →
      state_at (record { past = past; future = future }) i ≡ Some moved.state
  state_in_past past future i moved lt e =
      ap (option_map (λ (m : Moved S). m.state))
      (slice_get_read (past ++ future) (length (past ++ future)) i moved refl (omega (arith, length-append past future)) (e ∙ sym (get_or_append_left past future moved i lt)))

  pub state_in_future : (past future : List (Moved S)) (i at : ℕ) (moved : Moved S) → length past ≤ i → at ≡ i - length past → at < length future → moved ≡ get_or future at moved →
      state_at (record { past = past; future = future }) i ≡ Some moved.state
  state_in_future past future i at moved le is lt e =
      ap (option_map (λ (m : Moved S). m.state))
      (slice_get_read (past ++ future) (length (past ++ future)) i moved refl (omega (arith, length-append past future))
      (e ∙ ap (λ k. get_or future k moved) is ∙ sym (get_or-append_right past future (length past) i moved refl le)))

  pub length_with : (moves : List (Moved S)) (i : ℕ) (state : S) → length (with_state moves i state) ≡ length moves
  length_with [] i state = refl
  length_with (x ∷ xs) zero state = refl
  length_with (x ∷ xs) (suc i) state = ap (λ n. suc n) (length_with xs i state)

  here : (moves : List (Moved S)) (i : ℕ) (state : S) → i < length moves → option_map (λ (m : Moved S). m.state) (slice_get (with_state moves i state) i) ≡ Some state
  here [] i state lt = absurd (omega arith)
  here (x ∷ xs) zero state lt = refl
  here (x ∷ xs) (suc i) state lt = here xs i state (omega arith)

  elsewhere : (moves : List (Moved S)) (i j : ℕ) (state : S) → (j ≡ i → ⊥) → slice_get (with_state moves i state) j ≡ slice_get moves j
  elsewhere [] i j state ne = refl
  elsewhere (x ∷ xs) zero zero state ne = absurd (ne refl)
  elsewhere (x ∷ xs) zero (suc j) state ne = refl
  elsewhere (x ∷ xs) (suc i) zero state ne = refl
  elsewhere (x ∷ xs) (suc i) (suc j) state ne = elsewhere xs i j state (λ e. ne (ap (λ n. suc n) e))

  done_stays : (moves : List (Moved S)) (i j : ℕ) (state : S) →
      option_map (λ (m : Moved S). m.done) (slice_get (with_state moves i state) j) ≡ option_map (λ (m : Moved S). m.done) (slice_get moves j)
  done_stays [] i j state = refl
  done_stays (x ∷ xs) zero zero state = refl
  done_stays (x ∷ xs) zero (suc j) state = refl
  done_stays (x ∷ xs) (suc i) zero state = refl
  done_stays (x ∷ xs) (suc i) (suc j) state = done_stays xs i j state

  -- the moves of both sides as one list
  pub joined : (past future : List (Moved S)) (i : ℕ) (state : S) →
      with_state past i state ++ (if nat_lt i (length past) then future else with_state future (i - length past) state) ≡ with_state (past ++ future) i state
  joined [] future i state =
      ap (λ (b : Bool). if b then future else with_state future (i - 0) state) (above i 0 (omega arith))
      ∙ (let e : i - 0 ≡ i = omega arith in ap (λ k. with_state future k state) e)
  joined (x ∷ xs) future zero state =
      ap (λ (b : Bool). record x { state = state } ∷ (xs ++ (if b then future else with_state future (0 - suc (length xs)) state))) (below 0 (suc (length xs)) (omega arith))
  joined (x ∷ xs) future (suc i) state =
      ap (λ l. x ∷ (with_state xs i state ++ l))
      (ap (λ (b : Bool). if b then future else with_state future (suc i - suc (length xs)) state) (both i (length xs))
      ∙ (let e : suc i - suc (length xs) ≡ i - length xs = omega arith in ap (λ k. if nat_lt i (length xs) then future else with_state future k state) e))
      ∙ ap (λ l. x ∷ l) (joined xs future i state)

  pub count_stays : (moves : Moves S) (i : ℕ) (state : S) → count_of (with_state_at moves i state) ≡ count_of moves
  count_stays moves i state =
      sym (length-append (with_state_at moves i state).past (with_state_at moves i state).future)
      ∙ ap length (joined moves.past moves.future i state) ∙ length_with (moves.past ++ moves.future) i state ∙ length-append moves.past moves.future

  pub is_changed : (moves : Moves S) (i : ℕ) (state : S) → i < count_of moves → state_at (with_state_at moves i state) i ≡ Some state
  is_changed moves i state lt =
      ap (λ l. option_map (λ (m : Moved S). m.state) (slice_get l i)) (joined moves.past moves.future i state)
      ∙ here (moves.past ++ moves.future) i state (omega (arith, length-append moves.past moves.future))

  pub others_stay : (moves : Moves S) (i j : ℕ) (state : S) → (j ≡ i → ⊥) → state_at (with_state_at moves i state) j ≡ state_at moves j
  others_stay moves i j state ne =
      ap (λ l. option_map (λ (m : Moved S). m.state) (slice_get l j)) (joined moves.past moves.future i state)
      ∙ ap (option_map (λ (m : Moved S). m.state)) (elsewhere (moves.past ++ moves.future) i j state ne)

  pub edits_stay : (moves : Moves S) (i j : ℕ) (state : S) → done_at (with_state_at moves i state) j ≡ done_at moves j
  edits_stay moves i j state =
      ap (λ l. option_map (λ (m : Moved S). m.done) (slice_get l j)) (joined moves.past moves.future i state)
      ∙ done_stays (moves.past ++ moves.future) i j state
