-- What is seen and held of a history, as edits are made, undone and done again.
use Rattle.std.proofs.Common.{◌≡◌, ◌-◌, List, [], ◌∷◌, ◌++◌, length, map, drop, sym, ap, ◌∙◌, subst}
use Rattle.std.proofs.lemmas.List.{append-nil, drop-map, length-map, map-append}
use Rattle.std.proofs.lemmas.List.Elements.{All-append, All-cons, All-drop, All-head, All-nil, All-push, All-tail}
use Rattle.std.specs.Prelude.{All}
use Rattle.fill_tree.specs.declared.user.Edit.{Edit}
use Rattle.fill_tree.specs.declared.user.Example.{Example}
use Rattle.fill_undo.specs.Done.{done_of}
use Rattle.fill_undo.specs.Moves.{Moves, latest, no_moves}
use Rattle.fill_undo.specs.declared.done.Moved.{Moved}
use Rattle.fill_session.specs.Edits.{changed}
use Rattle.fill_session.specs.State.{AreHeld, seen_as}
use Rattle.fill_session.specs.Timeline.{Timeline, edited}

module _ {A : Type 0} (P : A → Type 0) where
  all_left : (xs ys : List A) → All P (xs ++ ys) → All P xs
  all_left [] ys h = All-nil P
  all_left (x ∷ xs) ys h = All-cons P x xs (All-head P x (xs ++ ys) h) (all_left xs ys (All-tail P x (xs ++ ys) h))

  all_right : (xs ys : List A) → All P (xs ++ ys) → All P ys
  all_right [] ys h = h
  all_right (x ∷ xs) ys h = all_right xs ys (All-tail P x (xs ++ ys) h)

  last_has : (xs : List A) (x : A) → All P (xs ++ x ∷ []) → P x
  last_has xs x h = All-head P x [] (all_right xs (x ∷ []) h)

module _ {S A : Type 0} (see : S → A) where
  abbrev seen_move : Moved S → Moved A
  seen_move m = record { state = see m.state; done = m.done }

  -- what is seen of the moves of one side
  abbrev pub side : List (Moved S) → List (Moved A)
  side moves = map seen_move moves

  pub side_append : (xs ys : List (Moved S)) → side (xs ++ ys) ≡ side xs ++ side ys
  side_append xs ys = map-append seen_move xs ys

  pub side_long : (xs : List (Moved S)) → length (side xs) ≡ length xs
  side_long xs = length-map xs seen_move

  side_latest : (moves : List (Moved S)) → side (latest moves) ≡ latest (side moves)
  side_latest moves = sym (drop-map seen_move (length moves - 32) moves) ∙ ap (λ n. drop (n - 32) (side moves)) (sym (side_long moves))

  -- what is seen after an accepted edit
  pub side_pushed : (past all : List (Moved S)) (m : Moved S) → all ≡ latest (past ++ m ∷ []) → side all ≡ latest (side past ++ seen_move m ∷ [])
  side_pushed past all m e = ap side e ∙ side_latest (past ++ m ∷ []) ∙ ap (λ (l : List (Moved A)). latest l) (side_append past (m ∷ []))

module _ {S : Type 0} (held : S → Type 0) where
  abbrev holds : Moved S → Type 0
  holds m = held m.state

  -- after an accepted edit
  pub held_pushed : (old new : Moves S) (m : Moved S) → new.past ≡ latest (old.past ++ m ∷ []) → new.future ≡ [] → AreHeld held old → held m.state → AreHeld held new
  held_pushed old new m past future all one =
      let before : All holds old.past = all_left holds old.past old.future all in
      let pushed : All holds (old.past ++ m ∷ []) = All-push holds old.past m before one in
      let kept : All holds new.past = subst (All holds) (sym past) (All-drop holds (length (old.past ++ m ∷ []) - 32) (old.past ++ m ∷ []) pushed) in
      subst (λ l. All holds (new.past ++ l)) (sym future) (subst (All holds) (sym (append-nil new.past)) kept)

  -- before any edit
  pub none_held : (moves : Moves S) → moves ≡ no_moves → AreHeld held moves
  none_held moves none = subst (λ m. AreHeld held m) (sym none) (All-nil holds)

  -- the state that was taken from one side, and what is left with another one put to the other side
  pub record AreMoved (new : Moves S) (taken : Moved S) : Type 0 where
    pub there : held taken.state
    pub left : AreHeld held new

  pub held_undone : (old new : Moves S) (taken put : Moved S) → old.past ≡ new.past ++ taken ∷ [] → new.future ≡ old.future ++ put ∷ [] → AreHeld held old → held put.state → AreMoved new taken
  held_undone old new taken put past future all one =
      let before : All holds (new.past ++ taken ∷ []) = subst (All holds) past (all_left holds old.past old.future all) in
      let after : All holds (old.future ++ put ∷ []) = All-push holds old.future put (all_right holds old.past old.future all) one in
      record {
        there = last_has holds new.past taken before;
        left = All-append holds new.past new.future (all_left holds new.past (taken ∷ []) before) (subst (All holds) (sym future) after);
      }

  pub held_redone : (old new : Moves S) (taken put : Moved S) → old.future ≡ new.future ++ taken ∷ [] → new.past ≡ old.past ++ put ∷ [] → AreHeld held old → held put.state → AreMoved new taken
  held_redone old new taken put future past all one =
      let before : All holds (new.future ++ taken ∷ []) = subst (All holds) future (all_right holds old.past old.future all) in
      let after : All holds (old.past ++ put ∷ []) = All-push holds old.past put (all_left holds old.past old.future all) one in
      record {
        there = last_has holds new.future taken before;
        left = All-append holds new.past new.future (subst (All holds) (sym past) after) (all_left holds new.future (taken ∷ []) before);
      }

-- what is seen after an accepted edit: `before` was present, and then `made`
module _ {S : Type 0} (see : S → List Example) where
  abbrev seen_time : S → Moves S → Timeline
  seen_time now moves = record { examples = see now; moves = seen_as see moves }

  pub edited_is : (old new : Moves S) (now before next made : S) (edit : Edit) → before ≡ now → next ≡ made → new.past ≡ latest (old.past ++ (record { state = before; done = done_of edit }) ∷ []) → new.future ≡ []
      → see made ≡ changed (see now) edit → seen_time next new ≡ edited (seen_time now old) edit
  edited_is old new now before next made edit was now_is past future is =
      let m : Moved S = record { state = before; done = done_of edit } in
      let examples : see next ≡ changed (see now) edit = ap see now_is ∙ is in
      let back : side see new.past ≡ latest (side see old.past ++ (record { state = see now; done = done_of edit }) ∷ []) =
      side_pushed see old.past new.past m past ∙ ap (λ (s : S). latest (side see old.past ++ (record { state = see s; done = done_of edit }) ∷ [])) was in
      let forth = ap (side see) future in
      λ i. record { examples = examples i; moves = record { past = back i; future = forth i } }
