-- What is held of states whose spaces were replaced, and what is seen of them.
use Rattle.std.proofs.Common.{◌≡◌, ℕ, ◌≤◌, List, [], ◌∷◌, ◌++◌, length, length-append, take, drop, get_or, refl, sym, ap, ◌∙◌, subst, arith}
use Rattle.std.proofs.lemmas.List.{append_cancel_left, take-append-drop}
use Rattle.std.proofs.lemmas.List.Elements.{All-append, All-cons, All-head, All-nil, All-tail}
use Rattle.std.proofs.lemmas.Option.{slice_get-get_or}
use Rattle.std.specs.List.{AllZip}
use Rattle.std.specs.Prelude.{All}
use Rattle.fill_split.specs.Renewal.{IsRenewed}
use Rattle.fill_split.specs.Standing.{kept_of}
use Rattle.fill_split.proofs.Pairs.{live}
use Rattle.fill_split.proofs.Zips.{zip_lengths}
use Rattle.fill_tree.specs.declared.user.Example.{Example}
use Rattle.fill_space.specs.Ground.{FitsOn, WeighsOn}
use Rattle.fill_space.specs.Spaces.{SpacesData, SpaceStands, Succeeds}
use Rattle.fill_undo.specs.Moves.{Moves}
use Rattle.fill_undo.specs.declared.done.Moved.{Moved}
use Rattle.fill_session.specs.Renewed.{AllReplaced, AreRenewed, all_moves, spaces_of}
use Rattle.fill_session.specs.State.{IsHeld, SpacesStand, seen_as}
use Rattle.fill_session.specs.declared.branch.Branch.{Branch}
use Rattle.fill_session.proofs.Compacting.{compact_held}
use Rattle.fill_session.proofs.Held.{SpaceFolds}
use Rattle.fill_session.proofs.Moving.{side, side_append, side_long}

zip_left : {A B : Type 0} (R : A → B → Type 0) (a b : List A) (c d : List B) → length c ≡ length a → AllZip R (a ++ b) (c ++ d) → AllZip R a c
zip_left R [] b [] d long z = tt
zip_left R [] b (y ∷ c) d long z = absurd (omega arith)
zip_left R (x ∷ a) b [] d long z = absurd (omega arith)
zip_left R (x ∷ a) b (y ∷ c) d long z = (z.0, zip_left R a b c d (omega arith) z.1)

zip_right : {A B : Type 0} (R : A → B → Type 0) (a b : List A) (c d : List B) → length c ≡ length a → AllZip R (a ++ b) (c ++ d) → AllZip R b d
zip_right R [] b [] d long z = z
zip_right R [] b (y ∷ c) d long z = absurd (omega arith)
zip_right R (x ∷ a) b [] d long z = absurd (omega arith)
zip_right R (x ∷ a) b (y ∷ c) d long z = zip_right R a b c d (omega arith) z.1

-- the spaces of what is present and those of all states, after each of the listed ones was replaced and the list was parted
pub record AreParted (a b : SpacesData) (kept spaces own others : List ℕ) : Type 0 where
  pub mine : AllZip (Succeeds a b) kept own
  pub theirs : AllZip (Succeeds a b) spaces others
  pub rest : length others ≡ length spaces

pub parted : (a b : SpacesData) (kept spaces lent new put own others : List ℕ) (n : ℕ) → lent ≡ kept ++ spaces → AllZip (Succeeds a b) lent new → put ≡ new → n ≡ length kept → own ≡ take n put → others ≡ drop n put
    → length own ≡ n → AreParted a b kept spaces own others
parted a b kept spaces lent new put own others n is zip same size front back long =
    let parts : new ≡ own ++ others = sym (ap (λ l. l ++ others) front ∙ ap (λ l. take n put ++ l) back ∙ take-append-drop n put ∙ same) in
    let whole : AllZip (Succeeds a b) (kept ++ spaces) (own ++ others) = subst (λ l. AllZip (Succeeds a b) l (own ++ others)) is (subst (λ l. AllZip (Succeeds a b) lent l) parts zip) in
    let theirs = zip_right (Succeeds a b) kept spaces own others (long ∙ size) whole in
    record { mine = zip_left (Succeeds a b) kept spaces own others (long ∙ size) whole; theirs = theirs; rest = zip_lengths (Succeeds a b) spaces others theirs }

-- the list is long enough for what is present
pub room_for : (kept spaces lent new put mid : List ℕ) → lent ≡ kept ++ spaces → length new ≡ length lent → put ≡ new → mid ≡ kept → length mid ≤ length put
room_for kept spaces lent new put mid is long same own =
    let a = ap length is ∙ length-append kept spaces in
    let b = ap length same in
    let c = ap length own in
    omega arith

-- each kept space of folds stands for some examples
pub folds_live : {T : Type 0} (s : SpacesData) (xs : List Example) (folds : SpaceFolds T) → SpacesStand s xs folds → All (λ k. (l : List Example) × SpaceStands s k l) (kept_of folds)
folds_live s xs folds h =
    λ j d lt. live (SpaceStands s) folds.rule (FitsOn s.ground) (WeighsOn s.ground) xs folds.kept.items folds.places h.branches h.paired h.came j (get_or folds.kept.items j d) (slice_get-get_or folds.kept.items j d lt)

module _ {S T : Type 0} (folds : S → SpaceFolds T) (examples : S → List Example) (branches : S → List Branch) where
  -- a state with other spaces: its folds are renewed, all else stays
  abbrev pub ByRenewal : S → List ℕ → S → Type 0
  ByRenewal p own q = AreRenewed (folds p) own (folds q) × (examples q ≡ examples p) × (branches q ≡ branches p)

  -- so does each space of some states
  pub states_live : (s : SpacesData) (moves : List (Moved S)) → All (λ m. IsHeld s (examples m.state) (folds m.state) (branches m.state)) moves
      → All (λ k. (l : List Example) × SpaceStands s k l) (spaces_of (λ p. kept_of (folds p)) moves)
  states_live s [] all = All-nil (λ k. (l : List Example) × SpaceStands s k l)
  states_live s (m ∷ moves) all =
      All-append (λ k. (l : List Example) × SpaceStands s k l) (kept_of (folds m.state)) (spaces_of (λ p. kept_of (folds p)) moves)
      (folds_live s (examples m.state) (folds m.state) (All-head (λ (v : Moved S). IsHeld s (examples v.state) (folds v.state) (branches v.state)) m moves all).stand)
      (states_live s moves (All-tail (λ (v : Moved S). IsHeld s (examples v.state) (folds v.state) (branches v.state)) m moves all))

  module _ (a b : SpacesData) (same : b.ground ≡ a.ground)
      (renew : (xs : List Example) (ks : List ℕ) (f g : SpaceFolds T) → AllZip (Succeeds a b) (kept_of f) ks → IsRenewed f ks g → SpacesStand a xs f → SpacesStand b xs g) where
    one_held : (p q : S) (own : List ℕ) → ByRenewal p own q → AllZip (Succeeds a b) (kept_of (folds p)) own → IsHeld a (examples p) (folds p) (branches p) → IsHeld b (examples q) (folds q) (branches q)
    one_held p q own by zip h =
        subst (λ (xs : List Example). IsHeld b xs (folds q) (branches q)) (sym by.1)
        (subst (λ (bs : List Branch). IsHeld b (examples p) (folds q) bs) (sym by.2)
        (compact_held a b (examples p) (folds p) (folds q) (branches p) same ((by.0).renewed).rule (renew (examples p) own (folds p) (folds q) zip (by.0).renewed h.stand) h))

    pub all_held : (before : List (Moved S)) (spaces : List ℕ) (after : List (Moved S)) → AllReplaced ByRenewal before spaces after
        → AllZip (Succeeds a b) (spaces_of (λ p. kept_of (folds p)) before) spaces
        → All (λ m. IsHeld a (examples m.state) (folds m.state) (branches m.state)) before → All (λ m. IsHeld b (examples m.state) (folds m.state) (branches m.state)) after
    all_held [] spaces [] h zip all = λ k d lt. absurd (omega arith)
    all_held [] spaces (n ∷ after) h zip all = absurd h
    all_held (m ∷ before) spaces [] h zip all = absurd h
    all_held (m ∷ before) spaces (n ∷ after) h zip all =
        let held = λ (s : SpacesData) (v : Moved S). IsHeld s (examples v.state) (folds v.state) (branches v.state) in
        let own = h.0 in
        let rest = h.1 in
        let parts : AllZip (Succeeds a b) (kept_of (folds m.state) ++ spaces_of (λ p. kept_of (folds p)) before) (own ++ rest) =
        subst (λ l. AllZip (Succeeds a b) (kept_of (folds m.state) ++ spaces_of (λ p. kept_of (folds p)) before) l) h.2 zip in
        let long = ((h.4).0).long in
        let mine = zip_left (Succeeds a b) (kept_of (folds m.state)) (spaces_of (λ p. kept_of (folds p)) before) own rest long parts in
        let others = zip_right (Succeeds a b) (kept_of (folds m.state)) (spaces_of (λ p. kept_of (folds p)) before) own rest long parts in
        All-cons (held b) n after (one_held m.state n.state own h.4 mine (All-head (held a) m before all))
        (all_held before rest after h.5 others (All-tail (held a) m before all))

  seen_list : (before : List (Moved S)) (spaces : List ℕ) (after : List (Moved S)) → AllReplaced ByRenewal before spaces after → side examples after ≡ side examples before
  seen_list [] spaces [] h = refl
  seen_list [] spaces (n ∷ after) h = absurd h
  seen_list (m ∷ before) spaces [] h = absurd h
  seen_list (m ∷ before) spaces (n ∷ after) h =
      ap (λ (v : List Example). (record { state = v; done = n.done }) ∷ side examples after) (h.4).1
      ∙ ap (λ d. (record { state = examples m.state; done = d }) ∷ side examples after) h.3
      ∙ ap (λ l. (record { state = examples m.state; done = m.done }) ∷ l) (seen_list before h.1 after h.5)

  -- what is seen of a history stays
  pub seen_stays : (old new : Moves S) (spaces : List ℕ) → length new.past ≡ length old.past → AllReplaced ByRenewal (all_moves old) spaces (all_moves new) → seen_as examples new ≡ seen_as examples old
  seen_stays old new spaces long h =
      let listed : side examples (all_moves new) ≡ side examples (all_moves old) = seen_list (all_moves old) spaces (all_moves new) h in
      let whole : side examples new.past ++ side examples new.future ≡ side examples old.past ++ side examples old.future = sym (side_append examples new.past new.future) ∙ listed ∙ side_append examples old.past old.future in
      let size : length (side examples new.past) ≡ length (side examples old.past) = side_long examples new.past ∙ long ∙ sym (side_long examples old.past) in
      let past = front (side examples new.past) (side examples new.future) (side examples old.past) (side examples old.future) size whole in
      let future : side examples new.future ≡ side examples old.future =
      append_cancel_left (side examples old.past) (side examples new.future) (side examples old.future) (ap (λ l. l ++ side examples new.future) (sym past) ∙ whole) in
      λ i. record { past = past i; future = future i }
    where
      front : {A : Type 0} (a b c d : List A) → length a ≡ length c → a ++ b ≡ c ++ d → a ≡ c
      front [] b [] d long e = refl
      front [] b (y ∷ c) d long e = absurd (omega arith)
      front (x ∷ a) b [] d long e = absurd (omega arith)
      front (x ∷ a) b (y ∷ c) d long e = (let e = e in let h : x ≡ y = cc in let t : a ++ b ≡ c ++ d = cc in ap (λ v. v ∷ a) h ∙ ap (λ l. y ∷ l) (front a b c d (omega arith) t))
