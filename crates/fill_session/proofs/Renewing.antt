-- The states of a history, replaced one after the other.
use Rattle.std.proofs.Common.{◌≡◌, ℕ, zero, suc, ◌+◌, ◌≤◌, List, [], ◌∷◌, ◌++◌, length, length-append, take, drop, Option, Some, None, refl, sym, ap, ◌∙◌, subst, arith}
use Rattle.std.proofs.lemmas.List.{append-nil, append_assoc, drop-drop, take_all, drop_all}
use Rattle.std.specs.Prelude.{slice_get, option_map}
use Rattle.fill_undo.specs.Moves.{Moves, count_of, state_at, with_state, with_state_at}
use Rattle.fill_undo.specs.declared.done.Moved.{Moved}
use Rattle.fill_undo.proofs.StateLaws.{joined, length_with, count_stays}
use Rattle.fill_session.specs.Renewed.{AllReplaced, all_moves, spaces_of}
use Rattle.fill_session.proofs.Picked.{flat_push}

module _ {A : Type 0} where
  take_one : (xs : List A) (i : ℕ) (x : A) → slice_get xs i ≡ Some x → take (suc i) xs ≡ take i xs ++ x ∷ []
  take_one [] i x at = absurd (let e = at in cc)
  take_one (y ∷ xs) zero x at = (let e : y ≡ x = let h = at in cc in ap (λ (v : A). v ∷ []) e)
  take_one (y ∷ xs) (suc i) x at = ap (λ l. y ∷ l) (take_one xs i x at)

  drop_one : (xs : List A) (i : ℕ) (x : A) → slice_get xs i ≡ Some x → drop i xs ≡ x ∷ drop (suc i) xs
  drop_one [] i x at = absurd (let e = at in cc)
  drop_one (y ∷ xs) zero x at = (let e : y ≡ x = let h = at in cc in ap (λ (v : A). v ∷ xs) e)
  drop_one (y ∷ xs) (suc i) x at = drop_one xs i x at

  head_is : (xs : List A) (i : ℕ) → slice_get xs i ≡ slice_get (drop i xs) 0
  head_is [] zero = refl
  head_is [] (suc i) = refl
  head_is (x ∷ xs) zero = refl
  head_is (x ∷ xs) (suc i) = head_is xs i

module _ {S : Type 0} where
  some_state : (o : Option (Moved S)) (s : S) → option_map (λ (m : Moved S). m.state) o ≡ Some s → (m : Moved S) × (o ≡ Some m) × (m.state ≡ s)
  some_state None s at = absurd (let e = at in cc)
  some_state (Some m) s at = (m, refl, (let e = at in cc))

  taken : (xs : List (Moved S)) (i : ℕ) (s : S) (m : Moved S) → slice_get xs i ≡ Some m → take (suc i) (with_state xs i s) ≡ take i xs ++ (record { state = s; done = m.done }) ∷ []
  taken [] i s m at = absurd (let e = at in cc)
  taken (x ∷ xs) zero s m at = (let e : x ≡ m = let h = at in cc in ap (λ (v : Moved S). (record { state = s; done = v.done }) ∷ []) e)
  taken (x ∷ xs) (suc i) s m at = ap (λ l. x ∷ l) (taken xs i s m at)

  ahead : (xs : List (Moved S)) (i : ℕ) (s : S) → drop (suc i) (with_state xs i s) ≡ drop (suc i) xs
  ahead [] i s = refl
  ahead (x ∷ xs) zero s = refl
  ahead (x ∷ xs) (suc i) s = ahead xs i s

  -- the spaces of one state more
  pub spaces_more : (kept : S → List ℕ) (moves : Moves S) (i : ℕ) (s : S) → state_at moves i ≡ Some s → spaces_of kept (take (i + 1) (all_moves moves)) ≡ spaces_of kept (take i (all_moves moves)) ++ kept s
  spaces_more kept moves i s at =
      let found = some_state (slice_get (all_moves moves) i) s at in
      let step : suc i ≡ i + 1 = omega arith in
      subst (λ k. spaces_of kept (take k (all_moves moves)) ≡ spaces_of kept (take i (all_moves moves)) ++ kept s) step
      (ap (λ l. spaces_of kept l) (take_one (all_moves moves) i found.0 found.1) ∙ flat_push (λ (m : Moved S). kept m.state) (take i (all_moves moves)) found.0
      ∙ ap (λ v. spaces_of kept (take i (all_moves moves)) ++ kept v) found.2)

  -- and of all states
  pub spaces_all : (kept : S → List ℕ) (moves : Moves S) (i : ℕ) → count_of moves ≤ i → spaces_of kept (take i (all_moves moves)) ≡ spaces_of kept (all_moves moves)
  spaces_all kept moves i end =
      let size : length (all_moves moves) ≤ i = omega (arith, length-append moves.past moves.future) in
      ap (λ l. spaces_of kept l) (take_all i (all_moves moves) size)

module _ {S : Type 0} (by : S → List ℕ → S → Type 0) where
  one_more : (before : List (Moved S)) (spaces : List ℕ) (after : List (Moved S)) (m n : Moved S) (own : List ℕ) → AllReplaced by before spaces after → n.done ≡ m.done → by m.state own n.state
      → AllReplaced by (before ++ m ∷ []) (spaces ++ own) (after ++ n ∷ [])
  one_more [] spaces [] m n own h d r = (own, [], ap (λ l. l ++ own) h ∙ sym (append-nil own), d, r, refl)
  one_more [] spaces (y ∷ after) m n own h d r = absurd h
  one_more (x ∷ before) spaces [] m n own h d r = absurd h
  one_more (x ∷ before) spaces (y ∷ after) m n own h d r =
      (h.0, h.1 ++ own, ap (λ l. l ++ own) h.2 ∙ append_assoc h.0 h.1 own, h.3, h.4, one_more before h.1 after m n own h.5 d r)

  -- the first i states are replaced, by means of the listed spaces before those that are left
  pub record AreReplacing (kept : S → List ℕ) (old now : Moves S) (spaces left : List ℕ) (i : ℕ) : Type 0 where
    pub past : length now.past ≡ length old.past
    pub count : count_of now ≡ count_of old
    pub ahead : drop i (all_moves now) ≡ drop i (all_moves old)
    pub used : List ℕ
    pub split : spaces ≡ used ++ left
    pub done : AllReplaced by (take i (all_moves old)) used (take i (all_moves now))
    pub long : length left ≡ length (spaces_of kept (drop i (all_moves old)))

  replaced_to : (kept : S → List ℕ) (old now : Moves S) (spaces left : List ℕ) (i : ℕ) (s next : S) (own rest : List ℕ) → AreReplacing kept old now spaces left i → state_at now i ≡ Some s
      → by s own next → left ≡ own ++ rest → length own ≡ length (kept s) → AreReplacing kept old (with_state_at now i next) spaces rest (suc i)
  replaced_to kept old now spaces left i s next own rest h at r parts size =
      let now_list = all_moves now in
      let old_list = all_moves old in
      let found = some_state (slice_get now_list i) s at in
      let m = found.0 in
      let there : slice_get old_list i ≡ Some m = head_is old_list i ∙ ap (λ l. slice_get l 0) (sym h.ahead) ∙ sym (head_is now_list i) ∙ found.1 in
      let whole = joined now.past now.future i next in
      let n : Moved S = record { state = next; done = m.done } in
      let one : by m.state own n.state = subst (λ v. by v own next) (sym found.2) r in
      let made : AllReplaced by (take i old_list ++ m ∷ []) (h.used ++ own) (take i now_list ++ n ∷ []) = one_more (take i old_list) h.used (take i now_list) m n own h.done refl one in
      let grown : length (spaces_of kept (drop i old_list)) ≡ length (kept m.state) + length (spaces_of kept (drop (suc i) old_list)) =
      ap (λ l. length (spaces_of kept l)) (drop_one old_list i m there) ∙ length-append (kept m.state) (spaces_of kept (drop (suc i) old_list)) in
      let same : length (kept m.state) ≡ length (kept s) = ap (λ v. length (kept v)) found.2 in
      let cut : length left ≡ length own + length rest = ap length parts ∙ length-append own rest in
      let before = h.long in record {
        past = length_with now.past i next ∙ h.past;
        count = count_stays now i next ∙ h.count;
        ahead = ap (λ l. drop (suc i) l) whole ∙ ahead now_list i next ∙ (let e : i + 1 ≡ suc i = omega arith in
            subst (λ k. drop k now_list ≡ drop k old_list) e (sym (drop-drop 1 i now_list) ∙ ap (λ l. drop 1 l) h.ahead ∙ drop-drop 1 i old_list));
        used = h.used ++ own;
        split = h.split ∙ ap (λ l. h.used ++ l) parts ∙ sym (append_assoc h.used own rest);
        done = subst (λ l. AllReplaced by l (h.used ++ own) (take (suc i) (all_moves (with_state_at now i next)))) (sym (take_one old_list i m there))
            (subst (λ l. AllReplaced by (take i old_list ++ m ∷ []) (h.used ++ own) l) (sym (ap (λ l. take (suc i) l) whole ∙ taken now_list i next m found.1)) made);
        long = omega arith;
      }

  -- what is left has the spaces of the next state
  pub replace_room : (kept : S → List ℕ) (old now : Moves S) (spaces left : List ℕ) (i : ℕ) (s : S) → AreReplacing kept old now spaces left i → state_at now i ≡ Some s → length (kept s) ≤ length left
  replace_room kept old now spaces left i s h at =
      let now_list = all_moves now in
      let old_list = all_moves old in
      let found = some_state (slice_get now_list i) s at in
      let there : slice_get old_list i ≡ Some found.0 = head_is old_list i ∙ ap (λ l. slice_get l 0) (sym h.ahead) ∙ sym (head_is now_list i) ∙ found.1 in
      let grown : length (spaces_of kept (drop i old_list)) ≡ length (kept (found.0).state) + length (spaces_of kept (drop (suc i) old_list)) =
      ap (λ l. length (spaces_of kept l)) (drop_one old_list i found.0 there) ∙ length-append (kept (found.0).state) (spaces_of kept (drop (suc i) old_list)) in
      let same : length (kept (found.0).state) ≡ length (kept s) = ap (λ v. length (kept v)) found.2 in
      let long = h.long in
      omega arith

  pub replace_one : (kept : S → List ℕ) (old now : Moves S) (spaces left : List ℕ) (i : ℕ) (s next : S) (own rest : List ℕ) → AreReplacing kept old now spaces left i → state_at now i ≡ Some s
      → by s own next → left ≡ own ++ rest → length own ≡ length (kept s) → AreReplacing kept old (with_state_at now i next) spaces rest (i + 1)
  replace_one kept old now spaces left i s next own rest h at r parts size =
      let step : suc i ≡ i + 1 = omega arith in
      subst (λ k. AreReplacing kept old (with_state_at now i next) spaces rest k) step (replaced_to kept old now spaces left i s next own rest h at r parts size)

  pub replace_end : (kept : S → List ℕ) (old now : Moves S) (spaces left : List ℕ) (i : ℕ) → AreReplacing kept old now spaces left i → count_of old ≤ i → AllReplaced by (all_moves old) spaces (all_moves now)
  replace_end kept old now spaces left i h end =
      let size : length (all_moves old) ≤ i = omega (arith, length-append old.past old.future) in
      let size' : length (all_moves now) ≤ i = (let e = h.count in omega (arith, length-append now.past now.future)) in
      let none : length left ≡ 0 = h.long ∙ ap (λ l. length (spaces_of kept l)) (drop_all i (all_moves old) size) in
      let all : h.used ≡ spaces = sym (h.split ∙ ap (λ l. h.used ++ l) (empty left none) ∙ append-nil h.used) in
      subst (λ l. AllReplaced by (all_moves old) l (all_moves now)) all
      (subst (λ l. AllReplaced by l h.used (all_moves now)) (take_all i (all_moves old) size) (subst (λ l. AllReplaced by (take i (all_moves old)) h.used l) (take_all i (all_moves now) size') h.done))
    where
      empty : (l : List ℕ) → length l ≡ 0 → l ≡ []
      empty [] e = refl
      empty (x ∷ l) e = absurd (omega arith)
