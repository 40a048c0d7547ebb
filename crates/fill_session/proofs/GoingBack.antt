-- Undo after an edit, and redo after an undo, come back to where they began; and both have one answer.
use Rattle.std.proofs.Common.{◌≡◌, ◌-◌, List, [], ◌∷◌, ◌++◌, length, length-append, drop, Option, Some, None, refl, sym, ap, ◌∙◌, subst, arith}
use Rattle.std.proofs.lemmas.List.{drop-append-le, same_from_push}
use Rattle.fill_tree.specs.declared.user.Edit.{Edit}
use Rattle.fill_tree.specs.declared.user.Example.{Example}
use Rattle.fill_undo.specs.Done.{done_of}
use Rattle.fill_undo.specs.Moves.{latest}
use Rattle.fill_undo.specs.declared.done.Done.{Done}
use Rattle.fill_undo.specs.declared.done.Moved.{Moved}
use Rattle.fill_session.specs.Timeline.{RedoIs, Timeline, UndoIs, edited}

module _ {A : Type 0} where
  -- the latest ones end with the last one
  latest_ends : (xs : List A) (x : A) → latest (xs ++ x ∷ []) ≡ drop (length (xs ++ x ∷ []) - 32) xs ++ x ∷ []
  latest_ends xs x = drop-append-le (length (xs ++ x ∷ []) - 32) xs (x ∷ []) (omega (arith, length-append xs (x ∷ [])))

  not_none : (xs : List A) (x : A) → xs ++ x ∷ [] ≡ [] → ⊥
  not_none [] x e = let e = e in cc
  not_none (y ∷ xs) x e = let e = e in cc

undone_from : (a c : Timeline) (edit : Edit) (o : Option Done) → UndoIs (edited a edit) o c → (o ≡ Some (done_of edit)) × (c.examples ≡ a.examples)
undone_from a c edit None h =
    let m : Moved (List Example) = record { state = a.examples; done = done_of edit } in
    absurd (not_none (drop (length (a.moves.past ++ m ∷ []) - 32) a.moves.past) m (sym (latest_ends a.moves.past m) ∙ h.0))
undone_from a c edit (Some done) h =
    let m : Moved (List Example) = record { state = a.examples; done = done_of edit } in
    let n : Moved (List Example) = record { state = c.examples; done = done } in
    let same = same_from_push (drop (length (a.moves.past ++ m ∷ []) - 32) a.moves.past) c.moves.past m n (sym (latest_ends a.moves.past m) ∙ h.past) in
    (ap (λ (v : Moved (List Example)). Some v.done) (sym same.1), ap (λ (v : Moved (List Example)). v.state) (sym same.1))

pub undone_is : (a b c : Timeline) (edit : Edit) (o : Option Done) → b ≡ edited a edit → UndoIs b o c → (o ≡ Some (done_of edit)) × (c.examples ≡ a.examples)
undone_is a b c edit o after h = undone_from a c edit o (subst (λ (v : Timeline). UndoIs v o c) after h)

pub undo_is_one : (a b c : Timeline) (o p : Option Done) → UndoIs a o b → UndoIs a p c → (o ≡ p) × (b ≡ c)
undo_is_one a b c None None h k = (refl, h.1 ∙ sym k.1)
undo_is_one a b c None (Some p) h k = absurd (not_none c.moves.past (record { state = c.examples; done = p }) (sym k.past ∙ h.0))
undo_is_one a b c (Some o) None h k = absurd (not_none b.moves.past (record { state = b.examples; done = o }) (sym h.past ∙ k.0))
undo_is_one a b c (Some o) (Some p) h k =
    let m : Moved (List Example) = record { state = b.examples; done = o } in
    let n : Moved (List Example) = record { state = c.examples; done = p } in
    let same = same_from_push b.moves.past c.moves.past m n (sym h.past ∙ k.past) in
    let past : b.moves.past ≡ c.moves.past = same.0 in
    let examples : b.examples ≡ c.examples = ap (λ (v : Moved (List Example)). v.state) same.1 in
    let kind : o ≡ p = ap (λ (v : Moved (List Example)). v.done) same.1 in
    let future : b.moves.future ≡ c.moves.future = h.future ∙ ap (λ (d : Done). a.moves.future ++ (record { state = a.examples; done = d }) ∷ []) kind ∙ sym k.future in
    (ap (λ (d : Done). Some d) kind, λ i. record { examples = examples i; moves = record { past = past i; future = future i } })

-- the same timeline with past and future in each other's place
abbrev pub turned : Timeline → Timeline
turned t = record { examples = t.examples; moves = record { past = t.moves.future; future = t.moves.past } }

-- what is redone is undone there
pub redo_turned : (a b : Timeline) (o : Option Done) → RedoIs a o b → UndoIs (turned a) o (turned b)
redo_turned a b None h = (h.0, ap turned h.1)
redo_turned a b (Some done) h = record { past = h.future; future = h.past }

pub redo_is_one : (a b c : Timeline) (o p : Option Done) → RedoIs a o b → RedoIs a p c → (o ≡ p) × (b ≡ c)
redo_is_one a b c o p h k =
    let same = undo_is_one (turned a) (turned b) (turned c) o p (redo_turned a b o h) (redo_turned a c p k) in
    (same.0, ap turned same.1)

pub redone_is : (a b c : Timeline) (done : Done) (o : Option Done) → UndoIs a (Some done) b → RedoIs b o c → (o ≡ Some done) × (c ≡ a)
redone_is a b c done o h k = redo_is_one b c a o (Some done) k (record { future = h.future; past = h.past })
