-- Accepted examples stay accepted, in each state of a timeline.
use Rattle.std.proofs.Common.{◌≡◌, ℕ, ◌-◌, List, [], ◌∷◌, ◌++◌, length, Option, Some, None, Ok, Err, Result, refl, sym, subst, arith}
use Rattle.std.specs.Prelude.{All, ⊤}
use Rattle.std.proofs.lemmas.List.Elements.{All-append, All-drop, All-nil, All-pop, All-push}
use Rattle.fill_tree.specs.declared.user.Edit.{Edit}
use Rattle.fill_tree.specs.declared.user.Example.{Example}
use Rattle.fill_undo.specs.Done.{done_of}
use Rattle.fill_undo.specs.declared.done.Done.{Done}
use Rattle.fill_undo.specs.declared.done.Moved.{Moved}
use Rattle.fill_space.specs.declared.ground.Ground.{Ground}
use Rattle.fill_session.specs.Fate.{FateIs, IsAccepted}
use Rattle.fill_session.specs.Made.{AreMade, MoveIs, start}
use Rattle.fill_session.specs.Outcome.{Answers}
use Rattle.fill_session.specs.State.{AreHeld}
use Rattle.fill_session.specs.Timeline.{RedoIs, Timeline, UndoIs, edited_by}
use Rattle.fill_session.specs.declared.error.EditError.{EditError}
use Rattle.fill_session.specs.declared.moves.Move.{Move}
use Rattle.fill_session.specs.declared.moves.Move.TheVariants as move
use Rattle.fill_session.specs.declared.moves.Reply.{Reply}
use Rattle.fill_session.proofs.GoingBack.{redo_turned, turned}

-- the examples of the state on the other side of a move
abbrev Leads : Ground → Moved (List Example) → Type 0
Leads g moved = IsAccepted g moved.state

-- the examples of all states are accepted
record AreAccepted (g : Ground) (t : Timeline) : Type 0 where
  pub present : IsAccepted g t.examples
  pub past : All (Leads g) t.moves.past
  pub future : All (Leads g) t.moves.future

at_start : (g : Ground) → AreAccepted g start
at_start g = record {
  present = ([], record { placed = refl; few = omega arith; guarded = tt });
  past = All-nil (Leads g);
  future = All-nil (Leads g);
}

after_edit : (g : Ground) (a b : Timeline) (e : Edit) (answer : Result ⊤ EditError) → AreAccepted g a → Answers g a.examples e answer b.examples → b ≡ edited_by a e answer → AreAccepted g b
after_edit g a b e (Ok done) held h same =
    let m : Moved (List Example) = record { state = a.examples; done = done_of e } in
    let past = a.moves.past ++ m ∷ [] in
    subst (λ (t : Timeline). AreAccepted g t) (sym same) (record {
      present = h.0.1;
      past = All-drop (Leads g) (length past - 32) past (All-push (Leads g) a.moves.past m held.past held.present);
      future = All-nil (Leads g);
    })
after_edit g a b e (Err reason) held h same = subst (λ (t : Timeline). AreAccepted g t) (sym same) held

after_undo : (g : Ground) (a b : Timeline) (done : Option Done) → AreAccepted g a → UndoIs a done b → AreAccepted g b
after_undo g a b None held h = subst (λ (t : Timeline). AreAccepted g t) (sym h.1) held
after_undo g a b (Some done) held h =
    let back : Moved (List Example) = record { state = b.examples; done = done } in
    let forth : Moved (List Example) = record { state = a.examples; done = done } in
    let parts = All-pop (Leads g) a.moves.past b.moves.past (Some back) h.past held.past in
    record {
      present = parts.1;
      past = parts.0;
      future = subst (λ (v : List (Moved (List Example))). All (Leads g) v) (sym h.future) (All-push (Leads g) a.moves.future forth held.future held.present);
    }

after_redo : (g : Ground) (a b : Timeline) (done : Option Done) → AreAccepted g a → RedoIs a done b → AreAccepted g b
after_redo g a b done held h =
    let t = after_undo g (turned a) (turned b) done (record { present = held.present; past = held.future; future = held.past }) (redo_turned a b done h) in
    record { present = t.present; past = t.future; future = t.past }

after_move : (g : Ground) (a b : Timeline) (m : Move) (r : Reply) → AreAccepted g a → MoveIs g a m r b → AreAccepted g b
after_move g a b (move.Edit e) r held h = after_edit g a b e h.0 held h.2 h.4
after_move g a b move.Undo r held h = after_undo g a b h.0 held h.2
after_move g a b move.Redo r held h = after_redo g a b h.0 held h.2
after_move g a b move.Forget r held h =
    subst (λ (t : Timeline). AreAccepted g t) (sym h.1) (record { present = held.present; past = All-nil (Leads g); future = All-nil (Leads g) })

after_all : (g : Ground) (a : Timeline) (moves : List Move) (replies : List Reply) (n : ℕ) (b : Timeline) → AreAccepted g a → AreMade g a moves replies n b → AreAccepted g b
after_all g a [] [] n b held h = subst (λ (t : Timeline). AreAccepted g t) (sym h.1) held
after_all g a [] (r ∷ replies) n b held h = absurd h
after_all g a (m ∷ moves) [] n b held h = absurd h
after_all g a (m ∷ moves) (r ∷ replies) n b held h = after_all g h.0 moves replies h.1 b (after_move g a h.0 m r held h.2) h.4

module _ (g : Ground) (moves : List Move) (replies : List Reply) (n : ℕ) (t : Timeline) (h : AreMade g start moves replies n t) where
  held : AreAccepted g t
  held = after_all g start moves replies n t (at_start g) h

  pub present_accepted : FateIs g t.examples None
  present_accepted = held.present

  pub others_accepted : AreHeld (λ examples. FateIs g examples None) t.moves
  others_accepted = All-append (Leads g) t.moves.past t.moves.future held.past held.future
