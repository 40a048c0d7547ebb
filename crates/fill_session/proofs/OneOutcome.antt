-- Moves have one outcome: one reply to each, and one timeline that they leave.
use Rattle.std.proofs.Common.{◌≡◌, ◌≢◌, ℕ, ◌+◌, List, [], ◌∷◌, Option, None, Some, Ok, Err, Result, refl, sym, ap, ◌∙◌, subst, inl, inr}
use Rattle.std.specs.Prelude.{All, ⊤}
use Rattle.std.proofs.lemmas.List.Elements.{All-head, All-tail}
use Rattle.std.proofs.lemmas.Option.{none-some, same_Some}
use Rattle.fill_tree.specs.declared.user.Edit.{Edit}
use Rattle.fill_tree.specs.declared.user.Example.{Example}
use Rattle.fill_space.specs.declared.ground.Ground.{Ground}
use Rattle.fill_session.specs.Edits.{changed}
use Rattle.fill_session.specs.Made.{AreMade, MoveIs, move_term}
use Rattle.fill_session.specs.Outcome.{Answers, OutcomeIs}
use Rattle.fill_session.specs.Timeline.{Timeline, edited_by}
use Rattle.fill_session.specs.declared.error.EditError.{EditError}
use Rattle.fill_session.specs.declared.error.EditError.TheVariants as error
use Rattle.fill_session.specs.declared.moves.Move.{Move}
use Rattle.fill_session.specs.declared.moves.Move.TheVariants as move
use Rattle.fill_session.specs.declared.moves.Reply.{Reply}
use Rattle.fill_session.specs.declared.moves.Reply.TheVariants as reply
use Rattle.fill_session.proofs.GoingBack.{redo_is_one, undo_is_one}
use Rattle.fill_session.proofs.OneFate.{fate_is_one}

pub outcome_is_one : (g : Ground) (examples : List Example) (e : Edit) (a b : Option EditError) → OutcomeIs g examples e a → OutcomeIs g examples e b → a ≡ b
outcome_is_one g examples e None None h k = refl
outcome_is_one g examples e None (Some r) h (inl k) = sym h.0 ∙ k
outcome_is_one g examples e None (Some r) h (inr k) = fate_is_one g (changed examples e) None (Some r) h.1 k.1
outcome_is_one g examples e (Some r) None (inl h) k = sym h ∙ k.0
outcome_is_one g examples e (Some r) None (inr h) k = fate_is_one g (changed examples e) (Some r) None h.1 k.1
outcome_is_one g examples e (Some r) (Some s) (inl h) (inl k) = sym h ∙ k
outcome_is_one g examples e (Some r) (Some s) (inl h) (inr k) = absurd (none-some r (sym k.0 ∙ h))
outcome_is_one g examples e (Some r) (Some s) (inr h) (inl k) = absurd (none-some s (sym h.0 ∙ k))
outcome_is_one g examples e (Some r) (Some s) (inr h) (inr k) = fate_is_one g (changed examples e) (Some r) (Some s) h.1 k.1

-- an edit's answer that is not out of memory
abbrev IsAnswer : Result ⊤ EditError → Type 0
IsAnswer a = a ≢ Err error.NoMemory

answer_is_one : (g : Ground) (examples after other : List Example) (e : Edit) (a b : Result ⊤ EditError) → IsAnswer a → IsAnswer b → Answers g examples e a after → Answers g examples e b other → a ≡ b
answer_is_one g examples after other e (Ok x) (Ok y) p q h k = refl
answer_is_one g examples after other e (Ok x) (Err s) p q h k =
    absurd (none-some s (outcome_is_one g examples e None (Some s) h.0 (k.0 (λ same. q (ap (λ (r : EditError). Err r) same)))))
answer_is_one g examples after other e (Err r) (Ok y) p q h k =
    absurd (none-some r (outcome_is_one g examples e None (Some r) k.0 (h.0 (λ same. p (ap (λ (r : EditError). Err r) same)))))
answer_is_one g examples after other e (Err r) (Err s) p q h k =
    let one = outcome_is_one g examples e (Some r) (Some s) (h.0 (λ same. p (ap (λ (r : EditError). Err r) same))) (k.0 (λ same. q (ap (λ (r : EditError). Err r) same))) in
    ap (λ (r : EditError). Err r) (same_Some r s one)

-- a move's reply that is none
abbrev IsReply : Reply → Type 0
IsReply r = r ≢ reply.Edited (Err error.NoMemory)

move_is_one : (g : Ground) (a b c : Timeline) (m : Move) (r s : Reply) → IsReply r → IsReply s → MoveIs g a m r b → MoveIs g a m s c → (r ≡ s) × (b ≡ c)
move_is_one g a b c (move.Edit e) r s p q h k =
    let one = answer_is_one g a.examples b.examples c.examples e h.0 k.0 (λ same. p (h.1 ∙ ap reply.Edited same)) (λ same. q (k.1 ∙ ap reply.Edited same)) h.2 k.2 in
    (h.1 ∙ ap reply.Edited one ∙ sym k.1, h.4 ∙ ap (λ (v : Result ⊤ EditError). edited_by a e v) one ∙ sym k.4)
move_is_one g a b c move.Undo r s p q h k =
    let one = undo_is_one a b c h.0 k.0 h.2 k.2 in
    (h.1 ∙ ap reply.Undone one.0 ∙ sym k.1, one.1)
move_is_one g a b c move.Redo r s p q h k =
    let one = redo_is_one a b c h.0 k.0 h.2 k.2 in
    (h.1 ∙ ap reply.Redone one.0 ∙ sym k.1, one.1)
move_is_one g a b c move.Forget r s p q h k = (h.0 ∙ sym k.0, h.1 ∙ sym k.1)

pub moves_are_one : (g : Ground) (a : Timeline) (moves : List Move) (ones others : List Reply) (n k : ℕ) (b c : Timeline) → All IsReply ones → All IsReply others
    → AreMade g a moves ones n b → AreMade g a moves others k c → (ones ≡ others) × (n ≡ k) × (b ≡ c)
moves_are_one g a [] [] [] n k b c p q h l = (refl, h.0 ∙ sym l.0, h.1 ∙ sym l.1)
moves_are_one g a [] [] (s ∷ others) n k b c p q h l = absurd l
moves_are_one g a [] (r ∷ ones) others n k b c p q h l = absurd h
moves_are_one g a (m ∷ moves) [] others n k b c p q h l = absurd h
moves_are_one g a (m ∷ moves) (r ∷ ones) [] n k b c p q h l = absurd l
moves_are_one g a (m ∷ moves) (r ∷ ones) (s ∷ others) n k b c p q h l =
    let one = move_is_one g a h.0 l.0 m r s (All-head IsReply r ones p) (All-head IsReply s others q) h.2 l.2 in
    let later = moves_are_one g l.0 moves ones others h.1 l.1 b c (All-tail IsReply r ones p) (All-tail IsReply s others q) (subst (λ (t : Timeline). AreMade g t moves ones h.1 b) one.1 h.4) l.4 in
    ((λ i. one.0 i ∷ later.0 i), h.3 ∙ ap (λ (v : ℕ). move_term g.sheet a.examples m + v) later.1 ∙ sym l.3, later.2)
