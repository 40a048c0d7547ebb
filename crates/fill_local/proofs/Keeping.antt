-- Rows that keep their numbers.
use Rattle.std.proofs.Common.{◌≡◌, ◌∙◌, ℕ, List, [], ◌∷◌, Option, refl, subst, sym}
use Rattle.std.proofs.lemmas.List.Elements.{All-head, All-tail}
use Rattle.fill_tree.specs.declared.user.Example.{Example}
use Rattle.fill_local.specs.Local.{AreKept, HoldSame, IsSameButRows}
use Rattle.fill_local.proofs.Paired.{ArePaired, SaySame, SaysSame}
use Rattle.fill_space.specs.Objector.{ObjectionTree}
use Rattle.fill_space.specs.declared.ground.Ground.{Ground}
use Rattle.fill_session.specs.Answers.{AnswerIs}
use Rattle.fill_session.specs.Edits.{rows_of}
use Rattle.fill_session.specs.Objector.{ObjectorIs}
use Rattle.fill_session.specs.declared.answer.Answer.{Answer}
use Rattle.fill_local.proofs.Answering.{answer_to}
use Rattle.fill_local.proofs.Objecting.{objector_to}

module _ (g h : Ground) where
  -- each row that holds the same in both, with itself
  abbrev Itself : ℕ → ℕ → Type 0
  Itself r q = (r ≡ q) × HoldSame g.sheet h.sheet r r

  paired : IsSameButRows g h → ArePaired g h Itself
  paired same = record {
    same = same;
    cells = λ r q pair. subst (λ x. HoldSame g.sheet h.sheet r x) pair.0 pair.1;
    once = λ r q a b first second. ((λ e. sym first.0 ∙ (e ∙ second.0)), (λ e. first.0 ∙ (e ∙ sym second.0)));
  }

  says_itself : (es : List Example) → AreKept g h (rows_of es) → SaySame Itself es es
  says_itself [] k = tt
  says_itself (e ∷ es) k =
      let one : SaysSame Itself e e = record { row = (refl, All-head (λ r. HoldSame g.sheet h.sheet r r) e.row (rows_of es) k); text = refl } in
      (one, says_itself es (All-tail (λ r. HoldSame g.sheet h.sheet r r) e.row (rows_of es) k))

  pub answer_kept : IsSameButRows g h → (es : List Example) (row : ℕ) → AreKept g h (row ∷ rows_of es) → (a : Answer) → AnswerIs g es row a → AnswerIs h es row a
  answer_kept same es row k a w =
      answer_to g h Itself (paired same) es es (says_itself es (All-tail (λ r. HoldSame g.sheet h.sheet r r) row (rows_of es) k)) row row (refl, All-head (λ r. HoldSame g.sheet h.sheet r r) row (rows_of es) k) a w

  pub objector_kept : IsSameButRows g h → (es : List Example) (row : ℕ) → AreKept g h (row ∷ rows_of es) → (found : Option ObjectionTree) → ObjectorIs g es row found → ObjectorIs h es row found
  objector_kept same es row k found w =
      objector_to g h Itself (paired same) es es (says_itself es (All-tail (λ r. HoldSame g.sheet h.sheet r r) row (rows_of es) k)) row row (refl, All-head (λ r. HoldSame g.sheet h.sheet r r) row (rows_of es) k) found w
