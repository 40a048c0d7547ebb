-- Rows under other numbers.
use Rattle.std.proofs.Common.{◌≡◌, ◌∙◌, ℕ, suc, List, [], ◌∷◌, Contains, Option, map, ap, ap₂, arith, refl, subst, sym}
use Rattle.std.proofs.lemmas.List.Elements.{All-contains}
use Rattle.fill_tree.specs.declared.user.Example.{Example}
use Rattle.fill_local.specs.Local.{AreRenumbered, HoldSame, renumbered, renumbered_branch}
use Rattle.fill_space.specs.Objector.{ObjectionTree}
use Rattle.fill_space.specs.declared.ground.Ground.{Ground}
use Rattle.fill_session.specs.Answers.{AnswerIs}
use Rattle.fill_session.specs.Branches.{AreBranches, BranchData}
use Rattle.fill_session.specs.Edits.{rows_of}
use Rattle.fill_session.specs.Objector.{ObjectorIs}
use Rattle.fill_session.specs.declared.answer.Answer.{Answer}
use Rattle.fill_local.proofs.Answering.{answer_to, branches_to}
use Rattle.fill_local.proofs.Objecting.{objector_to}
use Rattle.fill_local.proofs.Paired.{AreAlike, ArePaired, SaySame, SaysSame}

pub contains_more : (x : ℕ) (xs : List ℕ) (r : ℕ) → Contains xs r → Contains (x ∷ xs) r
contains_more x xs r c = (suc c.0, omega (arith, c.1), c.2)

module _ (number : ℕ → ℕ) (rows : List ℕ) where
  -- each of these rows, with its number
  abbrev pub Numbered : ℕ → ℕ → Type 0
  Numbered r q = (number r ≡ q) × Contains rows r

  pub say_numbered : (es : List Example) → ((r : ℕ) → Contains (rows_of es) r → Contains rows r) → SaySame Numbered es (renumbered number es)
  say_numbered [] inside = tt
  say_numbered (e ∷ es) inside =
      let one : SaysSame Numbered e (record { row = number e.row; text = e.text }) = record { row = (refl, inside e.row (0, omega arith, refl)); text = refl } in
      (one, say_numbered es (λ r c. inside r (contains_more e.row (rows_of es) r c)))

  -- examples of paired rows are those under other numbers
  pub are_numbered : (es ds : List Example) → SaySame Numbered es ds → ds ≡ renumbered number es
  are_numbered [] [] z = refl
  are_numbered [] (d ∷ ds) z = absurd z
  are_numbered (e ∷ es) [] z = absurd z
  are_numbered (e ∷ es) (d ∷ ds) z =
      let one : d ≡ record { row = number e.row; text = e.text } = λ i. record { row = sym z.0.row.0 i; text = sym z.0.text i } in
      ap₂ (λ x l. x ∷ l) one (are_numbered es ds z.1)

  alike_numbered : (bs cs : List BranchData) → AreAlike Numbered bs cs → cs ≡ map (renumbered_branch number) bs
  alike_numbered [] [] z = refl
  alike_numbered [] (c ∷ cs) z = absurd z
  alike_numbered (b ∷ bs) [] z = absurd z
  alike_numbered (b ∷ bs) (c ∷ cs) z =
      let one : c ≡ renumbered_branch number b = λ i. record { examples = are_numbered b.examples c.examples z.0.examples i; guard = sym z.0.guard i; program = sym z.0.program i } in
      ap₂ (λ x l. x ∷ l) one (alike_numbered bs cs z.1)

module _ (g h : Ground) (number : ℕ → ℕ) where
  pub paired : (rows : List ℕ) → AreRenumbered g h number rows → ArePaired g h (Numbered number rows)
  paired rows are = record {
    same = are.same;
    cells = λ r q pair. subst (λ x. HoldSame g.sheet h.sheet r x) pair.0 (All-contains (λ x. HoldSame g.sheet h.sheet x (number x)) rows r are.cells pair.1);
    once = λ r q a b first second. ((λ e. sym first.0 ∙ (ap number e ∙ second.0)), (λ e. are.once r q first.1 second.1 (first.0 ∙ (e ∙ sym second.0))));
  }

  pub branches_renumbered : (es : List Example) (bs : List BranchData) → AreRenumbered g h number (rows_of es) → AreBranches g es bs → AreBranches h (renumbered number es) (map (renumbered_branch number) bs)
  branches_renumbered es bs are b =
      let t = branches_to g h (Numbered number (rows_of es)) (paired (rows_of es) are) es (renumbered number es) (say_numbered number (rows_of es) es (λ r c. c)) bs b in
      subst (λ l. AreBranches h (renumbered number es) l) (alike_numbered number (rows_of es) bs t.0 t.2) t.1

  module _ (es : List Example) (row : ℕ) (are : AreRenumbered g h number (row ∷ rows_of es)) where
    said : SaySame (Numbered number (row ∷ rows_of es)) es (renumbered number es)
    said = say_numbered number (row ∷ rows_of es) es (λ r c. contains_more row (rows_of es) r c)

    asked : Numbered number (row ∷ rows_of es) row (number row)
    asked = (refl, (0, omega arith, refl))

    pub answer_renumbered : (a : Answer) → AnswerIs g es row a → AnswerIs h (renumbered number es) (number row) a
    answer_renumbered a w = answer_to g h (Numbered number (row ∷ rows_of es)) (paired (row ∷ rows_of es) are) es (renumbered number es) said row (number row) asked a w

    pub objector_renumbered : (found : Option ObjectionTree) → ObjectorIs g es row found → ObjectorIs h (renumbered number es) (number row) found
    objector_renumbered found w = objector_to g h (Numbered number (row ∷ rows_of es)) (paired (row ∷ rows_of es) are) es (renumbered number es) said row (number row) asked found w
