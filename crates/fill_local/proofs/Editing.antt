-- What one more example leads to, where rows stand under other numbers.
use Rattle.std.proofs.Common.{◌≡◌, ◌∙◌, ◌↔◌, ℕ, ◌<◌, not, if◌then◌else◌, nat_le, nat_lt, Bool, true, false, List, ◌∷◌, length, Option, None, Some, option_map, ap, arith, eq-or-lt_of_le, inl, inr, lt_irrefl, lt_of_not-le, lt_trans, refl, subst, sym}
use Rattle.std.proofs.lemmas.List.Elements.{All-head}
use Rattle.std.specs.Option.{option_or}
use Rattle.fill_tree.specs.declared.user.Example.{Example}
use Rattle.fill_local.specs.Local.{AreInOrder, renumbered, renumbered_reason}
use Rattle.fill_space.specs.declared.ground.Ground.{Ground}
use Rattle.fill_session.specs.Edits.{rows_of, with_example}
use Rattle.fill_session.specs.Fate.{FateIs, IsRowOfNinth, IsRowWithoutProgram}
use Rattle.fill_session.specs.Outcome.{OutcomeIs, first_reason, has_example, inputs_length, is_row}
use Rattle.fill_session.specs.declared.error.EditError.{EditError}
use Rattle.fill_session.specs.declared.error.EditError.TheVariants as error
use Rattle.fill_session.specs.declared.error.Part.TheVariants as part
use Rattle.fill_tree.specs.declared.user.Edit.TheVariants.{Add}
use Rattle.fill_local.proofs.Answering.{branches_to}
use Rattle.fill_local.proofs.Fates.{ninth_row_to, without_guard_to, without_program_to}
use Rattle.fill_local.proofs.Outcomes.{reason_same, with_same}
use Rattle.fill_local.proofs.Paired.{ArePaired, SaySame, SaysSame}
use Rattle.fill_local.proofs.Renumbering.{Numbered, are_numbered, contains_more, paired, say_numbered}

-- a reason that is seen without a look at programs names no row of an example
module _ (number : ℕ → ℕ) (rows n k : ℕ) where
  abbrev seen : (inside has long wide many : Bool) → Option EditError
  seen inside has long wide many = if not inside then Some (error.NoSuchRow rows) else if has then Some error.HasExample else
      option_or (if long then Some (error.TooLong part.Text n) else if wide then Some (error.TooLong part.Inputs k) else None) (if many then Some error.TooMany else None)

  seen_stays : (inside has long wide many : Bool) → option_map (renumbered_reason number) (seen inside has long wide many) ≡ seen inside has long wide many
  seen_stays false has long wide many = refl
  seen_stays true true long wide many = refl
  seen_stays true false true wide many = refl
  seen_stays true false false true many = refl
  seen_stays true false false false true = refl
  seen_stays true false false false false = refl

reason_stays : (number : ℕ → ℕ) (g : Ground) (es : List Example) (e : Example) → option_map (renumbered_reason number) (first_reason g.sheet es (Add e.row e.text)) ≡ first_reason g.sheet es (Add e.row e.text)
reason_stays number g es e =
    seen_stays number (length g.sheet.rows) (length e.text) (inputs_length g.sheet e.row) (is_row g.sheet e.row) (has_example es e.row) (nat_lt 100 (length e.text)) (nat_lt 1000 (inputs_length g.sheet e.row)) (nat_le 64 (length es))

module _ (g h : Ground) (number : ℕ → ℕ) (es : List Example) (e : Example) (are : AreInOrder g h number (e.row ∷ rows_of es)) where
  abbrev rows : List ℕ
  rows = e.row ∷ rows_of es

  pair : ArePaired g h (Numbered number rows)
  pair = paired g h number rows are.renumbered

  order : (r q a b : ℕ) → Numbered number rows r a → Numbered number rows q b → (r < q) ↔ (a < b)
  order r q a b first second = ((λ lt. subst (λ x. a < x) second.0 (subst (λ x. x < number q) first.0 (are.order r q first.1 second.1 lt))), back)
    where
      back : a < b → r < q
      back lt = lt_of_not-le (λ le. elim (eq-or-lt_of_le le) [
        | inl same ↦ lt_irrefl a (subst (λ x. a < x) ((pair.once q r b a second first).0 same) lt)
        | inr less ↦ lt_irrefl a (lt_trans lt (subst (λ x. b < x) first.0 (subst (λ x. x < number r) second.0 (are.order q r second.1 first.1 less))))
      ])

  abbrev other : Example
  other = record { row = number e.row; text = e.text }

  says : SaysSame (Numbered number rows) e other
  says = record { row = (refl, (0, omega arith, refl)); text = refl }

  zip : SaySame (Numbered number rows) es (renumbered number es)
  zip = say_numbered number rows es (λ r c. contains_more e.row (rows_of es) r c)

  after : SaySame (Numbered number rows) (with_example e es) (with_example other (renumbered number es))
  after = with_same (Numbered number rows) pair.once order e other says es (renumbered number es) zip

  pub changed_to : with_example other (renumbered number es) ≡ renumbered number (with_example e es)
  changed_to = are_numbered number rows (with_example e es) (with_example other (renumbered number es)) after

  fate_to : (o : Option EditError) → FateIs g (with_example e es) o → FateIs h (with_example other (renumbered number es)) (option_map (renumbered_reason number) o)
  fate_to None w = let t = branches_to g h (Numbered number rows) pair (with_example e es) (with_example other (renumbered number es)) after w.0 w.1 in (t.0, t.1)
  fate_to (Some (error.NoProgram row)) w =
      let t = without_program_to g h (Numbered number rows) pair (with_example e es) (with_example other (renumbered number es)) after row w in
      subst (λ x. IsRowWithoutProgram h (with_example other (renumbered number es)) x) (sym t.1.0) t.2
  fate_to (Some (error.TooManyBranches row)) w =
      let t = ninth_row_to g h (Numbered number rows) pair (with_example e es) (with_example other (renumbered number es)) after row w in
      subst (λ x. IsRowOfNinth h (with_example other (renumbered number es)) x) (sym t.1.0) t.2
  fate_to (Some (error.NoGuard branch)) w = without_guard_to g h (Numbered number rows) pair (with_example e es) (with_example other (renumbered number es)) after branch w
  fate_to (Some (error.NoSuchRow n)) w = w
  fate_to (Some error.HasExample) w = w
  fate_to (Some error.NoExample) w = w
  fate_to (Some (error.TooLong which n)) w = w
  fate_to (Some error.TooMany) w = w
  fate_to (Some error.NoMemory) w = w

  here : is_row g.sheet e.row ≡ true
  here = All-head (λ r. is_row g.sheet r ≡ true) e.row (rows_of es) are.here

  there : is_row h.sheet (number e.row) ≡ true
  there = All-head (λ r. is_row h.sheet (number r) ≡ true) e.row (rows_of es) are.there

  reasons : first_reason g.sheet es (Add e.row e.text) ≡ first_reason h.sheet (renumbered number es) (Add other.row other.text)
  reasons = reason_same (Numbered number rows) pair.once order e other says g h (here ∙ sym there) here
      (All-head (λ r. inputs_length g.sheet r ≡ inputs_length h.sheet (number r)) e.row (rows_of es) are.long) es (renumbered number es) zip

  pub outcome_to : (o : Option EditError) → OutcomeIs g es (Add e.row e.text) o → OutcomeIs h (renumbered number es) (Add other.row other.text) (option_map (renumbered_reason number) o)
  outcome_to None w = (sym reasons ∙ w.0, fate_to None w.1)
  outcome_to (Some reason) (inl is) = inl (sym reasons ∙ (sym (reason_stays number g es e) ∙ ap (option_map (renumbered_reason number)) is))
  outcome_to (Some reason) (inr w) = inr (sym reasons ∙ w.0, fate_to (Some reason) w.1)
