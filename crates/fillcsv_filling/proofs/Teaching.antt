-- What the text of a row makes of the examples and of the rows that are kept.
use Rattle.std.proofs.Common.{◌≡◌, ◌≢◌, ◌∙◌, ℕ, ◌<◌, ◌≤◌, List, [], ◌∷◌, ◌++◌, length, All, Bool, true, false, None, Some, Result, Ok, Err, arith, ap, append-nil, inl, inr, refl, subst, sym}
use Rattle.std.specs.Bool.{⊤}
use Rattle.std.proofs.lemmas.Bool.{lt-ltb}
use Rattle.std.proofs.lemmas.List.{get_or-map, length-append, length-map, map-append}
use Rattle.std.proofs.lemmas.List.Elements.{All-head, All-map, All-tail}
use Rattle.fill_text.specs.Data.{SheetData}
use Rattle.fill_tree.specs.declared.user.Edit.TheVariants.{Add}
use Rattle.fill_tree.specs.declared.user.Example.{Example}
use Rattle.fill_session.specs.Edits.{changed, with_example, rows_of as example_rows}
use Rattle.fill_session.specs.Outcome.{first_reason}
use Rattle.fill_session.specs.declared.error.EditError.{EditError}
use Rattle.fill_session.specs.declared.error.EditError.TheVariants as error
use Rattle.fill_session.proofs.Seen.{may_add}
use Rattle.fillcsv_rows.specs.Learned.{Gives}
use Rattle.fillcsv_rows.specs.declared.learning.Refused.{Refused}
use Rattle.fillcsv_blocks.specs.Blocks.{BlockData, StandsFor}
use Rattle.fillcsv_blocks.specs.Merged.{numbers_of}
use Rattle.fillcsv_blocks.specs.declared.numbered.Numbered.{Numbered}
use Rattle.fillcsv_filling.specs.Long.{ground_of}
use Rattle.fillcsv_filling.specs.Taught.{Adds, IsInStep, Told, examples_of, ground_with}
use Rattle.fillcsv_filling.specs.Long.{LongData}

-- an example of a later row comes last
pub comes_last : (e : Example) (es : List Example) → All (λ x. x.row < e.row) es → with_example e es ≡ es ++ e ∷ []
comes_last e [] all = refl
comes_last e (x ∷ es) all =
    rw (lt-ltb x.row e.row (All-head (λ x. x.row < e.row) x es all)) (ap (λ (l : List Example). x ∷ l) (comes_last e es (All-tail (λ x. x.row < e.row) x es all)))

-- what holds of the numbers of the rows that are kept holds of the rows of the examples
pub kept_all : (P : ℕ → Type 0) (kept : List Numbered) (examples : List Example) → numbers_of kept ≡ example_rows examples → All (λ it. P it.number) kept → All (λ e. P e.row) examples
kept_all P kept examples same all = λ k d lt.
    let row : Example → ℕ = λ e. e.row in
    let mapped : All P (example_rows examples) = subst (λ (l : List ℕ). All P l) same (All-map P (λ (it : Numbered). it.number) kept all) in
    let size : k < length (example_rows examples) = omega (arith, length-map examples row, lt) in
    subst P (get_or-map row examples k d d.row lt) (mapped k d.row size)

-- the row of an example that comes last is kept
pub numbers_more : (kept : List Numbered) (row : Numbered) (examples more : List Example) (text : List ℕ) → numbers_of kept ≡ example_rows examples → All (λ it. it.number < row.number) kept
    → more ≡ changed examples (Add row.number text) → numbers_of (kept ++ row ∷ []) ≡ example_rows more
numbers_more kept row examples more text same below is =
    let e : Example = record { row = row.number; text = text } in
    let at_end = comes_last e examples (kept_all (λ n. n < row.number) kept examples same below) in
    map-append (λ (it : Numbered). it.number) kept (row ∷ []) ∙ ap (λ (l : List ℕ). l ++ row.number ∷ []) same
    ∙ sym (map-append (λ (x : Example). x.row) examples (e ∷ [])) ∙ sym (ap (λ (l : List Example). example_rows l) (is ∙ at_end))

-- one more is there room for
pub kept_few : (sheet : SheetData) (kept : List Numbered) (row : Numbered) (examples : List Example) (text : List ℕ) → numbers_of kept ≡ example_rows examples
    → first_reason sheet examples (Add row.number text) ≡ None → length (kept ++ row ∷ []) ≤ 64
kept_few sheet kept row examples text same free =
    let may = may_add sheet examples row.number text free in
    let long : length (numbers_of kept) ≡ length (example_rows examples) = ap length same in
    omega (arith, may.few, long, length-map kept (λ (it : Numbered). it.number), length-map examples (λ (x : Example). x.row), length-append kept (row ∷ []))

module _ (s : LongData) (old new : BlockData) where
  -- a block that stands for examples over the sheet with the tables of another has these tables, and stands for its own
  pub tables_same : (after : List Example) → StandsFor (ground_with s old) new after → new.session.spaces.ground.tables ≡ old.session.spaces.ground.tables
  tables_same after stands = stands.part.same.tables

  pub stands_own : (after : List Example) → StandsFor (ground_with s old) new after → StandsFor (ground_with s new) new (examples_of new)
  stands_own after stands =
      subst (λ t. StandsFor (ground_of s t) new (examples_of new)) (sym (tables_same after stands)) (subst (λ (l : List Example). StandsFor (ground_with s old) new l) stands.same stands)

  module _ (kept : List Numbered) (row : Numbered) (text : List ℕ) (step : IsInStep s kept old) where
    pub tables_after : (answer : Result ⊤ EditError) → Told old new row.number text answer → new.session.spaces.ground.tables ≡ old.session.spaces.ground.tables
    tables_after answer told = let m = told (ground_with s old) (examples_of old) step.stands in tables_same m.0 m.2

    -- a text that was accepted
    pub step_accepted : All (λ it. it.number < row.number) kept → Told old new row.number text (Ok tt) → IsInStep s (kept ++ row ∷ []) new
    step_accepted below told =
        let m = told (ground_with s old) (examples_of old) step.stands in
        record {
          stands = stands_own m.0 m.2;
          numbers = numbers_more kept row (examples_of old) (examples_of new) text step.numbers below (sym m.2.same ∙ m.1.1);
          few = kept_few (ground_with s old).sheet kept row (examples_of old) text step.numbers m.1.0.0;
        }

    pub gives_accepted : Told old new row.number text (Ok tt) → Gives (ground_with s old) (examples_of old) row.number (Some text) (examples_of new) []
    gives_accepted told = let m = told (ground_with s old) (examples_of old) step.stands in inl (m.1.0, sym m.2.same ∙ m.1.1, refl)

    -- a text that was refused
    pub step_refused : (reason : EditError) → Told old new row.number text (Err reason) → IsInStep s kept new
    step_refused reason told =
        let m = told (ground_with s old) (examples_of old) step.stands in
        record {
          stands = stands_own m.0 m.2;
          numbers = step.numbers ∙ ap (λ (l : List Example). example_rows l) (sym m.1.1 ∙ m.2.same);
          few = step.few;
        }

    pub gives_refused : (reason : EditError) → reason ≢ error.NoMemory → Told old new row.number text (Err reason)
        → Gives (ground_with s old) (examples_of old) row.number (Some text) (examples_of new) ((record { row = row.number; reason = reason }) ∷ [])
    gives_refused reason other told = let m = told (ground_with s old) (examples_of old) step.stands in inr (reason, m.1.0 other, sym m.2.same ∙ m.1.1, refl)

    -- a text that was added
    pub step_added : (accepted : Bool) (before after : List Refused) → accepted ≡ false → Adds old new row.number text before after accepted → IsInStep s kept new
    step_added true before after is adds = cc
    step_added false before after is adds = step_refused adds.0 adds.2

    pub gives_added : (accepted : Bool) (before after : List Refused) → Adds old new row.number text before after accepted
        → (here : List Refused) × Gives (ground_with s old) (examples_of old) row.number (Some text) (examples_of new) here × (after ≡ before ++ here)
    gives_added true before after adds = ([], gives_accepted adds.0, adds.1 ∙ sym (append-nil before))
    gives_added false before after adds = ((record { row = row.number; reason = adds.0 }) ∷ [], gives_refused adds.0 adds.1 adds.2, adds.3)

    pub step_more : (accepted : Bool) (before after : List Refused) → accepted ≡ true → All (λ it. it.number < row.number) kept → Adds old new row.number text before after accepted → IsInStep s (kept ++ row ∷ []) new
    step_more true before after is below adds = step_accepted below adds.0
    step_more false before after is below adds = cc

    pub tables_added : (accepted : Bool) (before after : List Refused) → Adds old new row.number text before after accepted → new.session.spaces.ground.tables ≡ old.session.spaces.ground.tables
    tables_added true before after adds = tables_after (Ok tt) adds.0
    tables_added false before after adds = tables_after (Err adds.0) adds.2
