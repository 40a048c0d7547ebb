-- What holds over a block holds over the long sheet.
use Rattle.std.proofs.Common.{◌≡◌, ◌≢◌, ◌∙◌, ℕ, ◌+◌, ◌<◌, ◌≤◌, ◌==◌, nat_le, add-one, List, [], ◌∷◌, length, get_or, map, slice_get, position, All, Contains, Option, Result, Ok, Err, None, Some, option_map, option_and_then, ap, arith, refl, subst, sym, ⊎_elim}
use Rattle.std.specs.Prelude.{true, ◌&&◌, ⊤}
use Rattle.std.proofs.lemmas.Bool.{cases_order, le-leb}
use Rattle.std.proofs.lemmas.List.Elements.{All-cons, All-contains, All-map}
use Rattle.std.proofs.lemmas.Slice.Zip.{AllZip-long}
use Rattle.fill_text.specs.Data.{nth}
use Rattle.fill_sheet.specs.Sheet.{given_at}
use Rattle.fill_tree.specs.Switch.{SwitchTree}
use Rattle.fill_tree.specs.declared.user.Edit.TheVariants.{Add}
use Rattle.fill_tree.specs.declared.user.Example.{Example}
use Rattle.fill_space.specs.Ground.{MayStand}
use Rattle.fill_space.specs.declared.ground.Ground.{Ground}
use Rattle.fill_session.specs.Answers.{AnswerIs, switch_of, with_branch}
use Rattle.fill_session.specs.Branches.{AreBranches, BranchData}
use Rattle.fill_session.specs.Edits.{changed, rows_of}
use Rattle.fill_session.specs.Outcome.{Answers, OutcomeIs, cells_length}
use Rattle.fill_session.specs.declared.answer.Answer.{Answer}
use Rattle.fill_session.specs.declared.error.EditError.{EditError}
use Rattle.fill_session.specs.declared.error.EditError.TheVariants as error
use Rattle.fill_local.specs.Local.{AreInOrder, AreRenumbered, HoldSame, renumbered, renumbered_branch, renumbered_reason}
use Rattle.fill_local.proofs.Editing.{changed_to, outcome_to}
use Rattle.fill_local.proofs.Renumbering.{answer_renumbered, branches_renumbered}
use Rattle.fill_session.specs.State.{SessionData}
use Rattle.fillcsv_blocks.specs.Blocks.{BlockData, HasNumber, IsPart, StandsFor}
use Rattle.fillcsv_blocks.specs.Numbers.{number_at}
use Rattle.fillcsv_blocks.proofs.Numbers.{number_within, order_kept, row_same}

module _ (g h : Ground) (numbers : List ℕ) (p : IsPart g h numbers) where
  abbrev Within : ℕ → Type 0
  Within row = (1 ≤ row) × (row ≤ length h.sheet.rows)

  here : (row : ℕ) → Within row → nth h.sheet.rows row ≡ nth g.sheet.rows (number_at numbers row)
  here row w = row_same g.sheet.rows numbers h.sheet.rows p.rows row w.0 w.1

  cells_same : (row : ℕ) → Within row → HoldSame h.sheet g.sheet row (number_at numbers row)
  cells_same row w column = λ i. option_and_then (λ at. option_and_then (λ r. slice_get r.cells at) (here row w i)) (position (λ c. c == column) (p.same.inputs i))

  numbered : (row : ℕ) → Within row → row ≤ length numbers
  numbered row w = let size = AllZip-long _ numbers h.sheet.rows p.rows in let last = w.1 in omega (arith, size, last)

  once : (r q : ℕ) → Within r → Within q → number_at numbers r ≡ number_at numbers q → r ≡ q
  once r q wr wq same = ⊎_elim (λ is. is)
      (λ apart. ⊎_elim
      (λ less. let up = order_kept numbers p.rise r q wr.0 (numbered q wq) less in absurd (omega (arith, up, same)))
      (λ more. let up = order_kept numbers p.rise q r wq.0 (numbered r wr) more in absurd (omega (arith, up, same))) apart)
      (cases_order r q)

  inside : (row n : ℕ) → 1 ≤ row → row ≤ n → (nat_le 1 row && nat_le row n) ≡ true
  inside row n first last = rw (le-leb 1 row first, le-leb row n last) refl

  -- the rows of the block, in the same order as their numbers
  pub in_order : (rows : List ℕ) → All Within rows → AreInOrder h g (number_at numbers) rows
  in_order rows all =
      let each : (r : ℕ) → Contains rows r → Within r = λ r c. All-contains Within rows r all c in
      let same : AreRenumbered h g (number_at numbers) rows = record {
        same = p.same;
        cells = λ k d lt. cells_same _ (all k d lt);
        once = λ r q cr cq. once r q (each r cr) (each q cq);
      } in
      record {
        renumbered = same;
        order = λ r q cr cq less. order_kept numbers p.rise r q (each r cr).0 (numbered q (each q cq)) less;
        here = λ k d lt. let w = all k d lt in inside _ (length h.sheet.rows) w.0 w.1;
        there = λ k d lt. let w = all k d lt in let n = number_within g.sheet.rows numbers h.sheet.rows p.rows _ w.0 w.1 in inside _ (length g.sheet.rows) n.0 n.1;
        long = λ k d lt. ap cells_length (here _ (all k d lt));
      }

  pub given_same : (row : ℕ) → Within row → given_at h.sheet row ≡ given_at g.sheet (number_at numbers row)
  given_same row w = ap (λ o. option_and_then (λ r. r.given) o) (here row w)

pub rows_within : (h : Ground) (es : List Example) → All (MayStand h) es → All (λ row. (1 ≤ row) × (row ≤ length h.sheet.rows)) (rows_of es)
rows_within h es each = All-map (λ row. (1 ≤ row) × (row ≤ length h.sheet.rows)) (λ e. e.row) es (λ k d lt. let e = each k d lt in (e.first, e.last))

-- a conditional program has no rows
pub switch_same : (number : ℕ → ℕ) (bs : List BranchData) → switch_of (map (renumbered_branch number) bs) ≡ switch_of bs
switch_same number [] = refl
switch_same number (b ∷ []) = refl
switch_same number (b ∷ c ∷ later) = ap (λ o. option_map (with_branch b) o) (switch_same number (c ∷ later))

-- an edit's answer under other numbers
abbrev pub renumbered_answer : (ℕ → ℕ) → Result ⊤ EditError → Result ⊤ EditError
renumbered_answer number (Ok done) = Ok done
renumbered_answer number (Err reason) = Err (renumbered_reason number reason)

memory_stays : (number : ℕ → ℕ) (reason : EditError) → reason ≡ error.NoMemory → renumbered_reason number reason ≡ error.NoMemory
memory_stays number reason is = ap (renumbered_reason number) is

module _ (g : Ground) (block : BlockData) (examples : List Example) (s : StandsFor g block examples) (each : All (MayStand block.session.spaces.ground) block.session.examples) where
  abbrev h : Ground
  h = block.session.spaces.ground

  abbrev es : List Example
  es = block.session.examples

  abbrev number : ℕ → ℕ
  number = number_at block.numbers

  module _ (row : ℕ) (first : 1 ≤ row) (last : row ≤ length h.sheet.rows) where
    all_in_order : AreInOrder h g number (row ∷ rows_of es)
    all_in_order = in_order g h block.numbers s.part (row ∷ rows_of es) (All-cons (λ row. (1 ≤ row) × (row ≤ length h.sheet.rows)) row (rows_of es) (first, last) (rows_within h es each))

    pub answer_there : (a : Answer) → AnswerIs h es row a → AnswerIs g examples (number row) a
    answer_there a w = subst (λ (l : List Example). AnswerIs g l (number row) a) (sym s.same) (answer_renumbered h g number es row all_in_order.renumbered a w)

    outcome_there : (text : List ℕ) (o : Option EditError) → OutcomeIs h es (Add row text) o → OutcomeIs g examples (Add (number row) text) (option_map (renumbered_reason number) o)
    outcome_there text o w =
        subst (λ (l : List Example). OutcomeIs g l (Add (number row) text) (option_map (renumbered_reason number) o)) (sym s.same)
        (outcome_to h g number es (record { row = row; text = text }) all_in_order o w)

    changed_there : (text : List ℕ) → changed examples (Add (number row) text) ≡ renumbered number (changed es (Add row text))
    changed_there text = ap (λ (l : List Example). changed l (Add (number row) text)) s.same ∙ changed_to h g number es (record { row = row; text = text }) all_in_order

    -- the block after an edit
    module _ (new : BlockData) (ground : new.session.spaces.ground ≡ h) (numbers : new.numbers ≡ block.numbers) where
      still : IsPart g new.session.spaces.ground new.numbers
      still = coe 1 0 (i. IsPart g (ground i) (numbers i)) s.part

      pub added : (text : List ℕ) (answer : Result ⊤ EditError) → Answers h es (Add row text) answer new.session.examples
          → (after : List Example) × Answers g examples (Add (number row) text) (renumbered_answer number answer) after × StandsFor g new after
      added text (Ok done) a =
          let back : renumbered (number_at new.numbers) new.session.examples ≡ renumbered number (changed es (Add row text)) = λ i. renumbered (number_at (numbers i)) (a.1 i) in
          let same = changed_there text ∙ sym back in
          (changed examples (Add (number row) text), (outcome_there text None a.0, refl), record { part = still; same = same })
      added text (Err reason) a =
          let back : renumbered (number_at new.numbers) new.session.examples ≡ renumbered number es = λ i. renumbered (number_at (numbers i)) (a.1 i) in
          let same = s.same ∙ sym back in
          let told = λ (other : renumbered_reason number reason ≢ error.NoMemory). outcome_there text (Some reason) (a.0 (λ is. other (memory_stays number reason is))) in
          (examples, (told, refl), record { part = still; same = same })

  -- what the session over the block's rows tells of a row, under the row's number
  module _ (b : BlockData) (is : b ≡ block) (n row : ℕ) (has : HasNumber block n row) where
    pub answered : (a : Answer) → AnswerIs b.session.spaces.ground b.session.examples row a → AnswerIs g examples n a
    answered a w =
        let told = subst (λ (x : BlockData). AnswerIs x.session.spaces.ground x.session.examples row a) is w in
        subst (λ m. AnswerIs g examples m a) has.same (answer_there row has.first has.last a told)

    -- the session after an edit
    module _ (after : SessionData) (ground : after.spaces.ground ≡ b.session.spaces.ground) where
      abbrev new : BlockData
      new = record { session = after; numbers = b.numbers }

      pub edited : (text : List ℕ) (answer : Result ⊤ EditError) → Answers b.session.spaces.ground b.session.examples (Add row text) answer after.examples
          → (more : List Example) × Answers g examples (Add n text) (renumbered_answer number answer) more × StandsFor g new more
      edited text answer a =
          let told = subst (λ (x : BlockData). Answers x.session.spaces.ground x.session.examples (Add row text) answer after.examples) is a in
          subst (λ m. (more : List Example) × Answers g examples (Add m text) (renumbered_answer number answer) more × StandsFor g new more) has.same
          (added row has.first has.last new (ground ∙ ap (λ (x : BlockData). x.session.spaces.ground) is) (ap (λ (x : BlockData). x.numbers) is) text answer told)

  pub branches_there : (bs : List BranchData) → AreBranches h es bs → AreBranches g examples (map (renumbered_branch number) bs)
  branches_there bs b =
      subst (λ (l : List Example). AreBranches g l (map (renumbered_branch number) bs)) (sym s.same)
      (branches_renumbered h g number es bs (in_order g h block.numbers s.part (rows_of es) (rows_within h es each)).renumbered b)

-- a number of the block is that of a row
pub has_number : (block : BlockData) → length block.numbers ≡ length block.session.spaces.ground.sheet.rows → (number above : ℕ) → above < length block.numbers → get_or block.numbers above 0 ≡ number
    → Contains block.numbers number → HasNumber block number (above + 1)
has_number block size number above lt is has = record {
  first = omega arith;
  last = omega (arith, size, lt);
  same = rw add-one is;
  here = has;
}

-- the text that the sheet gives for a row of the block
pub given_there : (g : Ground) (block : BlockData) (examples : List Example) → StandsFor g block examples → (b : BlockData) → b ≡ block → (n row : ℕ) → HasNumber block n row
    → given_at b.session.spaces.ground.sheet row ≡ given_at g.sheet n
given_there g block examples s b is n row has =
    ap (λ (x : BlockData). given_at x.session.spaces.ground.sheet row) is
    ∙ (given_same g block.session.spaces.ground block.numbers s.part row (has.first, has.last) ∙ ap (λ m. given_at g.sheet m) has.same)

-- the conditional program of the session's branches
pub switched : (g : Ground) (block : BlockData) (examples : List Example) → StandsFor g block examples → All (MayStand block.session.spaces.ground) block.session.examples → (b : BlockData) → b ≡ block
    → (made : Option SwitchTree) → (branches : List BranchData) × AreBranches b.session.spaces.ground b.session.examples branches × (made ≡ switch_of branches)
    → (branches : List BranchData) × AreBranches g examples branches × (made ≡ switch_of branches)
switched g block examples s each b is made w =
    let told = subst (λ (x : BlockData). AreBranches x.session.spaces.ground x.session.examples w.0) is w.1 in
    (map (renumbered_branch (number_at block.numbers)) w.0, branches_there g block examples s each w.0 told, w.2 ∙ sym (switch_same (number_at block.numbers) w.0))
