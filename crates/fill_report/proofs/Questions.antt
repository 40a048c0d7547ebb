-- What the writing of a question's records leaves.
use Rattle.std.proofs.Common.{◌≡◌, ◌≤◌, ◌∙◌, ℕ, List, [], ◌∷◌, length, Bool, true, false, Option, Result, IfOk, inl, inr, ap, refl, subst, sym, arith}
use Rattle.std.specs.Prelude.{codes}
use Rattle.std.specs.Fmt.{decimal}
use Rattle.std.proofs.lemmas.Slice.Zip.{AllZip-long}
use Rattle.fill_text.specs.Data.{SheetData}
use Rattle.fill_text.specs.declared.error.NoMemory.{NoMemory}
use Rattle.fill_tree.specs.declared.user.Example.{Example}
use Rattle.fill_script.specs.declared.script.Entry.{Entry}
use Rattle.fill_space.specs.declared.ground.Ground.{Ground}
use Rattle.fill_session.specs.Outcome.{is_row}
use Rattle.fill_session.specs.State.{AreShown, Shows}
use Rattle.fill_session.specs.Timeline.{Timeline}
use Rattle.fill_session.specs.declared.branch.Branch.{Branch}
use Rattle.fill_report.specs.Entries.{EntryBegins, EntryWrites, IsCountRecord, IsSwitchRecord, QueryBegins, QueryWrites, RowWrites, TaskBegins, TaskWrites, refusal, told}
use Rattle.fill_report.specs.Output.{Leaves}
use Rattle.fill_output.specs.Fields.{Fields}
use Rattle.fill_report.specs.Records.{no_row_record, shown_records}
use Rattle.fill_report.specs.Counts.{AreCounts}
use Rattle.fill_report.specs.Rows.{count_record}
use Rattle.fill_report.specs.Runs.{FirstOf, Written, nothing}
use Rattle.fill_report.specs.Tasks.{TaskData, ask, task_in}
use Rattle.fill_report.specs.Writing.{LeavesFirst, LeavesOne}
use Rattle.fill_output.specs.declared.halt.Halt.{Halt}
use Rattle.fill_report.specs.declared.rows.Counts.{Counts}
use Rattle.fill_states.specs.declared.row_state.RowState.{RowState}
use Rattle.fill_report.specs.declared.tasks.Query.{Query}
use Rattle.fill_report.specs.declared.tasks.Query.TheVariants as query
use Rattle.fill_report.proofs.Leaving.{leaves_answer, leaves_first, leaves_map, leaves_on, none_refused, one_refused, query_none}
use Rattle.fill_report.proofs.Numbered.{shown_all}

module _ (g : Ground) (examples : List Example) (made : Result Fields NoMemory) (r : Result Bool Halt) (old new : Option (List ℕ)) where
  pub switch_left : IfOk made (IsSwitchRecord g examples) → LeavesOne made false r old new
      → Leaves (QueryWrites g examples query.Switch) (QueryBegins g examples query.Switch) r old new 0 0
  switch_left h l =
      leaves_answer g examples query.Switch made (IsSwitchRecord g examples) false 0 r old new h (λ fields q. (fields, q, refl)) (λ w b. b) (none_refused false refl) l

  pub count_left : IfOk made (IsCountRecord g examples) → LeavesOne made false r old new
      → Leaves (QueryWrites g examples query.Count) (QueryBegins g examples query.Count) r old new 0 0
  count_left h l =
      leaves_answer g examples query.Count made (IsCountRecord g examples) false 0 r old new h (λ fields q. (fields, q, refl)) (λ w b. b) (none_refused false refl) l

  module _ (q : Query) (word : List ℕ) (row : ℕ) (Kind : Fields → Type 0) (writes : (w : Written) → RowWrites g.sheet word row Kind w → QueryWrites g examples q w) (first : (w : Written) → FirstOf (QueryWrites g examples q) nothing w → QueryBegins g examples q w) (sheet : SheetData) (same : sheet ≡ g.sheet) where
    -- a question about a row of the sheet
    pub row_left : is_row sheet row ≡ true → IfOk made Kind → LeavesOne made false r old new → Leaves (QueryWrites g examples q) (QueryBegins g examples q) r old new 0 0
    row_left there h l =
        let is : is_row g.sheet row ≡ true = ap (λ (x : SheetData). is_row x row) (sym same) ∙ there in
        leaves_answer g examples q made Kind false 0 r old new h (λ fields k. writes (told (fields ∷ [])) (inl (is, fields, k, refl))) first (none_refused false refl) l

    -- a question about any other
    pub no_row_left : is_row sheet row ≡ false → IfOk made (λ m. m ≡ no_row_record word row) → LeavesOne made true r old new
        → Leaves (QueryWrites g examples q) (QueryBegins g examples q) r old new 0 0
    no_row_left missing h l =
        let is : is_row g.sheet row ≡ false = ap (λ (x : SheetData). is_row x row) (sym same) ∙ missing in
        leaves_answer g examples q made (λ m. m ≡ no_row_record word row) true 1 r old new h (λ fields k. writes (refusal fields) (inr (is, ap refusal k))) first (one_refused true refl) l

-- the branches that a session shows
pub branches_left : (g : Ground) (examples : List Example) (shown : List Branch) (r : Result Bool Halt) (old new : Option (List ℕ)) → AreShown g examples shown
    → LeavesFirst (shown_records 1 shown) r old new → Leaves (QueryWrites g examples query.Programs) (QueryBegins g examples query.Programs) r old new 0 0
branches_left g examples shown r old new h l =
    let records = shown_records 1 shown in
    let q : QueryWrites g examples query.Programs (told records) = (records, (h.0, h.1, shown_all 1 shown h.0 h.2), refl) in
    leaves_first (QueryWrites g examples query.Programs) (QueryBegins g examples query.Programs) old new 0 0 0 (omega arith)
    (query_none g examples query.Programs) records r q
    (λ n. inr (told records, n, q, refl)) l

-- a question as a task
pub query_left : (g : Ground) (t : Timeline) (q : Query) (r : Result Bool Halt) (old new : Option (List ℕ)) (steps : ℕ)
    → Leaves (QueryWrites g t.examples q) (QueryBegins g t.examples q) r old new 0 0 → Leaves (λ w. TaskWrites g t (ask q) w t) (TaskBegins g t (ask q)) r old new steps steps
query_left g t q r old new steps l =
    leaves_on (λ w. TaskWrites g t (ask q) w t) (TaskBegins g t (ask q)) r old new steps steps refl
    (leaves_map (QueryWrites g t.examples q) (λ w. TaskWrites g t (ask q) w t) (QueryBegins g t.examples q) (TaskBegins g t (ask q)) (λ w h. (h, refl)) (λ w b. b) r old new 0 0 l)

-- a task as an entry
pub task_left : (g : Ground) (t next : Timeline) (e : Entry) (task : TaskData) (r : Result Bool Halt) (old new : Option (List ℕ)) (before now : ℕ) → task ≡ task_in e
    → Leaves (λ w. TaskWrites g t task w next) (TaskBegins g t task) r old new before now → Leaves (λ w. EntryWrites g t e w next) (EntryBegins g t e) r old new before now
task_left g t next e task r old new before now is l = subst (λ (x : TaskData). Leaves (λ w. TaskWrites g t x w next) (TaskBegins g t x) r old new before now) is l

-- of what is this question
pub as_this : (g : Ground) (examples : List Example) (p q : Query) (r : Result Bool Halt) (old new : Option (List ℕ)) → p ≡ q
    → Leaves (QueryWrites g examples q) (QueryBegins g examples q) r old new 0 0 → Leaves (QueryWrites g examples p) (QueryBegins g examples p) r old new 0 0
as_this g examples p q r old new is l = subst (λ (x : Query). Leaves (QueryWrites g examples x) (QueryBegins g examples x) r old new 0 0) (sym is) l

pub few_shown : (g : Ground) (examples : List Example) (shown : List Branch) → AreShown g examples shown → length shown ≤ 8
few_shown g examples shown h = let long : length h.0 ≡ length shown = AllZip-long Shows shown h.0 h.2 in omega (arith, h.1.few)

-- the record of numbers that are counted
pub counted : (c : Counts) (states : List RowState) (fields : Fields) → AreCounts c states
    → fields ≡ codes "count" ∷ decimal c.given ∷ decimal c.sure ∷ decimal c.doubt ∷ decimal c.nothing ∷ decimal c.nothing_in_doubt ∷ [] → fields ≡ count_record states
counted c states fields a e = e ∙ (λ i. codes "count" ∷ decimal (a.given i) ∷ decimal (a.sure i) ∷ decimal (a.doubt i) ∷ decimal (a.nothing i) ∷ decimal (a.nothing_in_doubt i) ∷ [])
