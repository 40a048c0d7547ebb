-- Why the entries of a script have at most one report.
use Rattle.std.proofs.Common.{◌≡◌, ℕ, List, [], ◌∷◌, length, Option, None, Some, inl, inr, sym, ap, ◌∙◌, refl, subst}
use Rattle.std.proofs.lemmas.Bool.{false≢true}
use Rattle.std.proofs.lemmas.Option.{none-some, same_Some}
use Rattle.std.specs.List.{AllZip, range_with_len}
use Rattle.std.specs.Prelude.{codes}
use Rattle.fill_text.specs.Data.{nth}
use Rattle.fill_tree.specs.Tree.{Atoms}
use Rattle.fill_tree.specs.declared.user.Edit.{Edit}
use Rattle.fill_tree.specs.declared.user.Example.{Example}
use Rattle.fill_script.specs.declared.script.Entry.{Entry}
use Rattle.fill_space.specs.declared.ground.Ground.{Ground}
use Rattle.fill_space.proofs.Best.{best_are_one}
use Rattle.fill_session.specs.Answers.{switch_of}
use Rattle.fill_session.specs.Branches.{BranchData}
use Rattle.fill_session.specs.Timeline.{Timeline, forgotten}
use Rattle.fill_session.specs.declared.answer.Answer.{Answer}
use Rattle.fill_session.specs.declared.error.EditError.{EditError}
use Rattle.fill_session.proofs.Objecting.{objector_is_one}
use Rattle.fill_session.proofs.OneAnswer.{answer_is_one}
use Rattle.fill_session.proofs.OneFate.{branches_are_one}
use Rattle.fill_session.proofs.OneOutcome.{outcome_is_one}
use Rattle.fill_report.specs.Entries.{BestOf, BestWrites, EditWrites, EntryWrites, QueryWrites, RowWrites, TaskWrites, edit_told, refusal, told}
use Rattle.fill_report.specs.Objections.{IsObjectRecord, object_record}
use Rattle.fill_output.specs.Fields.{Fields}
use Rattle.fill_report.specs.Records.{best_records, branch_records, refused_record, switch_record}
use Rattle.fill_report.specs.Report.{EntriesWrite, IsReport, additions, start}
use Rattle.fill_states.specs.States.{row_state}
use Rattle.fill_report.specs.Rows.{IsRowRecord, IsRowState, count_record, row_record}
use Rattle.fill_report.specs.Runs.{Runs, Written, followed}
use Rattle.fill_report.specs.Tasks.{TaskData, ask, change, go, task_in}
use Rattle.fill_states.specs.declared.row_state.RowState.{RowState}
use Rattle.fill_report.specs.declared.tasks.Query.{Query}
use Rattle.fill_report.specs.declared.tasks.Query.TheVariants as query
use Rattle.fill_report.proofs.Moved.{move_writes_one}

zip_is_one : {B : Type 0} (R : ℕ → B → Type 0) → ((n : ℕ) (x y : B) → R n x → R n y → x ≡ y) → (ns : List ℕ) (xs ys : List B) → AllZip R ns xs → AllZip R ns ys → xs ≡ ys
zip_is_one R one [] [] [] h k = refl
zip_is_one R one [] [] (y ∷ ys) h k = absurd k
zip_is_one R one [] (x ∷ xs) ys h k = absurd h
zip_is_one R one (n ∷ ns) [] ys h k = absurd h
zip_is_one R one (n ∷ ns) (x ∷ xs) [] h k = absurd k
zip_is_one R one (n ∷ ns) (x ∷ xs) (y ∷ ys) h k = λ i. one n x y h.0 k.0 i ∷ zip_is_one R one ns xs ys h.1 k.1 i

pub runs_are_one : {S : Type 0} (step : S → Entry → Written → S → Type 0) → ((s : S) (e : Entry) (w v : Written) (t u : S) → step s e w t → step s e v u → (w ≡ v) × (t ≡ u))
    → (s : S) (es : List Entry) (w v : Written) (t u : S) → Runs step s es w t → Runs step s es v u → (w ≡ v) × (t ≡ u)
runs_are_one step one s [] w v t u h k = (h.0 ∙ sym k.0, h.1 ∙ sym k.1)
runs_are_one {S} step one s (e ∷ es) w v t u h k =
    let first = one s e h.0 k.0 h.1 k.1 h.3 k.3 in
    let later = runs_are_one step one k.1 es h.2 k.2 t u (subst (λ (x : S). Runs step x es h.2 t) first.1 h.4) k.4 in
    (h.5 ∙ ap (λ (x : Written). followed x h.2) first.0 ∙ ap (λ (x : Written). followed k.0 x) later.0 ∙ sym k.5, later.1)

-- what a report is made of
abbrev pub ReportParts : Ground → List Entry → Written → Type 0
ReportParts g entries w = (first : Written) × (mid : Timeline) × (later : Written) × (last : Timeline)
    × EntriesWrite g start (additions g.sheet (length g.sheet.rows)) first mid × EntriesWrite g (forgotten mid) entries later last
    × (w ≡ followed first later)

pub report_opens : (g : Ground) (entries : List Entry) (w : Written) → IsReport g entries w → ReportParts g entries w
unfolding IsReport
report_opens g entries w h = h

module _ (g : Ground) where
  pub row_record_is_one : (examples : List Example) (row : ℕ) (x y : Fields) → IsRowRecord g examples row x → IsRowRecord g examples row y → x ≡ y
  row_record_is_one examples row x y h k = h.2 ∙ ap (λ (a : Answer). row_record row a) (answer_is_one g examples row h.0 k.0 h.1 k.1) ∙ sym k.2

  row_state_is_one : (examples : List Example) (row : ℕ) (x y : RowState) → IsRowState g examples row x → IsRowState g examples row y → x ≡ y
  row_state_is_one examples row x y h k = h.2 ∙ ap (λ (a : Answer). row_state a) (answer_is_one g examples row h.0 k.0 h.1 k.1) ∙ sym k.2

  pub edit_is_one : (t : Timeline) (e : Edit) (w v : Written) (a b : Timeline) → EditWrites g t e w a → EditWrites g t e v b → (w ≡ v) × (a ≡ b)
  edit_is_one t e w v a b (inl h) (inl k) = (h.1 ∙ sym k.1, h.2 ∙ sym k.2)
  edit_is_one t e w v a b (inl h) (inr k) = absurd (none-some k.0 (outcome_is_one g t.examples e None (Some k.0) h.0 k.1))
  edit_is_one t e w v a b (inr h) (inl k) = absurd (none-some h.0 (sym (outcome_is_one g t.examples e (Some h.0) None h.1 k.0)))
  edit_is_one t e w v a b (inr h) (inr k) =
      let same : h.0 ≡ k.0 = same_Some h.0 k.0 (outcome_is_one g t.examples e (Some h.0) (Some k.0) h.1 k.1) in
      (h.2 ∙ ap (λ (r : EditError). edit_told g.sheet t.examples e (refusal (refused_record e r))) same ∙ sym k.2, h.3 ∙ sym k.3)

  object_record_is_one : (examples : List Example) (row : ℕ) (x y : Fields) → IsObjectRecord g examples row x → IsObjectRecord g examples row y → x ≡ y
  object_record_is_one examples row x y h k = h.2 ∙ ap (object_record row) (objector_is_one g examples row h.0 k.0 h.1 k.1) ∙ sym k.2

  row_is_one : (word : List ℕ) (row : ℕ) (Kind : Fields → Type 0) → ((x y : Fields) → Kind x → Kind y → x ≡ y) → (w v : Written) → RowWrites g.sheet word row Kind w → RowWrites g.sheet word row Kind v → w ≡ v
  row_is_one word row Kind one w v (inl h) (inl k) = h.3 ∙ ap (λ (x : Fields). told (x ∷ [])) (one h.1 k.1 h.2 k.2) ∙ sym k.3
  row_is_one word row Kind one w v (inl h) (inr k) = absurd (false≢true (sym k.0 ∙ h.0))
  row_is_one word row Kind one w v (inr h) (inl k) = absurd (false≢true (sym h.0 ∙ k.0))
  row_is_one word row Kind one w v (inr h) (inr k) = h.1 ∙ sym k.1

  best_of_is_one : (branch k : ℕ) (o : Option BranchData) (w v : Written) → BestOf g branch k o w → BestOf g branch k o v → w ≡ v
  best_of_is_one branch k None w v h x = h ∙ sym x
  best_of_is_one branch k (Some b) w v h x =
      h.2 ∙ ap (λ (ps : List Atoms). told (best_records branch 1 ps)) (best_are_one g b.examples k h.0 x.0 h.1 x.1) ∙ sym x.2

  best_is_one : (examples : List Example) (branch k : ℕ) (w v : Written) → BestWrites g examples branch k w → BestWrites g examples branch k v → w ≡ v
  best_is_one examples branch k w v h x =
      let same : h.0 ≡ x.0 = branches_are_one g examples h.0 x.0 h.1 x.1 in
      best_of_is_one branch k (nth x.0 branch) w v (subst (λ (bs : List BranchData). BestOf g branch k (nth bs branch) w) same h.2) x.2

  pub query_is_one : (examples : List Example) (q : Query) (w v : Written) → QueryWrites g examples q w → QueryWrites g examples q v → w ≡ v
  query_is_one examples query.Programs w v h k =
      let same : h.1.0 ≡ k.1.0 = branches_are_one g examples h.1.0 k.1.0 h.1.1 k.1.1 in
      h.2 ∙ ap told (h.1.2 ∙ ap (branch_records 1) same ∙ sym k.1.2) ∙ sym k.2
  query_is_one examples query.Switch w v h k =
      let same : h.1.0 ≡ k.1.0 = branches_are_one g examples h.1.0 k.1.0 h.1.1 k.1.1 in
      h.2 ∙ ap (λ (x : Fields). told (x ∷ [])) (h.1.2 ∙ ap (λ (b : List BranchData). switch_record (switch_of b)) same ∙ sym k.1.2) ∙ sym k.2
  query_is_one examples query.Fill w v h k =
      h.2 ∙ ap told (zip_is_one (IsRowRecord g examples) (row_record_is_one examples) (range_with_len 1 (length g.sheet.rows)) h.0 k.0 h.1 k.1) ∙ sym k.2
  query_is_one examples query.Count w v h k =
      let same : h.1.0 ≡ k.1.0 = zip_is_one (IsRowState g examples) (row_state_is_one examples) (range_with_len 1 (length g.sheet.rows)) h.1.0 k.1.0 h.1.1 k.1.1 in
      h.2 ∙ ap (λ (x : Fields). told (x ∷ [])) (h.1.2 ∙ ap count_record same ∙ sym k.1.2) ∙ sym k.2
  query_is_one examples (query.Answer row) w v h k = row_is_one (codes "answer") row (IsRowRecord g examples row) (row_record_is_one examples row) w v h k
  query_is_one examples (query.Object row) w v h k = row_is_one (codes "object") row (IsObjectRecord g examples row) (object_record_is_one examples row) w v h k
  query_is_one examples (query.Best branch k) w v h x = best_is_one examples branch k w v h x

  task_is_one : (t : Timeline) (task : TaskData) (w v : Written) (a b : Timeline) → TaskWrites g t task w a → TaskWrites g t task v b → (w ≡ v) × (a ≡ b)
  task_is_one t (change e) w v a b h k = edit_is_one t e w v a b h k
  task_is_one t (go to) w v a b h k = move_writes_one to t w v a b h k
  task_is_one t (ask q) w v a b h k = (query_is_one t.examples q w v h.0 k.0, h.1 ∙ sym k.1)

  pub entry_is_one : (t : Timeline) (e : Entry) (w v : Written) (a b : Timeline) → EntryWrites g t e w a → EntryWrites g t e v b → (w ≡ v) × (a ≡ b)
  entry_is_one t e w v a b h k = task_is_one t (task_in e) w v a b h k

  -- what entries write from the same state on, and what they leave
  pub entries_are_one : (t : Timeline) (es : List Entry) (w v : Written) (a b : Timeline) → EntriesWrite g t es w a → EntriesWrite g t es v b → (w ≡ v) × (a ≡ b)
  entries_are_one t es w v a b h k = runs_are_one (EntryWrites g) entry_is_one t es w v a b h k

  pub report_is_one : (entries : List Entry) (w v : Written) → IsReport g entries w → IsReport g entries v → w ≡ v
  report_is_one entries w v h k =
      let a = report_opens g entries w h in
      let b = report_opens g entries v k in
      let first = entries_are_one start (additions g.sheet (length g.sheet.rows)) a.0 b.0 a.1 b.1 a.4 b.4 in
      let later = entries_are_one (forgotten b.1) entries a.2 b.2 a.3 b.3 (subst (λ (t : Timeline). EntriesWrite g (forgotten t) entries a.2 a.3) first.1 a.5) b.5 in
      a.6 ∙ ap (λ (x : Written). followed x a.2) first.0 ∙ ap (λ (x : Written). followed b.0 x) later.0 ∙ sym b.6
