-- Why a beginning of a report is the front of it.
use Rattle.std.proofs.Common.{◌≡◌, ◌⊎◌, ℕ, zero, suc, ◌+◌, ◌≤◌, List, [], ◌∷◌, ◌++◌, length, take, Option, None, Some, inl, inr, sym, ap, ◌∙◌, refl, subst, arith}
use Rattle.std.proofs.Math.Seq.{take-append-add}
use Rattle.std.specs.List.{AllZip, range_with_len}
use Rattle.std.specs.Prelude.{codes}
use Rattle.fill_text.specs.Data.{nth}
use Rattle.fill_tree.specs.declared.user.Edit.{Edit}
use Rattle.fill_tree.specs.declared.user.Example.{Example}
use Rattle.fill_script.specs.declared.script.Entry.{Entry}
use Rattle.fill_space.specs.declared.ground.Ground.{Ground}
use Rattle.fill_session.specs.Branches.{BranchData}
use Rattle.fill_session.specs.Outcome.{term}
use Rattle.fill_session.specs.Timeline.{Timeline, forgotten}
use Rattle.fill_report.specs.Entries.{BestOf, EditWrites, EntryBegins, EntryWrites, FillBegins, MoveWrites, QueryBegins, QueryWrites, RowWrites, TaskBegins, TaskWrites, edit_told, told}
use Rattle.fill_report.specs.Laws.{IsFrontOf}
use Rattle.fill_report.specs.Objections.{IsObjectRecord}
use Rattle.fill_output.specs.Fields.{Fields}
use Rattle.fill_report.specs.Report.{BeginsReport, EntriesBegin, EntriesWrite, IsReport, additions, start}
use Rattle.fill_report.specs.Rows.{IsRowRecord}
use Rattle.fill_report.specs.Runs.{Begins, FirstOf, Runs, Written, first_of, followed, nothing}
use Rattle.fill_report.specs.Tasks.{TaskData, ask, change, go, task_in}
use Rattle.fill_report.specs.declared.tasks.Query.{Query}
use Rattle.fill_report.specs.declared.tasks.Query.TheVariants as query
use Rattle.fill_report.proofs.Moved.{move_writes_one}
use Rattle.fill_report.proofs.Unique.{ReportParts, edit_is_one, entries_are_one, entry_is_one, query_is_one, report_opens, row_record_is_one}

-- first items of a list are first items of a longer one
take_front : {A : Type 0} (n : ℕ) (xs ys : List A) → (m : ℕ) × (take n xs ≡ take m (xs ++ ys))
take_front zero xs ys = (zero, refl)
take_front (suc n) [] ys = (zero, refl)
take_front (suc n) (x ∷ xs) ys = let later = take_front n xs ys in (suc later.0, ap (λ l. x ∷ l) later.1)

-- of a relation with one value for each number, values for fewer numbers are the first of those for more
zip_front : {B : Type 0} (R : ℕ → B → Type 0) → ((n : ℕ) (x y : B) → R n x → R n y → x ≡ y) → (a n m : ℕ) (xs ys : List B) → n ≤ m
    → AllZip R (range_with_len a n) xs → AllZip R (range_with_len a m) ys → xs ≡ take n ys
zip_front R one a zero m [] ys le h k = refl
zip_front R one a zero m (x ∷ xs) ys le h k = absurd h
zip_front R one a (suc n) zero xs ys le h k = absurd (omega arith)
zip_front R one a (suc n) (suc m) [] ys le h k = absurd h
zip_front R one a (suc n) (suc m) (x ∷ xs) [] le h k = absurd k
zip_front R one a (suc n) (suc m) (x ∷ xs) (y ∷ ys) le h k =
    λ i. one a x y h.0 k.0 i ∷ zip_front R one (a + 1) n m xs ys (omega arith) h.1 k.1 i

-- the front of what is written first is a front of all
front_of_first : (first others w : Written) → IsFrontOf first w → IsFrontOf (followed first others) w
front_of_first first others w h =
    let longer = take_front h.0 first.records others.records in
    let le : w.term ≤ first.term = h.2 in
    (longer.0, h.1 ∙ longer.1, (omega arith))

-- what is written first and then a front of the others is a front of all
front_of_others : (first others w : Written) → IsFrontOf others w → IsFrontOf (followed first others) (followed first w)
front_of_others first others w h =
    let le : w.term ≤ others.term = h.2 in
    (length first.records + h.0, ap (λ l. first.records ++ l) h.1 ∙ sym (take-append-add first.records others.records h.0), (omega arith))

begins_front : {S : Type 0} (step : S → Entry → Written → S → Type 0) (begin : S → Entry → Written → Type 0)
    → ((s : S) (e : Entry) (w v : Written) (t u : S) → step s e w t → step s e v u → (w ≡ v) × (t ≡ u))
    → ((s : S) (e : Entry) (w v : Written) (t : S) → begin s e w → step s e v t → IsFrontOf v w)
    → (s : S) (es : List Entry) (w v : Written) (t : S) → Begins step begin s es w → Runs step s es v t → IsFrontOf v w
begins_front step begin one begun s [] w v t h k = absurd h
begins_front step begin one begun s (e ∷ es) w v t (inl h) k =
    subst (λ (x : Written). IsFrontOf x w) (sym k.5) (front_of_first k.0 k.2 w (begun s e w k.0 k.1 h k.3))
begins_front {S} step begin one begun s (e ∷ es) w v t (inr h) k =
    let first = one s e h.0 k.0 h.1 k.1 h.3 k.3 in
    let others : Begins step begin k.1 es h.2 = subst (λ (x : S). Begins step begin x es h.2) first.1 h.4 in
    let later : IsFrontOf k.2 h.2 = begins_front step begin one begun k.1 es h.2 k.2 t others k.4 in
    let same : followed k.0 h.2 ≡ w = sym (h.5 ∙ ap (λ (x : Written). followed x h.2) first.0) in
    subst (λ (x : Written). IsFrontOf x w) (sym k.5) (subst (λ (x : Written). IsFrontOf (followed k.0 k.2) x) same (front_of_others k.0 k.2 h.2 later))

-- what a beginning of a report is made of
abbrev pub Beginning : Ground → List Entry → Written → Type 0
Beginning g entries w = EntriesBegin g start (additions g.sheet (length g.sheet.rows)) w
    ⊎ ((first : Written) × (mid : Timeline) × (later : Written)
    × EntriesWrite g start (additions g.sheet (length g.sheet.rows)) first mid × EntriesBegin g (forgotten mid) entries later
    × (w ≡ followed first later))

-- of one whole thing at most, what is written first of it is the front
kind_front : (Kind : Written → Type 0) (none w v : Written) → ((x : Written) → Kind x → x ≡ v) → none.records ≡ [] → none.term ≡ v.term → FirstOf Kind none w → IsFrontOf v w
kind_front Kind none w v one empty steps (inl h) =
    let ours : w.term ≡ none.term = ap (λ (x : Written). x.term) h in
    (zero, ap (λ (x : Written). x.records) h ∙ empty, (omega arith))
kind_front Kind none w v one empty steps (inr h) =
    let front : w ≡ first_of h.1 v = h.3 ∙ ap (first_of h.1) (one h.0 h.2) in
    let same : w.term ≡ v.term = ap (λ (x : Written). x.term) front in
    (h.1, ap (λ (x : Written). x.records) front, (omega arith))

module _ (g : Ground) where
  -- whatever an edit writes, it may take the steps of the edit
  edit_steps : (t : Timeline) (e : Edit) (w : Written) (next : Timeline) → EditWrites g t e w next → w.term ≡ term g.sheet t.examples e
  edit_steps t e w next (inl h) = ap (λ (x : Written). x.term) h.1
  edit_steps t e w next (inr h) = ap (λ (x : Written). x.term) h.2

  row_steps : (word : List ℕ) (row : ℕ) (Kind : Fields → Type 0) (w : Written) → RowWrites g.sheet word row Kind w → w.term ≡ 0
  row_steps word row Kind w (inl h) = ap (λ (x : Written). x.term) h.3
  row_steps word row Kind w (inr h) = ap (λ (x : Written). x.term) h.1

  best_of_steps : (branch k : ℕ) (o : Option BranchData) (w : Written) → BestOf g branch k o w → w.term ≡ 0
  best_of_steps branch k None w h = ap (λ (x : Written). x.term) h
  best_of_steps branch k (Some b) w h = ap (λ (x : Written). x.term) h.2

  -- a question takes none
  query_steps : (examples : List Example) (q : Query) (w : Written) → QueryWrites g examples q w → w.term ≡ 0
  query_steps examples query.Programs w h = ap (λ (x : Written). x.term) h.2
  query_steps examples query.Switch w h = ap (λ (x : Written). x.term) h.2
  query_steps examples query.Fill w h = ap (λ (x : Written). x.term) h.2
  query_steps examples query.Count w h = ap (λ (x : Written). x.term) h.2
  query_steps examples (query.Answer row) w h = row_steps (codes "answer") row (IsRowRecord g examples row) w h
  query_steps examples (query.Object row) w h = row_steps (codes "object") row (IsObjectRecord g examples row) w h
  query_steps examples (query.Best branch k) w h = best_of_steps branch k (nth h.0 branch) w h.2

  first_front : (examples : List Example) (q : Query) (w v : Written) → FirstOf (QueryWrites g examples q) nothing w → QueryWrites g examples q v → IsFrontOf v w
  first_front examples q w v h k =
      kind_front (QueryWrites g examples q) nothing w v (λ x r. query_is_one g examples q x v r k) refl (sym (query_steps examples q v k)) h

  fill_front : (examples : List Example) (w v : Written) → FillBegins g examples w → QueryWrites g examples query.Fill v → IsFrontOf v w
  fill_front examples w v h k =
      let all : v ≡ told k.0 = k.2 in
      let rows : h.1 ≡ take h.0 k.0 = zip_front (IsRowRecord g examples) (row_record_is_one g examples) 1 h.0 (length g.sheet.rows) h.1 k.0 h.2 h.3 k.1 in
      let ours : w.term ≡ 0 = ap (λ (x : Written). x.term) h.4 in
      (h.0, ap (λ (x : Written). x.records) h.4 ∙ rows ∙ ap (λ (x : Written). take h.0 x.records) (sym all), (omega arith))

  query_front : (examples : List Example) (q : Query) (w v : Written) → QueryBegins g examples q w → QueryWrites g examples q v → IsFrontOf v w
  query_front examples query.Programs w v h k = first_front examples query.Programs w v h k
  query_front examples query.Switch w v h k = first_front examples query.Switch w v h k
  query_front examples query.Fill w v h k = fill_front examples w v h k
  query_front examples query.Count w v h k = first_front examples query.Count w v h k
  query_front examples (query.Answer row) w v h k = first_front examples (query.Answer row) w v h k
  query_front examples (query.Object row) w v h k = first_front examples (query.Object row) w v h k
  query_front examples (query.Best branch n) w v h k = first_front examples (query.Best branch n) w v h k

  task_front : (t : Timeline) (task : TaskData) (w v : Written) (next : Timeline) → TaskBegins g t task w → TaskWrites g t task v next → IsFrontOf v w
  task_front t (change e) w v next h k =
      kind_front (λ x. (to : Timeline) × EditWrites g t e x to) (edit_told g.sheet t.examples e nothing) w v (λ x p. (edit_is_one g t e x v p.0 next p.1 k).0) refl
      (sym (edit_steps t e v next k)) h
  task_front t (go way) w v next h k =
      kind_front (λ x. (to : Timeline) × MoveWrites way t x to) nothing w v (λ x p. (move_writes_one way t x v p.0 next p.1 k).0) refl (sym (ap (λ (x : Written). x.term) k.2)) h
  task_front t (ask q) w v next h k = query_front t.examples q w v h k.0

  begun_is_front : (t : Timeline) (e : Entry) (w v : Written) (next : Timeline) → EntryBegins g t e w → EntryWrites g t e v next → IsFrontOf v w
  begun_is_front t e w v next h k = task_front t (task_in e) w v next h k

  entries_front : (t : Timeline) (es : List Entry) (w v : Written) (next : Timeline) → EntriesBegin g t es w → EntriesWrite g t es v next → IsFrontOf v w
  entries_front t es w v next h k = begins_front (EntryWrites g) (EntryBegins g) (entry_is_one g) begun_is_front t es w v next h k

  beginning_opens : (entries : List Entry) (w : Written) → BeginsReport g entries w → Beginning g entries w
  unfolding BeginsReport
  beginning_opens entries w h = h

  front_of : (entries : List Entry) (w whole : Written) → Beginning g entries w → ReportParts g entries whole → IsFrontOf whole w
  front_of entries w whole (inl h) k =
      subst (λ (x : Written). IsFrontOf x w) (sym k.6)
      (front_of_first k.0 k.2 w (entries_front start (additions g.sheet (length g.sheet.rows)) w k.0 k.1 h k.4))
  front_of entries w whole (inr h) k =
      let first = entries_are_one g start (additions g.sheet (length g.sheet.rows)) h.0 k.0 h.1 k.1 h.3 k.4 in
      let others : EntriesBegin g (forgotten k.1) entries h.2 = subst (λ (t : Timeline). EntriesBegin g (forgotten t) entries h.2) first.1 h.4 in
      let later : IsFrontOf k.2 h.2 = entries_front (forgotten k.1) entries h.2 k.2 k.3 others k.5 in
      let same : followed k.0 h.2 ≡ w = sym (h.5 ∙ ap (λ (x : Written). followed x h.2) first.0) in
      subst (λ (x : Written). IsFrontOf x w) (sym k.6) (subst (λ (x : Written). IsFrontOf (followed k.0 k.2) x) same (front_of_others k.0 k.2 h.2 later))

  pub beginning_is_front : (entries : List Entry) (w whole : Written) → BeginsReport g entries w → IsReport g entries whole → IsFrontOf whole w
  beginning_is_front entries w whole h k = front_of entries w whole (beginning_opens entries w h) (report_opens g entries whole k)
