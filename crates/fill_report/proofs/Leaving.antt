-- What writings of records leave.
use Rattle.std.proofs.Common.{◌≡◌, ◌↔◌, ℕ, ◌+◌, ◌<◌, ◌≤◌, List, [], ◌∷◌, ◌++◌, length, take, Bool, true, false, Option, Result, Ok, Err, IfOk, inl, inr, sym, ◌∙◌, refl, subst, arith}
use Rattle.std.proofs.lemmas.Bool.{false≢true}
use Rattle.std.specs.Prelude.{IsTrue, OnOk}
use Rattle.std.specs.Io.KnownBytes.{Appends}
use Rattle.std.proofs.KnownBytes.{Appends-nil}
use Rattle.fill_edge.specs.Outside.{AppendsPart}
use Rattle.fill_sheet.specs.Report.{record_text}
use Rattle.fill_text.specs.declared.error.NoMemory.{NoMemory}
use Rattle.fill_tree.specs.declared.user.Example.{Example}
use Rattle.fill_space.specs.declared.ground.Ground.{Ground}
use Rattle.fill_report.specs.Entries.{FillBegins, QueryBegins, QueryWrites, told}
use Rattle.fill_output.specs.Fields.{report_text}
use Rattle.fill_report.specs.Output.{Leaves, WritesRecords}
use Rattle.fill_output.specs.Fields.{Fields}
use Rattle.fill_report.specs.Rows.{AreRowRecords, IsRowRecord}
use Rattle.fill_report.specs.Runs.{FirstOf, Written, nothing}
use Rattle.fill_report.specs.Writing.{LeavesFirst, LeavesOne}
use Rattle.fill_output.specs.declared.halt.Halt.{Halt}
use Rattle.fill_output.specs.declared.halt.Halt.TheVariants as halt
use Rattle.fill_report.specs.declared.tasks.Query.{Query}
use Rattle.fill_report.specs.declared.tasks.Query.TheVariants as query
use Rattle.fill_output.proofs.Bytes.{appends_more, appends_one, part_more, part_one}
use Rattle.fill_output.proofs.Numbered.{rows_more}

-- the flag of what has no refusal, and of what has one
pub none_refused : (flag : Bool) → flag ≡ false → IsTrue flag ↔ (1 ≤ 0)
none_refused flag e = (λ t. absurd (false≢true (sym e ∙ t)), λ le. absurd (omega arith))

pub one_refused : (flag : Bool) → flag ≡ true → IsTrue flag ↔ (1 ≤ 1)
one_refused flag e = (λ t. omega arith, λ le. e)

pub leaves_map : (W V B C : Written → Type 0) → ((w : Written) → W w → V w) → ((w : Written) → B w → C w) → (r : Result Bool Halt) (old new : Option (List ℕ)) (before now : ℕ)
    → Leaves W B r old new before now → Leaves V C r old new before now
leaves_map W V B C f h (Ok flag) old new before now l = (l.0, f l.0 l.1, l.2, l.3, l.4)
leaves_map W V B C f h (Err halt.Fault) old new before now l = (l.0, h l.0 l.1, l.2, l.3)
leaves_map W V B C f h (Err halt.NoMemory) old new before now l = (l.0, h l.0 l.1, l.2, l.3)

-- a writing that stopped
pub stops_map : (W V B C : Written → Type 0) → ((w : Written) → B w → C w) → (why : Halt) (old new : Option (List ℕ)) (before now : ℕ)
    → Leaves W B (Err why) old new before now → Leaves V C (Err why) old new before now
stops_map W V B C h halt.Fault old new before now l = (l.0, h l.0 l.1, l.2, l.3)
stops_map W V B C h halt.NoMemory old new before now l = (l.0, h l.0 l.1, l.2, l.3)

-- a writing that took no steps
pub leaves_on : (W B : Written → Type 0) (r : Result Bool Halt) (old new : Option (List ℕ)) (before now : ℕ) → now ≡ before → Leaves W B r old new 0 0 → Leaves W B r old new before now
leaves_on W B (Ok flag) old new before now e l = (l.0, l.1, l.2, l.3, omega arith)
leaves_on W B (Err halt.Fault) old new before now e l = (l.0, l.1, l.2, omega arith)
leaves_on W B (Err halt.NoMemory) old new before now e l = (l.0, l.1, l.2, omega arith)

module _ (W B : Written → Type 0) (old new : Option (List ℕ)) (before now term : ℕ) (le : now ≤ before + term) (none : B (record { records = []; refused = 0; term = term })) where
  -- nothing was written
  pub leaves_nothing : new ≡ old → WritesRecords B old new before now
  leaves_nothing same = (record { records = []; refused = 0; term = term }, none, subst (λ (o : Option (List ℕ)). Appends old o []) (sym same) (Appends-nil old), le)

  -- one record was to be written
  pub leaves_one : (made : Result Fields NoMemory) (flag : Bool) (count : ℕ) (r : Result Bool Halt)
      → ((fields : Fields) → made ≡ Ok fields → W (record { records = fields ∷ []; refused = count; term = term }))
      → ((fields : Fields) → made ≡ Ok fields → B (record { records = fields ∷ []; refused = 0; term = term }))
      → IsTrue flag ↔ (1 ≤ count) → LeavesOne made flag r old new → Leaves W B r old new before now
  leaves_one (Ok fields) flag count (Ok x) w b f l =
      (record { records = fields ∷ []; refused = count; term = term }, w fields refl, appends_one old new fields l.0, subst (λ (y : Bool). IsTrue y ↔ (1 ≤ count)) (sym l.1) f, le)
  leaves_one (Ok fields) flag count (Err halt.Fault) w b f l =
      (record { records = fields ∷ []; refused = 0; term = term }, b fields refl, part_one old new fields l, le)
  leaves_one (Ok fields) flag count (Err halt.NoMemory) w b f l = leaves_nothing l
  leaves_one (Err e) flag count (Ok x) w b f l = absurd l
  leaves_one (Err e) flag count (Err halt.Fault) w b f l = absurd l
  leaves_one (Err e) flag count (Err halt.NoMemory) w b f l = leaves_nothing l

  -- records were to be written, one after the other
  pub leaves_first : (records : List Fields) (r : Result Bool Halt)
      → W (record { records = records; refused = 0; term = term })
      → ((n : ℕ) → B (record { records = take n records; refused = 0; term = term }))
      → LeavesFirst records r old new → Leaves W B r old new before now
  leaves_first records (Ok x) w b l = (record { records = records; refused = 0; term = term }, w, l.0, none_refused x l.1, le)
  leaves_first records (Err halt.Fault) w b l = (record { records = take l.0 records; refused = 0; term = term }, b l.0, l.1, le)
  leaves_first records (Err halt.NoMemory) w b l = (record { records = take l.0 records; refused = 0; term = term }, b l.0, l.1, le)

-- a question of which nothing was written
pub query_none : (g : Ground) (examples : List Example) (q : Query) → QueryBegins g examples q nothing
query_none g examples query.Programs = inl refl
query_none g examples query.Switch = inl refl
query_none g examples query.Fill = (0, [], omega arith, tt, refl)
query_none g examples query.Count = inl refl
query_none g examples (query.Answer row) = inl refl
query_none g examples (query.Object row) = inl refl
query_none g examples (query.Best branch k) = inl refl

pub made_so : {E : Type 0} (made : Result Fields E) (P : Fields → Type 0) → IfOk made P → (fields : Fields) → made ≡ Ok fields → P fields
made_so {E} made P h fields e = subst (λ (r : Result Fields E). IfOk r P) e h

-- the one record of a question was to be written
pub leaves_answer : (g : Ground) (examples : List Example) (q : Query) (made : Result Fields NoMemory) (P : Fields → Type 0) (flag : Bool) (count : ℕ) (r : Result Bool Halt)
    (old new : Option (List ℕ)) → IfOk made P
    → ((fields : Fields) → P fields → QueryWrites g examples q (record { records = fields ∷ []; refused = count; term = 0 }))
    → ((w : Written) → FirstOf (QueryWrites g examples q) nothing w → QueryBegins g examples q w)
    → IsTrue flag ↔ (1 ≤ count) → LeavesOne made flag r old new → Leaves (QueryWrites g examples q) (QueryBegins g examples q) r old new 0 0
leaves_answer g examples q made P flag count r old new h w first f l =
    let one : Fields → Written = λ (fields : Fields). record { records = fields ∷ []; refused = count; term = 0 } in
    leaves_one (QueryWrites g examples q) (QueryBegins g examples q) old new 0 0 0 (omega arith)
    (query_none g examples q) made flag count r
    (λ fields m. w fields (made_so made P h fields m))
    (λ fields m. first (record { records = fields ∷ []; refused = 0; term = 0 }) (inr (one fields, 1, w fields (made_so made P h fields m), refl))) f l

-- the first records of a list were written, and then one more
pub first_next : (records : List Fields) (i : ℕ) (x : Fields) (made : Result Fields NoMemory) (flag : Bool) (old mid new : Option (List ℕ)) → IfOk made (λ m. m ≡ x)
    → take (i + 1) records ≡ take i records ++ x ∷ [] → Appends old mid (report_text (take i records)) → LeavesOne made false (Ok flag) mid new
    → Appends old new (report_text (take (i + 1) records))
first_next records i x (Ok fields) flag old mid new h e a l =
    subst (λ (rs : List Fields). Appends old new (report_text rs)) (sym e)
    (appends_more old mid new (take i records) x a (subst (λ (f : Fields). Appends mid new (record_text f)) h l.0))
first_next records i x (Err e) flag old mid new h t a l = absurd l

pub first_stops : (records : List Fields) (i : ℕ) (x : Fields) (made : Result Fields NoMemory) (why : Halt) (old mid new : Option (List ℕ)) → IfOk made (λ m. m ≡ x)
    → take (i + 1) records ≡ take i records ++ x ∷ [] → Appends old mid (report_text (take i records)) → LeavesOne made false (Err why) mid new
    → LeavesFirst records (Err why) old new
first_stops records i x (Ok fields) halt.Fault old mid new h e a l = (
  i + 1,
  subst (λ (rs : List Fields). AppendsPart old new (report_text rs)) (sym e)
      (part_more old mid new (take i records) x a (subst (λ (f : Fields). AppendsPart mid new (record_text f)) h l)),
)
first_stops records i x (Ok fields) halt.NoMemory old mid new h e a l = (i, subst (λ (o : Option (List ℕ)). Appends old o (report_text (take i records))) (sym l) a)
first_stops records i x (Err e) halt.Fault old mid new h t a l = absurd l
first_stops records i x (Err e) halt.NoMemory old mid new h t a l = (i, subst (λ (o : Option (List ℕ)). Appends old o (report_text (take i records))) (sym l) a)

-- the records of the first n rows were written
abbrev pub RowsWritten : Ground → List Example → ℕ → Option (List ℕ) → Option (List ℕ) → Type 0
RowsWritten g examples n old now = (records : List Fields) × AreRowRecords g examples n records × Appends old now (report_text records)

-- a record that was written was made
pub when_made : {P : Type 0} (made : Result Fields NoMemory) (flag : Bool) (old new : Option (List ℕ)) → LeavesOne made false (Ok flag) old new → OnOk made P → P
when_made (Ok fields) flag old new l h = h
when_made (Err e) flag old new l h = absurd l

module _ (g : Ground) (examples : List Example) (old mid new : Option (List ℕ)) where
  pub rows_none : RowsWritten g examples 0 old old
  rows_none = ([], tt, Appends-nil old)

  -- one row more
  pub rows_next : (n : ℕ) (made : Result Fields NoMemory) (flag : Bool) → IfOk made (IsRowRecord g examples (n + 1)) → RowsWritten g examples n old mid
      → LeavesOne made false (Ok flag) mid new → RowsWritten g examples (n + 1) old new
  rows_next n (Ok fields) flag h w l =
      (w.0 ++ fields ∷ [], rows_more (IsRowRecord g examples) n w.0 fields w.1 h, appends_more old mid new w.0 fields w.2 l.0)
  rows_next n (Err e) flag h w l = absurd l

  -- the next row was not written whole
  pub rows_stop : (n : ℕ) (made : Result Fields NoMemory) (why : Halt) → n < length g.sheet.rows → IfOk made (IsRowRecord g examples (n + 1)) → RowsWritten g examples n old mid
      → LeavesOne made false (Err why) mid new → Leaves (QueryWrites g examples query.Fill) (FillBegins g examples) (Err why) old new 0 0
  rows_stop n (Ok fields) halt.Fault lt h w l = (
    told (w.0 ++ fields ∷ []),
    (n + 1, w.0 ++ fields ∷ [], omega arith, rows_more (IsRowRecord g examples) n w.0 fields w.1 h, refl),
    part_more old mid new w.0 fields w.2 l,
    omega arith,
  )
  rows_stop n (Ok fields) halt.NoMemory lt h w l = (
    told w.0,
    (n, w.0, omega arith, w.1, refl),
    subst (λ (o : Option (List ℕ)). Appends old o (report_text w.0)) (sym l) w.2,
    omega arith,
  )
  rows_stop n (Err e) halt.Fault lt h w l = absurd l
  rows_stop n (Err e) halt.NoMemory lt h w l = (
    told w.0,
    (n, w.0, omega arith, w.1, refl),
    subst (λ (o : Option (List ℕ)). Appends old o (report_text w.0)) (sym l) w.2,
    omega arith,
  )

  -- all rows were written
  pub rows_all : (n : ℕ) → n ≡ length g.sheet.rows → RowsWritten g examples n old new → Leaves (QueryWrites g examples query.Fill) (FillBegins g examples) (Ok false) old new 0 0
  rows_all n e w = (
    told w.0,
    (w.0, subst (λ (k : ℕ). AreRowRecords g examples k w.0) e w.1, refl),
    w.2,
    none_refused false refl,
    omega arith,
  )
