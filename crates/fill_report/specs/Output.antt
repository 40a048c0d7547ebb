-- What a sink got and a counter counted, of what is to be written.
use Rattle.std.specs.Prelude.{◌↔◌, ℕ, ◌+◌, ◌≤◌, List, Bool, IsTrue, Option, Result, Ok, Err}
use Rattle.std.specs.Io.KnownBytes.{Appends}
use Rattle.fill_edge.specs.Outside.{AppendsPart}
use Rattle.fill_output.specs.Fields.{report_text}
use Rattle.fill_output.specs.Fields.{Fields}
use Rattle.fill_report.specs.Runs.{Written}
use Rattle.fill_output.specs.declared.halt.Halt.{Halt}
use Rattle.fill_output.specs.declared.halt.Halt.TheVariants as halt

-- something of this kind was written whole, with no more steps than it may take; the flag tells whether a refusal is in it
abbrev pub Writes : (Written → Type 0) → Bool → Option (List ℕ) → Option (List ℕ) → ℕ → ℕ → Type 0
Writes Kind refused old new before now =
    (w : Written) × Kind w × Appends old new (report_text w.records) × (IsTrue refused ↔ (1 ≤ w.refused)) × (now ≤ before + w.term)

-- the whole records of something of this kind were written, with no more steps than it may take
abbrev pub WritesRecords : (Written → Type 0) → Option (List ℕ) → Option (List ℕ) → ℕ → ℕ → Type 0
WritesRecords Kind old new before now = (w : Written) × Kind w × Appends old new (report_text w.records) × (now ≤ before + w.term)

-- a part of the bytes of something of this kind was written that is not all of them, with no more steps than it may take
abbrev pub WritesPart : (Written → Type 0) → Option (List ℕ) → Option (List ℕ) → ℕ → ℕ → Type 0
WritesPart Kind old new before now = (w : Written) × Kind w × AppendsPart old new (report_text w.records) × (now ≤ before + w.term)

-- what a writing leaves by its answer: all of the one kind, or a part of a beginning, or the whole records of one
abbrev pub Leaves : (Written → Type 0) → (Written → Type 0) → Result Bool Halt → Option (List ℕ) → Option (List ℕ) → ℕ → ℕ → Type 0
Leaves Whole Begun (Ok refused) old new before now = Writes Whole refused old new before now
Leaves Whole Begun (Err halt.Fault) old new before now = WritesPart Begun old new before now
Leaves Whole Begun (Err halt.NoMemory) old new before now = WritesRecords Begun old new before now
