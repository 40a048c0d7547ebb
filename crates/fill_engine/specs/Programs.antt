-- What answers a request.
use Rattle.std.specs.Prelude.{◌≡◌, ◌≢◌, ◌⊎◌, ◌≤◌, ℕ, List, [], Option, None, Some, true}
use Rattle.fill_edge.specs.Memory.{held}
use Rattle.fill_edge.specs.Outside.{Files, Rose}
use Rattle.fill_open.specs.Command.{command_in, made}
use Rattle.fill_opening.specs.Stops.{Counts}
use Rattle.fillcsv_options.specs.Words.{AskedData, Asks, Runs, SavedData, Shows, Wrong, asked_in}
use Rattle.fill_files.specs.Saves.{SavedFiles, last_bytes}
use Rattle.fillcsv_rule_runs.specs.RuleFile.{RanFile}
use Rattle.fillcsv_run.specs.Saved.{StoreAt}
use Rattle.fill_command.specs.Ending.{Says, line_of, status_of}
use Rattle.fill_command.specs.Run.{Gives, RunEnds, world}
use Rattle.fill_command.specs.declared.ending.Ending.{Ending}
use Rattle.fillcsv_run.specs.Asking.{SaysAfter, heard}
use Rattle.fillcsv_run.specs.Ends.{EndsFilled, EndsShown, EndsWrong, OutBefore}
use Rattle.fillcsv_run.specs.Said.{Says as SaysFilled}
use Rattle.fill_engine.specs.declared.request.Program.{Program}
use Rattle.fill_engine.specs.declared.request.Program.TheVariants.{Flashfill, Fillcsv}
use Rattle.fill_engine.specs.Answer.{AnswerData, malformed, no_memory}
use Rattle.fill_engine.specs.Request.{CallData, request_in}
use Rattle.fill_engine.specs.Input.{input_in}

-- files that are told, each its name and its bytes, those that come last first
abbrev pub files_of : List (List ℕ × List ℕ) → Files
files_of files = Some (λ name. held files name)

-- no read of a file fails
abbrev pub no_faults : Counts
no_faults = λ name. 0

-- what `flashfill` answers to these words over these files, of which no read fails; no write fails either
pub record EndsFlashfill (words : List (List ℕ)) (files : Files) (a : AnswerData) : Type 0 where
  -- it ends as its run does, its errors are the line of this ending, where it has one, and the run made these steps
  pub ends : (ending : Ending) × (first : ℕ) × (last : ℕ) × (a.status ≡ status_of ending) × Says (Some []) (Some a.err) 0 0 (line_of ending)
      × RunEnds (command_in words) (world files no_faults (Some []) 0 first) (world files no_faults (Some a.out) 0 last) ending
  pub gives : Gives (command_in words) files a.status
  -- a generated session always opens
  pub generated : (n : ℕ) → command_in words ≡ Some (made n) → (a.status ≤ 1) ⊎ (a.status ≡ 6)
  pub written : a.status ≢ 4

-- the last of these files has the bytes, which are none where there is no file
abbrev pub IsLast : List ℕ → SavedFiles → Type 0
IsLast saved None = ⊥
IsLast saved (Some files) = saved ≡ last_bytes files

-- no save failed, and the file that was saved last has these bytes
abbrev pub Stores : List ℕ → StoreAt → Type 0
Stores saved store = (store.faults ≡ 0) × IsLast saved store.files

-- a store that holds nothing
abbrev pub nothing_stored : StoreAt
nothing_stored = record { files = Some []; faults = 0 }

-- what `fillcsv` answers to these words over these files
pub record EndsFillcsv (words : List (List ℕ)) (files : List (List ℕ × List ℕ)) (a : AnswerData) : Type 0 where
  -- words that ask for a sheet end as its filling does; what it asks is answered by standard input, of which no read fails
  pub filled : (asked : AskedData) → asked_in words ≡ Asks asked → (store : StoreAt) × Stores a.saved store
      × EndsFilled asked (files_of files) (heard (Some (input_in files)) 0 0) a.status no_faults no_faults (Some []) (Some a.out) nothing_stored store (Rose 0 0) (SaysAfter asked.ask (Some []) (Some a.err) 0 0)
  -- words that name a saved rule end as its run over standard input does, of which no read fails
  pub ran : (saved : SavedData) → asked_in words ≡ Runs saved → OutBefore a.status (Some []) (Some a.out) (SaysFilled (Some []) (Some a.err) 0 0) ⊎ ((left : Option (List ℕ))
      × RanFile saved.rule (files_of files) no_faults no_faults a.status (Some (input_in files)) left 0 0 (Some []) (Some a.out) 0 0 (SaysFilled (Some []) (Some a.err) 0 0))
  pub wrong : asked_in words ≡ Wrong → EndsWrong a.status (SaysFilled (Some []) (Some a.err) 0 0) × (a.out ≡ [])
  pub shown : asked_in words ≡ Shows → EndsShown a.status (SaysFilled (Some []) (Some a.err) 0 0)
  -- where they ask for quiet, nothing is said of a sheet that was written
  pub silent : (asked : AskedData) → asked_in words ≡ Asks asked → asked.quiet ≡ true → a.status ≤ 1 → a.err ≡ []
  -- no write fails, and no read of the file in a later pass
  pub written : a.status ≢ 4
  pub statuses : a.status ≤ 6

-- what a program answers
abbrev pub Ends : Program → List (List ℕ) → List (List ℕ × List ℕ) → AnswerData → Type 0
Ends Flashfill words files a = EndsFlashfill words (files_of files) a
Ends Fillcsv words files a = EndsFillcsv words files a

-- the answer of what is asked, or that nothing is
abbrev pub AnswersCall : Option CallData → AnswerData → Type 0
AnswersCall None a = a ≡ malformed
AnswersCall (Some call) a = Ends call.program call.words call.files a

-- the answer of a request, or that memory ran out
abbrev pub Answers : List ℕ → AnswerData → Type 0
Answers request a = AnswersCall (request_in request) a ⊎ (a ≡ no_memory)
