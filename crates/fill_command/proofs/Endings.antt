-- How the run of a command ends, and what that says of its status.
use Rattle.std.proofs.Common.{◌≡◌, ◌∙◌, ◌≤◌, ◌⊎◌, ℕ, List, [], inl, inr, Option, None, Some, Bool, false, true, Result, Ok, Err, Contains, ap, arith, refl, subst, sym}
use Rattle.std.specs.Prelude.{◌↔◌, encode_utf8_all, IfOk, IsErrOf, IsTrue, string_bytes}
use Rattle.fill_edge.specs.Outside.{Files, Rose}
use Rattle.fill_open.specs.Command.{CommandData, made}
use Rattle.fill_opening.specs.Opened.{Held, Told, Opened, Opening, Passed, Refused, Unread, further}
use Rattle.fill_open.specs.Refusal.{RefusalData}
use Rattle.fill_open.specs.Made.{made_session, made_sheet}
use Rattle.fill_open.specs.Steps.{made_name, made_opens, script_in, sheet_in}
use Rattle.fill_open.specs.declared.session.Ready.{Ready}
use Rattle.fill_opening.specs.declared.stop.Stop.{Stop}
use Rattle.fill_opening.specs.declared.stop.Stop.TheVariants as stop
use Rattle.fill_open.proofs.Applies.{IsOne}
use Rattle.fill_opening.proofs.Binds.{told_one}
use Rattle.fill_report.specs.Output.{Writes, WritesPart, WritesRecords}
use Rattle.fill_output.specs.declared.halt.Halt.{Halt}
use Rattle.fill_output.specs.declared.halt.Halt.TheVariants as halt
use Rattle.fill_command.specs.Asked.{Asked, Opens, StepsEnd, files_of}
use Rattle.fill_command.specs.Ending.{IsOfStop, halt_ending, report_ending, status_of}
use Rattle.fill_command.specs.Output.{WritesAll, WritesFirst}
use Rattle.fill_command.specs.Run.{Ends, Gives, IsQuiet, MayGive, RunEnds, World}
use Rattle.fill_command.specs.declared.ending.Ending.{Ending}
use Rattle.fill_command.specs.declared.ending.Ending.TheVariants as ending
use Rattle.fill_command.proofs.Steps.{Stopped, one_end}

told_all : (files : Files) (P : Held → Type 0) → ((held : Held) → P held) → Told files P
told_all None P f = tt
told_all (Some held) P f = f held

module _ (command : CommandData) (a b : World) where
  -- the steps stopped
  pub stop_ends : (why : Stop RefusalData) (e : Ending) → IsOfStop why e → Stopped command (files_of command a.files) a.unread b.unread why → IsQuiet a b → Ends command a b e
  stop_ends why e (inl none) s quiet = subst (λ (x : Ending). Ends command a b x) (sym none) (inl quiet)
  stop_ends (stop.Unread name) e (inr h) s quiet = subst (λ (x : Ending). Ends command a b x) (sym h.2) (string_bytes name, s, h.1, quiet)
  stop_ends (stop.Refused why) e (inr h) s quiet = subst (λ (x : Ending). Ends command a b x) (sym h.2) (why, s, h.1, quiet)
  stop_ends stop.NoMemory e (inr h) s quiet = subst (λ (x : Ending). Ends command a b x) (sym h.2) (inl quiet)

  module _ (x : Asked command) (opens : Opens command a.files x) where
    abbrev Part : Type 0
    Part = WritesPart (WritesFirst command x) a.out b.out a.steps b.steps

    abbrev First : Type 0
    First = WritesRecords (WritesFirst command x) a.out b.out a.steps b.steps

    -- the writing halted
    pub halt_ends : (h : Halt) (e : Ending) → e ≡ halt_ending h → (h ≡ halt.Fault → Part) → (h ≡ halt.Fault → Rose a.unwritten b.unwritten) → (h ≡ halt.NoMemory → IsQuiet a b ⊎ First) → Ends command a b e
    halt_ends halt.Fault e is part fault first = subst (λ (x : Ending). Ends command a b x) (sym is) ((x, opens, part refl), fault refl)
    halt_ends halt.NoMemory e is part fault first =
        subst (λ (x : Ending). Ends command a b x) (sym is) (elim (first refl) [ inl quiet ↦ inl quiet | inr some ↦ inr (x, opens, some) ])

    -- the writing came to an end, or halted
    pub report_ends : (r : Result Bool Halt) (e : Ending) → e ≡ report_ending r → IfOk r (λ refused. Writes (WritesAll command x) refused a.out b.out a.steps b.steps)
        → (IsErrOf r halt.Fault → Part) → (IsErrOf r halt.Fault → Rose a.unwritten b.unwritten) → (IsErrOf r halt.NoMemory → IsQuiet a b ⊎ First) → Ends command a b e
    report_ends (Ok false) e is whole part fault first = subst (λ (x : Ending). Ends command a b x) (sym is) (x, opens, whole)
    report_ends (Ok true) e is whole part fault first = subst (λ (x : Ending). Ends command a b x) (sym is) (x, opens, whole)
    report_ends (Err h) e is whole part fault first = halt_ends h e is (λ f. part (ap Err f)) (λ f. fault (ap Err f)) (λ m. first (ap Err m))

-- no refusal is in records of which none is one
pub none_refused : IsTrue false ↔ (1 ≤ 0)
none_refused = grind arith

-- a run ends with 2 only where the words are no command
pub no_command : (command : Option CommandData) (a b : World) (e : Ending) → RunEnds command a b e → status_of e ≡ 2 → command ≡ None
no_command None a b e h is = refl
no_command (Some command) a b ending.Done h is = absurd (omega (arith, is))
no_command (Some command) a b ending.Refusing h is = absurd (omega (arith, is))
no_command (Some command) a b ending.NoCommand h is = absurd h
no_command (Some command) a b (ending.Unread line) h is = absurd (omega (arith, is))
no_command (Some command) a b ending.Unwritten h is = absurd (omega (arith, is))
no_command (Some command) a b (ending.Refused line) h is = absurd (omega (arith, is))
no_command (Some command) a b ending.NoMemory h is = absurd (omega (arith, is))

-- an unread file, and no memory left, may come whatever the steps end with
three_given : {R A : Type 0} (o : Opened R A) → MayGive o 3
three_given (Unread name) = inl refl
three_given (Refused why) = inr (inr refl)
three_given (Passed x) = inr (inr (inl refl))

six_given : {R A : Type 0} (o : Opened R A) → MayGive o 6
six_given (Unread name) = inr refl
six_given (Refused why) = inr (inl refl)
six_given (Passed x) = inr (inl refl)

module _ (one : IsOne) (command : CommandData) (a b : World) where
  as_told : (how : Opened RefusalData (Asked command)) (status : ℕ) → Told (files_of command a.files) (λ held. StepsEnd command held how) → MayGive how status → Gives (Some command) a.files status
  as_told how status told given =
      told_one (files_of command a.files) (λ held. StepsEnd command held how) (λ held. (other : Opened RefusalData (Asked command)) → StepsEnd command held other → MayGive other status)
      (λ held h other k. subst (λ (o : Opened RefusalData (Asked command)). MayGive o status) (one_end one command held how other h k) given) told

  at_any : (status : ℕ) → ((o : Opened RefusalData (Asked command)) → MayGive o status) → Gives (Some command) a.files status
  at_any status given = told_all (files_of command a.files) (λ held. (other : Opened RefusalData (Asked command)) → StepsEnd command held other → MayGive other status) (λ held other k. given other)

  -- how the steps end says what the status may be
  pub ends_give : (e : Ending) → Ends command a b e → Gives (Some command) a.files (status_of e)
  ends_give ending.Done h = as_told (Passed h.0) 0 h.1 (inl (omega arith))
  ends_give ending.Refusing h = as_told (Passed h.0) 1 h.1 (inl (omega arith))
  ends_give ending.NoCommand h = absurd h
  ends_give (ending.Unread line) h = at_any 3 three_given
  ends_give ending.Unwritten h = as_told (Passed h.0.0) 4 h.0.1 (inr (inr (inr refl)))
  ends_give (ending.Refused line) h = as_told (Refused h.0) 5 h.1 (inl refl)
  ends_give ending.NoMemory h = at_any 6 six_given

-- steps that read nothing, and then further ones
reads_no_more : {R A B : Type 0} (rest : A → Opening R B) (o : Opened R A) → ((x : A) → (rest x).reads ≡ []) → (further rest o).reads ≡ []
reads_no_more rest (Unread name) none = refl
reads_no_more rest (Refused why) none = refl
reads_no_more rest (Passed x) none = none x

made_reads : (n : ℕ) → (made_opens n).reads ≡ []
made_reads n = reads_no_more _ (script_in made_name made_session) (λ script. reads_no_more _ (sheet_in script script.output (encode_utf8_all script.sheet) (made_sheet n)) (λ sheet. refl))

none_contained : (names : List (List ℕ)) (name : List ℕ) → names ≡ [] → Contains names name → ⊥
none_contained names name none c = let here = rw none at c in omega (arith, here.1)

-- a generated session opens, so it is written, unless a write fails or memory runs out
module _ (n : ℕ) (ready : Ready) (opens : (made_opens n).outcome ≡ Passed ready) where
  ends_as_opened : (held : Held) (how : Opened RefusalData Ready) → StepsEnd (made n) held how → how ≡ Passed ready
  ends_as_opened held how h = sym h.2 ∙ ap (λ (o : Opening RefusalData Ready). o.outcome) h.1 ∙ opens

  pub made_ends : (a b : World) (e : Ending) → Ends (made n) a b e → (status_of e ≤ 1) ⊎ (status_of e ≡ 4) ⊎ (status_of e ≡ 6)
  made_ends a b ending.Done h = inl (omega arith)
  made_ends a b ending.Refusing h = inl (omega arith)
  made_ends a b ending.NoCommand h = absurd h
  made_ends a b (ending.Unread line) h = elim h.1 [
    | inl k ↦ let e : Unread h.0 ≡ Passed ready = ends_as_opened (λ name. None) (Unread h.0) k in absurd (cc)
    | inr r ↦ absurd (none_contained (made_opens n).reads h.0 (made_reads n) (r.0 (made_opens n) refl))
  ]
  made_ends a b ending.Unwritten h = inr (inl refl)
  made_ends a b (ending.Refused line) h = let e : Refused h.0 ≡ Passed ready = ends_as_opened (λ name. None) (Refused h.0) h.1 in absurd (cc)
  made_ends a b ending.NoMemory h = inr (inr refl)
