-- From what a run promises of its sinks to what is answered.
use Rattle.std.proofs.Common.{◌≡◌, ◌∙◌, ◌⊎◌, ◌≤◌, ℕ, List, [], Option, None, Some, true, inl, inr, ap, arith, refl, subst, sym}
use Rattle.fill_edge.specs.Outside.{Files, Rose}
use Rattle.fill_open.specs.Command.{CommandData, command_in, made}
use Rattle.fillcsv_options.specs.Words.{AskedData, Asks, Runs, SavedData, Shows, Wrong, asked_in}
use Rattle.fill_command.specs.Ending.{Says, line_of, status_of}
use Rattle.fill_command.specs.Run.{Gives, RunEnds, World, world}
use Rattle.fill_command.specs.declared.ending.Ending.{Ending}
use Rattle.fill_command.specs.declared.ending.Ending.TheVariants as ending
use Rattle.fillcsv_rule_runs.specs.RuleFile.{RanFile}
use Rattle.fillcsv_run.specs.Asking.{SaysAfter, heard}
use Rattle.fillcsv_run.specs.Ends.{EndsFilled, EndsShown, EndsWrong, OutBefore}
use Rattle.fillcsv_run.specs.Saved.{StoreAt}
use Rattle.fillcsv_run.specs.Said.{Says as SaysFilled}
use Rattle.fill_engine.specs.Answer.{AnswerData}
use Rattle.fill_engine.specs.Programs.{EndsFillcsv, EndsFlashfill, Stores, files_of, no_faults, nothing_stored}
use Rattle.fill_engine.specs.Input.{input_in}

-- a fault is counted
no_rise : Rose 0 0 → ⊥
no_rise rose = omega (arith, rose)

-- what the run of `flashfill` promises, by what its two sinks had and have, and how often they failed
pub record RanFlashfill (words : List (List ℕ)) (files : Files) (r : ℕ) (old new : List ℕ) (before now : ℕ) (quiet said : List ℕ) (ago lately : ℕ) (first last : ℕ) : Type 0 where
  pub ends : (ending : Ending) × (r ≡ status_of ending) × Says (Some quiet) (Some said) ago lately (line_of ending)
      × RunEnds (command_in words) (world files no_faults (Some old) before first) (world files no_faults (Some new) now last) ending
  pub gives : Gives (command_in words) files r
  pub generated : (n : ℕ) → command_in words ≡ Some (made n) → (r ≤ 1) ⊎ (r ≡ 4) ⊎ (r ≡ 6)

-- no file changes, so those that stand after the run are those before it
pub ends_over : (words : List (List ℕ)) (files after : Files) (r : ℕ) (old new : List ℕ) (before now : ℕ) (quiet said : List ℕ) (ago lately : ℕ) (first last : ℕ) → after ≡ files
    → (ending : Ending) × (r ≡ status_of ending) × Says (Some quiet) (Some said) ago lately (line_of ending)
    × RunEnds (command_in words) (world files no_faults (Some old) before first) (world after no_faults (Some new) now last) ending
    → (ending : Ending) × (r ≡ status_of ending) × Says (Some quiet) (Some said) ago lately (line_of ending)
    × RunEnds (command_in words) (world files no_faults (Some old) before first) (world files no_faults (Some new) now last) ending
ends_over words files after r old new before now quiet said ago lately first last same h =
    (h.0, h.1, h.2, subst (λ (f : Files). RunEnds (command_in words) (world files no_faults (Some old) before first) (world f no_faults (Some new) now last) h.0) same h.3)

-- of three ways to end the second one is none
not_second : (P Q R : Type 0) → (Q → ⊥) → P ⊎ Q ⊎ R → P ⊎ R
not_second P Q R no_second how = elim how [ inl p ↦ inl p | inr more ↦ elim more [ inl q ↦ absurd (no_second q) | inr r ↦ inr r ] ]

-- where no write fails, the status is not 4
none_unwritten : (command : Option CommandData) (a b : World) (e : Ending) → RunEnds command a b e → a.unwritten ≡ 0 → b.unwritten ≡ 0 → status_of e ≡ 4 → ⊥
none_unwritten None a b e h before now four = let e : status_of ending.NoCommand ≡ 4 = ap status_of (sym h.0) ∙ four in omega (arith, e)
none_unwritten (Some command) a b ending.Unwritten h before now four = no_rise (rw (before, now) at h.1)
none_unwritten (Some command) a b ending.Done h before now four = omega (arith, four)
none_unwritten (Some command) a b ending.Refusing h before now four = omega (arith, four)
none_unwritten (Some command) a b ending.NoCommand h before now four = absurd h
none_unwritten (Some command) a b (ending.Unread line) h before now four = omega (arith, four)
none_unwritten (Some command) a b (ending.Refused line) h before now four = omega (arith, four)
none_unwritten (Some command) a b ending.NoMemory h before now four = omega (arith, four)

flashfill_answers : (words : List (List ℕ)) (files : Files) (a : AnswerData) (first last : ℕ) →
    RanFlashfill words files a.status [] a.out 0 0 [] a.err 0 0 first last → EndsFlashfill words files a
flashfill_answers words files a first last ran =
    let written : a.status ≡ 4 → ⊥ = λ four. none_unwritten (command_in words) _ _ ran.ends.0 ran.ends.3 refl refl (sym ran.ends.1 ∙ four) in
    record {
      ends = (ran.ends.0, first, last, ran.ends.1, ran.ends.2, ran.ends.3);
      gives = ran.gives;
      generated = λ n is. not_second (a.status ≤ 1) (a.status ≡ 4) (a.status ≡ 6) written (ran.generated n is);
      written = written;
    }

pub flashfill_ends : (words : List (List ℕ)) (files : Files) (a : AnswerData) (r : ℕ) (old new : List ℕ) (before now : ℕ) (quiet said : List ℕ) (ago lately : ℕ) (first last : ℕ) →
    a.status ≡ r → a.out ≡ new → a.err ≡ said → old ≡ [] → quiet ≡ [] → before ≡ 0 → now ≡ 0 → ago ≡ 0 → lately ≡ 0 →
    RanFlashfill words files r old new before now quiet said ago lately first last → EndsFlashfill words files a
flashfill_ends words files a r old new before now quiet said ago lately first last is_r is_new is_said is_old is_quiet is_before is_now is_ago is_lately ran =
    flashfill_answers words files a first last (rw (is_r, is_new, is_said) (rw (is_old, is_quiet, is_before, is_now, is_ago, is_lately) at ran))

-- what the run of `fillcsv` promises, likewise, and by its input and its store, of which no read and no save failed
pub record RanFillcsv (words : List (List ℕ)) (files : List (List ℕ × List ℕ)) (r : ℕ) (old new : List ℕ) (before now : ℕ) (quiet said : List ℕ) (ago lately : ℕ) (first : List ℕ) (held kept : StoreAt) : Type 0 where
  pub filled : (asked : AskedData) → asked_in words ≡ Asks asked → EndsFilled asked (files_of files) (heard (Some first) 0 0) r no_faults no_faults (Some old) (Some new) held kept (Rose before now) (SaysAfter asked.ask (Some quiet) (Some said) ago lately)
  pub ran : (saved : SavedData) → asked_in words ≡ Runs saved → OutBefore r (Some old) (Some new) (SaysFilled (Some quiet) (Some said) ago lately) ⊎ ((left : Option (List ℕ))
      × RanFile saved.rule (files_of files) no_faults no_faults r (Some first) left 0 0 (Some old) (Some new) before now (SaysFilled (Some quiet) (Some said) ago lately))
  pub wrong : asked_in words ≡ Wrong → EndsWrong r (SaysFilled (Some quiet) (Some said) ago lately) × (new ≡ old)
  pub shown : asked_in words ≡ Shows → EndsShown r (SaysFilled (Some quiet) (Some said) ago lately)
  pub silent : (asked : AskedData) → asked_in words ≡ Asks asked → asked.quiet ≡ true → r ≤ 1 → said ≡ quiet
  pub fault : r ≡ 4 → Rose before now ⊎ Rose held.faults kept.faults ⊎ ((asked : AskedData) × (asked_in words ≡ Asks asked) × Rose (no_faults asked.file) (no_faults asked.file))
  pub statuses : r ≤ 6

fillcsv_answers : (words : List (List ℕ)) (files : List (List ℕ × List ℕ)) (a : AnswerData) (kept : StoreAt) → Stores a.saved kept →
    RanFillcsv words files a.status [] a.out 0 0 [] a.err 0 0 (input_in files) nothing_stored kept → EndsFillcsv words files a
fillcsv_answers words files a kept stores ran = record {
  filled = λ asked is. (kept, stores, ran.filled asked is);
  ran = ran.ran;
  wrong = ran.wrong;
  shown = ran.shown;
  silent = ran.silent;
  written = λ four. elim (ran.fault four) [
    | inl rose ↦ no_rise rose
    | inr more ↦ elim more [ inl rose ↦ no_rise (subst (Rose 0) stores.0 rose) | inr read ↦ no_rise read.2 ]
  ];
  statuses = ran.statuses;
}

pub fillcsv_ends : (words : List (List ℕ)) (files : List (List ℕ × List ℕ)) (a : AnswerData) (r : ℕ) (old new : List ℕ) (before now : ℕ) (quiet said : List ℕ) (ago lately : ℕ) (first : List ℕ) (held kept : StoreAt) →
    a.status ≡ r → a.out ≡ new → a.err ≡ said → old ≡ [] → quiet ≡ [] → before ≡ 0 → now ≡ 0 → ago ≡ 0 → lately ≡ 0 → first ≡ input_in files → held ≡ nothing_stored → Stores a.saved kept →
    RanFillcsv words files r old new before now quiet said ago lately first held kept → EndsFillcsv words files a
fillcsv_ends words files a r old new before now quiet said ago lately first held kept is_r is_new is_said is_old is_quiet is_before is_now is_ago is_lately is_first is_held stores ran =
    fillcsv_answers words files a kept stores (rw (is_r, is_new, is_said) (rw (is_old, is_quiet, is_before, is_now, is_ago, is_lately, is_first, is_held) at ran))
