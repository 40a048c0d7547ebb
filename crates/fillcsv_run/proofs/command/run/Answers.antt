use Rattle.std.proofs.Common.{◌≡◌, ◌∙◌, ap, inl, inr, map, refl, string_bytes, sym}
use Rattle.std.proofs.KnownBytes.{Keeps-refl}
use Rattle.fillcsv_options.specs.Words.{AskedData, Asks, Meaning, Runs, SavedData, Shows, Wrong, data_of, order_meaning, saved_data}
use Rattle.fillcsv_options.proofs.Loud.{asks_loud}
use Rattle.fillcsv_run.specs.Asking.{heard}
use Rattle.fillcsv_run.proofs.Endings.{memory_ends, none_written}
use Rattle.fillcsv_run.proofs.Pages.{ends_same, says_at_once}
use Rattle.fillcsv_run.proofs.command.run.Goals as goal

rule_same : (a b : SavedData) → Runs a ≡ Runs b → a.rule ≡ b.rule
rule_same a b e = let same : a ≡ b = cc in ap (λ (s : SavedData). s.rule) same

asked_same : (a b : AskedData) → Asks a ≡ Asks b → a ≡ b
asked_same a b e = cc

runs_asks : (m : Meaning) (s : SavedData) (a : AskedData) → m ≡ Runs s → m ≡ Asks a → ⊥
runs_asks m s a runs asks = cc

wrong_asks : (m : Meaning) (a : AskedData) → m ≡ Wrong → m ≡ Asks a → ⊥
wrong_asks m a wrong asks = cc

shows_asks : (m : Meaning) (a : AskedData) → m ≡ Shows → m ≡ Asks a → ⊥
shows_asks m a shows asks = cc

pub fill_sheet-requires-clause-loud : goal.fill_sheet-requires-clause-loud
fill_sheet-requires-clause-loud g c =
    asks_loud (map string_bytes c.args.words.now) (data_of c.in-Ok-Fill.asked) (c.in-Ok-Fill.ensures.answer ∙ ap order_meaning c.in-Ok-Fill.field-0-is)

pub returns-in-Ok-Fill-clause-filled : goal.returns-in-Ok-Fill-clause-filled
returns-in-Ok-Fill-clause-filled g c = λ asked is.
    let same : data_of c.in-Ok-Fill.asked ≡ asked = asked_same _ _ (sym (c.in-Ok-Fill.ensures.answer ∙ ap order_meaning c.in-Ok-Fill.field-0-is) ∙ is) in
    (c.fill_sheet.new.input, ends_same (data_of c.in-Ok-Fill.asked) asked _ _ _ _ _ _ _ _ _ _ _ _ _ _ same c.fill_sheet.ensures.ends)

pub returns-in-Ok-Run-clause-filled : goal.returns-in-Ok-Run-clause-filled
returns-in-Ok-Run-clause-filled g c = λ asked is.
    absurd (runs_asks _ (saved_data c.in-Ok-Run.saved) asked (c.in-Ok-Run.ensures.answer ∙ ap order_meaning c.in-Ok-Run.field-0-is) is)

pub returns-in-Err-Usage-clause-filled : goal.returns-in-Err-Usage-clause-filled
returns-in-Err-Usage-clause-filled g c = λ asked is. absurd (wrong_asks _ asked (rw c.in-Err-Usage.field-0-is at c.in-Err-Usage.ensures.answer) is)

pub returns-in-Err-Shown-clause-filled : goal.returns-in-Err-Shown-clause-filled
returns-in-Err-Shown-clause-filled g c = λ asked is. absurd (shows_asks _ asked (rw c.in-Err-Shown.field-0-is at c.in-Err-Shown.ensures.answer) is)

pub returns-clause-filled : goal.returns-clause-filled
returns-clause-filled g c = λ asked is. (
  c.args.input,
  memory_ends asked (g.C.Cabinet.files c.args.folder.cabinet) (heard (g.S.Source.left c.args.input) (g.S.Source.faults c.args.input) (g.S.Source.faults c.args.input)) _ _ _ _ _ _ _ _ 6
      refl refl (none_written asked (g.C.Cabinet.files c.args.folder.cabinet) (heard (g.S.Source.left c.args.input) (g.S.Source.faults c.args.input) (g.S.Source.faults c.args.input)) _ _ (Keeps-refl (g.O.Sink.written c.args.out.now))) (says_at_once asked.ask _ _ _ _ _ c.say.ensures),
)

pub returns-in-Ok-Run-clause-ran : goal.returns-in-Ok-Run-clause-ran
returns-in-Ok-Run-clause-ran g c = λ saved is.
    let rule : c.as_str.result.now ≡ saved.rule = c.as_str.ensures.value ∙ rule_same (saved_data c.in-Ok-Run.saved) saved (sym (c.in-Ok-Run.ensures.answer ∙ ap order_meaning c.in-Ok-Run.field-0-is) ∙ is) in
    inr (c.run_rule_file-status.result.source, rw rule at c.run_rule_file-status.ensures.ran)

pub returns-clause-ran : goal.returns-clause-ran
returns-clause-ran g c = λ saved is. inl (refl, refl, c.say.ensures)

pub returns-in-Ok-Fill-clause-fault : goal.returns-in-Ok-Fill-clause-fault
returns-in-Ok-Fill-clause-fault g c = λ four. elim (c.fill_sheet.ensures.fault four) [
  | inl wrote ↦ inl wrote
  | inr more ↦ elim more [ inl saved ↦ inr (inl saved) | inr read ↦ inr (inr (data_of c.in-Ok-Fill.asked, c.in-Ok-Fill.ensures.answer ∙ ap order_meaning c.in-Ok-Fill.field-0-is, read)) ]
]
