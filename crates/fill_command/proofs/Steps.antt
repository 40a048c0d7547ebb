-- The steps of a command: that they end in one way, and what stops them.
use Rattle.std.proofs.Common.{◌≡◌, ◌∙◌, ◌⊎◌, ℕ, List, inl, inr, None, Some, Contains, ap, refl, subst, sym}
use Rattle.std.specs.Prelude.{string_bytes, ⊤}
use Rattle.fill_text.specs.Data.{TableData}
use Rattle.fill_edge.specs.Outside.{Files}
use Rattle.fill_open.specs.Apply.{Applied, AppliedIs, ApplyStops, ApplyUnread, Names, apply_opens}
use Rattle.fill_open.specs.Command.{CommandData, apply, keys, made, replay}
use Rattle.fill_opening.specs.Opened.{Held, Told, Opened, Opening, Passed, Refused}
use Rattle.fill_open.specs.Refusal.{RefusalData}
use Rattle.fill_open.specs.Steps.{made_opens}
use Rattle.fill_opening.specs.Stops.{Counts, IsUnread, ReadFails, Refuses, Stops}
use Rattle.fill_open.specs.declared.session.Ready.{Ready}
use Rattle.fill_opening.specs.declared.stop.Stop.{Stop}
use Rattle.fill_opening.specs.declared.stop.Stop.TheVariants as stop
use Rattle.fill_open.proofs.Applies.{IsOne, applied_one}
use Rattle.fill_opening.proofs.Binds.{told_one}
use Rattle.fill_command.specs.Asked.{AreSteps, Asked, Misses, StepsEnd, files_of}

-- the steps of an application, where they end
pub application_ends : (names : Names) (held : Held) (how : Opened RefusalData Applied) → AppliedIs names held how → StepsEnd (apply names) held how
application_ends names held how h = (apply_opens h.0 names held, (h.0, h.1, refl), h.2)

-- the steps of a command end in one way
pub one_end : IsOne → (command : CommandData) (held : Held) (how other : Opened RefusalData (Asked command)) → StepsEnd command held how → StepsEnd command held other → how ≡ other
one_end one (replay name) held how other h k = sym h.2 ∙ ap (λ (o : Opening RefusalData Ready). o.outcome) (h.1 ∙ sym k.1) ∙ k.2
one_end one (made n) held how other h k = sym h.2 ∙ ap (λ (o : Opening RefusalData Ready). o.outcome) (h.1 ∙ sym k.1) ∙ k.2
one_end one (apply names) held how other h k =
    let outcome : Opening RefusalData Applied → Opened RefusalData Applied = λ o. o.outcome in
    applied_one one names held how other (h.1.0, h.1.1, ap outcome (sym h.1.2) ∙ h.2) (k.1.0, k.1.1, ap outcome (sym k.1.2) ∙ k.2)
one_end one (keys file) held how other h k = sym h.2 ∙ ap (λ (o : Opening RefusalData (List TableData)). o.outcome) (h.1 ∙ sym k.1) ∙ k.2

-- why the steps of a command stop; out of memory is free
abbrev pub Stopped : CommandData → Files → Counts → Counts → Stop RefusalData → Type 0
Stopped command files before now (stop.Unread name) = Misses command files before now (string_bytes name)
Stopped command files before now (stop.Refused why) = Told files (λ held. StepsEnd command held (Refused why))
Stopped command files before now stop.NoMemory = ⊤

-- steps that the files alone determine
module _ (command : CommandData) (steps : Held → Opening RefusalData (Asked command)) (are : (held : Held) → AreSteps command held (steps held))
    (one : (held : Held) (o : Opening RefusalData (Asked command)) → AreSteps command held o → o ≡ steps held) where
  misses : (files : Files) (before now : Counts) (name : List ℕ) → IsUnread steps files name ⊎ ReadFails steps files before now name → Misses command files before now name
  misses None before now name (inl u) = absurd u
  misses None before now name (inr r) = r
  misses (Some held) before now name (inl u) = inl (steps held, are held, u)
  misses (Some held) before now name (inr r) = inr ((λ o is. subst (λ (p : Opening RefusalData (Asked command)). Contains p.reads name) (sym (one held o is)) r.0), r.1)

  pub stopped : (files : Files) (before now : Counts) (why : Stop RefusalData) → Stops steps files before now why → Stopped command files before now why
  stopped files before now (stop.Unread name) s = misses files before now (string_bytes name) s
  stopped files before now (stop.Refused why) s = told_one files _ _ (λ held e. (steps held, are held, e)) s
  stopped files before now stop.NoMemory s = tt

  pub passed : (files : Files) (x : Asked command) → Told files (λ held. (steps held).outcome ≡ Passed x) → Told files (λ held. StepsEnd command held (Passed x))
  passed files x p = told_one files _ _ (λ held e. (steps held, are held, e)) p

pub made_stopped : (n : ℕ) (files : Files) (before now : Counts) (why : Stop RefusalData) → Refuses (made_opens n).outcome why → Stopped (made n) (files_of (made n) files) before now why
made_stopped n files before now (stop.Unread name) s = absurd s
made_stopped n files before now (stop.Refused why) s = (made_opens n, refl, s)
made_stopped n files before now stop.NoMemory s = tt

application_misses : (names : Names) (files : Files) (before now : Counts) (name : List ℕ) → ApplyUnread names files before now name → Misses (apply names) files before now name
application_misses names None before now name r = r
application_misses names (Some held) before now name (inl h) = inl (application_ends names held _ h)
application_misses names (Some held) before now name (inr r) =
    inr ((λ o is. subst (λ (p : Opening RefusalData Applied). Contains p.reads name) (sym is.2) (r.0 is.0 is.1)), r.1)

pub application_stopped : (names : Names) (files : Files) (before now : Counts) (why : Stop RefusalData) → ApplyStops names files before now why → Stopped (apply names) files before now why
application_stopped names files before now (stop.Unread name) s = application_misses names files before now (string_bytes name) s
application_stopped names files before now (stop.Refused why) s = told_one files _ _ (λ held h. application_ends names held (Refused why) h) s
application_stopped names files before now stop.NoMemory s = tt

pub application_passed : (names : Names) (files : Files) (a : Applied) → Told files (λ held. AppliedIs names held (Passed a)) → Told files (λ held. StepsEnd (apply names) held (Passed a))
application_passed names files a told = told_one files _ _ (λ held h. application_ends names held (Passed a) h) told
