-- Stops that have a line.
use Rattle.std.proofs.Common.{◌≡◌, ◌∙◌, ℕ, List, Result, Ok, Err, Global, ap, subst, sym}
use Rattle.std.specs.Prelude.{IfOk, MatchResult, string_bytes}
use Rattle.std.specs.declared.string.String.{String}
use Rattle.fill_opening.specs.Opened.{Opened, Refused}
use Rattle.fill_opening.specs.Stops.{Refuses}
use Rattle.fill_opening.specs.declared.stop.Stop.{Stop}
use Rattle.fill_opening.specs.declared.stop.Stop.TheVariants as stop

-- what a check refuses, with its line; out of memory for the line stops it too
pub refused_by : {A E : Type 0} (o : Opened (List ℕ) A) (text : List ℕ) (M : Type 0) (line : Result (String Global) E) (why : Stop (List ℕ))
    → MatchResult line (λ l. why ≡ stop.Refused (string_bytes l)) (λ _. why ≡ stop.NoMemory)
    → IfOk line (λ l. string_bytes l ≡ text) → IfOk line (λ l. M) → (M → o ≡ Refused text) → Refuses o why
refused_by o text M (Ok l) why is says m known = subst (Refuses o) (sym is) (known m ∙ sym (ap Refused says))
refused_by o text M (Err e) why is says m known = subst (Refuses o) (sym is) tt
