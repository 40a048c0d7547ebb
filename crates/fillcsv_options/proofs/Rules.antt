-- Commands with further rules, and options with an old name.
use Rattle.std.proofs.Common.{◌≡◌, ◌∙◌, ℕ, Bool, false, List, [], ◌∷◌, ◌++◌, ap, append_assoc, map}
use Rattle.std.specs.Borrow.{Bor}
use Rattle.std.proofs.lemmas.List.{map-append}
use Rattle.clap.specs.Words.{AddsAliases, App, Rule, Text, rule_of, with_rule}
use Rattle.clap.specs.declared.builder.arg.Arg.{Arg}
use Rattle.fillcsv_options.specs.Options.{with_rules}

pub rule_more : (a : App) (rules : List Rule) (r : Rule) → with_rule (with_rules a rules) r ≡ with_rules a (rules ++ r ∷ [])
rule_more a rules r = ap (λ (l : List Rule). record a { top = record a.top { rules = l } }) (append_assoc a.top.rules rules (r ∷ []))

-- an option that had one name, and has an old one beside it
pub rule_renamed : (old new : Arg) (name : Bor (List ℕ)) (r : Rule) → AddsAliases old new ((name, false) ∷ [])
    → rule_of old ≡ r → r.aliases ≡ [] → rule_of new ≡ record r { aliases = name.now ∷ [] }
rule_renamed old new name r adds is none =
    let names : List Text = map (λ (a : Bor (List ℕ) × Bool). a.0.now) new.aliases.items in
    let same : names ≡ name.now ∷ [] =
    ap (map (λ (a : Bor (List ℕ) × Bool). a.0.now)) adds.1
    ∙ (map-append (λ (a : Bor (List ℕ) × Bool). a.0.now) old.aliases.items ((name, false) ∷ [])
    ∙ ap (λ (l : List Text). l ++ name.now ∷ []) (ap (λ (x : Rule). x.aliases) is ∙ none)) in
    ap rule_of adds.0 ∙ (ap (λ (x : Rule). record x { aliases = names }) is ∙ ap (λ (l : List Text). record r { aliases = l }) same)
