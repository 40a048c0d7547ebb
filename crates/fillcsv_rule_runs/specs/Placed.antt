-- A rule of the code at its places.
use Rattle.std.specs.Prelude.{ℕ, List, length}
use Rattle.fillcsv_rules.specs.Rule.{IsRule, rule_data}
use Rattle.fillcsv_rule_runs.specs.Filled.{MakesText}
use Rattle.fillcsv_rule_runs.specs.Loaded.{loaded_data}
use Rattle.fillcsv_rule_runs.specs.Placing.{ArePlaces, places_data}
use Rattle.fillcsv_rule_runs.specs.declared.rows.PlacedRule.{PlacedRule}

-- the rule is proper, and there is a place for each input of it
pub record IsPlaced (p : PlacedRule) : Type 0 where
  pub rule : IsRule (rule_data p.loaded.now.rule)
  pub places : ArePlaces (length p.loaded.now.rule.inputs.items) (places_data p.places)

-- the text is that of a record which the rule makes of this one
abbrev pub Makes : PlacedRule → List (List ℕ) → List ℕ → Type 0
Makes p fields text = MakesText (loaded_data p.loaded.now) (places_data p.places) fields text
