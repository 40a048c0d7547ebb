use Rattle.std.proofs.Common.{ap, sym, codes, false, option_map, ◌∙◌}
use Rattle.std.specs.Option.{option_map_or}
use Rattle.std.specs.Str.{bytes_eq}
use Rattle.fillcsv_options.proofs.reading.is_set.Goals as goal

pub returns-in-Some : goal.returns-in-Some
returns-in-Some c = c.eq.ensures ∙ ap (λ o. option_map_or (λ t. bytes_eq t (codes "true")) o false) (ap (option_map (λ v. v.now)) (sym c.in-Some.is) ∙ c.value_of.ensures)

pub returns-in-None : goal.returns-in-None
returns-in-None c = ap (λ o. option_map_or (λ t. bytes_eq t (codes "true")) o false) (ap (option_map (λ v. v.now)) (sym c.in-None.is) ∙ c.value_of.ensures)
