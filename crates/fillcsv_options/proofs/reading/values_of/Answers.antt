use Rattle.std.proofs.Common.{ap, refl, map, [], unwrap_or, ◌∙◌}
use Rattle.clap.specs.Words.{found_of}
use Rattle.clap.proofs.WalkLemmas.{raw_values-rows}
use Rattle.fillcsv_options.proofs.Parts.{lists_now}
use Rattle.fillcsv_options.proofs.reading.values_of.Goals as goal

pub returns : goal.returns
returns c =
    let found = found_of c.args.matches.now in
    ap (λ s. map (λ l. l.now) s.now) c.unwrap_or.ensures
    ∙ (lists_now c.get_strs.result _ refl ∙ ap (λ o. unwrap_or o []) (c.get_strs.ensures ∙ raw_values-rows found c.args.id.now))
