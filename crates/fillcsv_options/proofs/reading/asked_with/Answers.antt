use Rattle.std.proofs.Common.{ap, sym, not, map, flat_map, ◌∙◌}
use Rattle.fillcsv_options.specs.Words.{columns_in, lookup_data, target_data, typed_data}
use Rattle.fillcsv_options.proofs.reading.asked_with.Goals as goal

pub returns : goal.returns
returns c =
    let columns = c.in_ok-columns_of.ensures ∙ ap (flat_map columns_in) c.values_of.ensures in
    λ i. record {
      file = sym c.in_ok-text_of.ensures i;
      to = target_data c.args.chosen.to;
      from = sym columns i;
      header = not (sym c.is_set.ensures i);
      examples = map typed_data c.args.chosen.examples.items;
      replace = sym c.is_set-2.ensures i;
      lookups = map lookup_data c.args.chosen.lookups.items;
      depth = c.args.chosen.depth;
      states = sym c.is_set-3.ensures i;
      only_sure = c.args.chosen.only_sure;
      profile = c.args.chosen.profile;
      quiet = sym c.is_set-4.ensures i;
      explain = sym c.is_set-5.ensures i;
      ask = c.args.chosen.ask;
      strict = sym c.is_set-6.ensures i;
      save = sym c.in_ok-word_of.ensures i;
    }
