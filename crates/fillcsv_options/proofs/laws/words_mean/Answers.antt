use Rattle.std.proofs.Common.{refl}
use Rattle.clap.proofs.OnLiterals.{clap_on_literals}
use Rattle.fillcsv_options.specs.Options.{app, run_app}
use Rattle.fillcsv_options.specs.Words.{asked_in, run_meaning, sheet_meaning}
use Rattle.fillcsv_options.proofs.laws.words_mean.Goals as goal

pub returns : goal.returns
unfolding clap_on_literals asked_in sheet_meaning run_meaning app run_app
returns c = record { fewest = refl; most = refl; added = refl; saved = refl; saved_so_far = refl; asked = refl; run = refl; not_both = refl; help = refl; none = refl; both = refl; neither = refl; twice = refl; quiet = refl; unsplit = refl; emptied = refl; written_over = refl; only = refl }
