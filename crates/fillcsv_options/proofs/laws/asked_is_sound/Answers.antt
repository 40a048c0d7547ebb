use Rattle.fillcsv_options.proofs.Sound.{asks_soundly}
use Rattle.fillcsv_options.proofs.laws.asked_is_sound.Goals as goal

pub returns : goal.returns
returns c = asks_soundly
