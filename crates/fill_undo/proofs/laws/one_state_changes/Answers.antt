use Rattle.fill_undo.proofs.StateLaws.{count_stays, is_changed, others_stay, edits_stay}
use Rattle.fill_undo.proofs.laws.one_state_changes.Goals as goal

pub returns : goal.returns
returns g c = record { count = count_stays; changed = is_changed; others = others_stay; edits = edits_stay }
