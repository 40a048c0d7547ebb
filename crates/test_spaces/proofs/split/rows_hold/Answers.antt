use Rattle.test_spaces.proofs.split.rows_hold.Goals as goal

pub loop-i-init : goal.loop-i-init
loop-i-init g c = c.requires
