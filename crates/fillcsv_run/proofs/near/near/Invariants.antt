use Rattle.std.proofs.Common.{◌≡◌, None, drop, option_map}
use Rattle.fillcsv_run.specs.Near.{near_from}
use Rattle.fillcsv_run.proofs.near.near.Given as goal

abbrev pub invariant-loop-i : goal.invariant-loop-i
invariant-loop-i l = near_from l.word None l.header ≡ near_from l.word (option_map (λ n. n.now) l.best) (drop l.i l.header)
