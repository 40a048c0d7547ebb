use Rattle.std.proofs.Common.{◌≡◌}
use Rattle.fill_split.specs.Standing.{kept_of}
use Rattle.fill_session.proofs.Renewing.{AreReplacing}
use Rattle.fill_session.specs.Renewed.{AreRenewed}
use Rattle.fill_session.proofs.compaction.renew_states.Given as goal

abbrev pub invariant-loop-i : goal.invariant-loop-i
invariant-loop-i l =
    AreReplacing (λ p own q. AreRenewed p.folds own q.folds × (q.examples ≡ p.examples) × (q.branches ≡ p.branches)) (λ p. kept_of p.folds) l.fn.history l.history l.fn.spaces l.left l.i
