use Rattle.std.proofs.Common.{◌≡◌, length}
use Rattle.fill_split.proofs.Renewing.{RenewedTo}
use Rattle.fill_split.proofs.renew.renew_branches.Given as goal

abbrev pub invariant-loop-i : goal.invariant-loop-i
invariant-loop-i g l =
    record {
      long : length l.branches.items ≡ length l.initial.branches.items;
      to : RenewedTo l.kept l.i l.initial.branches.items l.branches.items;
    }
