use Rattle.std.proofs.Common.{◌+◌, ◌*◌, length, map}
use Rattle.fill_doubt.specs.Answers.{Covers, TextsHave}
use Rattle.fill_doubt.specs.Rows.{IsSought}
use Rattle.fill_doubt.proofs.Covered.{Below, InAll}
use Rattle.fill_doubt.proofs.Ways.{NextFinds}
use Rattle.fill_doubt.proofs.rows.+ways.Given as goal

abbrev pub decreases-put_ways : goal.decreases-put_ways
decreases-put_ways l = 2 * length l.conditions.now + 1

abbrev pub decreases-put_longer : goal.decreases-put_longer
decreases-put_longer l = 2 * length l.conditions.now + 2

abbrev pub invariant-put_ways-loop-i : goal.invariant-put_ways-loop-i
invariant-put_ways-loop-i l =
    let F = NextFinds l.first l.rest l.look (map (λ cell. cell.now) l.cells) l.part in
    Covers (λ o. Below (IsSought l.look.few) F l.first.cells.items l.i o) (TextsHave l.initial.found) (TextsHave l.found) (λ o. InAll (IsSought l.look.few) F l.first.cells.items o)
