use Rattle.std.proofs.Common.{◌≡◌, ℕ, ◌-◌, ◌%◌, ◌≤◌, List, length, Some, slice_get}
use Rattle.fill_meet.specs.Groups.{AreGroups}
use Rattle.fill_meet.specs.Rows.{IsCovered}
use Rattle.fill_meet.specs.Runs.{Grows}
use Rattle.fill_meet.specs.Verdicts.{AreVerdicts}
use Rattle.fill_meet.proofs.RowLaws.{EntriesBelow}
use Rattle.fill_meet.proofs.rows.put_alike.Given as goal

abbrev pub invariant-loop-e : goal.invariant-loop-e
invariant-loop-e l =
    record {
      start : l.ask.start ≤ length l.findings.rows.numbers.items;
      verdicts : AreVerdicts l.arena l.findings.verdicts;
      grown : Grows l.initial.findings.rows.numbers.items l.findings.rows.numbers.items;
      group : (keys : List ℕ) → AreGroups keys l.ask.index.now.groups → (v : ℕ) → slice_get keys l.e ≡ Some v → v ≡ l.hash % length l.ask.index.now.groups.firsts.items;
      below : EntriesBelow l.arena l.ask.index.now (IsCovered l.arena l.findings.rows.numbers.items l.ask.start l.ask.x.now) l.hash l.e;
    }

abbrev pub decreases-loop-e : goal.decreases-loop-e
decreases-loop-e l = length l.ask.index.now.items.items - l.e
