use Rattle.std.proofs.Common.{◌≡◌, All, subst, sym}
use Rattle.fill_sheet.specs.Columns.{IsColumn, rising}
use Rattle.fill_sheet.proofs.Decisions.{rising-columns}
use Rattle.fill_sheet.proofs.Rising.{sorted-rising}
use Rattle.fillcsv_run.proofs.columns.rising.Goals as goal

pub returns-clause-value : goal.returns-clause-value
returns-clause-value c = sorted-rising c.args.columns.now c.sort.new.self.items (rw c.in_ok-rising.ensures.items at c.in_ok-sort.ensures.permutation) c.in_ok-sort.ensures.sorted

pub returns-clause-columns : goal.returns-clause-columns
returns-clause-columns c =
    let same : c.sort.new.self.items ≡ rising c.args.columns.now = sorted-rising c.args.columns.now c.sort.new.self.items (rw c.in_ok-rising.ensures.items at c.in_ok-sort.ensures.permutation) c.in_ok-sort.ensures.sorted in
    subst (All IsColumn) (sym same) (rising-columns c.args.columns.now c.requires)
