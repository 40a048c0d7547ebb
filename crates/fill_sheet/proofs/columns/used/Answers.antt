use Rattle.std.proofs.Common.{◌≡◌, ◌++◌, refl, sym, append-nil, option_to_list}
use Rattle.fill_sheet.proofs.Rising.{sorted-rising}
use Rattle.fill_sheet.proofs.columns.used.Goals as goal
use Rattle.fill_sheet.proofs.columns.used.Goals.{in-Some+in_ok-push, in_default}

pub returns : goal.returns
returns c =
    let items : c.match-output.used.items ≡ c.args.inputs.now ++ option_to_list c.args.output = elim c.match-output.branch [
      | in-Some+in_ok-push w ↦ rw (w.used-is, w.in_ok-push.ensures.items, c.in_ok-used.ensures.items, w.in-Some.is) refl
      | in_default w ↦ rw (w.used-is, c.in_ok-used.ensures.items, w.in_default.is) (sym (append-nil c.args.inputs.now))
    ] in
    sorted-rising (c.args.inputs.now ++ option_to_list c.args.output) c.sort.new.self.items (rw items at c.in_ok-sort.ensures.permutation) c.in_ok-sort.ensures.sorted
