use Rattle.std.proofs.Common.{ℕ, List, sym, ◌∙◌}
use Rattle.fill_tree.specs.declared.user.Example.{Example}
use Rattle.fill_session.proofs.Rising.{rises}
use Rattle.fill_session.proofs.Spliced.{spliced_without}
use Rattle.fill_session.proofs.Applied.{joined}
use Rattle.fill_session.proofs.examples.copied_without.Goals as goal

pub returns : goal.returns
returns c =
    let xs : List Example = c.args.examples.now in
    let b : ℕ = c.before-2.result in
    let t : ℕ = c.through.result in
    joined c.in_ok-made.made c.push_copies.new.to c.push_copies-2.new.to xs b t c.in_ok-made.ensures c.in_ok-push_copies.ensures c.in_ok-push_copies-2.ensures
    ∙ rw (c.before-2.ensures.count, c.through.ensures.count) (sym (spliced_without c.args.row xs (rises xs c.requires)))
