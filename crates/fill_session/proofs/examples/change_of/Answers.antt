use Rattle.std.proofs.Common.{nat_lt}
use Rattle.std.proofs.lemmas.List.Sums.{prefix_len-le-length}
use Rattle.fill_tree.specs.declared.user.Example.{Example}
use Rattle.fill_session.proofs.Applied.{added_at, corrected_at, retracted_at, steps_added, steps_corrected, steps_retracted}
use Rattle.fill_session.proofs.Seen.{may_correct, is_given}
use Rattle.fill_session.proofs.Spliced.{place_within}
use Rattle.fill_session.proofs.examples.change_of.Goals as goal

pub returns-in_ok-copy-in-Add-clause-change : goal.returns-in_ok-copy-in-Add-clause-change
returns-in_ok-copy-in-Add-clause-change c =
    let free = rw c.in-Add.is at c.requires.free.1 in
    rw (c.in-Add.is, c.before-at.ensures.count, c.in_ok-copy-in-Add.ensures) (
      prefix_len-le-length (λ (x : Example). nat_lt x.row c.in-Add.row) c.args.examples.now,
      added_at c.requires.free.0 c.args.examples.now c.in-Add.row c.in-Add.text c.requires.rising free,
    )

pub returns-in_ok-copy-in-Add-clause-steps : goal.returns-in_ok-copy-in-Add-clause-steps
returns-in_ok-copy-in-Add-clause-steps c = rw (c.in-Add.is, c.before-at.ensures.count)
    (λ sheet free. steps_added sheet c.args.examples.now c.in-Add.row c.in-Add.text c.requires.rising free)

pub returns-in_ok-copy-in-Correct-clause-change : goal.returns-in_ok-copy-in-Correct-clause-change
returns-in_ok-copy-in-Correct-clause-change c =
    let free = rw c.in-Correct.is at c.requires.free.1 in
    rw (c.in-Correct.is, c.before-at-in-Correct.ensures.count, c.in_ok-copy-in-Correct.ensures) (
      place_within c.in-Correct.row c.args.examples.now (may_correct c.requires.free.0 c.args.examples.now c.in-Correct.row c.in-Correct.text free).given,
      corrected_at c.requires.free.0 c.args.examples.now c.in-Correct.row c.in-Correct.text c.requires.rising free,
    )

pub returns-in_ok-copy-in-Correct-clause-steps : goal.returns-in_ok-copy-in-Correct-clause-steps
returns-in_ok-copy-in-Correct-clause-steps c = rw (c.in-Correct.is, c.before-at-in-Correct.ensures.count)
    (λ sheet free. steps_corrected sheet c.args.examples.now c.in-Correct.row c.in-Correct.text c.requires.rising free)

pub returns-in-Retract-clause-change : goal.returns-in-Retract-clause-change
returns-in-Retract-clause-change c =
    let free = rw c.in-Retract.is at c.requires.free.1 in
    rw (c.in-Retract.is, c.before-at-in-Retract.ensures.count) (
      place_within c.in-Retract.row c.args.examples.now (is_given c.requires.free.0 c.args.examples.now c.in-Retract.row free),
      retracted_at c.requires.free.0 c.args.examples.now c.in-Retract.row c.requires.rising free,
    )

pub returns-in-Retract-clause-steps : goal.returns-in-Retract-clause-steps
returns-in-Retract-clause-steps c = rw (c.in-Retract.is, c.before-at-in-Retract.ensures.count)
    (λ sheet free. steps_retracted sheet c.args.examples.now c.in-Retract.row c.requires.rising free)
