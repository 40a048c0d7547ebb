use Rattle.std.proofs.Common.{List, Option, sym, subst}
use Rattle.std.specs.Prelude.{IfSome}
use Rattle.fill_tree.specs.declared.user.Example.{Example}
use Rattle.fill_space.specs.Spaces.{SpacesData, SpaceStands}
use Rattle.fill_session.specs.Answers.{StateIs}
use Rattle.fill_session.specs.Taken.{IsTaken}
use Rattle.fill_session.specs.declared.answers.Taken.{Taken}
use Rattle.fill_session.proofs.Taking.{answer_taken, is_branch}
use Rattle.fill_session.proofs.answers.answer_on.Goals as goal

pub state_of-requires-clause-stands : goal.state_of-requires-clause-stands
state_of-requires-clause-stands c =
    let s = c.args.session.now in
    let n = c.in-Some.taken.branch in
    let text = c.in-Some.taken.text in
    let t : IsTaken s.spaces.ground s.examples c.args.row n text = subst (λ (o : Option Taken). IfSome o (λ x. IsTaken s.spaces.ground s.examples c.args.row x.branch x.text)) c.in-Some.is c.in_ok-taken.ensures.taken in (
      t.branch.examples,
      subst (λ (v : SpacesData). SpaceStands v c.space-space.result t.branch.examples) (sym c.spaces.ensures)
          (c.space-space.ensures t.branch.examples (is_branch s.spaces.ground s.examples c.args.row n text t)),
    )

pub returns-clause-answer : goal.returns-clause-answer
returns-clause-answer c =
    let s = c.args.session.now in
    let g = s.spaces.ground in
    let row = c.args.row in
    let n = c.in-Some.taken.branch in
    let text = c.in-Some.taken.text in
    let t : IsTaken g s.examples row n text = subst (λ (o : Option Taken). IfSome o (λ x. IsTaken g s.examples row x.branch x.text)) c.in-Some.is c.in_ok-taken.ensures.taken in
    let list = t.branch.examples in
    let state = c.in_ok-state.state in
    let there = c.in_ok-state.ensures.state list
    (subst (λ (v : SpacesData). SpaceStands v c.space-space.result list) (sym c.spaces.ensures) (c.space-space.ensures list (is_branch g s.examples row n text t))) in
    answer_taken g s.examples row (record { branch = n; text = text; state = state }) t
    (subst (λ (v : SpacesData). StateIs v.ground s.examples list row state) c.spaces.ensures
    (subst (λ (xs : List Example). StateIs c.spaces.result.now.ground xs list row state) c.examples.ensures.same there))
