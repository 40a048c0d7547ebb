use Rattle.std.proofs.Common.{ℕ, List, Option, sym, subst}
use Rattle.std.specs.Prelude.{IfOk, IfSome, option_map}
use Rattle.fill_tree.specs.declared.user.Example.{Example}
use Rattle.fill_space.specs.Objector.{ObjectionIs, objection_tree}
use Rattle.fill_space.specs.Spaces.{SpacesData, SpaceStands}
use Rattle.fill_session.specs.Taken.{IsTaken}
use Rattle.fill_session.specs.declared.answers.Taken.{Taken}
use Rattle.fill_session.proofs.Searching.{ok_on}
use Rattle.fill_session.proofs.Taking.{is_branch, objector_taken}
use Rattle.fill_session.proofs.answers.objector_on.Goals as goal

pub object-requires-clause-stands : goal.object-requires-clause-stands
object-requires-clause-stands c =
    let s = c.args.session.now in
    let n = c.in-Some.taken.branch in
    let text = c.in-Some.taken.text in
    let t : IsTaken s.spaces.ground s.examples c.args.row n text = subst (λ (o : Option Taken). IfSome o (λ x. IsTaken s.spaces.ground s.examples c.args.row x.branch x.text)) c.in-Some.is c.in_ok-taken.ensures.taken in (
      t.branch.examples,
      subst (λ (v : SpacesData). SpaceStands v c.space-space.result t.branch.examples) (sym c.spaces.ensures)
          (c.space-space.ensures t.branch.examples (is_branch s.spaces.ground s.examples c.args.row n text t)),
    )

pub returns-clause-objector : goal.returns-clause-objector
returns-clause-objector c =
    let s = c.args.session.now in
    let g = s.spaces.ground in
    let row = c.args.row in
    let n = c.in-Some.taken.branch in
    let text = c.in-Some.taken.text in
    let space = c.space-space.result in
    let r = c.object.result in
    let t : IsTaken g s.examples row n text = subst (λ (o : Option Taken). IfSome o (λ x. IsTaken g s.examples row x.branch x.text)) c.in-Some.is c.in_ok-taken.ensures.taken in
    let stands : SpaceStands s.spaces space t.branch.examples = c.space-space.ensures t.branch.examples (is_branch g s.examples row n text t) in
    let all : IfOk r (λ found. (l : List Example) → SpaceStands s.spaces space l → ObjectionIs g l row text (option_map objection_tree found)) =
    subst (λ (v : SpacesData). IfOk r (λ found. (l : List Example) → SpaceStands v space l → ObjectionIs v.ground l row text (option_map objection_tree found))) c.spaces.ensures
    (subst (λ (said : Option (List ℕ)). IfOk r (λ found. (l : List Example) → SpaceStands c.spaces.result.now space l → ObjectionIs c.spaces.result.now.ground l row said (option_map objection_tree found))) c.as_ref.ensures.value c.object.ensures.objection) in
    ok_on _ _ r all (λ found h. objector_taken g s.examples row n text t (option_map objection_tree found) (h t.branch.examples stands))
