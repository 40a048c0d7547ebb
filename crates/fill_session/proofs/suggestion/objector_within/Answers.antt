use Rattle.std.proofs.Common.{◌-◌, ℕ, List, Option, get_or, sym, subst, arith}
use Rattle.std.specs.Prelude.{IfOk, option_map}
use Rattle.fill_tree.specs.declared.user.Example.{Example}
use Rattle.fill_space.specs.Objector.{ObjectionWithin, objection_tree}
use Rattle.fill_space.specs.Spaces.{GuideStands, SpacesData, SpaceStands}
use Rattle.fill_session.specs.Suggested.{ObjectorWithin}
use Rattle.fill_session.proofs.Picked.{here}
use Rattle.fill_session.proofs.Searching.{objector_of, ok_on, taken}
use Rattle.fill_session.proofs.Taking.{is_branch_from_0, within}
use Rattle.fill_session.proofs.suggestion.objector_within.Goals as goal

pub bounds-asking-answer : goal.bounds-asking-answer
bounds-asking-answer c =
    let s = c.args.asking.now.session.now in
    let g = s.spaces.ground in
    let t = taken g s.examples c.args.row c.args.answer.now c.requires.answer c.requires.doubt in
    let many = c.requires.leads.many t.branches t.are in
    let lt = within g s.examples c.args.row c.args.answer.now.branch c.args.answer.now.text t in
    omega arith

pub object_within-requires-clause-stands : goal.object_within-requires-clause-stands
object_within-requires-clause-stands c =
    let s = c.args.asking.now.session.now in
    let g = s.spaces.ground in
    let leads = c.args.asking.now.leads.now in
    let k = c.args.answer.now.branch - 1 in
    let t = taken g s.examples c.args.row c.args.answer.now c.requires.answer c.requires.doubt in
    let many = c.requires.leads.many t.branches t.are in
    let lt = within g s.examples c.args.row c.args.answer.now.branch c.args.answer.now.text t in
    let at = here leads k c.index-asking-answer.result (omega arith) in
    let lead = get_or leads k c.index-asking-answer.result in (
      t.branch.examples,
      subst (λ (v : SpacesData). SpaceStands v lead.space t.branch.examples) (sym c.spaces.ensures)
          (c.requires.leads.spaces k lead at t.branch.examples (is_branch_from_0 g s.examples c.args.row c.args.answer.now.branch c.args.answer.now.text t)),
    )

pub object_within-requires-clause-guide : goal.object_within-requires-clause-guide
object_within-requires-clause-guide c =
    let s = c.args.asking.now.session.now in
    let g = s.spaces.ground in
    let leads = c.args.asking.now.leads.now in
    let k = c.args.answer.now.branch - 1 in
    let t = taken g s.examples c.args.row c.args.answer.now c.requires.answer c.requires.doubt in
    let many = c.requires.leads.many t.branches t.are in
    let lt = within g s.examples c.args.row c.args.answer.now.branch c.args.answer.now.text t in
    let at = here leads k c.index-asking-answer.result (omega arith) in
    let lead = get_or leads k c.index-asking-answer.result in
    subst (λ (v : SpacesData). GuideStands v lead.space lead.guide) (sym c.spaces.ensures) (c.requires.leads.each k lead at).guide

pub returns-clause-within : goal.returns-clause-within
returns-clause-within c =
    let s = c.args.asking.now.session.now in
    let g = s.spaces.ground in
    let row = c.args.row in
    let answer = c.args.answer.now in
    let leads = c.args.asking.now.leads.now in
    let k = answer.branch - 1 in
    let t = taken g s.examples row answer c.requires.answer c.requires.doubt in
    let many = c.requires.leads.many t.branches t.are in
    let lt = within g s.examples row answer.branch answer.text t in
    let at = here leads k c.index-asking-answer.result (omega arith) in
    let lead = get_or leads k c.index-asking-answer.result in
    let limit = c.in-Some.limit in
    let r = c.object_within.result in
    let stands : SpaceStands s.spaces lead.space t.branch.examples = c.requires.leads.spaces k lead at t.branch.examples (is_branch_from_0 g s.examples row answer.branch answer.text t) in
    let all : IfOk r (λ found. (l : List Example) → SpaceStands s.spaces lead.space l → ObjectionWithin g l row answer.text limit (option_map objection_tree found)) =
    subst (λ (v : SpacesData). IfOk r (λ found. (l : List Example) → SpaceStands v lead.space l → ObjectionWithin v.ground l row answer.text limit (option_map objection_tree found))) c.spaces.ensures
    (subst (λ (text : Option (List ℕ)). IfOk r (λ found. (l : List Example) → SpaceStands c.spaces.result.now lead.space l → ObjectionWithin c.spaces.result.now.ground l row text limit (option_map objection_tree found))) c.as_ref.ensures.value c.object_within.ensures.objection) in
    subst (λ (o : Option ℕ). IfOk r (λ found. ObjectorWithin g s.examples row o (option_map objection_tree found))) (sym c.in-Some.is)
    (ok_on _ _ r all (λ found h. objector_of g s.examples row answer.branch answer.text t limit (option_map objection_tree found) (h t.branch.examples stands)))
