use Rattle.std.proofs.Common.{◌-◌, List, Option, get_or, refl, sym, ap, subst, ◌∙◌}
use Rattle.std.specs.Prelude.{IfSome}
use Rattle.std.proofs.lemmas.Bool.{false≢true}
use Rattle.fill_tables.specs.Keys.{KeysDistinguish}
use Rattle.fill_tree.specs.declared.user.Example.{Example}
use Rattle.fill_space.specs.Spaces.{SpacesData, SpaceStands}
use Rattle.fill_session.specs.Suggested.{LeadStands, VerdictIs}
use Rattle.fill_session.specs.Taken.{IsTaken}
use Rattle.fill_session.specs.declared.answers.Taken.{Taken}
use Rattle.fill_session.specs.declared.candidates.Verdict.{Verdict}
use Rattle.fill_session.proofs.Asking.{in_leads, lead_stands, none_alike, none_objects, one_objects}
use Rattle.fill_session.proofs.Picked.{here}
use Rattle.fill_session.proofs.suggestion.asked_on.Goals as goal

pub returns-then-not-is_alike-clause-asked : goal.returns-then-not-is_alike-clause-asked
returns-then-not-is_alike-clause-asked c =
    let s = c.args.asking.now.session.now in
    let g = s.spaces.ground in
    let row = c.args.row in
    let n = c.in-Some.taken.branch in
    let text = c.in-Some.taken.text in
    let t : IsTaken g s.examples row n text = subst (λ (o : Option Taken). IfSome o (λ x. IsTaken g s.examples row x.branch x.text)) c.in-Some.is c.in_ok-taken.ensures.taken in
    none_alike g s.examples c.args.asking.now.passed.now row n text t c.args.asking.now.silent c.args.best.now (λ alike. false≢true (c.if-not-is_alike.ensures.1 alike))

pub told_of-requires-clause-lead : goal.told_of-requires-clause-lead
told_of-requires-clause-lead c =
    let s = c.args.asking.now.session.now in
    let g = s.spaces.ground in
    let row = c.args.row in
    let n = c.in-Some.taken.branch in
    let text = c.in-Some.taken.text in
    let leads = c.args.asking.now.leads.now in
    let t : IsTaken g s.examples row n text = subst (λ (o : Option Taken). IfSome o (λ x. IsTaken g s.examples row x.branch x.text)) c.in-Some.is c.in_ok-taken.ensures.taken in
    let lt = in_leads s row n text t leads c.requires.leads in
    let lead = get_or leads (n - 1) c.index-asking-taken.result in
    subst (λ (v : SpacesData). LeadStands v lead) (sym c.spaces-2.ensures) (c.requires.leads.each (n - 1) lead (here leads (n - 1) c.index-asking-taken.result lt))

pub returns-in-Found-clause-asked : goal.returns-in-Found-clause-asked
returns-in-Found-clause-asked c =
    let s = c.args.asking.now.session.now in
    let g = s.spaces.ground in
    let row = c.args.row in
    let n = c.in-Some.taken.branch in
    let text = c.in-Some.taken.text in
    let best = c.args.best.now in
    let leads = c.args.asking.now.leads.now in
    let t : IsTaken g s.examples row n text = subst (λ (o : Option Taken). IfSome o (λ x. IsTaken g s.examples row x.branch x.text)) c.in-Some.is c.in_ok-taken.ensures.taken in
    let lt = in_leads s row n text t leads c.requires.leads in
    let lead = get_or leads (n - 1) c.index-asking-taken.result in
    let stands = lead_stands s row n text t leads c.requires.leads lead (here leads (n - 1) c.index-asking-taken.result lt) in
    let told : (l : List Example) → SpaceStands s.spaces lead.space l → VerdictIs g l row text best c.in_ok-objection.field-0 =
    subst (λ (v : SpacesData). (l : List Example) → SpaceStands v lead.space l → VerdictIs v.ground l row text best c.in_ok-objection.field-0) c.spaces-2.ensures c.in_ok-objection.ensures.told in
    let keys : KeysDistinguish g.tables = subst KeysDistinguish (c.tables.ensures ∙ ap (λ (v : SpacesData). v.ground.tables) c.spaces.ensures) c.keeps_keys.ensures in
    let found = subst (λ (x : Verdict). VerdictIs g t.branch.examples row text best x) c.in-Found.is (told t.branch.examples stands) in
    one_objects g s.examples c.args.asking.now.passed.now row n text t c.args.asking.now.silent best c.in-Found.objection c.requires.first c.requires.last
    (λ has. false≢true (c.if-is_among.ensures.1 has)) keys (c.if-not-is_alike.ensures.0 refl) found.0 found.1

pub returns-in-Nothing-clause-asked : goal.returns-in-Nothing-clause-asked
returns-in-Nothing-clause-asked c =
    let s = c.args.asking.now.session.now in
    let g = s.spaces.ground in
    let row = c.args.row in
    let n = c.in-Some.taken.branch in
    let text = c.in-Some.taken.text in
    let best = c.args.best.now in
    let leads = c.args.asking.now.leads.now in
    let t : IsTaken g s.examples row n text = subst (λ (o : Option Taken). IfSome o (λ x. IsTaken g s.examples row x.branch x.text)) c.in-Some.is c.in_ok-taken.ensures.taken in
    let lt = in_leads s row n text t leads c.requires.leads in
    let lead = get_or leads (n - 1) c.index-asking-taken.result in
    let stands = lead_stands s row n text t leads c.requires.leads lead (here leads (n - 1) c.index-asking-taken.result lt) in
    let told : (l : List Example) → SpaceStands s.spaces lead.space l → VerdictIs g l row text best c.in_ok-objection.field-0 =
    subst (λ (v : SpacesData). (l : List Example) → SpaceStands v lead.space l → VerdictIs v.ground l row text best c.in_ok-objection.field-0) c.spaces-2.ensures c.in_ok-objection.ensures.told in
    none_objects g s.examples c.args.asking.now.passed.now row n text t c.args.asking.now.silent best
    (subst (λ (x : Verdict). VerdictIs g t.branch.examples row text best x) c.in-Nothing.is (told t.branch.examples stands))
