use Rattle.std.proofs.Common.{◌≡◌, Option, Some, sym, ap, subst, ◌∙◌}
use Rattle.std.specs.Prelude.{option_map}
use Rattle.std.proofs.lemmas.Bool.{false≢true}
use Rattle.fill_tables.specs.Keys.{KeysDistinguish}
use Rattle.fill_tree.specs.Meaning.{program_tree}
use Rattle.fill_tree.specs.declared.user.Settings.{Settings}
use Rattle.fill_object.specs.declared.graph.Objection.{Objection}
use Rattle.fill_space.specs.Objector.{objection_tree}
use Rattle.fill_space.specs.Spaces.{SpacesData}
use Rattle.fill_session.specs.Answers.{AnswerIs}
use Rattle.fill_session.specs.Objector.{ObjectorIs}
use Rattle.fill_session.specs.Suggested.{ComesFirst, ObjectorWithin, is_silent}
use Rattle.fill_session.proofs.Asking.{none_earlier}
use Rattle.fill_session.proofs.Searching.{asked_answer}
use Rattle.fill_session.proofs.suggestion.searched_on.Goals as goal

pub returns-then-not-is_asked-clause-asked : goal.returns-then-not-is_asked-clause-asked
returns-then-not-is_asked-clause-asked c = λ q asked alike here first.
    let s = c.args.asking.now.session.now in
    let g = s.spaces.ground in
    let answer = c.in_ok-answer.answer in
    let keys : KeysDistinguish g.tables = subst KeysDistinguish (c.tables.ensures ∙ ap (λ (v : SpacesData). v.ground.tables) c.spaces.ensures) c.keeps_keys.ensures in
    let told = asked_answer g s.examples c.args.asking.now.passed.now q answer keys asked (subst (λ n. AnswerIs g s.examples n answer) (sym here) c.in_ok-answer.ensures.answer) in
    absurd (false≢true (c.if-not-is_asked.ensures.1 (told.0, ap is_silent told.1 ∙ alike)))

pub returns-then-not-comes_first-clause-asked : goal.returns-then-not-comes_first-clause-asked
returns-then-not-comes_first-clause-asked c =
    let s = c.args.asking.now.session.now in
    let g = s.spaces.ground in
    let best = c.args.best.now in
    let o = c.in-Some.objection in
    let limit = c.limit_of-limit.result in
    let is : ObjectorIs g s.examples c.args.row (Some (objection_tree o)) =
    subst (λ (found : Option Objection). ObjectorWithin g s.examples c.args.row limit (option_map objection_tree found)) c.in-Some.is c.in_ok-objection.ensures.within in
    let own : c.settings.result.now ≡ g.settings = c.settings.ensures.same ∙ ap (λ (v : SpacesData). v.ground.settings) c.spaces-2.ensures in
    none_earlier g s.examples c.args.asking.now.passed.now c.args.asking.now.silent c.args.row best (objection_tree o) is
    (λ early. false≢true (c.if-not-comes_first.ensures.1 (subst (λ (t : Settings). ComesFirst t.profile.prices best (program_tree o.program)) (sym own) early)))
