use Rattle.std.proofs.Common.{◌≡◌, length, List, map, refl, sym, subst, arith}
use Rattle.std.proofs.lemmas.Bool.{false≢true}
use Rattle.std.specs.List.{AllWithin}
use Rattle.fill_tree.specs.Meaning.{program_tree}
use Rattle.fill_tree.specs.declared.tree.Program.{Program}
use Rattle.fill_tree.specs.declared.user.Settings.{Settings}
use Rattle.fill_object.specs.Objector.{Answers}
use Rattle.fill_space.specs.Best.{AreBestOn}
use Rattle.fill_session.specs.Suggested.{ComesFirst, ObjectsBy}
use Rattle.fill_tree.specs.declared.user.TheConstants.{MOST_PROGRAMS}
use Rattle.fill_session.proofs.Leading.{none_first, none_left, objection_is}
use Rattle.fill_session.proofs.candidates.told_of.Goals as goal

pub returns-then-not-comes_first-clause-told : goal.returns-then-not-comes_first-clause-told
returns-then-not-comes_first-clause-told c = λ l stands.
    let g = c.args.spaces.now.ground in
    let ps = c.as_slice-candidates.result.now in
    let x = c.index-candidates-i.result in
    let best = c.args.best.now in
    let first : AreBestOn g l MOST_PROGRAMS (map program_tree ps) = subst (λ (v : List Program). AreBestOn g l MOST_PROGRAMS (map program_tree v)) (sym c.as_slice-candidates.ensures) (c.requires.lead.candidates l stands) in
    none_first g l MOST_PROGRAMS ps first c.args.row c.args.said.now c.loop-i.i x c.loop-i-test.true c.index-candidates-i.is c.loop-i.invariant best
    (λ early. false≢true (c.if-not-comes_first.ensures.1
    (subst (λ (t : Settings). ComesFirst t.profile.prices best (program_tree x)) (sym c.settings.ensures.same) early)))

pub returns-in-Some-clause-told : goal.returns-in-Some-clause-told
returns-in-Some-clause-told c = λ l stands.
    let g = c.args.spaces.now.ground in
    let ps = c.as_slice-candidates.result.now in
    let x = c.index-candidates-i.result in
    let best = c.args.best.now in
    let o = c.in-Some.objection in
    let first : AreBestOn g l MOST_PROGRAMS (map program_tree ps) = subst (λ (v : List Program). AreBestOn g l MOST_PROGRAMS (map program_tree v)) (sym c.as_slice-candidates.ensures) (c.requires.lead.candidates l stands) in
    let by : ObjectsBy g c.args.row c.args.said.now (program_tree x) o = rw c.in-Some.is at c.in_ok-objection.ensures in
    let early : ComesFirst g.settings.profile.prices best (program_tree x) =
    subst (λ (t : Settings). ComesFirst t.profile.prices best (program_tree x)) c.settings.ensures.same (c.if-not-comes_first.ensures.0 refl) in (
      objection_is g l MOST_PROGRAMS ps first c.args.row c.args.said.now c.loop-i.i x c.loop-i-test.true c.index-candidates-i.is c.loop-i.invariant o by,
      subst (λ p. ComesFirst g.settings.profile.prices best p) (sym by.same) early,
    )

pub returns-then-candidates-clause-told : goal.returns-then-candidates-clause-told
returns-then-candidates-clause-told c = λ l stands.
    let g = c.args.spaces.now.ground in
    let ps = c.as_slice-candidates.result.now in
    let first : AreBestOn g l MOST_PROGRAMS (map program_tree ps) = subst (λ (v : List Program). AreBestOn g l MOST_PROGRAMS (map program_tree v)) (sym c.as_slice-candidates.ensures) (c.requires.lead.candidates l stands) in
    let past = c.loop-i-test.false in
    let most = c.loop-i.auto.i-end in
    let end : c.loop-i.i ≡ length ps = omega arith in
    none_left g l MOST_PROGRAMS ps first c.args.row c.args.said.now c.if-candidates.true
    (subst (λ n. AllWithin (λ p. Answers g.sheet g.tables c.args.row c.args.said.now (program_tree p)) ps 0 n) end c.loop-i.invariant) c.args.best.now
