use Rattle.std.proofs.Common.{ℕ, List, [], ◌∷◌, Option, Result, sym, subst}
use Rattle.std.specs.Prelude.{IfOk, MatchOption}
use Rattle.fill_text.specs.declared.error.NoMemory.{NoMemory}
use Rattle.fill_tree.specs.declared.user.Example.{Example}
use Rattle.fill_arena.specs.declared.entry.Entry.{Entry}
use Rattle.fill_space.specs.Ground.{Ground, FitsOn, MayStand}
use Rattle.fill_space.specs.Spaces.{SpacesData, SpaceStands, spaces_over}
use Rattle.fill_space.proofs.Meeting.{all_stay}
use Rattle.fill_space.proofs.Told.{older_stay, older_marks}
use Rattle.fill_space.proofs.Weighing.{weights_stay}
use Rattle.fill_space.proofs.maker.SpacesMaker.first.Goals as goal

pub build_once-requires-clause-allowed : goal.build_once-requires-clause-allowed
build_once-requires-clause-allowed g c = subst (λ (v : SpacesData). MayStand v.ground c.args.item.now) (sym c.self.view_is) c.requires

pub returns-clause-older : goal.returns-clause-older
returns-clause-older g c = older_stay c.self.inside.ground c.self.inside.arena c.build_once.new.arena c.args.self.now c.self.view_is c.keeps_made.ensures c.build_once.ensures.extends

pub returns-clause-marks : goal.returns-clause-marks
returns-clause-marks g c = older_marks c.self.inside.ground c.self.inside.arena c.build_once.new.arena c.args.self.now c.self.view_is c.build_once.ensures.extends

pub returns-clause-one : goal.returns-clause-one
returns-clause-one g c =
    let over = c.self.inside.ground in
    let d = c.build_once.new.arena in
    let e = c.args.item.now in
    subst (λ (v : SpacesData). One v.ground over d e c.of_made.result) c.self.view_is
    (subst (λ (r : Result (Option ℕ) NoMemory). One over over d e r) (sym c.of_made.ensures) c.build_once.ensures.one)
  where
    One : Ground → Ground → List Entry → Example → Result (Option ℕ) NoMemory → Type 0
    One before over d e r = IfOk r (λ made. MatchOption made (FitsOn before (e ∷ []) → ⊥) (λ k. SpaceStands (spaces_over over d) k (e ∷ [])))

pub invariant_of-self : goal.invariant_of-self
invariant_of-self g c = (
  c.self.invariant.0,
  all_stay c.self.inside.arena c.build_once.new.arena c.keeps_made.ensures c.build_once.ensures.extends c.self.inside.met c.self.invariant.1,
  c.build_once.ensures.built,
  weights_stay c.self.inside.ground.settings.profile.prices c.self.inside.arena c.build_once.new.arena c.keeps_made.ensures c.build_once.ensures.extends c.self.inside.weights c.self.invariant.3,
)
