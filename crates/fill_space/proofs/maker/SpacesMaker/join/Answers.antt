use Rattle.std.proofs.Common.{ℕ, List, ◌++◌, Option, Result, sym, subst}
use Rattle.std.specs.Prelude.{IfOk, MatchOption}
use Rattle.fill_text.specs.declared.error.NoMemory.{NoMemory}
use Rattle.fill_tree.specs.declared.user.Example.{Example}
use Rattle.fill_arena.specs.declared.entry.Entry.{Entry}
use Rattle.fill_space.specs.Ground.{Ground, FitsOn}
use Rattle.fill_space.specs.Spaces.{SpacesData, SpaceStands, spaces_over}
use Rattle.fill_space.proofs.Building.{built_stays}
use Rattle.fill_space.proofs.Told.{older_stay, older_marks, both_told}
use Rattle.fill_space.proofs.Weighing.{weights_stay}
use Rattle.fill_space.proofs.maker.SpacesMaker.join.Goals as goal

pub returns-clause-older : goal.returns-clause-older
returns-clause-older g c = older_stay c.self.inside.ground c.self.inside.arena c.meet_once.new.arena c.args.self.now c.self.view_is c.keeps_made.ensures c.meet_once.ensures.extends

pub returns-clause-marks : goal.returns-clause-marks
returns-clause-marks g c = older_marks c.self.inside.ground c.self.inside.arena c.meet_once.new.arena c.args.self.now c.self.view_is c.meet_once.ensures.extends

pub returns-clause-both : goal.returns-clause-both
returns-clause-both g c =
    let over = c.self.inside.ground in
    let d = c.meet_once.new.arena in
    let s = c.args.self.now in
    subst (λ (r : Result (Option ℕ) NoMemory). Both s over d c.args.kept c.args.one r) (sym c.of_made.ensures)
    (subst (λ (b : ℕ). Both s over d c.args.kept b c.meet_once.result) c.graph-2.ensures
    (subst (λ (a : ℕ). Both s over d a c.graph-2.result c.meet_once.result) c.graph.ensures
    (both_told over c.self.inside.arena d s c.self.view_is c.graph.result c.graph-2.result c.meet_once.result c.meet_once.ensures.met c.meet_once.ensures.some)))
  where
    Both : SpacesData → Ground → List Entry → ℕ → ℕ → Result (Option ℕ) NoMemory → Type 0
    Both s over d a b r = IfOk r (λ made. (l m : List Example) → SpaceStands s a l → SpaceStands s b m
        → MatchOption made (FitsOn s.ground (l ++ m) → ⊥) (λ k. SpaceStands (spaces_over over d) k (l ++ m)))

pub invariant_of-self : goal.invariant_of-self
invariant_of-self g c = (
  c.self.invariant.0,
  c.meet_once.ensures.told,
  built_stays c.self.inside.ground c.self.inside.arena c.meet_once.new.arena c.keeps_made.ensures c.meet_once.ensures.extends c.self.inside.built c.self.invariant.2,
  weights_stay c.self.inside.ground.settings.profile.prices c.self.inside.arena c.meet_once.new.arena c.keeps_made.ensures c.meet_once.ensures.extends c.self.inside.weights c.self.invariant.3,
)
