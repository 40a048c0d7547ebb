use Rattle.std.proofs.Common.{ℕ, ◌<◌, length, List, slice_index_or, refl, subst}
use Rattle.std.proofs.lemmas.Option.{slice_get-get_or, slice_get_within}
use Rattle.fill_tree.specs.declared.user.Example.{Example}
use Rattle.fill_split.specs.Refusals.{Refuses}
use Rattle.fill_split.specs.declared.change.FoldError.{FoldError}
use Rattle.fill_split.specs.declared.rule.Placing.{Placing}
use Rattle.fill_space.specs.declared.ground.Ground.{Ground}
use Rattle.fill_space.specs.Ground.{FitsOn, WeighsOn}
use Rattle.fill_space.specs.Spaces.{SpaceStands}
use Rattle.fill_session.specs.Branches.{rule_of_profile}
use Rattle.fill_session.specs.Fate.{IsOfRow}
use Rattle.fill_session.proofs.Fates.{EachFits, came_fit, first_without, of_ninth}
use Rattle.fill_session.proofs.refusal.refusal_of.Goals as goal

-- the item at a place is of its row
of_its_row : (xs : List Example) (i : ℕ) (d : Example) → i < length xs → IsOfRow xs i (slice_index_or xs i d).row
of_its_row xs i d lt = (slice_index_or xs i d, slice_get-get_or xs i d lt, refl)

pub returns-in-Alone : goal.returns-in-Alone
returns-in-Alone c = λ real.
    let g : Ground = c.args.spaces.now.ground in
    let xs : List Example = c.args.changed.now in
    let old : List Example = c.requires.stands.0 in
    let fit : EachFits g old = came_fit g (λ (k : ℕ) (l : List Example). SpaceStands c.args.spaces.now k l) (λ k l h. h.some) _ _ old _ _ c.requires.stands.2.came in
    let refused = subst (λ (e : FoldError). Refuses (rule_of_profile g.settings.profile) (FitsOn g) (WeighsOn g) xs c.args.at e) c.in-Alone.is
    (subst (λ (r : Placing). Refuses r (FitsOn g) (WeighsOn g) xs c.args.at c.args.refused) c.requires.rule c.requires.refused) in
    first_without g (rule_of_profile g.settings.profile) c.requires.stands.1 c.args.at old xs c.in-Alone.item _ c.requires.stands.3 c.requires.stands.4 fit refused
    (of_its_row xs c.in-Alone.item c.index-changed-item.result (slice_get_within xs c.in-Alone.item refused.1.0 refused.1.1))

pub returns-in-Ninth : goal.returns-in-Ninth
returns-in-Ninth c = λ real.
    let g : Ground = c.args.spaces.now.ground in
    let xs : List Example = c.args.changed.now in
    let old : List Example = c.requires.stands.0 in
    let fit : EachFits g old = came_fit g (λ (k : ℕ) (l : List Example). SpaceStands c.args.spaces.now k l) (λ k l h. h.some) _ _ old _ _ c.requires.stands.2.came in
    let refused = subst (λ (e : FoldError). Refuses (rule_of_profile g.settings.profile) (FitsOn g) (WeighsOn g) xs c.args.at e) c.in-Ninth.is
    (subst (λ (r : Placing). Refuses r (FitsOn g) (WeighsOn g) xs c.args.at c.args.refused) c.requires.rule c.requires.refused) in
    of_ninth g c.requires.stands.1 c.args.at old xs c.in-Ninth.item _ c.requires.stands.3 c.requires.stands.4 fit refused
    (of_its_row xs c.in-Ninth.item c.index-changed-item-in-Ninth.result (slice_get_within xs c.in-Ninth.item refused.2.0 refused.2.1))
