-- What a session holds, over spaces that were compacted.
use Rattle.std.proofs.Common.{◌≡◌, ℕ, Bool, List, Some, sym, ap, ◌∙◌, subst}
use Rattle.std.specs.Prelude.{All, ◌↔◌, slice_get}
use Rattle.fill_split.specs.Standing.{rule_of}
use Rattle.fill_tree.specs.declared.user.Edit.{Edit}
use Rattle.fill_tree.specs.declared.user.Edit.TheVariants.{Clear}
use Rattle.fill_tree.specs.declared.user.Example.{Example}
use Rattle.fill_space.specs.declared.ground.Ground.{Ground}
use Rattle.fill_space.specs.Ground.{FitsOn, WeighsOn, MayStand}
use Rattle.fill_space.specs.Spaces.{SpacesData}
use Rattle.fill_session.specs.Branches.{rule_of_profile}
use Rattle.fill_session.specs.Compaction.{IsCompactionDue, LeavesSpaces}
use Rattle.fill_session.specs.State.{AreShown, IsHeld, SpacesStand}
use Rattle.fill_session.specs.declared.branch.Branch.{Branch}
use Rattle.fill_session.proofs.Held.{SpaceFolds}
use Rattle.fill_session.proofs.Picked.{below, read}

-- other folds stand for the same examples, over other spaces of the same ground
pub compact_held : {T : Type 0} (a b : SpacesData) (xs : List Example) (before after : SpaceFolds T) (shown : List Branch) → b.ground ≡ a.ground → rule_of after ≡ rule_of before → SpacesStand b xs after
    → IsHeld a xs before shown → IsHeld b xs after shown
compact_held a b xs before after shown same rule stand h = record {
  session = record {
    rising = (h.session).rising;
    few = (h.session).few;
    each = subst (λ g. All (MayStand g) xs) (sym same) (h.session).each;
    shown = subst (λ g. AreShown g xs shown) (sym same) (h.session).shown;
  };
  stand = stand;
  rule = rule ∙ h.rule ∙ ap (λ (g : Ground). rule_of_profile g.settings.profile) (sym same);
}

-- over the same ground the same lists fit
pub same_fits : (a b : Ground) → b ≡ a → (l : List Example) → FitsOn a l ↔ FitsOn b l
same_fits a b same l = subst (λ g. FitsOn a l ↔ FitsOn g l) (sym same) (λ h. h, λ h. h)

-- and they weigh the same
pub same_weights : (a b : Ground) → b ≡ a → (l : List Example) (n : ℕ) → WeighsOn a l n ↔ WeighsOn b l n
same_weights a b same l n = subst (λ g. WeighsOn a l n ↔ WeighsOn g l n) (sym same) (λ h. h, λ h. h)

-- each item, by its place
pub each_at : {A : Type 0} (P : A → Type 0) (xs : List A) → All P xs → (k : ℕ) (x : A) → slice_get xs k ≡ Some x → P x
each_at P xs all k x at = subst P (read xs k x x at) (all k x (below xs k x at))

-- clearing makes no compaction due
pub clear_is_not_due : (edit : Edit) (forgets : Bool) (size last : ℕ) → IsCompactionDue edit forgets size last → edit ≡ Clear → ⊥
clear_is_not_due edit forgets size last due clear = subst (λ e. LeavesSpaces e forgets) clear due.leaves
