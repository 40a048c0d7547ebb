use Rattle.std.proofs.Common.{◌≡◌, inl, inr, Some, slice_get, sym, subst}
use Rattle.fill_arena.specs.Stands.{PlaceStands}
use Rattle.fill_arena.proofs.Lists.{get_pushed}
use Rattle.fill_object.specs.Kinds.{spots_in}
use Rattle.fill_object.specs.Leasts.{AreLeasts}
use Rattle.fill_object.specs.Spots.{IsSpotted}
use Rattle.fill_object.specs.declared.spots.Spotted.{Spotted}
use Rattle.fill_object.proofs.spots.Spots.keep.Goals as goal

pub returns : goal.returns
returns c prices cs are least =
    let old = c.args.self.now.readings.items in
    let one : Spotted = record { set = c.args.s; text = c.in_ok-copy.field-0; spots = c.args.spots } in
    let right = subst (λ t. AreLeasts (spots_in prices t) (PlaceStands cs c.args.s) c.args.spots.value.items) (sym c.in_ok-copy.ensures) least in
    record {
      each = λ n x h. elim (get_pushed old one n x (subst (λ l. slice_get l n ≡ Some x) c.in_ok-push.ensures.items h)) [
        | inl a ↦ are.each n x a.1
        | inr b ↦ subst (IsSpotted prices cs) b.1 right
      ];
    }
