use Rattle.std.proofs.Common.{◌≡◌, Some, slice_get, subst}
use Rattle.std.specs.Option.{MatchOption}
use Rattle.fill_arena.specs.Contents.{In}
use Rattle.fill_arena.proofs.Indexed.{slot_eq, slot_same, slot_own, number_right}
use Rattle.fill_arena.proofs.index.Index.number.Goals as goal

pub returns : goal.returns
returns c =
    let found = c.get_index_of.result in
    let right = number_right slot_eq slot_same slot_own c.self.inside.slots.keys c.args.slot found c.get_index_of.ensures.index c.get_index_of.ensures.found in
    subst (λ l. MatchOption found (In c.args.slot l → ⊥) (λ n. slice_get l n ≡ Some c.args.slot)) c.self.view_is right
