-- A `&` to the owner of a block's items reaches each of them. Assumes `Logic`.
use mathlib.Core.List.{[], ◌++◌}
use base.Fml.{Incl-trans}
use contract.BorrowLft.{meet_⊑_left}
use denote.RattleType.{RattleType}
use denote.RawPtr.{RawPtr}
use denote.Param.Laws.{Laws}
use denote.Param.Shared.{copy_shared}
use denote.Struct.Laws.{field_copy}
use denote.Struct.Lending.{of_Lends}
use Rattle.core.specs.contracts.marker.PhantomData as marker
use Rattle.fill_pool.specs.contracts.block.Store as store
use Rattle.fill_pool.proofs.block.Store.TheLaw.Statement.{statement}
use Rattle.fill_pool.proofs.Lending.{store_shr_laws, Lends-store}

pub shares : (R : RattleType) (L : Laws R) → statement R L
shares R L =
    let shorter = Incl-trans (meet_⊑_left (R.lives ++ []) _) (meet_⊑_left R.lives []) in
    of_Lends (store.struct R) (store.the_codes R.Denot R.coded (marker.the_row RawPtr).coded) (store.the_heap R) (store.the_lent R)
    (λ d p. store_shr_laws R L.shr_laws d.at d.items d.free) (copy_shared (marker.the_field RawPtr) (field_copy (marker.the_type RawPtr) tt), tt)
    (λ M 𝓤 𝓛 d p. Lends-store 𝓛 (store.the_row R).lives R L shorter d.at d.items d.free)
