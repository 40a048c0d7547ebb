-- A `&` to the right to give a block back holds nothing. Assumes `Logic`.
use denote.RattleType.{RattleType}
use denote.RawPtr.{RawPtr}
use denote.Param.Laws.{Laws}
use denote.Param.Shared.{copy_shared}
use denote.SharingLaws.{nothing_shr_laws}
use denote.Struct.Laws.{field_copy}
use denote.Struct.Lending.{of_Lends, Lends-nothing}
use Rattle.core.specs.declared.alloc.Allocator.{Ghosts}
use Rattle.core.specs.contracts.marker.PhantomData as marker
use Rattle.fill_pool.specs.contracts.block.Lease as lease
use Rattle.fill_pool.proofs.block.Lease.TheLaw.Statement.{statement}

pub shares : (X A : RattleType) (g : Ghosts A.Denot) (L : Laws X) (P : Laws A) → statement X A g L P
shares X A g L P =
    of_Lends (lease.struct X A g) (lease.the_codes X.Denot A.Denot X.coded A.coded (marker.the_row RawPtr).coded) (lease.the_heap X A g) (lease.the_lent X A g) (λ d p. nothing_shr_laws)
    (copy_shared (marker.the_field RawPtr) (field_copy (marker.the_type RawPtr) tt), tt) (λ M 𝓤 𝓛 d p. Lends-nothing 𝓛 (lease.the_heap X A g d) (lease.the_row X A g).lives)
