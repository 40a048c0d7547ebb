-- A `&` to the owner of a block's items is made where one to an item is. Assumes `Logic`.
use Prim.Native.Nat.{ℕ, ◌+◌}
use Rattle.std.specs.Prelude.{List, [], ◌∷◌, length}
use Rattle.std.specs.Mem.{type_size}
use seplogic.Ra.Ura.{Ura}
use base.Fraction.{full_share}
use base.Fml.{Lft, Incl, ffalse}
use types.Logic.{Logic}
use denote.RattleType.{RattleType, RowLaws}
use denote.Memory.{part_at, shared_of}
use denote.Param.Laws.{Laws}
use denote.RawPtr.{Ptr, block_ptr, null_ptr}
use denote.Sharing.{ShrLaws, said}
use denote.SharingLaws.{beside_shr_laws, said_shr_laws}
use denote.Shares.{Shares-less}
use denote.Slice.{elements_shared, elements_shr_laws}
use denote.Struct.Lending.{Lends, Lends-both, Lends-nothing, Lends-said, Lends-false}
use Rattle.fill_pool.specs.Ownership.{laid, fits, owns_store, lends_store}

pub store_shr_laws : (R : RattleType) → RowLaws R → (p : Ptr) (xs : List R.Denot) (n : ℕ) → ShrLaws (lends_store R p xs n)
store_shr_laws R L (block_ptr b o) xs n = beside_shr_laws _ _ (said_shr_laws (fits R (length xs + n)) tt) (elements_shr_laws R L xs b o)
store_shr_laws R L null_ptr xs n = said_shr_laws ffalse tt

module _ {M : Type 1} {𝓤 : Ura M} (𝓛 : Logic 𝓤) (l : Lft) (R : RattleType) (L : Laws R) (inc : Incl l R.lives) where
  Lends-laid : (b o : ℕ) (xs : List R.Denot) (n : ℕ) → Lends 𝓛 (laid R b o xs n) (elements_shared R xs b o) l
  Lends-laid b o [] n = Lends-nothing 𝓛 (laid R b o [] n) l
  Lends-laid b o (x ∷ xs) n =
      Lends-both 𝓛 (part_at R full_share x b o) (laid R b (o + type_size R) xs n) (shared_of R x b o) (elements_shared R xs b (o + type_size R)) l
      (λ κ ts. Shares-less 𝓛 R R.lives l inc (L.shares 𝓛) x κ ts b o) (Lends-laid b (o + type_size R) xs n)

  pub Lends-store : (p : Ptr) (xs : List R.Denot) (n : ℕ) → Lends 𝓛 (owns_store R p xs n) (lends_store R p xs n) l
  Lends-store (block_ptr b o) xs n =
      Lends-both 𝓛 (fits R (length xs + n)) (laid R b o xs n) (said (fits R (length xs + n))) (elements_shared R xs b o) l (Lends-said 𝓛 (fits R (length xs + n)) tt l) (Lends-laid b o xs n)
  Lends-store null_ptr xs n = Lends-false 𝓛 (said ffalse) l
