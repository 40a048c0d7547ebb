-- What the parts of a block own and lend, at items of the row R.
use Rattle.std.specs.Prelude.{ℕ, ◌+◌, ◌*◌, ◌^◌, List, [], ◌∷◌, length}
use Rattle.std.specs.Mem.{type_size}
use base.Fraction.{full_share}
use base.Fml.{Lft, Fml, ffalse, fsep, flt, froom}
use mir.Syntax.{Ty, ty_array}
use mir.Raw.{raw}
use denote.RattleType.{RattleType}
use denote.Memory.{lone, part_at}
use denote.Sharing.{said, beside}
use denote.Slice.{elements_shared}
use denote.RawPtr.{Ptr, block_ptr, null_ptr}

module _ (R : RattleType) where
  -- places side by side that hold no item
  abbrev pub rooms : ℕ → Ty
  rooms n = ty_array (lone R.mir) n

  -- the items, from o bytes into the block b on, and behind them room for n more
  abbrev pub laid : ℕ → ℕ → List R.Denot → ℕ → Fml
  laid b o [] n = froom (raw (rooms n)) b o
  laid b o (x ∷ xs) n = fsep (part_at R full_share x b o) (laid b (o + type_size R) xs n)

  -- n places take fewer than 2 ^ 63 bytes
  abbrev pub fits : ℕ → Fml
  fits n = flt (n * type_size R) (2 ^ 63)

  abbrev pub owns_store : Ptr → List R.Denot → ℕ → Fml
  owns_store (block_ptr b o) xs n = fsep (fits (length xs + n)) (laid b o xs n)
  owns_store null_ptr xs n = ffalse

  abbrev pub lends_store : Ptr → List R.Denot → ℕ → Lft → Fml
  lends_store (block_ptr b o) xs n = beside (said (fits (length xs + n))) (elements_shared R xs b o)
  lends_store null_ptr xs n = said ffalse

  -- the allocator's token for a block of n places
  abbrev pub owns_lease : (Ty → Ptr → Fml) → Ptr → ℕ → Fml
  owns_lease token p n = token (raw (rooms n)) p
