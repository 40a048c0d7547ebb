-- Lists of Unicode scalar values.
use Rattle.std.proofs.Common.{◌≡◌, ℕ, zero, suc, ◌-◌, List, [], ◌∷◌, drop, Bool, true, false, refl, arith}
use Rattle.std.specs.Prelude.{All, ◌&&◌, IsUtf8, slice_range}
use Rattle.std.specs.Char.{IsScalar}
use Rattle.std.specs.Str.{chars, all_scalars}
use Rattle.std.proofs.lemmas.List.Elements.{All-take, All-drop}
use Rattle.std.proofs.lemmas.Str.{scalars-chars}

first : (b c : Bool) → (b && c) ≡ true → b ≡ true
first true c h = refl
first false c h = cc

second : (b c : Bool) → (b && c) ≡ true → c ≡ true
second true c h = h
second false c h = cc

pub All-from_scalars : (cs : List ℕ) → all_scalars cs ≡ true → All IsScalar cs
All-from_scalars [] h k d lt = absurd (omega arith)
All-from_scalars (c ∷ cs) h zero d lt = first _ _ h
All-from_scalars (c ∷ cs) h (suc k) d lt = All-from_scalars cs (second _ _ h) k d (omega arith)

pub All-chars : (bytes : List ℕ) → IsUtf8 bytes → All IsScalar (chars bytes)
All-chars bytes u = All-from_scalars (chars bytes) (scalars-chars bytes u)

pub All-range : (cs : List ℕ) (a b : ℕ) → All IsScalar cs → All IsScalar (slice_range cs a b)
All-range cs a b h = All-take IsScalar (b - a) (drop a cs) (All-drop IsScalar a cs h)
