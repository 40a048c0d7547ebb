-- A field is found alike by csv's word and by std's.
use Rattle.std.proofs.Common.{◌≡◌, ℕ, zero, suc, List, [], ◌∷◌, refl, Bor, Option, None, Some}
use Rattle.std.specs.Prelude.{slice_get, unwrap_or, option_copied}
use Rattle.csv.specs.Records.{field_at}

pub field_at-slice_get : (fields : List (List ℕ)) (i : ℕ) → field_at fields i ≡ slice_get fields i
unfolding field_at
field_at-slice_get [] i = refl
field_at-slice_get (f ∷ fs) zero = refl
field_at-slice_get (f ∷ fs) (suc i) = field_at-slice_get fs i

-- what a lent value or a default is
pub copied-unwrap_or : {T : Type 0} → (lent : Option (Bor T)) (default : Bor T) → (unwrap_or lent default).now ≡ unwrap_or (option_copied lent) default.now
copied-unwrap_or None default = refl
copied-unwrap_or (Some r) default = refl
