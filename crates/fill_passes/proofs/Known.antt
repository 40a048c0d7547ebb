-- What holds of a value where it is known.
use Rattle.std.proofs.Common.{◌≡◌, None, Some, refl, subst}
use Rattle.std.specs.Prelude.{IfSome, Option}

-- what holds of each value that it may be holds where it is known
pub if_some : {A : Type 0} (P : A → Type 0) (o : Option A) → ((x : A) → o ≡ Some x → P x) → IfSome o P
if_some P None each = tt
if_some P (Some x) each = each x refl

pub when_some : {A : Type 0} (P : A → Type 0) (o : Option A) (x : A) → o ≡ Some x → IfSome o P → P x
when_some P o x is known = let here : IfSome (Some x) P = subst (λ q. IfSome q P) is known in here
