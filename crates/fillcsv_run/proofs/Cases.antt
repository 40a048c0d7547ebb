-- What a clause by cases of a result says of one case.
use Rattle.std.proofs.Common.{◌≡◌, Result, Ok, Err, refl, subst, sym}
use Rattle.std.specs.Prelude.{IfErr, IfOk, IsOk}

pub if_ok : {A E : Type 0} (P : A → Type 0) (r : Result A E) (x : A) → r ≡ Ok x → IfOk r P → P x
if_ok {A} {E} P r x is holds = subst (λ (r : Result A E). IfOk r P) is holds

pub if_err : {A E : Type 0} (P : E → Type 0) (r : Result A E) (e : E) → r ≡ Err e → IfErr r P → P e
if_err {A} {E} P r e is holds = subst (λ (r : Result A E). IfErr r P) is holds

pub is_ok : {A E : Type 0} (r : Result A E) (x : A) → r ≡ Ok x → IsOk r
is_ok {A} {E} r x is = subst (λ (r : Result A E). IsOk r) (sym is) refl
