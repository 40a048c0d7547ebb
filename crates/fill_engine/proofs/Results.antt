-- What follows from the value of an answer, where there is one.
use Rattle.std.specs.Prelude.{Result, Ok, Err, IfOk}

pub if_ok_map : {A E : Type 0} {P Q : A → Type 0} (r : Result A E) → ((x : A) → P x → Q x) → IfOk r P → IfOk r Q
if_ok_map (Ok x) f holds = f x holds
if_ok_map (Err e) f holds = holds
