-- Numbers as a session file has them.
use Rattle.std.specs.Prelude.{ℕ, ◌^◌, ◌&&◌, List, Option, Some, None, Bool, if◌then◌else◌, nat_lt}
use Rattle.std.specs.Fmt.{decimal}
use Rattle.std.specs.Str.{bytes_eq}
use Rattle.std.specs.Str.Parse.{digits_value}

-- these bytes are the plain decimal of a number of 32 bits: no sign, and no zero in front of other digits
abbrev pub is_number : List ℕ → Bool
is_number bytes = nat_lt (digits_value 10 bytes) (2 ^ 32) && bytes_eq (decimal (digits_value 10 bytes)) bytes

-- the number whose plain decimal these bytes are
abbrev pub number_in : List ℕ → Option ℕ
number_in bytes = if is_number bytes then Some (digits_value 10 bytes) else None
