-- Standard input among the files of a request.
use Rattle.std.specs.Prelude.{ℕ, List, [], codes, unwrap_or}
use Rattle.fill_edge.specs.Memory.{held}

-- the bytes of standard input, which is the file of the name `-`; none where it is not there
abbrev pub input_in : List (List ℕ × List ℕ) → List ℕ
input_in files = unwrap_or (held files (codes "-")) []
