-- Streams as plain data: one in memory, and a real one, of which its reader and its count are known.
use Rattle.std.specs.Prelude.{ℕ, List, drop, Result, Ok, Err}
use Rattle.fill_edge.specs.Outside.{counted}
use Rattle.fill_edge.specs.declared.outside.Failed.{Failed}

-- all bytes, and those still to come; the number of the read that is set to fail; how many reads were made, how many of them
-- failed, and how many bytes one gives at most
pub record Tape : Type 0 where
  pub bytes : List ℕ
  pub rest : List ℕ
  pub failing : ℕ
  pub calls : ℕ
  pub faults : ℕ
  pub most : ℕ

-- the stream after a read that was answered so
abbrev pub after_read : Tape → Result ℕ Failed → Tape
after_read tape (Ok n) = record tape { calls = counted tape.calls 1; rest = drop n tape.rest }
after_read tape (Err _) = record tape { calls = counted tape.calls 1; faults = counted tape.faults 1 }

-- a reader, and how many reads failed
pub record Input (R : Type 0) : Type 0 where
  pub reader : R
  pub faults : ℕ

-- the stream after a read that its reader answered so
abbrev pub input_after : {R : Type 0} → Input R → Result ℕ Failed → Input R
input_after input (Ok n) = input
input_after input (Err _) = record input { faults = counted input.faults 1 }
