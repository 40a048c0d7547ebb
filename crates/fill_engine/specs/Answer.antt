-- What a program answers, and its bytes.
use Rattle.std.specs.Prelude.{◌≡◌, ℕ, List, [], ◌∷◌, ◌++◌, length, drop, nat_le, if◌then◌else◌}
use Rattle.std.specs.Int.{w64, to_le_bytes}
use Rattle.fill_engine.specs.declared.answer.Answer.{Answer as Code}
use Rattle.fill_engine.specs.declared.page.Page.{Page}

-- the status, what was written to the output and to the errors, and the bytes of the file that was saved, none where none was
pub record AnswerData : Type 0 where
  pub status : ℕ
  pub out : List ℕ
  pub err : List ℕ
  pub saved : List ℕ

abbrev pub answer_data : Code → AnswerData
answer_data a = record { status = a.status; out = a.out.items; err = a.err.items; saved = a.saved.items }

-- the status, all that was written on two pages, on which no write failed, and what was saved
pub record IsWhole (status : ℕ) (out err : Page) (saved : List ℕ) (a : Code) : Type 0 where
  pub status_is : a.status ≡ status
  pub out_is : a.out.items ≡ out.bytes.items
  pub err_is : a.err.items ≡ err.bytes.items
  pub saved_is : a.saved.items ≡ saved
  pub out_faults : out.faults ≡ 0
  pub err_faults : err.faults ≡ 0

-- out of memory, of which nothing else is told
abbrev pub no_memory : AnswerData
no_memory = record { status = 6; out = []; err = []; saved = [] }

-- the bytes have not the form of a request
abbrev pub malformed : AnswerData
malformed = record { status = 7; out = []; err = []; saved = [] }

-- a text with the number of its bytes before it: eight bytes, the lowest first
abbrev pub piece_bytes : List ℕ → List ℕ
piece_bytes piece = to_le_bytes w64 (length piece) ++ piece

-- the bytes of an answer
abbrev pub answer_bytes : AnswerData → List ℕ
answer_bytes a = a.status ∷ (piece_bytes a.out ++ (piece_bytes a.err ++ piece_bytes a.saved))

-- the number is that of the bytes; they stand at the front of a room that has place for them, and another one is as it was
abbrev pub Leaves : List ℕ → List ℕ → ℕ → List ℕ → Type 0
Leaves old new n bytes = (n ≡ length bytes) × (new ≡ (if nat_le n (length old) then bytes ++ drop n old else old))
