-- The form of a request.
use Rattle.std.specs.Prelude.{ℕ, zero, suc, nat_eq, nat_le, if◌then◌else◌, List, [], ◌∷◌, ◌++◌, codes, length, map, string_bytes, take, drop, Option, Some, None, option_and_then}
use Rattle.std.specs.Int.{w64, from_le_bytes}
use Rattle.std.specs.Str.{bytes_eq, is_utf8}
use Rattle.fill_engine.specs.declared.request.Call.{Call}
use Rattle.fill_engine.specs.declared.request.Program.{Program}
use Rattle.fill_engine.specs.declared.request.Program.TheVariants.{Flashfill, Fillcsv}

-- what a request asks: a program, its words, and its files, each its name and its bytes, those that come last first
pub record CallData : Type 0 where
  pub program : Program
  pub words : List (List ℕ)
  pub files : List (List ℕ × List ℕ)

abbrev pub call_data : Call → CallData
call_data a = record { program = a.program; words = map string_bytes a.words.items; files = a.files.files }

-- the number at the front of bytes: eight bytes, the lowest first; and the bytes after it
abbrev pub number_in : List ℕ → Option (ℕ × List ℕ)
number_in bytes = if nat_le 8 (length bytes) then Some (from_le_bytes w64 (take 8 bytes), drop 8 bytes) else None

-- the first n bytes, and those after them
abbrev pub split_at : ℕ × List ℕ → Option (List ℕ × List ℕ)
split_at at = if nat_le at.0 (length at.1) then Some (take at.0 at.1, drop at.0 at.1) else None

-- the bytes at the front, with their number before them
abbrev pub piece_in : List ℕ → Option (List ℕ × List ℕ)
piece_in bytes = option_and_then split_at (number_in bytes)

-- bytes that are UTF-8
abbrev pub of_text : List ℕ × List ℕ → Option (List ℕ × List ℕ)
of_text piece = if is_utf8 piece.0 then Some piece else None

-- the text at the front
abbrev pub text_in : List ℕ → Option (List ℕ × List ℕ)
text_in bytes = option_and_then of_text (piece_in bytes)

-- n words at the front, after those before them
unfoldable pub words_from : ℕ → List (List ℕ) → List ℕ → Option (List (List ℕ) × List ℕ)
words_from zero before bytes = Some (before, bytes)
words_from (suc n) before bytes = option_and_then (λ word. words_from n (before ++ word.0 ∷ []) word.1) (text_in bytes)

-- n files at the front, each its name and its bytes; the last comes first
unfoldable pub files_from : ℕ → List (List ℕ × List ℕ) → List ℕ → Option (List (List ℕ × List ℕ) × List ℕ)
files_from zero before bytes = Some (before, bytes)
files_from (suc n) before bytes =
    option_and_then (λ name. option_and_then (λ file. files_from n ((name.0, file.0) ∷ before) file.1) (piece_in name.1)) (text_in bytes)

-- the program of a name
abbrev pub program_of : List ℕ → Option Program
program_of name = if bytes_eq name (codes "flashfill") then Some Flashfill
    else (if bytes_eq name (codes "fillcsv") then Some Fillcsv else None)

abbrev pub asks : Program → List (List ℕ) → List (List ℕ × List ℕ) → CallData
asks program words files = record { program = program; words = words; files = files }

-- the files, where no byte is left after them
abbrev pub with_files : Program → List (List ℕ) → List (List ℕ × List ℕ) × List ℕ → Option CallData
with_files program words files = if nat_eq (length files.1) 0 then Some (asks program words files.0) else None

-- the number of files and the files
abbrev pub with_words : Program → List (List ℕ) × List ℕ → Option CallData
with_words program words = option_and_then (λ count. option_and_then (with_files program words.0) (files_from count.0 [] count.1)) (number_in words.1)

-- the number of words, the words, and what comes after them
abbrev pub with_program : List ℕ → Program → Option CallData
with_program bytes program = option_and_then (λ count. option_and_then (with_words program) (words_from count.0 [] count.1)) (number_in bytes)

-- what a request asks: the program's name, the number of words, the words, the number of files, and the name and the bytes of each
abbrev pub request_in : List ℕ → Option CallData
request_in bytes = option_and_then (λ name. option_and_then (with_program name.1) (program_of name.0)) (text_in bytes)
