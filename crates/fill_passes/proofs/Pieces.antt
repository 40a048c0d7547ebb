-- Pieces of a told file, one after another.
use Rattle.std.proofs.Common.{◌≡◌, ℕ, ◌+◌, ◌<◌, ◌≤◌, List, ◌++◌, length, take, drop, None, Some, refl, sym, ap, ◌∙◌, arith, length-drop}
use Rattle.std.specs.Prelude.{Option, ⊤, option_map}
use Rattle.std.proofs.lemmas.List.{drop-drop, drop_all, take-append-drop}
use Rattle.std.specs.Io.KnownBytes.{Consumes, IsAtEnd}
use Rattle.fill_edge.specs.Outside.{Files, GivesPiece, IsPieceOf}
use Rattle.fill_passes.specs.Files.{HasSize, IsThere, told_from}

-- what a read does to the bytes that are left
abbrev pub Reads : Option (List ℕ) → Option (List ℕ) → ℕ → List ℕ → Type 0
Reads old new n buf = Consumes old new (take n buf) × (n ≡ 0 → 0 < length buf → IsAtEnd new)

of_file : (file : Option (List ℕ)) (at n : ℕ) (buf : List ℕ) → IsPieceOf file at n buf → Reads (option_map (drop at) file) (option_map (drop (at + n)) file) n buf
of_file None at n buf piece = absurd piece
of_file (Some xs) at n buf piece =
    let both : drop n (drop at xs) ≡ drop (at + n) xs = drop-drop n at xs in (
      sym (take-append-drop n (drop at xs)) ∙ ap (λ (l : List ℕ). l ++ drop n (drop at xs)) (sym piece.0) ∙ ap (λ (l : List ℕ). take n buf ++ l) both,
      λ none room. drop_all (at + n) xs (omega (arith, none, piece.2 none)),
    )

of_files : (files : Files) (name : List ℕ) (at n : ℕ) (buf : List ℕ) → GivesPiece files name at n buf → Reads (told_from files name at) (told_from files name (at + n)) n buf
of_files None name at n buf piece = (tt, λ none room. tt)
of_files (Some held) name at n buf piece = of_file (held name) at n buf piece

-- a piece of a told file is read, and the place goes on
pub piece_read : (files now : Files) (name : List ℕ) (at n : ℕ) (buf : List ℕ) → now ≡ files → GivesPiece files name at n buf → Reads (told_from files name at) (told_from now name (at + n)) n buf
piece_read files now name at n buf is piece = rw is (of_files files name at n buf piece)

-- a file, if there is one, reaches to a place; of none nothing was read
abbrev pub Reaches : Option (List ℕ) → ℕ → Type 0
Reaches None n = n ≡ 0
Reaches (Some file) n = n ≤ length file

-- the same of the file of a name, where files are told
abbrev pub IsReached : Files → List ℕ → ℕ → Type 0
IsReached None name n = ⊤
IsReached (Some held) name n = Reaches (held name) n

reaches_none : (file : Option (List ℕ)) → Reaches file 0
reaches_none None = refl
reaches_none (Some file) = omega arith

pub reached_none : (files : Files) (name : List ℕ) → IsReached files name 0
reached_none None name = tt
reached_none (Some held) name = reaches_none (held name)

reaches_more : (file : Option (List ℕ)) (at n : ℕ) (buf : List ℕ) → Reaches file at → IsPieceOf file at n buf → Reaches file (at + n)
reaches_more None at n buf reached piece = absurd piece
reaches_more (Some file) at n buf reached piece = let rest : length (drop at file) ≡ _ = length-drop at file in omega (arith, rest, piece.1, reached)

pub reached_more : (files : Files) (name : List ℕ) (at n : ℕ) (buf : List ℕ) → IsReached files name at → GivesPiece files name at n buf → IsReached files name (at + n)
reached_more None name at n buf reached piece = tt
reached_more (Some held) name at n buf reached piece = reaches_more (held name) at n buf reached piece

size_of : (file : Option (List ℕ)) (at : ℕ) (buf : List ℕ) → Reaches file at → IsPieceOf file at 0 buf → (bytes : List ℕ) × (file ≡ Some bytes) × (length bytes ≡ at)
size_of None at buf reached piece = absurd piece
size_of (Some file) at buf reached piece = (file, refl, omega (arith, reached, piece.2 refl))

-- where nothing more is read, the file ends
pub size_shown : (files : Files) (name : List ℕ) (at : ℕ) (buf : List ℕ) → IsReached files name at → GivesPiece files name at 0 buf → HasSize files name at
size_shown None name at buf reached piece = tt
size_shown (Some held) name at buf reached piece = size_of (held name) at buf reached piece

-- a file of so many bytes is there
pub there : (files : Files) (name : List ℕ) (n most : ℕ) → HasSize files name n → n ≤ most → IsThere files name most
there None name n most size le = tt
there (Some held) name n most size le = (size.0, size.1, omega (arith, size.2, le))
