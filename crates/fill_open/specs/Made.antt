-- The generated session: its files.
use Rattle.std.specs.Prelude.{ℕ, ◌+◌, ◌-◌, ◌*◌, ◌%◌, ◌==◌, if◌then◌else◌, List, [], ◌∷◌, ◌++◌, map, codes}
use Rattle.std.specs.List.{flat_map, range_with_len}
use Rattle.fill_open.specs.declared.generator.Sign.{Sign}
use Rattle.fill_open.specs.declared.generator.Sign.TheVariants.{Capital, Small, Space}

abbrev pub made_session : List ℕ
made_session = codes "sheet,made.csv\ninputs,1\noutput,2\nbegin\nprograms\ncount\n"

-- the pattern of a line by its number: letters with their places among the line's letters, and spaces
abbrev pub pattern : ℕ → List Sign
pattern line =
    if line % 10 == 0 then Capital 0 ∷ Small 1 ∷ Space ∷ Capital 2 ∷ Small 3 ∷ Space ∷ Capital 4 ∷ Small 5 ∷ []
    else (if line % 2 == 1 then Capital 0 ∷ Small 1 ∷ Space ∷ Capital 2 ∷ Small 3 ∷ []
    else Capital 0 ∷ Small 1 ∷ Small 2 ∷ Small 3 ∷ Space ∷ Capital 4 ∷ Small 5 ∷ Small 6 ∷ [])

-- the number of a line's first letter: each line begins four letters after the one before it
abbrev pub first_letter : ℕ → ℕ
first_letter line = 4 * (line - 1)

-- a sign's character, where the line's first letter has this number: the alphabet goes round
abbrev pub character : ℕ → Sign → ℕ
character first (Capital place) = 65 + (first + place) % 26
character first (Small place) = 97 + (first + place) % 26
character first Space = 32

-- the text of the output cell: only the first two lines have one
abbrev pub made_output : ℕ → List ℕ
made_output line = if line == 1 then codes "Cd" else (if line == 2 then codes "Ijk" else [])

-- the text of the input cell
abbrev pub made_cell : ℕ → List ℕ
made_cell line = map (character (first_letter line)) (pattern line)

abbrev pub made_line : ℕ → List ℕ
made_line line = made_cell line ++ (44 ∷ (made_output line ++ 10 ∷ []))

-- the lines of the numbers 1 to n, one after the other
abbrev pub made_sheet : ℕ → List ℕ
made_sheet n = flat_map made_line (range_with_len 1 n)
