-- A character in UTF-8.
use Rattle.std.specs.Prelude.{◌≡◌, ℕ, ◌+◌, ◌-◌, ◌*◌, ◌≤◌, List, ◌∷◌, ◌++◌, ◌==◌, if◌then◌else◌, encode_utf8}
use Rattle.std.specs.Char.{IsScalar}
use Rattle.fill_print.specs.Reading.{Then, Gives}

abbrev pub Scalar : ℕ → List ℕ → List ℕ → Type 0
Scalar c s k = IsScalar c × (s ≡ encode_utf8 c ++ k)

-- a byte from low to high
abbrev pub Ranged : ℕ → ℕ → ℕ → List ℕ → List ℕ → Type 0
Ranged low high b s k = (low ≤ b) × (b ≤ high) × (s ≡ b ∷ k)

-- the byte after the first of three, and of four
abbrev pub low_3 : ℕ → ℕ
low_3 a = if a == 224 then 160 else 128

abbrev pub high_3 : ℕ → ℕ
high_3 a = if a == 237 then 159 else 191

abbrev pub low_4 : ℕ → ℕ
low_4 a = if a == 240 then 144 else 128

abbrev pub high_4 : ℕ → ℕ
high_4 a = if a == 244 then 143 else 191

abbrev pub One : ℕ → List ℕ → List ℕ → Type 0
One = Then (Ranged 0 127) (λ a. Gives a)

abbrev pub Two : ℕ → List ℕ → List ℕ → Type 0
Two = Then (Ranged 194 223) (λ a. Then (Ranged 128 191) (λ b. Gives ((a - 192) * 64 + (b - 128))))

abbrev pub Three : ℕ → List ℕ → List ℕ → Type 0
Three = Then (Ranged 224 239) (λ a. Then (Ranged (low_3 a) (high_3 a)) (λ b. Then (Ranged 128 191) (λ c. Gives (((a - 224) * 64 + (b - 128)) * 64 + (c - 128)))))

abbrev pub Four : ℕ → List ℕ → List ℕ → Type 0
Four = Then (Ranged 240 244) (λ a. Then (Ranged (low_4 a) (high_4 a)) (λ b. Then (Ranged 128 191) (λ c. Then (Ranged 128 191) (λ d.
    Gives ((((a - 240) * 64 + (b - 128)) * 64 + (c - 128)) * 64 + (d - 128))))))

-- a character of two bytes or more
abbrev pub High : ℕ → List ℕ → List ℕ → Type 0
High c s k = (128 ≤ c) × Scalar c s k
