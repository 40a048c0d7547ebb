-- Signed numbers, each with the byte that ends it.
use Rattle.std.specs.Prelude.{◌≡◌, ◌≢◌, ℕ, ◌-◌, Bool, false, List, [], ◌∷◌, ◌++◌, codes, ℤ, pos, negsuc, FitsSigned}
use Rattle.std.specs.Int.{w32}
use Rattle.std.specs.Fmt.{signed_decimal}
use Rattle.fill_print.specs.Reading.{Then, Plain, Gives}
use Rattle.fill_print.specs.Numbers.{Number}

abbrev pub Int : Bool → ℕ → ℤ → List ℕ → List ℕ → Type 0
Int may_be_zero last z s k = FitsSigned w32 z × (may_be_zero ≡ false → z ≢ pos 0) × (s ≡ signed_decimal z ++ last ∷ k)

abbrev pub Negative : ℕ → ℤ → List ℕ → List ℕ → Type 0
Negative last = Then (Plain (codes "-")) (λ u. Then (Number 2147483648 last) (λ n. Gives (negsuc (n - 1))))

abbrev pub Zero : ℕ → ℤ → List ℕ → List ℕ → Type 0
Zero last = Then (Plain (48 ∷ last ∷ [])) (λ u. Gives (pos 0))

abbrev pub Positive : ℕ → ℤ → List ℕ → List ℕ → Type 0
Positive last = Then (Number 2147483647 last) (λ n. Gives (pos n))
