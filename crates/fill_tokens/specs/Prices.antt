-- What tokens, sequences and places cost by a table of prices.
use Rattle.std.specs.Prelude.{ℕ, ◌+◌, ◌-◌, ◌*◌, ◌<◌, ◌^◌, ◌==◌, List, ℤ, pos, negsuc, sum_by, if◌then◌else◌}
use Rattle.fill_tokens.specs.Kind.{kind_of}
use Rattle.fill_tokens.specs.declared.kind.Kind.{Kind}
use Rattle.fill_tokens.specs.declared.kind.Kind.TheVariants.{AtStart, AtEnd, Run, Single}
use Rattle.fill_tokens.specs.declared.kind.RunClass.{RunClass}
use Rattle.fill_tokens.specs.declared.kind.RunClass.TheVariants as class
use Rattle.fill_tokens.specs.declared.token.Token.{Token}
use Rattle.fill_tokens.specs.declared.place.Place.{Place}
use Rattle.fill_tokens.specs.declared.place.Place.TheVariants.{CPos, Pos}
use Rattle.fill_tokens.specs.declared.prices.Prices.{Prices}

-- a run of spaces costs as much as one sign, and so does a run of what is not space
abbrev pub run_cost : Prices → RunClass → ℕ
run_cost prices class.Digit = prices.run
run_cost prices class.Upper = prices.run
run_cost prices class.Lower = prices.run
run_cost prices class.Alpha = prices.run
run_cost prices class.Word = prices.run
run_cost prices class.Space = prices.sign
run_cost prices class.NonSpace = prices.sign
run_cost prices class.NonDigit = prices.run
run_cost prices class.NonAlpha = prices.run

abbrev pub kind_cost : Prices → Kind → ℕ
kind_cost prices AtStart = prices.edge
kind_cost prices AtEnd = prices.edge
kind_cost prices (Run class) = run_cost prices class
kind_cost prices (Single c) = prices.sign

abbrev pub token_cost : Prices → Token → ℕ
token_cost prices x = kind_cost prices (kind_of x)

abbrev pub seq_cost : Prices → List Token → ℕ
seq_cost prices r = sum_by (token_cost prices) r

-- 0 and -1 are the two ends of a text
abbrev pub fixed_cost : Prices → ℤ → ℕ
fixed_cost prices (pos n) = if n == 0 then prices.text_end else prices.position
fixed_cost prices (negsuc n) = if n == 0 then prices.text_end else prices.position

-- each cut that is passed by costs, and so does counting from the right
abbrev pub count_cost : Prices → ℤ → ℕ
count_cost prices (pos n) = prices.step * (n - 1)
count_cost prices (negsuc n) = prices.from_right + prices.step * n

abbrev pub place_cost : Prices → Place → ℕ
place_cost prices (CPos k) = fixed_cost prices k
place_cost prices (Pos r s c) = prices.cut + (seq_cost prices r + seq_cost prices s) + count_cost prices c

-- each price is a number of 16 bits, so that what a program of the grammar costs is one of 64
pub record ArePrices (prices : Prices) : Type 0 where
  pub atom : prices.atom < 2 ^ 16
  pub constant : prices.constant < 2 ^ 16
  pub separator : prices.separator < 2 ^ 16
  pub character : prices.character < 2 ^ 16
  pub whole : prices.whole < 2 ^ 16
  pub piece : prices.piece < 2 ^ 16
  pub column : prices.column < 2 ^ 16
  pub lookup : prices.lookup < 2 ^ 16
  pub constant_condition : prices.constant_condition < 2 ^ 16
  pub condition : prices.condition < 2 ^ 16
  pub text_end : prices.text_end < 2 ^ 16
  pub position : prices.position < 2 ^ 16
  pub cut : prices.cut < 2 ^ 16
  pub edge : prices.edge < 2 ^ 16
  pub sign : prices.sign < 2 ^ 16
  pub run : prices.run < 2 ^ 16
  pub step : prices.step < 2 ^ 16
  pub from_right : prices.from_right < 2 ^ 16
