-- Numbers of pairs of nodes, and the edges between them.
use Rattle.std.proofs.Common.{◌≡◌, ℕ, ◌+◌, ◌*◌, ◌/◌, ◌%◌, ◌<◌, inl, inr, List, ap, arith}
use Rattle.std.proofs.Math.Nat.{suc-mul, mul-le-mul_right}
use Rattle.std.proofs.lemmas.Bool.{cases_lt}
use Rattle.fill_arena.specs.Contents.{Extends}
use Rattle.fill_arena.specs.Stands.{AtomStands}
use Rattle.fill_arena.specs.declared.entry.Entry.{Entry}
use Rattle.fill_arena.specs.declared.entry.Edge.{Edge}
use Rattle.fill_arena.proofs.Lists.{extends_on}
use Rattle.fill_meet.specs.Product.{IsPair, IsPairOf, IsProduct}
use Rattle.fill_meet.proofs.Grows.{met_stay}

-- a number has one row and one column
pub same_row : (w a b i j : ℕ) → b < w → j < w → a * w + b ≡ i * w + j → (a ≡ i) × (b ≡ j)
same_row w a b i j h k e = elim (cases_lt a i) [
  | inl lt ↦ (let up = mul-le-mul_right w lt in let one = suc-mul a w in absurd (omega arith))
  | inr le ↦ elim (cases_lt i a) [
    | inl lt ↦ (let up = mul-le-mul_right w lt in let one = suc-mul i w in absurd (omega arith))
    | inr ge ↦
        let same : a ≡ i = omega arith in
        let rows : a * w ≡ i * w = ap (λ n. n * w) same in
        (same, omega arith)
  ]
]

pub within_product : (h w a b : ℕ) → a < h → b < w → a * w + b < h * w
within_product h w a b lt k = let up = mul-le-mul_right w lt in let one = suc-mul a w in omega arith

-- a later row and a later column make a greater number
pub onward_product : (w a b i j : ℕ) → a < i → b < j → a * w + b < i * w + j
onward_product w a b i j lt k = let up = mul-le-mul_right w lt in let one = suc-mul a w in omega arith

-- the row of a number
pub row_within : (h w q r : ℕ) → q * w + r < h * w → q < h
row_within h w q r lt = elim (cases_lt q h) [ inl l ↦ l | inr l ↦ (let up = mul-le-mul_right w l in absurd (omega arith)) ]

pub row_and_column : (n w : ℕ) → 0 < w → (n ≡ n / w * w + n % w) × (n % w < w)
row_and_column n w some = (omega arith, omega arith)

pair_stays : (c d : List Entry) (o : Extends c d) (w : ℕ) (x y e : Edge) → IsPair c w x y e → IsPair d w x y e
pair_stays c d o w x y e p = record { from = p.from; to = p.to; met = met_stay c d o AtomStands x.atoms y.atoms e.atoms p.met }

pub pair_of_stays : (c d : List Entry) (o : Extends c d) (w : ℕ) (xs ys : List Edge) (e : Edge) → IsPairOf c w xs ys e → IsPairOf d w xs ys e
pair_of_stays c d o w xs ys e s = (s.0, s.1, (s.2.0, s.2.1, pair_stays c d o w s.0 s.2.0 e s.2.2))

pub product_stays : (c d : List Entry) (o : Extends c d) (h w : ℕ) (xs ys edges : List Edge) → IsProduct c h w xs ys edges → IsProduct d h w xs ys edges
product_stays c d o h w xs ys edges p =
    record {
      sound = λ k e at. pair_of_stays c d o w xs ys e (p.sound k e at);
      whole = λ e q. p.whole e (extends_on c d e o q);
    }
