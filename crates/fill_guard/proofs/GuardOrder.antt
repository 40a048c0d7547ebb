-- The orders of literals and of guards are total, and tell all of them apart.
use Rattle.std.proofs.Common.{◌≡◌, ℕ, ◌<◌, subst, List, ◌∷◌, Option, Some, None, Bool, true, false, length, refl, sym, ap, ◌∙◌, arith}
use Rattle.std.specs.declared.cmp.Ordering.TheVariants.{Less, Equal}
use Rattle.std.specs.Ordering.{nat_cmp, ordering_reverse, ordering_then}
use Rattle.std.specs.Cmp.{IsTotalOrder, nat_cmp_is}
use Rattle.std.specs.Prelude.{option_to_list}
use Rattle.std.proofs.lemmas.Cmp.{nat_cmp_total, on_total, then_total, lists_total}
use Rattle.std.proofs.lemmas.Map.Lookups.{CmpEqualImpliesEq, exact_unsigned}
use Rattle.fill_tokens.specs.Place.{seq_cmp}
use Rattle.fill_tokens.proofs.PlaceLaws.{seq_total, exact_seqs}
use Rattle.fill_tokens.proofs.OrderingLemmas.{then_first, then_second, exact_lists}
use Rattle.fill_tokens.proofs.SeqOrder.{nat_less, seq_same}
use Rattle.fill_tree.specs.Separate.{literal_cmp, guard_cmp, literals, sign_number}
use Rattle.fill_tree.specs.declared.guard.Literal.{Literal}
use Rattle.fill_tree.specs.declared.guard.Guard.{Guard}

-- the order of literals, by one comparison after another
pub literal_total : IsTotalOrder literal_cmp
literal_total = then_total (on_total (λ (l : Literal). l.column) nat_cmp_total) (then_total (on_total (λ (l : Literal). l.seq) seq_total)
    (then_total (on_total (λ (l : Literal). l.least) nat_cmp_total) (on_total (λ (l : Literal). sign_number l.negated) nat_cmp_total)))

pub literal_antisymm : (a b : Literal) → literal_cmp a b ≡ ordering_reverse (literal_cmp b a)
literal_antisymm = literal_total.antisymm

sign_is : (a b : Bool) → sign_number a ≡ sign_number b → a ≡ b
sign_is false false e = refl
sign_is false true e = absurd (omega arith)
sign_is true false e = absurd (omega arith)
sign_is true true e = refl

pub exact_literals : CmpEqualImpliesEq literal_cmp
exact_literals a b h =
    let column = exact_unsigned a.column b.column (then_first _ _ h) in
    let h1 = then_second (nat_cmp a.column b.column) _ h in
    let seq = exact_seqs a.seq b.seq (then_first _ _ h1) in
    let h2 = then_second (seq_cmp a.seq b.seq) _ h1 in
    let least = exact_unsigned a.least b.least (then_first _ _ h2) in
    let h3 = then_second (nat_cmp a.least b.least) _ h2 in
    let sign = sign_is a.negated b.negated (exact_unsigned (sign_number a.negated) (sign_number b.negated) h3) in
    λ i. record { negated = sign i; column = column i; seq = seq i; least = least i }

-- a literal of an earlier column, or sequence, or number of matches, or the plain one is before another
same_nat : (m n : ℕ) → m ≡ n → nat_cmp m n ≡ Equal
same_nat m n h = sym (nat_cmp_is m n Equal h)

pub less_column : (a b : Literal) → a.column < b.column → literal_cmp a b ≡ Less
less_column a b h =
    ap (λ o. ordering_then o (ordering_then (seq_cmp a.seq b.seq) (ordering_then (nat_cmp a.least b.least) (nat_cmp (sign_number a.negated) (sign_number b.negated)))))
    (nat_less a.column b.column h)

module _ (a b : Literal) (column : a.column ≡ b.column) where
  within_column : literal_cmp a b ≡ ordering_then (seq_cmp a.seq b.seq) (ordering_then (nat_cmp a.least b.least) (nat_cmp (sign_number a.negated) (sign_number b.negated)))
  within_column =
      ap (λ o. ordering_then o (ordering_then (seq_cmp a.seq b.seq) (ordering_then (nat_cmp a.least b.least) (nat_cmp (sign_number a.negated) (sign_number b.negated)))))
      (same_nat a.column b.column column)

  pub less_seq : seq_cmp a.seq b.seq ≡ Less → literal_cmp a b ≡ Less
  less_seq h = within_column ∙ ap (λ o. ordering_then o (ordering_then (nat_cmp a.least b.least) (nat_cmp (sign_number a.negated) (sign_number b.negated)))) h

  module _ (seq : a.seq ≡ b.seq) where
    within_seq : literal_cmp a b ≡ ordering_then (nat_cmp a.least b.least) (nat_cmp (sign_number a.negated) (sign_number b.negated))
    within_seq =
        let same : seq_cmp a.seq b.seq ≡ Equal = subst (λ r. seq_cmp a.seq r ≡ Equal) seq (seq_same a.seq) in
        within_column ∙ ap (λ o. ordering_then o (ordering_then (nat_cmp a.least b.least) (nat_cmp (sign_number a.negated) (sign_number b.negated)))) same

    pub less_least : a.least < b.least → literal_cmp a b ≡ Less
    less_least h = within_seq ∙ ap (λ o. ordering_then o (nat_cmp (sign_number a.negated) (sign_number b.negated))) (nat_less a.least b.least h)

    pub less_sign : a.least ≡ b.least → a.negated ≡ false → b.negated ≡ true → literal_cmp a b ≡ Less
    less_sign e p n =
        within_seq ∙ ap (λ o. ordering_then o (nat_cmp (sign_number a.negated) (sign_number b.negated))) (same_nat a.least b.least e)
        ∙ nat_less (sign_number a.negated) (sign_number b.negated) (let u = ap sign_number p in let v = ap sign_number n in omega arith)

pub guard_total : IsTotalOrder guard_cmp
guard_total = then_total (on_total (λ g. length (literals g)) nat_cmp_total) (on_total literals (lists_total literal_total))

pub guard_antisymm : (a b : Guard) → guard_cmp a b ≡ ordering_reverse (guard_cmp b a)
guard_antisymm = guard_total.antisymm

cons_first : (x y : Literal) (xs ys : List Literal) → x ∷ xs ≡ y ∷ ys → x ≡ y
cons_first x y xs ys e = cc

cons_rest : (x y : Literal) (xs ys : List Literal) → x ∷ xs ≡ y ∷ ys → xs ≡ ys
cons_rest x y xs ys e = cc

second_is : (a b : Option Literal) → option_to_list a ≡ option_to_list b → a ≡ b
second_is None None e = refl
second_is None (Some y) e = cc
second_is (Some x) None e = cc
second_is (Some x) (Some y) e = cc

pub exact_guards : CmpEqualImpliesEq guard_cmp
exact_guards a b h =
    let e : literals a ≡ literals b = exact_lists literal_cmp exact_literals (literals a) (literals b) (then_second (nat_cmp (length (literals a)) (length (literals b))) _ h) in
    let first : a.first ≡ b.first = cons_first a.first b.first (option_to_list a.second) (option_to_list b.second) e in
    let second : a.second ≡ b.second = second_is a.second b.second (cons_rest a.first b.first (option_to_list a.second) (option_to_list b.second) e) in
    λ i. record { first = first i; second = second i }
