-- Which of two programs is before the other, by any prices: the order is total, and an earlier part makes an earlier program.
use Rattle.std.proofs.Common.{◌≡◌, ◌≢◌, ◌⊎◌, ◌+◌, inl, inr, refl, ap, sym, subst, ◌∙◌, add-zero}
use Rattle.std.specs.declared.cmp.Ordering.{Ordering}
use Rattle.std.specs.declared.cmp.Ordering.TheVariants.{Less, Equal, Greater}
use Rattle.std.specs.Ordering.{nat_cmp, ordering_then, ordering_reverse}
use Rattle.std.specs.Cmp.{IsTotalOrder}
use Rattle.std.proofs.lemmas.Cmp.{nat_cmp_total}
use Rattle.std.proofs.lemmas.Map.Lookups.{exact_unsigned}
use Rattle.fill_tokens.proofs.OrderingLemmas.{then_second, then_reverse, then_chain, alike_left, alike_right}
use Rattle.fill_tokens.specs.declared.prices.Prices.{Prices}
use Rattle.fill_tree.specs.Tree.{AtomTree, Atoms, end, more}
use Rattle.fill_tree.specs.Chosen.{IsLeast}
use Rattle.fill_tree.specs.Cost.{atom_cost, program_cost}
use Rattle.fill_tree.specs.Order.{atom_cmp, atoms_cmp, program_cmp, Before, OneIsBefore, NotAfter}
use Rattle.fill_text.specs.Orders.{AtMost}
use Rattle.fill_tree.proofs.Ranked.{ranked, pair-less_first, pair-less_second}
use Rattle.fill_tree.proofs.TreeOrder.{atoms_antisymm, atoms_trans, exact_atom_lists}

pub program_antisymm : (prices : Prices) (p q : Atoms) → program_cmp prices p q ≡ ordering_reverse (program_cmp prices q p)
program_antisymm prices p q = then_reverse _ _ _ _ (nat_cmp_total.antisymm (program_cost prices p) (program_cost prices q)) (atoms_antisymm p q)

pub exact_programs : (prices : Prices) (p q : Atoms) → program_cmp prices p q ≡ Equal → p ≡ q
exact_programs prices p q h = exact_atom_lists p q (then_second (nat_cmp (program_cost prices p) (program_cost prices q)) _ h)

pub before_trans : (prices : Prices) (p q r : Atoms) → Before prices p q → Before prices q r → Before prices p r
before_trans prices p q r h k =
    then_chain _ _ _ _ _ _ (nat_cmp_total.trans (program_cost prices p) (program_cost prices q) (program_cost prices r))
    (alike_left nat_cmp exact_unsigned (program_cost prices p) (program_cost prices q) (program_cost prices r))
    (alike_right nat_cmp exact_unsigned (program_cost prices p) (program_cost prices q) (program_cost prices r)) (atoms_trans p q r) h k

pub program_total : (prices : Prices) → IsTotalOrder (program_cmp prices)
program_total prices = record {
  antisymm = program_antisymm prices;
  trans = before_trans prices;
  congr = λ p q r e. ap (λ x. program_cmp prices x r) (exact_programs prices p q e);
}

alike_itself : (o : Ordering) → o ≡ ordering_reverse o → o ≡ Equal
alike_itself Less e = cc
alike_itself Equal e = refl
alike_itself Greater e = cc

pub program_cmp-same : (prices : Prices) (p : Atoms) → program_cmp prices p p ≡ Equal
program_cmp-same prices p = alike_itself (program_cmp prices p p) (program_antisymm prices p p)

pub not_before_itself : (prices : Prices) (p : Atoms) → NotAfter prices p p
not_before_itself prices p h = let e = program_cmp-same prices p in cc

pub before_not_after : (prices : Prices) (p q : Atoms) → Before prices p q → NotAfter prices p q
before_not_after prices p q h k = not_before_itself prices p (before_trans prices p q p h k)

-- a program that is not after another is before it or the same
pub before_or_same : (prices : Prices) (p q : Atoms) → NotAfter prices p q → Before prices p q ⊎ (p ≡ q)
before_or_same prices p q h = cases (program_cmp prices p q) refl
  where
    cases : (o : Ordering) → program_cmp prices p q ≡ o → Before prices p q ⊎ (p ≡ q)
    cases Less e = inl e
    cases Equal e = inr (exact_programs prices p q e)
    cases Greater e = absurd (h (program_antisymm prices q p ∙ ap ordering_reverse e))

pub not_after_trans : (prices : Prices) (p q r : Atoms) → NotAfter prices p q → NotAfter prices q r → NotAfter prices p r
not_after_trans prices p q r h k l = elim (before_or_same prices p q h)
    [ inl before ↦ k (before_trans prices r p q l before) | inr same ↦ k (subst (Before prices r) same l) ]

-- of two different programs exactly one is before the other
pub one_is_before : (prices : Prices) (p q : Atoms) → p ≢ q → OneIsBefore prices p q
one_is_before prices p q different = cases (program_cmp prices p q) refl
  where
    cases : (o : Ordering) → program_cmp prices p q ≡ o → OneIsBefore prices p q
    cases Less e = inl (e, before_not_after prices p q e)
    cases Equal e = absurd (different (exact_programs prices p q e))
    cases Greater e = let back : Before prices q p = program_antisymm prices q p ∙ ap ordering_reverse e in inr (back, before_not_after prices q p back)

-- no two programs are the least of a property
pub least_is_one : (prices : Prices) (P : Atoms → Type 0) (p q : Atoms) → IsLeast prices P p → IsLeast prices P q → p ≡ q
least_is_one prices P p q h k = elim (before_or_same prices p q (h.least q k.has))
    [ inl before ↦ absurd (k.least p h.has before) | inr same ↦ same ]

then-equal : (o : Ordering) → ordering_then o Equal ≡ o
then-equal Less = refl
then-equal Equal = refl
then-equal Greater = refl

-- programs of one atom compare as their atoms do, by cost first
pub program_cmp-one : (prices : Prices) (a b : AtomTree) → program_cmp prices (more a end) (more b end) ≡ ranked (prices.atom + atom_cost prices a) (prices.atom + atom_cost prices b) (atom_cmp a b)
program_cmp-one prices a b =
    rw (add-zero (prices.atom + atom_cost prices a), add-zero (prices.atom + atom_cost prices b)) (ap (ranked (prices.atom + atom_cost prices a) (prices.atom + atom_cost prices b)) (then-equal (atom_cmp a b)))

pub at_most : (prices : Prices) (p q : Atoms) → NotAfter prices p q → AtMost (program_cmp prices p q)
at_most prices p q h = elim (before_or_same prices p q h)
    [ inl before ↦ inl before | inr same ↦ inr (subst (λ x. program_cmp prices p x ≡ Equal) same (program_cmp-same prices p)) ]

-- an earlier first atom, and what follows it no later
pub before-head : (prices : Prices) (a b : AtomTree) (p q : Atoms) → Before prices (more a end) (more b end) → NotAfter prices p q → Before prices (more a p) (more b q)
before-head prices a b p q head tail =
    pair-less_first (prices.atom + atom_cost prices a) (prices.atom + atom_cost prices b) (program_cost prices p) (program_cost prices q) (atom_cmp a b) (atoms_cmp p q)
    (sym (program_cmp-one prices a b) ∙ head) (at_most prices p q tail)

-- a first atom no later, and what follows it earlier
pub before-tail : (prices : Prices) (a b : AtomTree) (p q : Atoms) → NotAfter prices (more a end) (more b end) → Before prices p q → Before prices (more a p) (more b q)
before-tail prices a b p q head tail =
    pair-less_second (prices.atom + atom_cost prices a) (prices.atom + atom_cost prices b) (program_cost prices p) (program_cost prices q) (atom_cmp a b) (atoms_cmp p q)
    (subst AtMost (program_cmp-one prices a b) (at_most prices (more a end) (more b end) head)) tail

-- a first atom no later, and what follows it no later
pub not_after-more : (prices : Prices) (a b : AtomTree) (p q : Atoms) → NotAfter prices (more a end) (more b end) → NotAfter prices p q → NotAfter prices (more a p) (more b q)
not_after-more prices a b p q head tail = elim (before_or_same prices p q tail) [
  | inl before ↦ before_not_after prices (more a p) (more b q) (before-tail prices a b p q head before)
  | inr same ↦ subst (λ x. NotAfter prices (more a p) (more b x)) same (alike (before_or_same prices (more a end) (more b end) head))
]
  where
    alike : Before prices (more a end) (more b end) ⊎ (more a end ≡ more b end) → NotAfter prices (more a p) (more b p)
    alike (inl before) = before_not_after prices (more a p) (more b p) (before-head prices a b p p before (not_before_itself prices p))
    alike (inr same) = let e : a ≡ b = cc in subst (λ x. NotAfter prices (more a p) (more x p)) e (not_before_itself prices (more a p))

-- back: of two programs with one first atom, the one that is not after the other goes on with what is not after either
pub not_after-tail : (prices : Prices) (a : AtomTree) (p q : Atoms) → NotAfter prices (more a p) (more a q) → NotAfter prices p q
not_after-tail prices a p q h k = h (before-tail prices a a q p (not_before_itself prices (more a end)) k)

-- and of two programs that go on alike, it begins with what is not after either
pub not_after-head : (prices : Prices) (a b : AtomTree) (p : Atoms) → NotAfter prices (more a p) (more b p) → NotAfter prices (more a end) (more b end)
not_after-head prices a b p h k = h (before-head prices b a p p k (not_before_itself prices p))
