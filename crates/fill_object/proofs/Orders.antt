-- The orders of what is made of parts.
use Rattle.std.proofs.Common.{◌≡◌, ℕ, ◌+◌, refl, ap, sym, subst, ◌∙◌, arith}
use Rattle.std.specs.declared.cmp.Ordering.{Ordering}
use Rattle.std.specs.Ordering.{nat_cmp, ordering_then}
use Rattle.fill_text.specs.Orders.{AtMost}
use Rattle.fill_tokens.specs.Place.{place_cmp}
use Rattle.fill_tokens.specs.Prices.{place_cost}
use Rattle.fill_tokens.specs.declared.place.Place.{Place}
use Rattle.fill_tokens.specs.declared.prices.Prices.{Prices}
use Rattle.fill_tree.specs.Cost.{source_cost, atom_cost, condition_cost, conditions_cost, program_cost}
use Rattle.fill_tree.specs.Grammar.{IsPart}
use Rattle.fill_tree.specs.Order.{source_cmp, atom_cmp, atoms_cmp, program_cmp, place_rank, source_rank, atom_rank, row_rank, rank}
use Rattle.fill_tree.specs.Tree.{SourceTree, AtomTree, Atoms, select, constant, whole, sub, more}
use Rattle.fill_tree.proofs.Ranked.{nat_cmp-add, nat_cmp-same, pair-at_most, rank_total, rank_exact, atom_rank-total, atom_rank-exact}
use Rattle.fill_tree.proofs.TreeOrder.{atom_total, exact_atoms}
use Rattle.fill_arena.proofs.Best.{at_most-itself}

pub whole-at_most : (prices : Prices) (x y : SourceTree) → AtMost (source_rank prices x y) → AtMost (atom_rank prices (whole x) (whole y))
whole-at_most prices x y h = subst (λ o. AtMost (ordering_then o (source_cmp x y))) (sym (nat_cmp-add prices.whole (source_cost prices x) (source_cost prices y))) h

pub sub-at_most : (prices : Prices) (x y : SourceTree) (p q r s : Place) → AtMost (source_rank prices x y) → AtMost (place_rank prices p r) → AtMost (place_rank prices q s) → AtMost (atom_rank prices (sub x p q) (sub y r s))
sub-at_most prices x y p q r s h k l =
    let places = pair-at_most (place_cost prices p) (place_cost prices r) (place_cost prices q) (place_cost prices s) (place_cmp p r) (place_cmp q s) k l in
    let all = pair-at_most (source_cost prices x) (source_cost prices y) (place_cost prices p + place_cost prices q) (place_cost prices r + place_cost prices s) (source_cmp x y) (ordering_then (place_cmp p r) (place_cmp q s)) h places in
    let rest = ordering_then (source_cmp x y) (ordering_then (place_cmp p r) (place_cmp q s)) in
    let both = subst (λ o. AtMost (ordering_then o rest)) (sym (nat_cmp-add prices.piece (source_cost prices x + (place_cost prices p + place_cost prices q)) (source_cost prices y + (place_cost prices r + place_cost prices s)))) all in
    let left : prices.piece + (source_cost prices x + (place_cost prices p + place_cost prices q)) ≡ atom_cost prices (sub x p q) = omega arith in
    let right : prices.piece + (source_cost prices y + (place_cost prices r + place_cost prices s)) ≡ atom_cost prices (sub y r s) = omega arith in
    subst (λ n. AtMost (ordering_then (nat_cmp n (atom_cost prices (sub y r s))) rest)) left
    (subst (λ n. AtMost (ordering_then (nat_cmp (prices.piece + (source_cost prices x + (place_cost prices p + place_cost prices q))) n) rest)) right both)

then-same : (a b d : ℕ) (o : Ordering) → o ≡ ordering_then (nat_cmp a a) (ordering_then (nat_cmp b b) (ordering_then (nat_cmp d d) o))
then-same a b d o = rw (nat_cmp-same a, nat_cmp-same b, nat_cmp-same d) refl

pub select-at_most : (prices : Prices) (a b d : ℕ) (p q : Atoms) → AtMost (row_rank prices p q) → AtMost (source_rank prices (select a b d p) (select a b d q))
select-at_most prices a b d p q h =
    subst (λ o. AtMost (ordering_then (nat_cmp (prices.lookup + conditions_cost prices p) (prices.lookup + conditions_cost prices q)) o)) (then-same a b d (atoms_cmp p q))
    (subst (λ o. AtMost (ordering_then o (atoms_cmp p q))) (sym (nat_cmp-add prices.lookup (conditions_cost prices p) (conditions_cost prices q))) h)

-- parts are in the same order as atoms and as conditions
part_cost : (prices : Prices) (a : AtomTree) → IsPart a → condition_cost prices a ≡ prices.condition + atom_cost prices a
part_cost prices (constant t) h = absurd h
part_cost prices (whole s) h = refl
part_cost prices (sub s p q) h = refl

part_rank : (prices : Prices) (a b : AtomTree) → IsPart a → IsPart b → rank (condition_cost prices) atom_cmp a b ≡ atom_rank prices a b
part_rank prices a b p q = ap (λ n. ordering_then (nat_cmp n (condition_cost prices b)) (atom_cmp a b)) (part_cost prices a p)
    ∙ ap (λ n. ordering_then (nat_cmp (prices.condition + atom_cost prices a) n) (atom_cmp a b)) (part_cost prices b q)
    ∙ ap (λ o. ordering_then o (atom_cmp a b)) (nat_cmp-add prices.condition (atom_cost prices a) (atom_cost prices b))

-- a condition, and an atom of a program, in front of the rest
pub row-at_most : (prices : Prices) (a b : AtomTree) (p q : Atoms) → AtMost (rank (condition_cost prices) atom_cmp a b) → AtMost (row_rank prices p q) → AtMost (row_rank prices (more a p) (more b q))
row-at_most prices a b p q h k = pair-at_most (condition_cost prices a) (condition_cost prices b) (conditions_cost prices p) (conditions_cost prices q) (atom_cmp a b) (atoms_cmp p q) h k

pub part_row-at_most : (prices : Prices) (a b : AtomTree) (p q : Atoms) → IsPart a → IsPart b → AtMost (atom_rank prices a b) → AtMost (row_rank prices p q) → AtMost (row_rank prices (more a p) (more b q))
part_row-at_most prices a b p q first second h k = row-at_most prices a b p q (subst AtMost (sym (part_rank prices a b first second)) h) k

condition-itself : (prices : Prices) (a : AtomTree) → AtMost (rank (condition_cost prices) atom_cmp a a)
condition-itself prices a = at_most-itself (rank (condition_cost prices) atom_cmp) (rank_total (condition_cost prices) atom_cmp atom_total) (rank_exact (condition_cost prices) atom_cmp exact_atoms) a

pub same_row-at_most : (prices : Prices) (a : AtomTree) (p q : Atoms) → AtMost (row_rank prices p q) → AtMost (row_rank prices (more a p) (more a q))
same_row-at_most prices a p q k = row-at_most prices a a p q (condition-itself prices a) k

link_rank : (prices : Prices) (a b : AtomTree) → rank (λ x. prices.atom + atom_cost prices x) atom_cmp a b ≡ atom_rank prices a b
link_rank prices a b = ap (λ o. ordering_then o (atom_cmp a b)) (nat_cmp-add prices.atom (atom_cost prices a) (atom_cost prices b))

pub program-at_most : (prices : Prices) (a b : AtomTree) (p q : Atoms) → AtMost (atom_rank prices a b) → AtMost (program_cmp prices p q) → AtMost (program_cmp prices (more a p) (more b q))
program-at_most prices a b p q h k =
    pair-at_most (prices.atom + atom_cost prices a) (prices.atom + atom_cost prices b) (program_cost prices p) (program_cost prices q) (atom_cmp a b) (atoms_cmp p q) (subst AtMost (sym (link_rank prices a b)) h) k

pub atom-itself : (prices : Prices) (a : AtomTree) → AtMost (atom_rank prices a a)
atom-itself prices a = at_most-itself (atom_rank prices) (atom_rank-total prices) (atom_rank-exact prices) a
