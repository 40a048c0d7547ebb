-- The best of an item is made of the bests of what it names.
use Rattle.std.proofs.Common.{◌≡◌, ℕ, ◌+◌, List, refl, sym, subst, arith}
use Rattle.std.specs.declared.cmp.Ordering.{Ordering}
use Rattle.std.specs.Ordering.{nat_cmp, ordering_then}
use Rattle.fill_tokens.specs.Place.{place_cmp}
use Rattle.fill_tokens.specs.Prices.{place_cost}
use Rattle.fill_tokens.specs.declared.place.Place.{Place}
use Rattle.fill_tokens.specs.declared.prices.Prices.{Prices}
use Rattle.fill_tree.specs.Cost.{source_cost, atom_cost, conditions_cost}
use Rattle.fill_tree.specs.Grammar.{HasPart}
use Rattle.fill_tree.specs.Order.{source_cmp, atom_cmp, atoms_cmp, place_rank, source_rank, atom_rank, row_rank}
use Rattle.fill_tree.specs.Tree.{SourceTree, AtomTree, Atoms, col, select, constant, whole, sub}
use Rattle.fill_tree.proofs.Ranked.{nat_cmp-add, nat_cmp-same, pair-at_most, rank_total, rank_exact}
use Rattle.fill_tree.proofs.TreeOrder.{source_total, exact_sources, atom_total, exact_atoms}
use Rattle.fill_arena.specs.Stands.{ConditionsFit, PlaceStands, SourceFits, SourceStands, ConstantFits, PartFits}
use Rattle.fill_arena.specs.declared.entry.AtomItem.TheVariants.{Const, Whole, Sub}
use Rattle.fill_arena.specs.declared.entry.Entry.{Entry}
use Rattle.fill_arena.specs.declared.entry.SelectItem.{SelectItem}
use Rattle.fill_arena.specs.declared.entry.SourceItem.TheVariants.{Col, Select}
use Rattle.fill_text.specs.Orders.{AtMost}
use Rattle.fill_arena.specs.Best.{IsBest}
use Rattle.fill_arena.proofs.Best.{at_most-itself}

source-itself : (prices : Prices) (x : SourceTree) → AtMost (source_rank prices x x)
source-itself prices x = at_most-itself (source_rank prices) (rank_total (source_cost prices) source_cmp source_total) (rank_exact (source_cost prices) source_cmp exact_sources) x

atom-itself : (prices : Prices) (x : AtomTree) → AtMost (atom_rank prices x x)
atom-itself prices x = at_most-itself (atom_rank prices) (rank_total (atom_cost prices) atom_cmp atom_total) (rank_exact (atom_cost prices) atom_cmp exact_atoms) x

pub best_constant : (prices : Prices) (c : List Entry) (t : List ℕ) → IsBest (atom_rank prices) (ConstantFits c (Const t)) (constant t)
best_constant prices c t = record { has = ((λ h. h), refl); least = least }
  where
    least : (y : AtomTree) → ConstantFits c (Const t) y → AtMost (atom_rank prices (constant t) y)
    least (constant u) h = subst (λ w. AtMost (atom_rank prices (constant t) (constant w))) h.1 (atom-itself prices (constant t))
    least (whole x) h = absurd h.1
    least (sub x p q) h = absurd h.1

pub best_whole : (prices : Prices) (c : List Entry) (b : ℕ) (x : SourceTree) → IsBest (source_rank prices) (SourceStands c b) x → IsBest (atom_rank prices) (PartFits c (Whole b)) (whole x)
best_whole prices c b x best = record { has = (tt, best.has); least = least }
  where
    least : (y : AtomTree) → PartFits c (Whole b) y → AtMost (atom_rank prices (whole x) y)
    least (constant u) h = absurd h.1
    least (whole y) h = subst (λ o. AtMost (ordering_then o (source_cmp x y))) (sym (nat_cmp-add prices.whole (source_cost prices x) (source_cost prices y))) (best.least y h.1)
    least (sub y p q) h = absurd h.1

sub-at_most : (prices : Prices) (x y : SourceTree) (p q r s : Place) → AtMost (source_rank prices x y) → AtMost (place_rank prices p r) → AtMost (place_rank prices q s) → AtMost (atom_rank prices (sub x p q) (sub y r s))
sub-at_most prices x y p q r s h k l =
    let places = pair-at_most (place_cost prices p) (place_cost prices r) (place_cost prices q) (place_cost prices s) (place_cmp p r) (place_cmp q s) k l in
    let all = pair-at_most (source_cost prices x) (source_cost prices y) (place_cost prices p + place_cost prices q) (place_cost prices r + place_cost prices s) (source_cmp x y) (ordering_then (place_cmp p r) (place_cmp q s)) h places in
    let rest = ordering_then (source_cmp x y) (ordering_then (place_cmp p r) (place_cmp q s)) in
    let both = subst (λ o. AtMost (ordering_then o rest)) (sym (nat_cmp-add prices.piece (source_cost prices x + (place_cost prices p + place_cost prices q)) (source_cost prices y + (place_cost prices r + place_cost prices s)))) all in
    let left : prices.piece + (source_cost prices x + (place_cost prices p + place_cost prices q)) ≡ atom_cost prices (sub x p q) = omega arith in
    let right : prices.piece + (source_cost prices y + (place_cost prices r + place_cost prices s)) ≡ atom_cost prices (sub y r s) = omega arith in
    subst (λ n. AtMost (ordering_then (nat_cmp n (atom_cost prices (sub y r s))) rest)) left
    (subst (λ n. AtMost (ordering_then (nat_cmp (prices.piece + (source_cost prices x + (place_cost prices p + place_cost prices q))) n) rest)) right both)

pub best_sub : (prices : Prices) (c : List Entry) (b l r : ℕ) (x : SourceTree) (p q : Place) → IsBest (source_rank prices) (SourceStands c b) x → IsBest (place_rank prices) (PlaceStands c l) p → IsBest (place_rank prices) (PlaceStands c r) q →
    IsBest (atom_rank prices) (PartFits c (Sub b l r)) (sub x p q)
best_sub prices c b l r x p q best left right = record { has = (tt, (best.has, left.has, right.has)); least = least }
  where
    least : (y : AtomTree) → PartFits c (Sub b l r) y → AtMost (atom_rank prices (sub x p q) y)
    least (constant u) h = absurd h.1
    least (whole y) h = absurd h.1
    least (sub y s t) h = sub-at_most prices x y p q s t (best.least y h.1.0) (left.least s h.1.1) (right.least t h.1.2)

pub best_col : (prices : Prices) (c : List Entry) (m : ℕ) → IsBest (source_rank prices) (λ y. SourceFits y c (Col m)) (col m)
best_col prices c m = record { has = refl; least = least }
  where
    least : (y : SourceTree) → SourceFits y c (Col m) → AtMost (source_rank prices (col m) y)
    least (col n) h = subst (λ k. AtMost (source_rank prices (col m) (col k))) h (source-itself prices (col m))
    least (select k t n cs) h = absurd h

then-same : (a b d : ℕ) (o : Ordering) → o ≡ ordering_then (nat_cmp a a) (ordering_then (nat_cmp b b) (ordering_then (nat_cmp d d) o))
then-same a b d o = rw (nat_cmp-same a, nat_cmp-same b, nat_cmp-same d) refl

select-at_most : (prices : Prices) (a b d : ℕ) (p q : Atoms) → AtMost (row_rank prices p q) → AtMost (source_rank prices (select a b d p) (select a b d q))
select-at_most prices a b d p q h =
    subst (λ o. AtMost (ordering_then (nat_cmp (prices.lookup + conditions_cost prices p) (prices.lookup + conditions_cost prices q)) o)) (then-same a b d (atoms_cmp p q))
    (subst (λ o. AtMost (ordering_then o (atoms_cmp p q))) (sym (nat_cmp-add prices.lookup (conditions_cost prices p) (conditions_cost prices q))) h)

pub best_select : (prices : Prices) (c : List Entry) (i : SelectItem) (p : Atoms) → IsBest (row_rank prices) (λ q. HasPart q × ConditionsFit q c i.conditions) p →
    IsBest (source_rank prices) (λ y. SourceFits y c (Select i)) (select i.column i.table i.key p)
best_select prices c i p best = record { has = (refl, refl, refl, best.has.0, best.has.1); least = least }
  where
    least : (y : SourceTree) → SourceFits y c (Select i) → AtMost (source_rank prices (select i.column i.table i.key p) y)
    least (col n) h = absurd h
    least (select a b d q) h =
        subst (λ k. AtMost (source_rank prices (select i.column i.table i.key p) (select k b d q))) h.0
        (subst (λ k. AtMost (source_rank prices (select i.column i.table i.key p) (select i.column k d q))) h.1
        (subst (λ k. AtMost (source_rank prices (select i.column i.table i.key p) (select i.column i.table k q))) h.2
        (select-at_most prices i.column i.table i.key p q (best.least q (h.3, h.4)))))
