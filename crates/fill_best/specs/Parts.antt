-- The order of parts of trees, and what two parts make.
use Rattle.std.specs.Prelude.{◌≡◌, ℕ, ◌+◌, List, refl}
use Rattle.std.proofs.Common.{◌∙◌, ap}
use Rattle.std.specs.Cmp.{IsTotalOrder}
use Rattle.std.specs.declared.cmp.Ordering.{Ordering}
use Rattle.std.specs.declared.cmp.Ordering.TheVariants.{Less, Equal, Greater}
use Rattle.std.specs.Ordering.{nat_cmp, ordering_then}
use Rattle.std.proofs.lemmas.Cmp.{nat_cmp_total, on_total, then_total}
use Rattle.std.proofs.lemmas.Map.Lookups.{CmpEqualImpliesEq, exact_unsigned}
use Rattle.fill_tokens.specs.Place.{place_cmp}
use Rattle.fill_tokens.specs.Prices.{place_cost}
use Rattle.fill_tokens.specs.declared.place.Place.{Place}
use Rattle.fill_tokens.proofs.OrderingLemmas.{then_first, then_second}
use Rattle.fill_tokens.proofs.PlaceLaws.{place_total, exact_places}
use Rattle.fill_tokens.specs.declared.prices.Prices.{Prices}
use Rattle.fill_tree.specs.Order.{source_cmp, atoms_cmp}
use Rattle.fill_tree.specs.Tree.{SourceTree, AtomTree, Atoms, select, whole, sub}
use Rattle.fill_arena.specs.Stands.{PlaceStands}
use Rattle.fill_arena.specs.declared.entry.Entry.{Entry}
use Rattle.fill_best.specs.declared.parts.Bounds.{Bounds}
use Rattle.fill_best.specs.declared.parts.Target.{Target}
use Rattle.fill_best.specs.declared.parts.WholeText.{WholeText}

-- what two places cost
abbrev pub bounds_cost : Prices → Bounds → ℕ
bounds_cost prices b = place_cost prices b.left + place_cost prices b.right

-- two places in order
abbrev pub bounds_cmp : Bounds → Bounds → Ordering
bounds_cmp a b = ordering_then (place_cmp a.left b.left) (place_cmp a.right b.right)

pub bounds_total : IsTotalOrder bounds_cmp
bounds_total = then_total (on_total (λ (b : Bounds). b.left) place_total) (on_total (λ (b : Bounds). b.right) place_total)

pub exact_bounds : CmpEqualImpliesEq bounds_cmp
exact_bounds a b h =
    let left = exact_places a.left b.left (then_first _ _ h) in
    let right = exact_places a.right b.right (then_second (place_cmp a.left b.left) (place_cmp a.right b.right) h) in
    λ i. record { left = left i; right = right i }

-- both places stand in their sets
abbrev pub BoundsStand : List Entry → ℕ → ℕ → Bounds → Type 0
BoundsStand c l r b = PlaceStands c l b.left × PlaceStands c r b.right

-- the numbers of a lookup
abbrev pub target_cmp : Target → Target → Ordering
target_cmp a b = ordering_then (nat_cmp a.column b.column) (ordering_then (nat_cmp a.table b.table) (nat_cmp a.key b.key))

pub target_total : IsTotalOrder target_cmp
target_total = then_total (on_total (λ (t : Target). t.column) nat_cmp_total)
    (then_total (on_total (λ (t : Target). t.table) nat_cmp_total) (on_total (λ (t : Target). t.key) nat_cmp_total))

pub exact_targets : CmpEqualImpliesEq target_cmp
exact_targets a b h =
    let column = exact_unsigned a.column b.column (then_first _ _ h) in
    let rest = then_second (nat_cmp a.column b.column) (ordering_then (nat_cmp a.table b.table) (nat_cmp a.key b.key)) h in
    let table = exact_unsigned a.table b.table (then_first _ _ rest) in
    let key = exact_unsigned a.key b.key (then_second (nat_cmp a.table b.table) (nat_cmp a.key b.key) rest) in
    λ i. record { column = column i; table = table i; key = key i }

-- there is but one
abbrev pub whole_cmp : WholeText → WholeText → Ordering
whole_cmp a b = Equal

pub whole_total : IsTotalOrder whole_cmp
whole_total = record { antisymm = λ x y. refl; trans = λ x y z h k. h; congr = λ x y z h. refl }

pub exact_whole : CmpEqualImpliesEq whole_cmp
exact_whole a b h = refl

-- what two parts make
abbrev pub bounds_of : Place → Place → Bounds
bounds_of left right = record { left = left; right = right }

abbrev pub whole_of : SourceTree → WholeText → AtomTree
whole_of s w = whole s

abbrev pub piece_of : SourceTree → Bounds → AtomTree
piece_of s b = sub s b.left b.right

abbrev pub lookup_of : Target → Atoms → SourceTree
lookup_of t conditions = select t.column t.table t.key conditions

then-equal : (o : Ordering) → o ≡ ordering_then o Equal
then-equal Less = refl
then-equal Equal = refl
then-equal Greater = refl

pub whole_by_parts : (a b : SourceTree) (c d : WholeText) → source_cmp a b ≡ ordering_then (source_cmp a b) Equal
whole_by_parts a b c d = then-equal (source_cmp a b)

then-grouped : (o p : Ordering) (q : Ordering) → ordering_then o (ordering_then p q) ≡ ordering_then (ordering_then o p) q
then-grouped Less p q = refl
then-grouped Equal p q = refl
then-grouped Greater p q = refl

pub lookup_by_parts : (a b : Target) (c d : Atoms) → source_cmp (lookup_of a c) (lookup_of b d) ≡ ordering_then (target_cmp a b) (atoms_cmp c d)
lookup_by_parts a b c d =
    ap (ordering_then (nat_cmp a.column b.column)) (then-grouped (nat_cmp a.table b.table) (nat_cmp a.key b.key) (atoms_cmp c d))
    ∙ then-grouped (nat_cmp a.column b.column) (ordering_then (nat_cmp a.table b.table) (nat_cmp a.key b.key)) (atoms_cmp c d)
