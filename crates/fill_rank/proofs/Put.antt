-- A best first atom before a best rest, and the best rows of conditions.
use Rattle.std.proofs.Common.{◌≡◌, ◌⊎◌, ℕ, ◌+◌, ◌<◌, List, [], ◌∷◌, Option, Some, None, inl, inr, refl, ap, sym, subst, ◌∙◌}
use Rattle.std.specs.Cmp.{nat_cmp_is}
use Rattle.std.specs.Ordering.{nat_cmp, ordering_then}
use Rattle.std.specs.declared.cmp.Ordering.{Ordering}
use Rattle.std.specs.declared.cmp.Ordering.TheVariants.{Less, Equal, Greater}
use Rattle.fill_tree.specs.Cost.{atom_cost, condition_cost, conditions_cost}
use Rattle.fill_tree.specs.Grammar.{HasPart, IsPart}
use Rattle.fill_tree.specs.Meaning.{atom_tree, program_tree}
use Rattle.fill_tree.specs.Order.{atom_cmp, atoms_cmp, rank, atom_rank, chain_rank}
use Rattle.fill_tree.specs.Tree.{AtomTree, Atoms, constant, whole, sub, end, more}
use Rattle.fill_tree.specs.declared.tree.Atom.{Atom}
use Rattle.fill_tree.proofs.Ranked.{nat_cmp-add, pair-at_most, rank_total, rank_exact}
use Rattle.fill_tree.proofs.TreeOrder.{atom_total, exact_atoms}
use Rattle.fill_arena.specs.Stands.{AtomFits, ConditionFits, ConditionsFit}
use Rattle.fill_arena.specs.declared.entry.ConditionItem.{ConditionItem}
use Rattle.fill_arena.specs.declared.entry.Entry.{Entry}
use Rattle.fill_text.specs.Orders.{AtMost}
use Rattle.fill_tokens.specs.declared.prices.Prices.{Prices}
use Rattle.fill_arena.specs.Best.{IsBest, IsBestOf, IsLesser}
use Rattle.fill_rank.specs.Sets.{IsBestPart, IsConstantOf, IsBestChain, AreBestRows, IsPut, link_cost}
use Rattle.fill_tree.specs.declared.chain.Chain.{Chain}
use Rattle.fill_rank.specs.declared.rows.Rows.{Rows}
use Rattle.fill_arena.proofs.Best.{at_most-itself}
use Rattle.fill_rank.proofs.Best.{chains_lesser}

-- a first atom of one property and a rest of another
abbrev pub Starts : (AtomTree → Type 0) → (Atoms → Type 0) → Atoms → Type 0
Starts H T end = ⊥
Starts H T (more a q) = H a × T q

module _ (own : AtomTree → ℕ) (cost : Atoms → ℕ) (adds : (a : AtomTree) (p : Atoms) → cost (more a p) ≡ own a + cost p) where
  more_at_most : (a b : AtomTree) (p q : Atoms) → AtMost (rank own atom_cmp a b) → AtMost (rank cost atoms_cmp p q) → AtMost (rank cost atoms_cmp (more a p) (more b q))
  more_at_most a b p q h k = subst (λ n. AtMost (ordering_then (nat_cmp n (cost (more b q))) (ordering_then (atom_cmp a b) (atoms_cmp p q)))) (sym (adds a p))
      (subst (λ n. AtMost (ordering_then (nat_cmp (own a + cost p) n) (ordering_then (atom_cmp a b) (atoms_cmp p q)))) (sym (adds b q))
      (pair-at_most (own a) (own b) (cost p) (cost q) (atom_cmp a b) (atoms_cmp p q) h k))

  module _ (H : AtomTree → Type 0) (T : Atoms → Type 0) where
    best_more : (a : AtomTree) (p : Atoms) → IsBest (rank own atom_cmp) H a → IsBest (rank cost atoms_cmp) T p → IsBest (rank cost atoms_cmp) (Starts H T) (more a p)
    best_more a p h t = record { has = (h.has, t.has); least = least }
      where
        least : (z : Atoms) → Starts H T z → AtMost (rank cost atoms_cmp (more a p) z)
        least end s = absurd s
        least (more b q) s = more_at_most a b p q (h.least b s.0) (t.least q s.1)

    no_head : ((a : AtomTree) → ¬ (H a)) → (z : Atoms) → ¬ (Starts H T z)
    no_head none end s = s
    no_head none (more b q) s = none b s.0

    no_rest : ((p : Atoms) → ¬ (T p)) → (z : Atoms) → ¬ (Starts H T z)
    no_rest none end s = s
    no_rest none (more b q) s = none q s.1

    pub best_put : (head : Option Atom) (rest made : Option Chain) → IsPut own head rest made → IsBestOf atom_tree (rank own atom_cmp) H head → IsBestChain cost T rest → IsBestChain cost (Starts H T) made
    best_put None rest made is h t = subst (IsBestChain cost (Starts H T)) (sym is) (no_head h)
    best_put (Some a) None made is h t = subst (IsBestChain cost (Starts H T)) (sym is) (no_rest t)
    best_put (Some a) (Some x) made is h t =
        let y = is.0 in
        let carried : y.cost ≡ cost (program_tree y.atoms) =
        is.3 ∙ ap (λ n. own (atom_tree a) + n) t.0 ∙ sym (adds (atom_tree a) (program_tree x.atoms)) ∙ ap cost (sym is.2) in
        subst (IsBestChain cost (Starts H T)) (sym is.1)
        (carried, subst (IsBest (rank cost atoms_cmp) (Starts H T)) (sym is.2) (best_more (atom_tree a) (program_tree x.atoms) h t.1))

-- parts are in the same order as atoms and as conditions
part_cost : (prices : Prices) (a : AtomTree) → IsPart a → condition_cost prices a ≡ prices.condition + atom_cost prices a
part_cost prices (constant t) h = absurd h
part_cost prices (whole s) h = refl
part_cost prices (sub s p q) h = refl

part_rank : (prices : Prices) (a b : AtomTree) → IsPart a → IsPart b → rank (condition_cost prices) atom_cmp a b ≡ atom_rank prices a b
part_rank prices a b p q = ap (λ n. ordering_then (nat_cmp n (condition_cost prices b)) (atom_cmp a b)) (part_cost prices a p)
    ∙ ap (λ n. ordering_then (nat_cmp (prices.condition + atom_cost prices a) n) (atom_cmp a b)) (part_cost prices b q)
    ∙ ap (λ o. ordering_then o (atom_cmp a b)) (nat_cmp-add prices.condition (atom_cost prices a) (atom_cost prices b))

link_rank : (prices : Prices) (a b : AtomTree) → rank (link_cost prices) atom_cmp a b ≡ atom_rank prices a b
link_rank prices a b = ap (λ o. ordering_then o (atom_cmp a b)) (nat_cmp-add prices.atom (atom_cost prices a) (atom_cost prices b))

pub as_link : (prices : Prices) (P : AtomTree → Type 0) (o : Option Atom) → IsBestOf atom_tree (atom_rank prices) P o → IsBestOf atom_tree (rank (link_cost prices) atom_cmp) P o
as_link prices P None h = h
as_link prices P (Some a) h = record { has = h.has; least = λ y p. subst AtMost (sym (link_rank prices (atom_tree a) y)) (h.least y p) }

module _ (prices : Prices) (c : List Entry) (i : ConditionItem) where
  abbrev PartOf : AtomTree → Type 0
  PartOf a = IsPart a × ConditionFits a c i (AtomFits a c)

  abbrev ConstantOf : AtomTree → Type 0
  ConstantOf a = (t : List ℕ) × (i.constant ≡ Some t) × (a ≡ constant t)

  as_condition : (o : Option Atom) → IsBestPart prices c i o → IsBestOf atom_tree (rank (condition_cost prices) atom_cmp) PartOf o
  as_condition None h = h
  as_condition (Some a) h = record { has = h.has; least = λ y p. subst AtMost (sym (part_rank prices (atom_tree a) y h.has.0 p.0)) (h.least y p) }

  one_constant : (o : Option Atom) → IsConstantOf i o → IsBestOf atom_tree (rank (condition_cost prices) atom_cmp) ConstantOf o
  one_constant None h = λ y p. let e = p.1 in cc
  one_constant (Some a) h = record {
    has = h;
    least = λ y p.
        let e : atom_tree a ≡ y =
        let first = h.1 in
        let second = p.1 in
        let same : h.0 ≡ p.0 = cc in
        h.2 ∙ ap constant same ∙ sym p.2 in
        subst (λ z. AtMost (rank (condition_cost prices) atom_cmp (atom_tree a) z)) e
        (at_most-itself (rank (condition_cost prices) atom_cmp) (rank_total (condition_cost prices) atom_cmp atom_total) (rank_exact (condition_cost prices) atom_cmp exact_atoms) (atom_tree a));
  }

  module _ (is : List ConditionItem) where
    abbrev Row : Atoms → Type 0
    Row p = ConditionsFit p c is

    abbrev MixedRow : Atoms → Type 0
    MixedRow p = HasPart p × ConditionsFit p c is

    abbrev LongerRow : Atoms → Type 0
    LongerRow p = ConditionsFit p c (i ∷ is)

    abbrev LongerMixed : Atoms → Type 0
    LongerMixed p = HasPart p × ConditionsFit p c (i ∷ is)

    row_splits : (z : Atoms) → LongerRow z → Starts ConstantOf Row z ⊎ Starts PartOf Row z
    row_splits end s = absurd s
    row_splits (more (constant t) q) s = inl ((t, s.0, refl), s.1)
    row_splits (more (whole x) q) s = inr ((tt, s.0), s.1)
    row_splits (more (sub x l r) q) s = inr ((tt, s.0), s.1)

    constant_fits : (a : AtomTree) → ConstantOf a → ConditionFits a c i (AtomFits a c)
    constant_fits (constant t) h = let e : h.0 ≡ t = let f = h.2 in cc in subst (λ u. i.constant ≡ Some u) e h.1
    constant_fits (whole x) h = let f = h.2 in cc
    constant_fits (sub x l r) h = let f = h.2 in cc

    row_left : (z : Atoms) → Starts ConstantOf Row z → LongerRow z
    row_left end s = s
    row_left (more a q) s = (constant_fits a s.0, s.1)

    row_right : (z : Atoms) → Starts PartOf Row z → LongerRow z
    row_right end s = s
    row_right (more a q) s = (s.0.1, s.1)

    mixed_splits : (z : Atoms) → LongerMixed z → Starts ConstantOf MixedRow z ⊎ Starts PartOf Row z
    mixed_splits end s = absurd s.0
    mixed_splits (more (constant t) q) s = elim s.0 [ inl h ↦ absurd h | inr h ↦ inl ((t, s.1.0, refl), (h, s.1.1)) ]
    mixed_splits (more (whole x) q) s = inr ((tt, s.1.0), s.1.1)
    mixed_splits (more (sub x l r) q) s = inr ((tt, s.1.0), s.1.1)

    mixed_left : (z : Atoms) → Starts ConstantOf MixedRow z → LongerMixed z
    mixed_left end s = absurd s
    mixed_left (more a q) s = (inr s.1.0, (constant_fits a s.0, s.1.1))

    mixed_right : (z : Atoms) → Starts PartOf Row z → LongerMixed z
    mixed_right end s = absurd s
    mixed_right (more a q) s = (inl s.0.0, (s.0.1, s.1))

    pub rows_in_front : (constant part : Option Atom) (rows made : Rows) (from_constant from_part part_later part_now : Option Chain) →
        IsPut (condition_cost prices) constant rows.any from_constant → IsPut (condition_cost prices) part rows.any from_part →
        IsPut (condition_cost prices) constant rows.mixed part_later → IsPut (condition_cost prices) part rows.any part_now →
        IsLesser chain_rank from_constant from_part made.any → IsLesser chain_rank part_later part_now made.mixed →
        IsConstantOf i constant → IsBestPart prices c i part → AreBestRows prices c is rows → AreBestRows prices c (i ∷ is) made
    rows_in_front fixed part rows made from_constant from_part part_later part_now p0 p1 p2 p3 l0 l1 k b are =
        let adds : (a : AtomTree) (p : Atoms) → conditions_cost prices (more a p) ≡ condition_cost prices a + conditions_cost prices p = λ a p. refl in
        let head = one_constant fixed k in
        let other = as_condition part b in
        let q0 = best_put (condition_cost prices) (conditions_cost prices) adds ConstantOf Row fixed rows.any from_constant p0 head are.any in
        let q1 = best_put (condition_cost prices) (conditions_cost prices) adds PartOf Row part rows.any from_part p1 other are.any in
        let q2 = best_put (condition_cost prices) (conditions_cost prices) adds ConstantOf MixedRow fixed rows.mixed part_later p2 head are.mixed in
        let q3 = best_put (condition_cost prices) (conditions_cost prices) adds PartOf Row part rows.any part_now p3 other are.any in
        record {
          any = chains_lesser (conditions_cost prices) (Starts ConstantOf Row) (Starts PartOf Row) LongerRow row_splits row_left row_right from_constant from_part made.any l0 q0 q1;
          mixed = chains_lesser (conditions_cost prices) (Starts ConstantOf MixedRow) (Starts PartOf Row) LongerMixed mixed_splits mixed_left mixed_right part_later part_now made.mixed l1 q2 q3;
        }

pub best_end : (prices : Prices) (c : List Entry) → IsBest (rank (conditions_cost prices) atoms_cmp) (λ p. ConditionsFit p c []) end
best_end prices c = record { has = tt; least = least }
  where
    least : (p : Atoms) → ConditionsFit p c [] → AtMost (rank (conditions_cost prices) atoms_cmp end p)
    least end h = inr refl
    least (more a q) h = absurd h
