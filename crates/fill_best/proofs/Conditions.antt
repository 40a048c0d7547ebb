-- The rows of conditions: those that begin with the constant, and those that begin with another condition.
use Rattle.std.proofs.Common.{◌≡◌, ◌⊎◌, ℕ, ◌+◌, ◌<◌, ◌≤◌, ◌^◌, inl, inr, List, [], ◌∷◌, length, Some, None, refl, subst, arith}
use Rattle.std.specs.Prelude.{Contains}
use Rattle.fill_tokens.specs.declared.prices.Prices.{Prices}
use Rattle.fill_tokens.specs.Prices.{ArePrices}
use Rattle.fill_tree.specs.Cost.{atom_cost, condition_cost, conditions_cost}
use Rattle.fill_tree.specs.Grammar.{HasPart, IsPart}
use Rattle.fill_tree.specs.Order.{atom_cmp, atoms_cmp}
use Rattle.fill_tree.specs.Tree.{AtomTree, Atoms, constant, whole, sub, end, more}
use Rattle.fill_tree.proofs.TreeOrder.{atom_total, atoms_total, exact_atoms, exact_atom_lists}
use Rattle.fill_arena.specs.Contents.{EachIn}
use Rattle.fill_arena.specs.Stands.{AtomFits, AtomStands, ConditionFits, ConditionsFit, PartStands}
use Rattle.fill_arena.specs.WellMade.{IsWellMade, IsConditionItem}
use Rattle.fill_arena.specs.declared.entry.ConditionItem.{ConditionItem}
use Rattle.fill_arena.specs.declared.entry.Entry.{Entry}
use Rattle.fill_arena.proofs.Costs.{row_present}
use Rattle.fill_best.specs.Cheapest.{Priced, AreCheapest}
use Rattle.fill_best.specs.Costs.{by_cost, linked}
use Rattle.fill_best.specs.First.{AreFirst, IsMade}
use Rattle.fill_best.specs.Rows.{AreConstantsOf, AreFirstParts, AreFirstRows, IsConstantOf, IsPartOf, fixed_cost}
use Rattle.fill_best.specs.declared.costed.Costed.{Costed}
use Rattle.fill_best.specs.declared.rows.Rows.{Rows}
use Rattle.fill_best.proofs.Costs.{by_cost-total, by_cost-exact}
use Rattle.fill_best.proofs.Firsts.{first_same}
use Rattle.fill_best.proofs.Takes.{cheapest_none, cheapest_same, first_of_made, made_cheap}

pub only_end : (c : List Entry) (p : Atoms) → ConditionsFit p c [] → end ≡ p
only_end c end h = refl
only_end c (more a q) h = absurd h

part_cost : (prices : Prices) (a : AtomTree) → IsPart a → condition_cost prices a ≡ prices.condition + atom_cost prices a
part_cost prices (constant t) h = absurd h
part_cost prices (whole s) h = refl
part_cost prices (sub s p q) h = refl

constant_cost : (prices : Prices) (i : ConditionItem) (a : AtomTree) → IsConstantOf i a → condition_cost prices a ≡ prices.constant_condition
constant_cost prices i (constant t) h = refl
constant_cost prices i (whole s) h = let e = h.2 in cc
constant_cost prices i (sub s p q) h = let e = h.2 in cc

abbrev pub free : Atoms → Costed Atoms
free p = record { cost = 0; item = p }

module _ (prices : Prices) (small : ArePrices prices) (c : List Entry) (i : ConditionItem) where
  constant_fits : (a : AtomTree) → IsConstantOf i a → ConditionFits a c i (AtomFits a c)
  constant_fits (constant t) h = let f = h.2 in let e : h.0 ≡ t = cc in subst (λ u. i.constant ≡ Some u) e h.1
  constant_fits (whole x) h = let f = h.2 in cc
  constant_fits (sub x l r) h = let f = h.2 in cc

  module _ (is : List ConditionItem) where
    abbrev pub Row : Atoms → Type 0
    Row p = ConditionsFit p c is

    abbrev pub Mixed : Atoms → Type 0
    Mixed p = HasPart p × ConditionsFit p c is

    -- a constant and then a row of a property, or another condition and then any row
    abbrev WithConstant : (Atoms → Type 0) → Atoms → Type 0
    WithConstant T = IsMade more (IsConstantOf i) T

    abbrev WithPart : Atoms → Type 0
    WithPart = IsMade more (IsPartOf c i) Row

    row_splits : (p : Atoms) → ConditionsFit p c (i ∷ is) → WithConstant Row p ⊎ WithPart p
    row_splits end h = absurd h
    row_splits (more (constant t) q) h = inl (constant t, q, (t, h.0, refl), h.1, refl)
    row_splits (more (whole x) q) h = inr (whole x, q, (tt, h.0), h.1, refl)
    row_splits (more (sub x l r) q) h = inr (sub x l r, q, (tt, h.0), h.1, refl)

    mixed_splits : (p : Atoms) → HasPart p × ConditionsFit p c (i ∷ is) → WithConstant Mixed p ⊎ WithPart p
    mixed_splits end h = absurd h.0
    mixed_splits (more (constant t) q) h = elim h.0 [ inl f ↦ absurd f | inr f ↦ inl (constant t, q, (t, h.1.0, refl), (f, h.1.1), refl) ]
    mixed_splits (more (whole x) q) h = inr (whole x, q, (tt, h.1.0), h.1.1, refl)
    mixed_splits (more (sub x l r) q) h = inr (sub x l r, q, (tt, h.1.0), h.1.1, refl)

    constant_row : (p : Atoms) → WithConstant Row p → ConditionsFit p c (i ∷ is)
    constant_row p h = subst (λ q. ConditionsFit q c (i ∷ is)) h.4 (constant_fits h.0 h.2, h.3)

    part_row : (p : Atoms) → WithPart p → ConditionsFit p c (i ∷ is)
    part_row p h = subst (λ q. ConditionsFit q c (i ∷ is)) h.4 (h.2.1, h.3)

    constant_mixed : (p : Atoms) → WithConstant Mixed p → HasPart p × ConditionsFit p c (i ∷ is)
    constant_mixed p h = subst (λ q. HasPart q × ConditionsFit q c (i ∷ is)) h.4 (inr h.3.0, (constant_fits h.0 h.2, h.3.1))

    part_mixed : (p : Atoms) → WithPart p → HasPart p × ConditionsFit p c (i ∷ is)
    part_mixed p h = subst (λ q. HasPart q × ConditionsFit q c (i ∷ is)) h.4 (inl h.2.0, (h.2.1, h.3))

    module _ (k : ℕ) (T : Atoms → Type 0) (xs us : List (Costed AtomTree)) (ys vs : List (Costed Atoms)) (constants : AreConstantsOf prices i k xs) (after : AreCheapest (conditions_cost prices) atoms_cmp T k ys)
        (parts : AreFirstParts prices c i k us) (any : AreCheapest (conditions_cost prices) atoms_cmp Row k vs) where
      adds_constant : (a : AtomTree) (p : Atoms) → IsConstantOf i a → T p → conditions_cost prices (more a p) ≡ 0 + fixed_cost prices a + conditions_cost prices p
      adds_constant a p h t = let paid = constant_cost prices i a h in omega arith

      adds_part : (a : AtomTree) (p : Atoms) → IsPartOf c i a → Row p → conditions_cost prices (more a p) ≡ prices.condition + atom_cost prices a + conditions_cost prices p
      adds_part a p h t = let paid = part_cost prices a h.0 in omega arith

      put_rows : (W : Atoms → Type 0) (zs : List (Costed Atoms)) → ((p : Atoms) → W p → WithConstant T p ⊎ WithPart p) → ((p : Atoms) → WithConstant T p → W p) → ((p : Atoms) → WithPart p → W p) →
          AreFirst (by_cost atoms_cmp) (λ z. IsMade (linked more 0) (Contains xs) (Contains ys) z ⊎ IsMade (linked more prices.condition) (Contains us) (Contains vs) z) k zs → AreCheapest (conditions_cost prices) atoms_cmp W k zs
      put_rows W zs split left right made =
          let total = by_cost-total atoms_cmp atoms_total in
          let exact = by_cost-exact atoms_cmp exact_atom_lists in
          let second =
          first_of_made atom_cmp atoms_cmp atoms_cmp (atom_total, atoms_total, atoms_total) exact_atom_lists more (λ a b p q. refl) prices.condition (atom_cost prices) (conditions_cost prices) (conditions_cost prices)
          (IsPartOf c i) Row WithPart (λ a p h t. (a, p, h, t, refl)) (λ p h. h) adds_part k us vs parts any (IsMade (linked more 0) (Contains xs) (Contains ys)) zs made in
          let turned =
          first_same (by_cost atoms_cmp) total exact (λ z. IsMade (linked more 0) (Contains xs) (Contains ys) z ⊎ Priced (conditions_cost prices) WithPart z) k zs second
          (λ z. Priced (conditions_cost prices) WithPart z ⊎ IsMade (linked more 0) (Contains xs) (Contains ys) z)
          (λ z h. elim h [ inl a ↦ inr a | inr b ↦ inl b ]) (λ z h. elim h [ inl b ↦ inr b | inr a ↦ inl a ]) in
          let both =
          first_of_made atom_cmp atoms_cmp atoms_cmp (atom_total, atoms_total, atoms_total) exact_atom_lists more (λ a b p q. refl) 0 (fixed_cost prices) (conditions_cost prices) (conditions_cost prices)
          (IsConstantOf i) T (WithConstant T) (λ a p h t. (a, p, h, t, refl)) (λ p h. h) adds_constant k xs ys constants after (Priced (conditions_cost prices) WithPart) zs turned in
          first_same (by_cost atoms_cmp) total exact (λ z. Priced (conditions_cost prices) WithPart z ⊎ Priced (conditions_cost prices) (WithConstant T) z) k zs both (Priced (conditions_cost prices) W)
          (λ z h. elim h [ inl b ↦ (b.0, right z.item b.1) | inr a ↦ (a.0, left z.item a.1) ])
          (λ z w. elim (split z.item w.1) [ inl a ↦ inr (w.0, a) | inr b ↦ inl (w.0, b) ])

      module _ (made : IsWellMade c) (n : ℕ) (older : EachIn (IsConditionItem c n) (i ∷ is)) (short : length (i ∷ is) ≤ 3) where
        cheap_row : (p : Atoms) → ConditionsFit p c (i ∷ is) → conditions_cost prices p < 2 ^ 64
        cheap_row p fits = row_present prices small c made n (i ∷ is) p older short fits

        pub constants_cheap : ((p : Atoms) → T p → Row p) → (x : Costed AtomTree) (y : Costed Atoms) → Contains xs x → Contains ys y → 0 + x.cost + y.cost < 2 ^ 64
        constants_cheap row = made_cheap atom_cmp atoms_cmp atoms_cmp (atom_total, atoms_total, atoms_total) exact_atom_lists more (λ a b p q. refl) 0 (fixed_cost prices) (conditions_cost prices) (conditions_cost prices)
            (IsConstantOf i) T (WithConstant T) (λ a p h t. (a, p, h, t, refl)) (λ p h. h) adds_constant k xs ys constants after
            (λ p h. cheap_row p (constant_row p (h.0, h.1, h.2, row h.1 h.3, h.4)))

        pub parts_cheap : (x : Costed AtomTree) (y : Costed Atoms) → Contains us x → Contains vs y → prices.condition + x.cost + y.cost < 2 ^ 64
        parts_cheap = made_cheap atom_cmp atoms_cmp atoms_cmp (atom_total, atoms_total, atoms_total) exact_atom_lists more (λ a b p q. refl) prices.condition (atom_cost prices) (conditions_cost prices) (conditions_cost prices)
            (IsPartOf c i) Row WithPart (λ a p h t. (a, p, h, t, refl)) (λ p h. h) adds_part k us vs parts any (λ p h. cheap_row p (part_row p h))

    pub rows_in_front : (k : ℕ) (xs us : List (Costed AtomTree)) (rows made : Rows) → AreConstantsOf prices i k xs → AreFirstParts prices c i k us → AreFirstRows prices c is k rows →
        AreFirst (by_cost atoms_cmp) (λ z. IsMade (linked more 0) (Contains xs) (Contains rows.any.items) z ⊎ IsMade (linked more prices.condition) (Contains us) (Contains rows.any.items) z) k made.any.items →
        AreFirst (by_cost atoms_cmp) (λ z. IsMade (linked more 0) (Contains xs) (Contains rows.mixed.items) z ⊎ IsMade (linked more prices.condition) (Contains us) (Contains rows.any.items) z) k made.mixed.items →
        AreFirstRows prices c (i ∷ is) k made
    rows_in_front k xs us rows made constants parts are any mixed = record {
      any = put_rows k Row xs us rows.any.items rows.any.items constants are.any parts are.any (λ p. ConditionsFit p c (i ∷ is)) made.any.items row_splits constant_row part_row any;
      mixed = put_rows k Mixed xs us rows.mixed.items rows.any.items constants are.mixed parts are.any (λ p. HasPart p × ConditionsFit p c (i ∷ is)) made.mixed.items
          mixed_splits constant_mixed part_mixed mixed;
    }

-- the conditions of an item that are no constants are those of its set
module _ (prices : Prices) (c : List Entry) (i : ConditionItem) where
  part_there : (s : ℕ) → i.atoms ≡ Some s → (a : AtomTree) → IsPart a × AtomStands c s a → IsPartOf c i a
  part_there s is (constant t) h = absurd h.0
  part_there s is (whole x) h = (tt, (s, is, h.1))
  part_there s is (sub x p q) h = (tt, (s, is, h.1))

  there_part : (s : ℕ) → i.atoms ≡ Some s → (a : AtomTree) → IsPartOf c i a → IsPart a × AtomStands c s a
  there_part s is (constant t) h = absurd h.0
  there_part s is (whole x) h = let other = h.1.1 in let e : h.1.0 ≡ s = cc in (tt, subst (λ n. AtomStands c n (whole x)) e h.1.2)
  there_part s is (sub x p q) h = let other = h.1.1 in let e : h.1.0 ≡ s = cc in (tt, subst (λ n. AtomStands c n (sub x p q)) e h.1.2)

  no_part_there : i.atoms ≡ None → (a : AtomTree) → ¬ (IsPartOf c i a)
  no_part_there is (constant t) h = h.0
  no_part_there is (whole x) h = let other = h.1.1 in cc
  no_part_there is (sub x p q) h = let other = h.1.1 in cc

  pub part_listed : (s : ℕ) → i.atoms ≡ Some s → (k : ℕ) (xs : List (Costed AtomTree)) → AreCheapest (atom_cost prices) atom_cmp (PartStands c s) k xs → AreFirstParts prices c i k xs
  part_listed s is k xs = cheapest_same (atom_cost prices) atom_cmp atom_total exact_atoms k (PartStands c s) (IsPartOf c i) xs (part_there s is) (there_part s is)

  pub no_part_listed : i.atoms ≡ None → (k : ℕ) → AreFirstParts prices c i k []
  no_part_listed is k = cheapest_none (atom_cost prices) atom_cmp atom_total exact_atoms k (IsPartOf c i) (no_part_there is)
