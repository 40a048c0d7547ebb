-- Small steps of the proofs about sets: what is kept of conditions.
use Rattle.std.proofs.Common.{◌≡◌, ◌⊎◌, ℕ, List, Option, Some, None, option_map, inl, inr, ap, subst, ◌∙◌}
use Rattle.fill_tokens.specs.declared.prices.Prices.{Prices}
use Rattle.fill_tree.specs.Grammar.{HasPart, IsPart}
use Rattle.fill_tree.specs.Meaning.{atom_tree}
use Rattle.fill_tree.specs.Tree.{SourceTree, AtomTree, Atoms, col, select, constant, whole, sub}
use Rattle.fill_tree.specs.declared.tree.Atom.{Atom}
use Rattle.fill_tree.specs.declared.tree.Atom.TheVariants.{Const}
use Rattle.fill_arena.specs.Stands.{AtomFits, AtomStands, ConditionFits, ConditionsFit, SourceFits, ConstantStands, PartStands}
use Rattle.fill_arena.specs.declared.entry.ConditionItem.{ConditionItem}
use Rattle.fill_arena.specs.declared.entry.Entry.{Entry}
use Rattle.fill_arena.specs.declared.entry.SelectItem.{SelectItem}
use Rattle.fill_arena.specs.declared.entry.SourceItem.TheVariants.{Select}
use Rattle.fill_arena.specs.Best.{IsBest, IsBestOf, IsLesser}
use Rattle.fill_tree.specs.Order.{atom_rank}
use Rattle.fill_rank.specs.Sets.{IsBestPart, IsConstantOf}
use Rattle.fill_arena.proofs.Best.{best_lesser}
use Rattle.fill_tree.proofs.Ranked.{atom_rank-total, atom_rank-exact}
use Rattle.fill_arena.proofs.Trees.{constant_tree}

pub constant_kept : (i : ConditionItem) (text copied : List ℕ) → i.constant ≡ Some text → copied ≡ text → IsConstantOf i (Some (Const copied))
constant_kept i text copied is e = (text, is, constant_tree copied ∙ ap constant e)

module _ (prices : Prices) (c : List Entry) (i : ConditionItem) where
  part_there : (s : ℕ) → i.atoms ≡ Some s → (a : AtomTree) → PartStands c s a → IsPart a × ConditionFits a c i (AtomFits a c)
  part_there s is (constant t) h = absurd h.0
  part_there s is (whole x) h = (tt, (s, is, h.1))
  part_there s is (sub x p q) h = (tt, (s, is, h.1))

  there_part : (s : ℕ) → i.atoms ≡ Some s → (a : AtomTree) → IsPart a × ConditionFits a c i (AtomFits a c) → PartStands c s a
  there_part s is (constant t) h = absurd h.0
  there_part s is (whole x) h = let other = h.1.1 in let e : h.1.0 ≡ s = cc in (tt, subst (λ n. AtomStands c n (whole x)) e h.1.2)
  there_part s is (sub x p q) h = let other = h.1.1 in let e : h.1.0 ≡ s = cc in (tt, subst (λ n. AtomStands c n (sub x p q)) e h.1.2)

  no_part_there : i.atoms ≡ None → (a : AtomTree) → ¬ (IsPart a × ConditionFits a c i (AtomFits a c))
  no_part_there is (constant t) h = h.0
  no_part_there is (whole x) h = let other = h.1.1 in cc
  no_part_there is (sub x p q) h = let other = h.1.1 in cc

  pub part_kept : (s : ℕ) → i.atoms ≡ Some s → (o : Option Atom) → IsBestOf atom_tree (atom_rank prices) (PartStands c s) o → IsBestPart prices c i o
  part_kept s is None h = λ a fits. h a (there_part s is a fits)
  part_kept s is (Some x) h = record { has = part_there s is (atom_tree x) h.has; least = λ a fits. h.least a (there_part s is a fits) }

  pub no_part_kept : i.atoms ≡ None → IsBestPart prices c i None
  no_part_kept is = no_part_there is

pub no_lookup : (c : List Entry) (i : SelectItem) → ((p : Atoms) → ¬ (HasPart p × ConditionsFit p c i.conditions)) → ¬ ((s : SourceTree) × SourceFits s c (Select i))
no_lookup c i none h = fits h.0 h.1
  where
    fits : (s : SourceTree) → ¬ (SourceFits s c (Select i))
    fits (col n) f = f
    fits (select a b d q) f = none q (f.3, f.4)

pub copied_best : (prices : Prices) (P : AtomTree → Type 0) (o copied : Option Atom) → option_map atom_tree copied ≡ option_map atom_tree o → IsBestOf atom_tree (atom_rank prices) P o → IsBestOf atom_tree (atom_rank prices) P copied
copied_best prices P None None e h = h
copied_best prices P None (Some y) e h = cc
copied_best prices P (Some x) None e h = cc
copied_best prices P (Some x) (Some y) e h = let same : atom_tree x ≡ atom_tree y = cc in subst (IsBest (atom_rank prices) P) same h

module _ (prices : Prices) (c : List Entry) (s : ℕ) where
  either : (a : AtomTree) → AtomStands c s a → ConstantStands c s a ⊎ PartStands c s a
  either (constant t) h = inl ((λ p. p), h)
  either (whole x) h = inr (tt, h)
  either (sub x p q) h = inr (tt, h)

  pub atom_best : (fixed part made : Option Atom) → IsLesser (λ x y. atom_rank prices (atom_tree x) (atom_tree y)) fixed part made →
      IsBestOf atom_tree (atom_rank prices) (ConstantStands c s) fixed → IsBestOf atom_tree (atom_rank prices) (PartStands c s) part → IsBestOf atom_tree (atom_rank prices) (AtomStands c s) made
  atom_best fixed part made = best_lesser (atom_rank prices) (atom_rank-total prices) (atom_rank-exact prices) atom_tree (ConstantStands c s) (PartStands c s) (AtomStands c s) either (λ a h. h.1) (λ a h. h.1) fixed part made
