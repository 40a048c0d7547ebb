-- The best chain of two properties together.
use Rattle.std.proofs.Common.{◌≡◌, ◌⊎◌, ℕ, Option, Some, None, inl, inr, ap, sym, subst, ◌∙◌}
use Rattle.std.specs.declared.cmp.Ordering.TheVariants.{Less}
use Rattle.std.specs.Ordering.{nat_cmp, ordering_then}
use Rattle.std.specs.Cmp.{IsTotalOrder}
use Rattle.std.proofs.lemmas.Map.Lookups.{CmpEqualImpliesEq}
use Rattle.fill_tree.specs.Meaning.{program_tree}
use Rattle.fill_tree.specs.Order.{atoms_cmp, rank, chain_rank}
use Rattle.fill_tree.specs.Tree.{Atoms}
use Rattle.fill_tree.proofs.Ranked.{rank_total, rank_exact}
use Rattle.fill_tree.proofs.TreeOrder.{atoms_total, exact_atom_lists}
use Rattle.fill_arena.specs.Best.{IsLesser}
use Rattle.fill_arena.proofs.Best.{at_most-not_less, best_first, best_same, best_second, left_only, right_only}
use Rattle.fill_rank.specs.Sets.{IsBestChain}
use Rattle.fill_tree.specs.declared.chain.Chain.{Chain}

-- chains, by the cost that they carry
module _ (cost : Atoms → ℕ) (P Q S : Atoms → Type 0) (split : (z : Atoms) → S z → P z ⊎ Q z) (left : (z : Atoms) → P z → S z) (right : (z : Atoms) → Q z → S z) where
  same_rank : (x y : Chain) → x.cost ≡ cost (program_tree x.atoms) → y.cost ≡ cost (program_tree y.atoms) → chain_rank x y ≡ rank cost atoms_cmp (program_tree x.atoms) (program_tree y.atoms)
  same_rank x y p q = ap (λ n. ordering_then (nat_cmp n y.cost) (atoms_cmp (program_tree x.atoms) (program_tree y.atoms))) p
      ∙ ap (λ n. ordering_then (nat_cmp (cost (program_tree x.atoms)) n) (atoms_cmp (program_tree x.atoms) (program_tree y.atoms))) q

  total : IsTotalOrder (rank cost atoms_cmp)
  total = rank_total cost atoms_cmp atoms_total

  exact : CmpEqualImpliesEq (rank cost atoms_cmp)
  exact = rank_exact cost atoms_cmp exact_atom_lists

  pub chains_lesser : (a b r : Option Chain) → IsLesser chain_rank a b r → IsBestChain cost P a → IsBestChain cost Q b → IsBestChain cost S r
  chains_lesser None None r is p q = subst (IsBestChain cost S) (sym is) (λ z s. elim (split z s) [ inl h ↦ p z h | inr h ↦ q z h ])
  chains_lesser None (Some y) r is p q = subst (IsBestChain cost S) (sym is)
      (q.0, best_same (rank cost atoms_cmp) total exact Q S (right_only (rank cost atoms_cmp) total exact P Q S split p) right (program_tree y.atoms) q.1)
  chains_lesser (Some x) None r is p q = subst (IsBestChain cost S) (sym is)
      (p.0, best_same (rank cost atoms_cmp) total exact P S (left_only (rank cost atoms_cmp) total exact P Q S split q) left (program_tree x.atoms) p.1)
  chains_lesser (Some x) (Some y) r (inl is) p q =
      let less : rank cost atoms_cmp (program_tree y.atoms) (program_tree x.atoms) ≡ Less = sym (same_rank y x q.0 p.0) ∙ is.1 in
      subst (IsBestChain cost S) (sym is.0) (q.0, best_second (rank cost atoms_cmp) total exact P Q S split right (program_tree x.atoms) (program_tree y.atoms) p.1 q.1 (inl less))
  chains_lesser (Some x) (Some y) r (inr is) p q =
      let not : ¬ (rank cost atoms_cmp (program_tree y.atoms) (program_tree x.atoms) ≡ Less) = λ h. is.1 (same_rank y x q.0 p.0 ∙ h) in
      subst (IsBestChain cost S) (sym is.0) (
        p.0,
        best_first (rank cost atoms_cmp) total exact P Q S split left (program_tree x.atoms) (program_tree y.atoms) p.1 q.1
            (at_most-not_less (rank cost atoms_cmp) total exact (program_tree x.atoms) (program_tree y.atoms) not),
      )
