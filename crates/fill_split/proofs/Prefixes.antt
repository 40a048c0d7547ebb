-- the branches of the first items, from their spots
use Rattle.std.proofs.Common.{◌≡◌, ℕ, ◌+◌, ◌<◌, ◌≤◌, ⊎_elim, List, [], ◌∷◌, ◌++◌, length, set, take, Some, sym, ap, ◌∙◌, subst, arith}
use Rattle.std.specs.Prelude.{slice_get}
use Rattle.std.proofs.lemmas.Option.{slice_get_within}
use Rattle.std.proofs.lemmas.List.{take_all, length-take-le}
use Rattle.fill_split.specs.declared.folds.Fold.{Fold}
use Rattle.fill_split.specs.declared.rule.Placing.{Placing}
use Rattle.fill_split.specs.Standing.{Spot, BranchStands, AllStand, ComesTo, Came}
use Rattle.fill_split.proofs.Zips.{zip_lengths, take_next}
use Rattle.fill_split.proofs.Coming.{came_long, came_last, came_front, all_joined, all_opened}

-- the branches are those of any items that came to the first i spots
pub record Rebuilt {K I : Type 0} (stands : K → List I → Type 0) (fits : List I → Type 0) (weight : List I → ℕ → Type 0) (ks : List K) (spots : List (Spot K)) (i : ℕ) (folds : List (Fold K)) : Type 0 where
  pub each : (rule : Placing) (items : List I) (bs : List (List I)) → Came stands rule fits weight [] items (take i spots) bs → AllStand stands items ks folds bs

module _ {K I : Type 0} (stands : K → List I → Type 0) (fits : List I → Type 0) (weight : List I → ℕ → Type 0) (ks : List K) (spots : List (Spot K)) where
  no_items : (rule : Placing) (items : List I) (bs : List (List I)) → Came stands rule fits weight [] items [] bs → AllStand stands items ks [] bs
  no_items rule [] bs c = subst (λ v. AllStand stands [] ks [] v) (sym c) tt
  no_items rule (x ∷ xs) bs c = absurd c

  pub rebuilt_start : (folds : List (Fold K)) → folds ≡ [] → Rebuilt stands fits weight ks spots 0 folds
  rebuilt_start folds e = rw e (record { each = λ rule items bs c. no_items rule items bs c })

  pub rebuilt_end : (i : ℕ) (folds : List (Fold K)) → length spots ≤ i → Rebuilt stands fits weight ks spots i folds → (rule : Placing) (items : List I) (bs : List (List I)) → Came stands rule fits weight [] items spots bs → AllStand stands items ks folds bs
  rebuilt_end i folds h r rule items bs c = r.each rule items bs (rw (take_all i spots h) c)

  module _ (i : ℕ) (p : Spot K) (at : slice_get spots i ≡ Some p) (folds : List (Fold K)) (r : Rebuilt stands fits weight ks spots i folds) where
    next_place : (rule : Placing) (xs : List I) (mid : List (List I)) → Came stands rule fits weight [] xs (take i spots) mid → i ≡ length xs
    next_place rule xs mid c =
        let w = slice_get_within spots i p at in
        let li = came_long stands rule fits weight [] xs (take i spots) mid c in
        let lt = length-take-le i spots (omega arith) in
        omega arith

    module _ (g : Fold K) (after : List (Fold K)) (gk : g.kept ≡ p.kept) (listed : slice_get ks g.place ≡ Some p.kept) where
      -- a spot that opens a branch
      opened : (rule : Placing) → p.branch ≡ length folds → after ≡ folds ++ g ∷ [] → g.items ≡ i ∷ [] → (items xs : List I) (x : I) (mid bs : List (List I)) → items ≡ xs ++ x ∷ [] → Came stands rule fits weight [] xs (take i spots) mid → ComesTo stands rule fits weight mid x p bs → AllStand stands items ks after bs
      opened rule new is gi items xs x mid bs e c step =
          let all = r.each rule xs mid c in
          let lf = zip_lengths (BranchStands stands xs ks) folds mid all in
          ⊎_elim
          (λ h.
          let kept = subst (λ v. stands p.kept v) h.1 step.kept in
          let a = all_opened stands xs x ks ks (λ j k q. q) folds mid all g p.kept gk listed kept (gi ∙ ap (λ n. n ∷ []) (next_place rule xs mid c)) in
          rw (e, is, h.2, h.1) a)
          (λ h. let w = slice_get_within mid p.branch h.0 h.1.here in absurd (omega arith))
          step.how

      pub rebuilt_open : p.branch ≡ length folds → after ≡ folds ++ g ∷ [] → g.items ≡ i ∷ [] → Rebuilt stands fits weight ks spots (i + 1) after
      rebuilt_open new is gi =
          record {
            each = λ rule items bs c.
                let z = came_last stands rule fits weight [] items (take i spots) bs p (subst (λ ps. Came stands rule fits weight [] items ps bs) (take_next spots i p at) c) in
                opened rule new is gi items z.0 z.1 z.2 bs z.3 z.4 z.5;
          }

      -- a spot that joins one
      joined : (rule : Placing) (f : Fold K) → (p.branch ≡ length folds → ⊥) → slice_get folds p.branch ≡ Some f → after ≡ set folds p.branch g → g.items ≡ f.items ++ i ∷ [] → (items xs : List I) (x : I) (mid bs : List (List I)) → items ≡ xs ++ x ∷ [] → Came stands rule fits weight [] xs (take i spots) mid → ComesTo stands rule fits weight mid x p bs → AllStand stands items ks after bs
      joined rule f old here is gi items xs x mid bs e c step =
          let all = r.each rule xs mid c in
          let lf = zip_lengths (BranchStands stands xs ks) folds mid all in
          ⊎_elim
          (λ h. absurd (old (h.0 ∙ lf)))
          (λ h.
          let kept = subst (λ v. stands p.kept v) h.2 step.kept in
          let a = all_joined stands xs x ks ks (λ j k q. q) folds mid all g p.kept gk listed p.branch f h.0 here h.1.here kept (gi ∙ ap (λ n. f.items ++ n ∷ []) (next_place rule xs mid c)) in
          rw (e, is, h.3, h.2) a)
          step.how

      pub rebuilt_join : (f : Fold K) → (p.branch ≡ length folds → ⊥) → slice_get folds p.branch ≡ Some f → after ≡ set folds p.branch g → g.items ≡ f.items ++ i ∷ [] → Rebuilt stands fits weight ks spots (i + 1) after
      rebuilt_join f old here is gi =
          record {
            each = λ rule items bs c.
                let z = came_last stands rule fits weight [] items (take i spots) bs p (subst (λ ps. Came stands rule fits weight [] items ps bs) (take_next spots i p at) c) in
                joined rule f old here is gi items z.0 z.1 z.2 bs z.3 z.4 z.5;
          }

    -- a spot that opens no branch joins one that is there
    pub branch_is_there : (rule : Placing) (items : List I) (bs : List (List I)) → Came stands rule fits weight [] items spots bs → (p.branch ≡ length folds → ⊥) → p.branch < length folds
    branch_is_there rule items bs c n =
        let front = came_front stands rule fits weight (i + 1) [] items spots bs c in
        let z = came_last stands rule fits weight [] (take (i + 1) items) (take i spots) front.0 p (subst (λ ps. Came stands rule fits weight [] (take (i + 1) items) ps front.0) (take_next spots i p at) front.1) in
        let lf = zip_lengths (BranchStands stands z.0 ks) folds z.2 (r.each rule z.0 z.2 z.4) in
        ⊎_elim (λ h. absurd (n (h.0 ∙ lf))) (λ h. let w = slice_get_within z.2 p.branch h.0 h.1.here in omega arith) z.5.how
