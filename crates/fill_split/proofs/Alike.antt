-- folds in another maker, and folds with other values
use Rattle.std.proofs.Common.{◌≡◌, ◌↔◌, ℕ, inl, inr, ⊎_elim, List, [], ◌∷◌, ◌++◌, Some, refl, sym, ap, ◌∙◌, subst}
use Rattle.std.specs.Prelude.{slice_get, slice_set}
use Rattle.std.specs.List.{AllZip, All}
use Rattle.std.proofs.lemmas.Option.{slice_get-get_or}
use Rattle.fill_split.specs.declared.folds.Fold.{Fold}
use Rattle.fill_split.specs.declared.folds.Folds.{Folds}
use Rattle.fill_split.specs.declared.maker.Maker.{Ghosts}
use Rattle.fill_split.specs.declared.rule.Placing.{Placing}
use Rattle.fill_split.specs.declared.rule.Placing.TheVariants.{First, Lightest}
use Rattle.fill_split.specs.Placement.{Prefers, GoesTo, NoneFits, Follows, PlacedFrom}
use Rattle.fill_split.specs.Standing.{Spot, spots, BranchStands, AllStand, ComesTo, Came, Stand, FoldsStand, kept_of}
use Rattle.fill_split.specs.Renewal.{IsRenewedBranch}
use Rattle.fill_split.specs.LawsOfFolds.{FoldsStay, RenewedStand, PlacedOnce}
use Rattle.fill_split.proofs.Zips.{zip_lengths, zip_some}
use Rattle.fill_split.proofs.Pairs.{live}
use Rattle.fill_split.proofs.Coming.{stand_keeps}
use Rattle.fill_split.proofs.Unique.{placed_once}

pub folds_stay : {S I K T B : Type 0} (m : Ghosts S I K T B) → FoldsStay m
folds_stay m a b base keeps items folds s =
    subst (λ c. Stand (m.stands b) folds.rule (m.fits c) (m.weight c) items folds.kept.items folds.places folds.branches.items) (sym base)
    (stand_keeps (m.stands a) (m.stands b) folds.rule (m.fits (m.base a)) (m.weight (m.base a)) keeps items folds.kept.items folds.places folds.branches.items s)

pub placed_once_in : {S I K T B : Type 0} (m : Ghosts S I K T B) → PlacedOnce m
placed_once_in m b rule items n o p q = placed_once rule (m.fits b) (m.weight b) [] items n o p q

module _ {I : Type 0} (fits fits' : List I → Type 0) (weight weight' : List I → ℕ → Type 0) (f : (l : List I) → fits l ↔ fits' l) (w : (l : List I) (n : ℕ) → weight l n ↔ weight' l n) where
  prefers_alike : (rule : Placing) (bs : List (List I)) (x : I) (k : ℕ) (b : List I) → Prefers rule fits weight bs x k b → Prefers rule fits' weight' bs x k b
  prefers_alike First bs x k b p = λ j c l h t. p j c l h ((f (c ++ x ∷ [])).1 t)
  prefers_alike Lightest bs x k b p =
      λ j c ne h t.
      let q = p j c ne h ((f (c ++ x ∷ [])).1 t) in
      (q.0, q.1, (w (b ++ x ∷ []) q.0).0 q.2, (w (c ++ x ∷ []) q.1).0 q.3, λ u g. q.4 u ((w (c ++ x ∷ []) u).1 g))

  goes_alike : (rule : Placing) (bs : List (List I)) (x : I) (k : ℕ) (b : List I) → GoesTo rule fits weight bs x k b → GoesTo rule fits' weight' bs x k b
  goes_alike rule bs x k b g = record { here = g.here; fitting = (f (b ++ x ∷ [])).0 g.fitting; preferred = prefers_alike rule bs x k b g.preferred }

  none_alike : (bs : List (List I)) (x : I) → NoneFits fits bs x → NoneFits fits' bs x
  none_alike bs x n = λ j b e t. n j b e ((f (b ++ x ∷ [])).1 t)

  placed_alike : (rule : Placing) (so_far : List (List I)) (xs : List I) (end : List (List I)) → PlacedFrom rule fits weight so_far xs end → PlacedFrom rule fits' weight' so_far xs end
  placed_alike rule so_far [] end p = p
  placed_alike rule so_far (x ∷ xs) end p =
      let q : Follows rule fits' weight' so_far x p.0 = ⊎_elim (λ g. inl (g.0, g.1, goes_alike rule so_far x g.0 g.1 g.2, g.3)) (λ o. inr (none_alike so_far x o.0, o.1)) p.1 in
      (p.0, q, placed_alike rule p.0 xs end p.2)

  module _ {K : Type 0} (sa sb : K → List I → Type 0) (rule : Placing) where
    comes_renewed : (bs : List (List I)) (x : I) (p q : Spot K) (next : List (List I)) → q.branch ≡ p.branch → ((l : List I) → sa p.one l → sb q.one l) → ((l : List I) → sa p.kept l → sb q.kept l) → ComesTo sa rule fits weight bs x p next → ComesTo sb rule fits' weight' bs x q next
    comes_renewed bs x p q next e one kept s =
        record {
          one = one (x ∷ []) s.one;
          list = s.list;
          kept = kept s.list s.kept;
          how = ⊎_elim
              (λ h. inl (e ∙ h.0, h.1, h.2, none_alike bs x h.3))
              (λ h. inr (h.0, subst (λ n. GoesTo rule fits' weight' bs x n h.0) (sym e) (goes_alike rule bs x p.branch h.0 h.1), h.2, subst (λ n. next ≡ slice_set bs n s.list) (sym e) h.3))
              s.how;
        }

    came_renewed : (so_far : List (List I)) (xs : List I) (ks vs : List K) (ps : List ℕ) (end : List (List I)) → AllZip (λ k v. (l : List I) → sa k l → sb v l) ks vs → Came sa rule fits weight so_far xs (spots ks ps) end → Came sb rule fits' weight' so_far xs (spots vs ps) end
    came_renewed so_far [] [] [] ps end z c = c
    came_renewed so_far (x ∷ xs) [] [] ps end z c = absurd c
    came_renewed so_far xs [] (v ∷ vs) ps end z c = absurd z
    came_renewed so_far xs (k ∷ ks) [] ps end z c = absurd z
    came_renewed so_far [] (k ∷ []) (v ∷ []) ps end z c = c
    came_renewed so_far (x ∷ xs) (k ∷ []) (v ∷ []) ps end z c = absurd c
    came_renewed so_far xs (k ∷ []) (v ∷ u ∷ vs) ps end z c = absurd z.1
    came_renewed so_far xs (k ∷ j ∷ ks) (v ∷ []) ps end z c = absurd z.1
    came_renewed so_far [] (k ∷ j ∷ ks) (v ∷ u ∷ vs) [] end z c = c
    came_renewed so_far (x ∷ xs) (k ∷ j ∷ ks) (v ∷ u ∷ vs) [] end z c = absurd c
    came_renewed so_far [] (k ∷ j ∷ ks) (v ∷ u ∷ vs) (p ∷ ps) end z c = absurd c
    came_renewed so_far (x ∷ xs) (k ∷ j ∷ ks) (v ∷ u ∷ vs) (p ∷ ps) end z c =
        (c.0, comes_renewed so_far x (record { one = k; branch = p; kept = j }) (record { one = v; branch = p; kept = u }) c.0 refl z.0 z.1.0 c.1, came_renewed c.0 xs ks vs ps end z.1.1 c.2)

    module _ (ks vs : List K) (z : AllZip (λ k v. (l : List I) → sa k l → sb v l) ks vs) (items : List I) where
      branch_renewed : (g h : Fold K) (b : List I) → BranchStands sa items ks g b → IsRenewedBranch vs g h → BranchStands sb items vs h b
      branch_renewed g h b s r =
          let q = zip_some (λ k v. (l : List I) → sa k l → sb v l) ks vs g.place s.listed.0 z s.listed.1 in
          let st = q.2 b s.listed.2 in
          record {
            kept = subst (λ k. sb k b) (sym (r.kept q.0 q.1)) st;
            picked = subst (λ l. AllZip (λ i x. slice_get items i ≡ Some x) l b) (sym r.items) s.picked;
            listed = (q.0, ap (λ n. slice_get vs n) r.place ∙ q.1, st);
          }

      all_renewed : (gs hs : List (Fold K)) (bs : List (List I)) → AllStand sa items ks gs bs → AllZip (IsRenewedBranch vs) gs hs → AllStand sb items vs hs bs
      all_renewed [] [] [] s r = tt
      all_renewed [] [] (b ∷ bs) s r = absurd s
      all_renewed [] (h ∷ hs) bs s r = absurd r
      all_renewed (g ∷ gs) [] bs s r = absurd r
      all_renewed (g ∷ gs) (h ∷ hs) [] s r = absurd s
      all_renewed (g ∷ gs) (h ∷ hs) (b ∷ bs) s r = (branch_renewed g h b s.0 r.0, all_renewed gs hs bs s.1 r.1)

      stand_renewed : (places : List ℕ) (gs hs : List (Fold K)) → AllZip (IsRenewedBranch vs) gs hs → Stand sa rule fits weight items ks places gs → Stand sb rule fits' weight' items vs places hs
      stand_renewed places gs hs r s =
          record {
            branches = s.branches;
            placed = placed_alike rule [] items s.branches s.placed;
            few = s.few;
            each = all_renewed gs hs s.branches s.each r;
            came = came_renewed [] items ks vs places s.branches z s.came;
            paired = zip_lengths (λ k v. (l : List I) → sa k l → sb v l) ks vs z ∙ s.paired;
          }

pub renewed_stand : {S I K T B : Type 0} (m : Ghosts S I K T B) → RenewedStand m
renewed_stand m a b items ks before after mean z is s =
    let t = stand_renewed (m.fits (m.base a)) (m.fits (m.base b)) (m.weight (m.base a)) (m.weight (m.base b)) mean.fits mean.weight (m.stands a) (m.stands b) before.rule before.kept.items ks z items before.places before.branches.items after.branches.items is.branches s in
    rw (is.rule, is.kept, is.places) t

-- each kept value stands for a list
pub kept_live : {S I K T B : Type 0} (m : Ghosts S I K T B) (maker : S) (items : List I) (folds : Folds S I K T B) → FoldsStand m maker items folds → All (λ k. (l : List I) × m.stands maker k l) (kept_of folds)
kept_live m maker items folds s =
    λ j d h. live (m.stands maker) folds.rule (m.fits (m.base maker)) (m.weight (m.base maker)) items folds.kept.items folds.places s.branches s.paired s.came j _ (slice_get-get_or folds.kept.items j d h)
