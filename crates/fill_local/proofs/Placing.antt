-- How items are placed, beside other items that fit likewise.
use Rattle.std.proofs.Common.{◌≡◌, ℕ, List, [], ◌∷◌, ◌++◌, Some, inl, inr, refl, subst, sym}
use Rattle.std.specs.Prelude.{slice_get, slice_set}
use Rattle.std.specs.List.{AllZip}
use Rattle.fill_split.specs.declared.rule.Placing.{Placing}
use Rattle.fill_split.specs.declared.rule.Placing.TheVariants.{First, Lightest}
use Rattle.fill_split.specs.Placement.{Follows, GoesTo, NoneFits, PlacedFrom, Prefers}
use Rattle.fill_split.proofs.Zips.{zip_push, zip_set, zip_some}
use Rattle.fill_local.proofs.Zipped.{zip_flip}

module _ {I : Type 0} (R : I → I → Type 0) (fits fits' : List I → Type 0) (weight weight' : List I → ℕ → Type 0)
    (to : (l m : List I) → AllZip R l m → fits l → fits' m) (back : (l m : List I) → AllZip R l m → fits' m → fits l)
    (w_to : (l m : List I) → AllZip R l m → (n : ℕ) → weight l n → weight' m n) (w_back : (l m : List I) → AllZip R l m → (n : ℕ) → weight' m n → weight l n) where
  abbrev Zip : List I → List I → Type 0
  Zip = AllZip R

  module _ (bs cs : List (List I)) (z : AllZip Zip bs cs) (x y : I) (xy : R x y) where
    -- the branch of the first items at the place of one of the others
    there : (j : ℕ) (c : List I) → slice_get cs j ≡ Some c → (b : List I) × (slice_get bs j ≡ Some b) × Zip (b ++ x ∷ []) (c ++ y ∷ [])
    there j c e = let m = zip_some (λ c b. Zip b c) cs bs j c (zip_flip Zip bs cs z) e in (m.0, m.1, zip_push R m.0 c x y m.2 xy)

    prefers_to : (rule : Placing) (k : ℕ) (b c : List I) → Zip b c → Prefers rule fits weight bs x k b → Prefers rule fits' weight' cs y k c
    prefers_to First k b c bc p = λ j d lt e f. let m = there j d e in p j m.0 lt m.1 (back (m.0 ++ x ∷ []) (d ++ y ∷ []) m.2 f)
    prefers_to Lightest k b c bc p =
        λ j d ne e f.
        let m = there j d e in
        let q = p j m.0 ne m.1 (back (m.0 ++ x ∷ []) (d ++ y ∷ []) m.2 f) in (
          q.0,
          q.1,
          w_to (b ++ x ∷ []) (c ++ y ∷ []) (zip_push R b c x y bc xy) q.0 q.2,
          w_to (m.0 ++ x ∷ []) (d ++ y ∷ []) m.2 q.1 q.3,
          λ u w. q.4 u (w_back (m.0 ++ x ∷ []) (d ++ y ∷ []) m.2 u w),
        )

    pub none_to : NoneFits fits bs x → NoneFits fits' cs y
    none_to none = λ j d e f. let m = there j d e in none j m.0 m.1 (back (m.0 ++ x ∷ []) (d ++ y ∷ []) m.2 f)

    abbrev FollowsTo : Placing → List (List I) → Type 0
    FollowsTo rule after = (now : List (List I)) × Follows rule fits' weight' cs y now × AllZip Zip after now

    goes_on : (rule : Placing) (after : List (List I)) (k : ℕ) (b : List I) → GoesTo rule fits weight bs x k b → after ≡ slice_set bs k (b ++ x ∷ []) → FollowsTo rule after
    goes_on rule after k b goes e =
        let m = zip_some Zip bs cs k b z goes.here in
        let pushed = zip_push R b m.0 x y m.2 xy in
        let now : GoesTo rule fits' weight' cs y k m.0 = record { here = m.1; fitting = to (b ++ x ∷ []) (m.0 ++ y ∷ []) pushed goes.fitting; preferred = prefers_to rule k b m.0 m.2 goes.preferred } in
        (slice_set cs k (m.0 ++ y ∷ []), inl (k, m.0, now, refl), subst (λ l. AllZip Zip l (slice_set cs k (m.0 ++ y ∷ []))) (sym e) (zip_set Zip bs cs k (b ++ x ∷ []) (m.0 ++ y ∷ []) z pushed))

    follows_to : (rule : Placing) (after : List (List I)) → Follows rule fits weight bs x after → FollowsTo rule after
    follows_to rule after (inl goes) = goes_on rule after goes.0 goes.1 goes.2 goes.3
    follows_to rule after (inr new) =
        (cs ++ (y ∷ []) ∷ [], inr (none_to new.0, refl), subst (λ l. AllZip Zip l (cs ++ (y ∷ []) ∷ [])) (sym new.1) (zip_push Zip bs cs (x ∷ []) (y ∷ []) z (xy, tt)))

  pub placed_to : (rule : Placing) (bs cs : List (List I)) → AllZip Zip bs cs → (xs ys : List I) → Zip xs ys → (all : List (List I)) → PlacedFrom rule fits weight bs xs all
      → (now : List (List I)) × PlacedFrom rule fits' weight' cs ys now × AllZip Zip all now
  placed_to rule bs cs z [] [] zi all p = (cs, refl, subst (λ l. AllZip Zip l cs) (sym p) z)
  placed_to rule bs cs z [] (y ∷ ys) zi all p = absurd zi
  placed_to rule bs cs z (x ∷ xs) [] zi all p = absurd zi
  placed_to rule bs cs z (x ∷ xs) (y ∷ ys) zi all p =
      let f = follows_to bs cs z x y zi.0 rule p.0 p.1 in
      let m = placed_to rule p.0 f.0 f.2 xs ys zi.1 all p.2 in
      (m.0, (f.0, f.1, m.1), m.2)
