-- Each item that is placed stands in one of the lists.
use Rattle.std.proofs.Common.{◌≡◌, ℕ, zero, suc, List, [], ◌∷◌, ◌++◌, length, Some, sym, ap, ◌∙◌, subst, ⊎_elim}
use Rattle.std.specs.Prelude.{slice_get, Contains}
use Rattle.std.specs.List.{flat_map}
use Rattle.std.proofs.lemmas.Bool.{cases_eq}
use Rattle.std.proofs.lemmas.List.Elements.{Contains-append_left, Contains-append_right, Contains-push}
use Rattle.fill_split.specs.Placement.{Follows, PlacedFrom}
use Rattle.fill_split.specs.declared.rule.Placing.{Placing}
use Rattle.fill_split.proofs.Zips.{get_front, get_next}
use Rattle.fill_session.proofs.Firsts.{set_here, set_there}

-- the item stands in one of the lists
pub record IsListed {I : Type 0} (lists : List (List I)) (x : I) : Type 0 where
  pub place : ℕ
  pub list : List I
  pub here : slice_get lists place ≡ Some list
  pub holds : Contains list x

pub contains_flat : {X Y : Type 0} (f : X → List Y) (xs : List X) (k : ℕ) (x : X) (y : Y) → slice_get xs k ≡ Some x → Contains (f x) y → Contains (flat_map f xs) y
contains_flat f [] k x y h c = absurd cc
contains_flat f (a ∷ xs) zero x y h c =
    let e : x ≡ a = cc in
    Contains-append_left (f a) (flat_map f xs) y (subst (λ v. Contains (f v) y) e c)
contains_flat f (a ∷ xs) (suc k) x y h c = Contains-append_right (f a) (flat_map f xs) y (contains_flat f xs k x y h c)

module _ {I : Type 0} (rule : Placing) (fits : List I → Type 0) (weight : List I → ℕ → Type 0) where
  -- what stood in a list stands in one after one more item
  listed_stays : (bs : List (List I)) (y : I) (next : List (List I)) → Follows rule fits weight bs y next → (x : I) → IsListed bs x → IsListed next x
  listed_stays bs y next p x s =
      ⊎_elim
      (λ g.
      let k = g.0 in
      let b = g.1 in
      subst (λ v. IsListed v x) (sym g.3)
      (⊎_elim
      (λ same.
      let one : Some s.list ≡ Some b = sym s.here ∙ ap (λ i. slice_get bs i) same ∙ g.2.here in
      let e : s.list ≡ b = cc in
      record { place = k; list = b ++ y ∷ []; here = set_here bs k b (b ++ y ∷ []) g.2.here; holds = Contains-append_left b (y ∷ []) x (subst (λ v. Contains v x) e s.holds) })
      (λ other. record { place = s.place; list = s.list; here = set_there bs s.place k (b ++ y ∷ []) other ∙ s.here; holds = s.holds })
      (cases_eq s.place k)))
      (λ o.
      subst (λ v. IsListed v x) (sym o.1)
      (record { place = s.place; list = s.list; here = get_front bs ((y ∷ []) ∷ []) s.place s.list s.here; holds = s.holds }))
      p

  -- and so does the item
  listed_new : (bs : List (List I)) (y : I) (next : List (List I)) → Follows rule fits weight bs y next → IsListed next y
  listed_new bs y next p =
      ⊎_elim
      (λ g.
      subst (λ v. IsListed v y) (sym g.3)
      (record { place = g.0; list = g.1 ++ y ∷ []; here = set_here bs g.0 g.1 (g.1 ++ y ∷ []) g.2.here; holds = Contains-push g.1 y }))
      (λ o.
      subst (λ v. IsListed v y) (sym o.1)
      (record { place = length bs; list = y ∷ []; here = get_next bs (y ∷ []); holds = Contains-push [] y }))
      p

  listed_end : (so_far : List (List I)) (xs : List I) (all : List (List I)) → PlacedFrom rule fits weight so_far xs all → (x : I) → IsListed so_far x → IsListed all x
  listed_end so_far [] all p x s = subst (λ v. IsListed v x) (sym p) s
  listed_end so_far (y ∷ xs) all p x s = listed_end p.0 xs all p.2 x (listed_stays so_far y p.0 p.1 x s)

  pub placed_listed : (so_far : List (List I)) (xs : List I) (all : List (List I)) → PlacedFrom rule fits weight so_far xs all → (k : ℕ) (x : I) → slice_get xs k ≡ Some x → IsListed all x
  placed_listed so_far [] all p k x h = absurd cc
  placed_listed so_far (y ∷ xs) all p zero x h =
      let e : y ≡ x = cc in
      listed_end p.0 xs all p.2 x (subst (λ v. IsListed p.0 v) e (listed_new so_far y p.0 p.1))
  placed_listed so_far (y ∷ xs) all p (suc k) x h = placed_listed p.0 xs all p.2 k x h
