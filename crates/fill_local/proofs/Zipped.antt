-- Two lists item by item.
use Rattle.std.proofs.Common.{◌≡◌, List, [], ◌∷◌, ◌++◌, All, ap, refl}
use Rattle.std.specs.List.{AllZip, flat_map}
use Rattle.std.proofs.lemmas.List.Elements.{All-cons, All-head, All-nil, All-tail}
use Rattle.fill_split.proofs.Zips.{zip_append}

module _ {X Y : Type 0} (R : X → Y → Type 0) where
  -- a property of all items of the one list passes to all items of the other
  pub zip_all : (P : X → Type 0) (Q : Y → Type 0) → ((x : X) (y : Y) → R x y → P x → Q y) → (xs : List X) (ys : List Y) → AllZip R xs ys → All P xs → All Q ys
  zip_all P Q f [] [] z all = All-nil Q
  zip_all P Q f [] (y ∷ ys) z all = absurd z
  zip_all P Q f (x ∷ xs) [] z all = absurd z
  zip_all P Q f (x ∷ xs) (y ∷ ys) z all = All-cons Q y ys (f x y z.0 (All-head P x xs all)) (zip_all P Q f xs ys z.1 (All-tail P x xs all))

  pub zip_flip : (xs : List X) (ys : List Y) → AllZip R xs ys → AllZip (λ y x. R x y) ys xs
  zip_flip [] [] z = tt
  zip_flip [] (y ∷ ys) z = z
  zip_flip (x ∷ xs) [] z = z
  zip_flip (x ∷ xs) (y ∷ ys) z = (z.0, zip_flip xs ys z.1)

  -- where the one list is cut, so is the other
  pub zip_split : (before : List X) (b : X) (after : List X) (ys : List Y) → AllZip R (before ++ b ∷ after) ys
      → (us : List Y) × (c : Y) × (vs : List Y) × (ys ≡ us ++ c ∷ vs) × AllZip R before us × R b c × AllZip R after vs
  zip_split [] b after [] z = absurd z
  zip_split [] b after (y ∷ ys) z = ([], y, ys, refl, tt, z.0, z.1)
  zip_split (x ∷ xs) b after [] z = absurd z
  zip_split (x ∷ xs) b after (y ∷ ys) z = let m = zip_split xs b after ys z.1 in (y ∷ m.0, m.1, m.2, ap (λ l. y ∷ l) m.3, (z.0, m.4), m.5, m.6)

  pub zip_flat : {A B : Type 0} (S : A → B → Type 0) (f : X → List A) (g : Y → List B) → ((x : X) (y : Y) → R x y → AllZip S (f x) (g y)) → (xs : List X) (ys : List Y)
      → AllZip R xs ys → AllZip S (flat_map f xs) (flat_map g ys)
  zip_flat S f g each [] [] z = tt
  zip_flat S f g each [] (y ∷ ys) z = absurd z
  zip_flat S f g each (x ∷ xs) [] z = absurd z
  zip_flat S f g each (x ∷ xs) (y ∷ ys) z = zip_append S (f x) (g y) (flat_map f xs) (flat_map g ys) (each x y z.0) (zip_flat S f g each xs ys z.1)
