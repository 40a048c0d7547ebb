-- One comparison after another, and lists compared item by item.
use Rattle.std.proofs.Common.{◌≡◌, [], ◌∷◌, refl, ap, sym, ◌∙◌}
use Rattle.std.specs.declared.cmp.Ordering.{Ordering}
use Rattle.std.specs.declared.cmp.Ordering.TheVariants.{Less, Equal, Greater}
use Rattle.std.specs.Ordering.{ordering_then, ordering_reverse}
use Rattle.std.specs.Cmp.Lexicographic.{slice_cmp}
use Rattle.std.proofs.lemmas.Map.Lookups.{CmpEqualImpliesEq}

pub then_first : (a b : Ordering) → ordering_then a b ≡ Equal → a ≡ Equal
then_first Less b h = h
then_first Equal b h = refl
then_first Greater b h = h

pub then_second : (a b : Ordering) → ordering_then a b ≡ Equal → b ≡ Equal
then_second Less b h = cc
then_second Equal b h = h
then_second Greater b h = cc

pub then_reverse : (a b c d : Ordering) → a ≡ ordering_reverse c → b ≡ ordering_reverse d →
    ordering_then a b ≡ ordering_reverse (ordering_then c d)
then_reverse a b Less d p q = ap (λ x. ordering_then x b) p
then_reverse a b Equal d p q = ap (λ x. ordering_then x b) p ∙ q
then_reverse a b Greater d p q = ap (λ x. ordering_then x b) p

-- a first comparison, of x with y, y with z and x with z, and a second one of the same three are transitive together.
-- The middle premises say of the first one that equal keys compare alike with a third: `alike_left`, `alike_right`
pub then_chain : (rxy ryz rxz sxy syz sxz : Ordering) →
    (rxy ≡ Less → ryz ≡ Less → rxz ≡ Less) → (rxy ≡ Equal → ryz ≡ rxz) → (ryz ≡ Equal → rxy ≡ rxz) →
    (sxy ≡ Less → syz ≡ Less → sxz ≡ Less) →
    ordering_then rxy sxy ≡ Less → ordering_then ryz syz ≡ Less → ordering_then rxz sxz ≡ Less
then_chain Less Less rxz sxy syz sxz t l r s p q = ap (λ o. ordering_then o sxz) (t refl refl)
then_chain Less Equal rxz sxy syz sxz t l r s p q = ap (λ o. ordering_then o sxz) (sym (r refl))
then_chain Less Greater rxz sxy syz sxz t l r s p q = cc
then_chain Equal Less rxz sxy syz sxz t l r s p q = ap (λ o. ordering_then o sxz) (sym (l refl))
then_chain Equal Equal rxz sxy syz sxz t l r s p q = ap (λ o. ordering_then o sxz) (sym (l refl)) ∙ s p q
then_chain Equal Greater rxz sxy syz sxz t l r s p q = cc
then_chain Greater ryz rxz sxy syz sxz t l r s p q = cc

module _ {K : Type 0} (R : K → K → Ordering) (exact : CmpEqualImpliesEq R) where
  pub alike_left : (x y z : K) → R x y ≡ Equal → R y z ≡ R x z
  alike_left x y z e = ap (λ w. R w z) (sym (exact x y e))

  pub alike_right : (x y z : K) → R y z ≡ Equal → R x y ≡ R x z
  alike_right x y z e = ap (R x) (exact y z e)

module _ {K : Type 0} (R : K → K → Ordering) where
  pub exact_lists : CmpEqualImpliesEq R → CmpEqualImpliesEq (slice_cmp R)
  exact_lists exact [] [] h = refl
  exact_lists exact [] (y ∷ ys) h = cc
  exact_lists exact (x ∷ xs) [] h = cc
  exact_lists exact (x ∷ xs) (y ∷ ys) h =
      let head = exact x y (then_first _ _ h) in
      let tail = exact_lists exact xs ys (then_second (R x y) _ h) in
      cc
