-- Some rows of others, in their order.
use Rattle.std.proofs.Common.{◌≡◌, ◌⊎◌, ◌∙◌, suc, ◌<◌, List, [], ◌∷◌, ◌++◌, All, inl, inr, refl, sym, subst, arith}
use Rattle.std.proofs.lemmas.List.Elements.{All-cons, All-head, All-nil, All-tail}
use Rattle.std.proofs.lemmas.List.Kept.{AllPairs-cons}
use Rattle.fillcsv_blocks.specs.Merged.{RowsRise}
use Rattle.fillcsv_blocks.specs.declared.numbered.Numbered.{Numbered}
use Rattle.fillcsv_filling.specs.Reading.{AreOf}

pub of_all : (P : Numbered → Type 0) (xs ys : List Numbered) → AreOf xs ys → All P ys → All P xs
of_all P [] ys is all = All-nil P
of_all P (x ∷ xs) [] is all = absurd is
of_all P (x ∷ xs) (y ∷ ys) (inl h) all = All-cons P x xs (subst P (sym h.0) (All-head P y ys all)) (of_all P xs ys h.1 (All-tail P y ys all))
of_all P (x ∷ xs) (y ∷ ys) (inr h) all = of_all P (x ∷ xs) ys h (All-tail P y ys all)

abbrev pub Less : Numbered → Numbered → Type 0
Less a b = a.number < b.number

pub rises_head : (x : Numbered) (xs : List Numbered) → RowsRise (x ∷ xs) → All (Less x) xs
rises_head x xs h k d lt = h 0 (suc k) d (omega arith) (omega arith)

pub rises_tail : (x : Numbered) (xs : List Numbered) → RowsRise (x ∷ xs) → RowsRise xs
rises_tail x xs h i j d less lt = h (suc i) (suc j) d (omega arith) (omega arith)

pub rises_none : RowsRise []
rises_none i j d less lt = absurd (omega arith)

pub of_rises : (xs ys : List Numbered) → AreOf xs ys → RowsRise ys → RowsRise xs
of_rises [] ys is rises = rises_none
of_rises (x ∷ xs) [] is rises = absurd is
of_rises (x ∷ xs) (y ∷ ys) (inl h) rises =
    AllPairs-cons Less x xs (of_all (Less x) xs ys h.1 (subst (λ (z : Numbered). All (Less z) ys) (sym h.0) (rises_head y ys rises))) (of_rises xs ys h.1 (rises_tail y ys rises))
of_rises (x ∷ xs) (y ∷ ys) (inr h) rises = of_rises (x ∷ xs) ys h (rises_tail y ys rises)

pub of_more : (xs ys zs : List Numbered) → AreOf xs ys → AreOf xs (ys ++ zs)
of_more [] ys zs is = tt
of_more (x ∷ xs) [] zs is = absurd is
of_more (x ∷ xs) (y ∷ ys) zs (inl h) = inl (h.0, of_more xs ys zs h.1)
of_more (x ∷ xs) (y ∷ ys) zs (inr h) = inr (of_more (x ∷ xs) ys zs h)

pub of_after : (xs before ys : List Numbered) → AreOf xs ys → AreOf xs (before ++ ys)
of_after [] before ys is = tt
of_after (x ∷ xs) [] ys is = is
of_after (x ∷ xs) (y ∷ before) ys is = inr (of_after (x ∷ xs) before ys is)

pub of_same : (xs : List Numbered) → AreOf xs xs
of_same [] = tt
of_same (x ∷ xs) = inl (refl, of_same xs)

pub of_both : (xs ys zs : List Numbered) → AreOf xs ys → AreOf (xs ++ zs) (ys ++ zs)
of_both [] ys zs is = of_after zs ys zs (of_same zs)
of_both (x ∷ xs) [] zs is = absurd is
of_both (x ∷ xs) (y ∷ ys) zs (inl h) = inl (h.0, of_both xs ys zs h.1)
of_both (x ∷ xs) (y ∷ ys) zs (inr h) = inr (of_both (x ∷ xs) ys zs h)

pub of_those : (xs ys zs : List Numbered) → AreOf xs ys → AreOf ys zs → AreOf xs zs
of_those [] ys zs is of = tt
of_those (x ∷ xs) [] zs is of = absurd is
of_those (x ∷ xs) (y ∷ ys) [] is of = absurd of
of_those (x ∷ xs) (y ∷ ys) (z ∷ zs) (inl h) (inl k) = inl (h.0 ∙ k.0, of_those xs ys zs h.1 k.1)
of_those (x ∷ xs) (y ∷ ys) (z ∷ zs) (inr h) (inl k) = inr (of_those (x ∷ xs) ys zs h k.1)
of_those (x ∷ xs) (y ∷ ys) (z ∷ zs) is (inr k) = inr (of_those (x ∷ xs) (y ∷ ys) zs is k)

-- a row more, which is taken or left out
pub of_next : (xs ys all : List Numbered) (row : Numbered) → AreOf xs all → (ys ≡ xs) ⊎ (ys ≡ xs ++ row ∷ []) → AreOf ys (all ++ row ∷ [])
of_next xs ys all row is (inl same) = subst (λ (l : List Numbered). AreOf l (all ++ row ∷ [])) (sym same) (of_more xs all (row ∷ []) is)
of_next xs ys all row is (inr more) = subst (λ (l : List Numbered). AreOf l (all ++ row ∷ [])) (sym more) (of_both xs all (row ∷ []) is)
