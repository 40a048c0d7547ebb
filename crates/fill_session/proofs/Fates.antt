-- What folds that are refused, or not, tell of the changed examples.
use Rattle.std.proofs.Common.{◌≡◌, ℕ, zero, suc, ◌+◌, ◌-◌, ◌≤◌, List, [], ◌∷◌, ◌++◌, length, take, drop, Some, slice_get, refl, sym, ◌∙◌, subst, inl, inr, ◌⊎◌, ⊎_elim, length-take, arith}
use Rattle.std.proofs.lemmas.Bool.{cases_lt, cases_eq}
use Rattle.std.proofs.lemmas.Option.{none-some, same_Some}
use Rattle.fill_tree.specs.declared.user.Example.{Example}
use Rattle.fill_split.specs.Changes.{changed as changed_at, put_in, taken_out, IsPlace}
use Rattle.fill_split.specs.Refusals.{NotAlone, NinthAt, Unplaceable, IsFirstFrom}
use Rattle.fill_split.specs.Standing.{Spot, Came}
use Rattle.fill_split.specs.declared.change.Change.{Change}
use Rattle.fill_split.specs.declared.change.Change.TheVariants.{Insert, Replace, Remove}
use Rattle.fill_split.specs.declared.rule.Placing.{Placing}
use Rattle.fill_space.specs.declared.ground.Ground.{Ground}
use Rattle.fill_space.specs.Ground.{FitsOn, WeighsOn}
use Rattle.fill_session.specs.Branches.{rule_of_profile}
use Rattle.fill_session.specs.Fate.{EachHasProgram, HasNoProgram, IsOfRow, IsRowWithoutProgram, IsRowOfNinth}

module _ {A : Type 0} where
  -- it stands somewhere in the list
  abbrev pub StandsIn : A → List A → Type 0
  StandsIn x xs = (k : ℕ) × (slice_get xs k ≡ Some x)

  in_append : (ys zs : List A) (j : ℕ) (x : A) → slice_get (ys ++ zs) j ≡ Some x → (slice_get ys j ≡ Some x) ⊎ ((length ys ≤ j) × (slice_get zs (j - length ys) ≡ Some x))
  in_append [] zs j x h = inr (omega arith, subst (λ k. slice_get zs k ≡ Some x) (omega arith) h)
  in_append (y ∷ ys) zs zero x h = inl h
  in_append (y ∷ ys) zs (suc j) x h = ⊎_elim
      (λ l. inl l)
      (λ r. let le = r.0 in inr (omega arith, subst (λ k. slice_get zs k ≡ Some x) (omega arith) r.1))
      (in_append ys zs j x h)

  in_take : (n : ℕ) (xs : List A) (j : ℕ) (x : A) → slice_get (take n xs) j ≡ Some x → slice_get xs j ≡ Some x
  in_take zero xs j x h = absurd (none-some x h)
  in_take (suc n) [] j x h = h
  in_take (suc n) (y ∷ xs) zero x h = h
  in_take (suc n) (y ∷ xs) (suc j) x h = in_take n xs j x h

  in_drop : (n : ℕ) (xs : List A) (j : ℕ) (x : A) → slice_get (drop n xs) j ≡ Some x → StandsIn x xs
  in_drop zero xs j x h = (j, h)
  in_drop (suc n) [] j x h = (j, h)
  in_drop (suc n) (y ∷ xs) j x h = let r = in_drop n xs j x h in (suc r.0, r.1)

  -- what a change puts in stands first there
  put_first : (change : Change A) (k : ℕ) (x : A) → slice_get (put_in change) k ≡ Some x → k ≡ 0
  put_first (Insert y) zero x h = refl
  put_first (Insert y) (suc k) x h = absurd (none-some x h)
  put_first (Replace y) zero x h = refl
  put_first (Replace y) (suc k) x h = absurd (none-some x h)
  put_first Remove k x h = absurd (none-some x h)

  at_within : (change : Change A) (at n : ℕ) → IsPlace change at n → at ≤ n
  at_within (Insert y) at n h = h
  at_within (Replace y) at n h = omega arith
  at_within Remove at n h = omega arith

  -- but at the place of the change, what stands in the changed list stood there before
  pub stood : (change : Change A) (at : ℕ) (xs : List A) (j : ℕ) (x : A) → IsPlace change at (length xs) → (j ≡ at → ⊥) → slice_get (changed_at change at xs) j ≡ Some x → StandsIn x xs
  stood change at xs j x place other h =
      let size : length (take at xs) ≡ at = (let le = at_within change at (length xs) place in length-take at xs ∙ omega arith) in
      ⊎_elim
      (λ front. ⊎_elim
      (λ early. (j, in_take at xs j x early))
      (λ put. absurd (other (let le = put.0 in let here : j - length (take at xs) ≡ 0 = put_first change (j - length (take at xs)) x put.1 in omega arith)))
      (in_append (take at xs) (put_in change) j x front))
      (λ late. in_drop (at + taken_out change) xs (j - length (take at xs ++ put_in change)) x late.1)
      (in_append (take at xs ++ put_in change) (drop (at + taken_out change) xs) j x h)

module _ (g : Ground) where
  -- each example fits alone
  abbrev pub EachFits : List Example → Type 0
  EachFits xs = (j : ℕ) (x : Example) → slice_get xs j ≡ Some x → FitsOn g (x ∷ [])

  -- examples that came to branches of what stands for them do
  pub came_fit : {K : Type 0} (stands : K → List Example → Type 0) (law : (k : K) (l : List Example) → stands k l → FitsOn g l) (rule : Placing) (so_far : List (List Example)) (xs : List Example) (spots : List (Spot K)) (end : List (List Example))
      → Came stands rule (FitsOn g) (WeighsOn g) so_far xs spots end → EachFits xs
  came_fit stands law rule so_far [] [] end h j x at = absurd (none-some x at)
  came_fit stands law rule so_far [] (p ∷ ps) end h j x at = absurd h
  came_fit stands law rule so_far (y ∷ ys) [] end h j x at = absurd h
  came_fit stands law rule so_far (y ∷ ys) (p ∷ ps) end h zero x at = law p.one (x ∷ []) (subst (λ (e : Example). stands p.one (e ∷ [])) (same_Some y x at) h.1.one)
  came_fit stands law rule so_far (y ∷ ys) (p ∷ ps) end h (suc j) x at = came_fit stands law rule h.0 ys ps end h.2 j x at

  -- the changed examples, where each of the examples before fits alone
  pub others_fit : (change : Change Example) (at : ℕ) (old new : List Example) → IsPlace change at (length old) → changed_at change at old ≡ new → EachFits old → (j : ℕ) → (j ≡ at → ⊥) → ¬ (HasNoProgram g new j)
  others_fit change at old new place is fit j other h =
      let was = stood change at old j h.0 place other (subst (λ (xs : List Example). slice_get xs j ≡ Some h.0) (sym is) h.1) in
      h.2 (fit was.0 h.0 was.1)

  pub first_without : (rule : Placing) (change : Change Example) (at : ℕ) (old new : List Example) (i row : ℕ) → IsPlace change at (length old) → changed_at change at old ≡ new → EachFits old
      → IsFirstFrom rule (FitsOn g) (WeighsOn g) new at i × NotAlone (FitsOn g) new i → IsOfRow new i row → IsRowWithoutProgram g new row
  first_without rule change at old new i row place is fit refused here = (
    i,
    here,
    refused.1,
    λ j less h. ⊎_elim
        (λ early. others_fit change at old new place is fit j (λ same. omega arith) h)
        (λ from. refused.0.earlier j from less (inl h))
        (cases_lt j at),
  )

  pub of_ninth : (change : Change Example) (at : ℕ) (old new : List Example) (i row : ℕ) → IsPlace change at (length old) → changed_at change at old ≡ new → EachFits old
      → IsFirstFrom (rule_of_profile g.settings.profile) (FitsOn g) (WeighsOn g) new at i × (NotAlone (FitsOn g) new i → ⊥) × NinthAt (rule_of_profile g.settings.profile) (FitsOn g) (WeighsOn g) new i
      → IsOfRow new i row → IsRowOfNinth g new row
  of_ninth change at old new i row place is fit refused here = (
    λ j h. ⊎_elim
        (λ same. ⊎_elim
        (λ less. refused.0.earlier j (omega arith) less (inl h))
        (λ most. refused.1 (subst (λ k. HasNoProgram g new k) (let from = refused.0.from in omega arith) h))
        (cases_lt j i))
        (λ other. others_fit change at old new place is fit j other h)
        (cases_eq j at),
    (i, here, refused.2),
  )

  -- where each can be placed, each fits alone
  pub each_placed : (rule : Placing) (new : List Example) → ((j : ℕ) → Unplaceable rule (FitsOn g) (WeighsOn g) new j → ⊥) → EachHasProgram g new
  each_placed rule new placed j h = placed j (inl h)
