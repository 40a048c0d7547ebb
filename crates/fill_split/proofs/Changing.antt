-- a changed list of items, and what stands for each of them alone
use Rattle.std.proofs.Common.{◌≡◌, ℕ, zero, suc, ◌+◌, ◌-◌, ◌*◌, ◌≤◌, List, [], ◌∷◌, ◌++◌, length, take, drop, map, refl, sym, ap, ◌∙◌, subst, arith, length-drop, append_assoc, Option, Some}
use Rattle.std.specs.Prelude.{slice_get, Result, Ok, Err, IfOk, IfErr}
use Rattle.std.specs.List.{AllZip}
use Rattle.std.proofs.lemmas.List.{take_at, length-take-le}
use Rattle.fill_split.specs.declared.rule.Placing.{Placing}
use Rattle.fill_split.specs.declared.change.Change.{Change}
use Rattle.fill_split.specs.declared.change.Change.TheVariants.{Insert, Replace, Remove}
use Rattle.fill_split.specs.declared.change.FoldError.{FoldError}
use Rattle.fill_split.specs.declared.change.FoldError.TheVariants.{Alone, Ninth, NoMemory}
use Rattle.fill_split.specs.Keeping.{Keeps}
use Rattle.fill_split.specs.Changes.{changed, put_in, taken_out, of_option, IsPlace}
use Rattle.fill_split.specs.Standing.{Spot, spots, ones, Traced, SinglesStand}
use Rattle.fill_split.specs.Refusals.{Refuses, IsAlone, IsFirstFrom, NotAlone}
use Rattle.fill_split.proofs.Zips.{zip_lengths, zip_take, zip_drop, zip_append, zip_weaker}
use Rattle.fill_split.proofs.Pairs.{ones_of, ones_long}
use Rattle.fill_split.proofs.Coming.{came_singles, traced_long, traced_front, traced_keeps}
use Rattle.fill_split.proofs.Unique.{is_first_here}

pub if_ok : {A E : Type 0} {P Q : A → Type 0} (r : Result A E) → IfOk r P → ((x : A) → P x → Q x) → IfOk r Q
if_ok (Ok x) h f = f x h
if_ok (Err e) h f = h

pub if_err : {A E : Type 0} {P Q : E → Type 0} (r : Result A E) → IfErr r P → ((x : E) → P x → Q x) → IfErr r Q
if_err (Ok x) h f = h
if_err (Err e) h f = f e h

pub is_within : {I : Type 0} (change : Change I) (at count : ℕ) → IsPlace change at count → at + taken_out change ≤ count
is_within (Insert x) at count h = omega arith
is_within (Replace x) at count h = omega arith
is_within Remove at count h = omega arith

-- the place is within the places of the items
pub is_in_places : {K I : Type 0} (stands : K → List I → Type 0) (rule : Placing) (fits : List I → Type 0) (weight : List I → ℕ → Type 0) (items : List I) (ks : List K) (places : List ℕ) (at : ℕ) (change : Change I) → Traced stands rule fits weight items ks places → IsPlace change at (length items) → at + taken_out change ≤ length places
is_in_places stands rule fits weight items ks places at change s h =
    let l = traced_long stands rule fits weight items ks places s in
    let w = is_within change at (length items) h in
    omega arith

singles_of : {K I : Type 0} (stands : K → List I → Type 0) (spots : List (Spot K)) (items : List I) → AllZip (λ (p : Spot K) x. stands p.one (x ∷ [])) spots items → SinglesStand stands (map (λ (p : Spot K). p.one) spots) items
singles_of stands [] [] z = tt
singles_of stands [] (x ∷ xs) z = absurd z
singles_of stands (p ∷ ps) [] z = absurd z
singles_of stands (p ∷ ps) (x ∷ xs) z = (z.0, singles_of stands ps xs z.1)

length-take-most : {X : Type 0} (n : ℕ) (xs : List X) → length (take n xs) ≤ length xs
length-take-most zero xs = omega arith
length-take-most (suc n) [] = omega arith
length-take-most (suc n) (x ∷ xs) = let l = length-take-most n xs in omega arith

get_seam : {X : Type 0} (xs ys : List X) (x : X) → slice_get (xs ++ x ∷ ys) (length xs) ≡ Some x
get_seam [] ys x = refl
get_seam (a ∷ xs) ys x = get_seam xs ys x

module _ {K I : Type 0} (old new : K → List I → Type 0) (rule : Placing) (fits : List I → Type 0) (weight : List I → ℕ → Type 0) (keeps : Keeps old new) (ks : List K) (places : List ℕ) (at : ℕ) (change : Change I) (within : at + taken_out change ≤ length places) (items : List I) (s : Traced old rule fits weight items ks places) where
  long : length places ≡ length items
  long = traced_long old rule fits weight items ks places s

  at_long : length (take at items) ≡ at
  at_long = let l = long in length-take-le at items (omega arith)

  flat : changed change at items ≡ take at items ++ (put_in change ++ drop (at + taken_out change) items)
  flat = append_assoc (take at items) (put_in change) (drop (at + taken_out change) items)

  same_front : take at (changed change at items) ≡ take at items
  same_front = ap (λ l. take at l) flat ∙ take_at (take at items) (put_in change ++ drop (at + taken_out change) items) at at_long

  -- what is kept for the items before the change stands for them
  pub front_stands : Traced new rule fits weight (take at (changed change at items)) (take (2 * at) ks) (take at places)
  front_stands = rw same_front (traced_keeps old new rule fits weight keeps (take at items) (take (2 * at) ks) (take at places) (traced_front old rule fits weight at items ks places (omega arith) s))

  pub was_long : at + taken_out change ≤ length (ones ks)
  was_long = let l = ones_long ks places s.paired in omega arith

  was_stand : SinglesStand new (ones ks) items
  was_stand =
      let S : Spot K → I → Type 0 = λ p x. new p.one (x ∷ []) in
      let z = zip_weaker (λ (p : Spot K) x. old p.one (x ∷ [])) S (λ p x h. keeps p.one (x ∷ []) h) (spots ks places) items (came_singles old rule fits weight [] items (spots ks places) s.branches s.came) in
      subst (λ l. SinglesStand new l items) (sym (ones_of ks places s.paired)) (singles_of new (spots ks places) items z)

  module _ (put : Option K) (one : SinglesStand new (of_option put) (put_in change)) (singles : List K) (is : singles ≡ take at (ones ks) ++ of_option put ++ drop (at + taken_out change) (ones ks)) where
    -- each single stands for its item
    pub changed_singles_stand : SinglesStand new singles (changed change at items)
    changed_singles_stand =
        let R : K → I → Type 0 = λ k x. new k (x ∷ []) in
        let z = was_stand in
        let front = zip_take R at (ones ks) items z in
        let rest = zip_drop R (at + taken_out change) (ones ks) items z in
        rw is (zip_append R (take at (ones ks) ++ of_option put) (take at items ++ put_in change) _ _ (zip_append R (take at (ones ks)) (take at items) (of_option put) (put_in change) front one) rest)

    pub singles_left : length singles - at ≡ length (drop at (changed change at items))
    singles_left =
        let l = zip_lengths (λ k x. new k (x ∷ [])) singles (changed change at items) changed_singles_stand in
        let d = length-drop at (changed change at items) in
        omega arith

    pub at_in_singles : at ≤ length singles
    at_in_singles =
        let l = zip_lengths (λ k x. new k (x ∷ [])) singles (changed change at items) changed_singles_stand in
        let e = ap length same_front in
        let a = at_long in
        let n : length (take at (changed change at items)) ≤ length (changed change at items) = length-take-most at (changed change at items) in
        omega arith

  -- the item that is put in does not fit alone
  pub alone_refuses : (error : FoldError) → IsAlone fits (put_in change) at error → Refuses rule fits weight (changed change at items) at error
  alone_refuses (Alone i) h =
      let x = h.1.0 in
      let here : slice_get (changed change at items) at ≡ Some x =
      subst (λ l. slice_get l at ≡ Some x) (sym (flat ∙ ap (λ l. take at items ++ (l ++ drop (at + taken_out change) items)) h.1.1))
      (subst (λ n. slice_get (take at items ++ x ∷ drop (at + taken_out change) items) n ≡ Some x) at_long (get_seam (take at items) (drop (at + taken_out change) items) x)) in
      subst (λ n. IsFirstFrom rule fits weight (changed change at items) at n × NotAlone fits (changed change at items) n) (sym h.0)
      (is_first_here rule fits weight (changed change at items) at, (x, here, h.1.2))
  alone_refuses (Ninth i) h = absurd h
  alone_refuses NoMemory h = tt
