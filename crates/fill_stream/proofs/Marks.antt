-- The first bytes of a stream.
use Rattle.std.proofs.Common.{◌≡◌, ◌==◌, min, false, ℕ, zero, suc, ◌+◌, ◌<◌, ◌≤◌, List, [], ◌∷◌, ◌++◌, length, take, drop, set, Option, None, Some, Result, refl, sym, ap, subst, ◌∙◌, arith, append-nil, append_assoc}
use Rattle.std.proofs.lemmas.List.{take_more_set, take-append-drop}
use Rattle.std.specs.Io.KnownBytes.{Consumes, IsAtEnd, Keeps, ReadConsumes, prepend_known}
use Rattle.std.proofs.KnownBytes.{Consumes-trans, prepend_known-nil}
use Rattle.fill_stream.specs.Fronts.{GivesByte, GivesFront, IsMarked, is_marked}

-- one byte more is read
pub front_more : (a b c : Option (List ℕ)) (front now : List ℕ) (n byte : ℕ) → n < length front → now ≡ set front n byte → Consumes a b (take n front) → Consumes b c (byte ∷ [])
    → Consumes a c (take (n + 1) now)
front_more a b c front now n byte lt is before here =
    let same : take (n + 1) now ≡ take n front ++ byte ∷ [] = ap (take (n + 1)) is ∙ take_more_set front n byte lt in
    subst (Consumes a c) (sym same) (Consumes-trans a b c (take n front) (byte ∷ []) before here)

-- nothing more is read
pub front_end : (a b c : Option (List ℕ)) (front : List ℕ) (n : ℕ) → Consumes a b (take n front) → GivesByte b c None → GivesFront a c n front
front_end a b c front n before none =
    (subst (Consumes a c) (append-nil (take n front)) (Consumes-trans a b c (take n front) [] before none.0), λ _. none.1)

mark_of_front : (front ys : List ℕ) → length front ≤ 3 → (length front < 3 → ys ≡ []) → is_marked front ≡ is_marked (front ++ ys)
mark_of_front [] ys few none = let nil : ys ≡ [] = none (omega arith) in rw nil refl
mark_of_front (a ∷ []) ys few none = let nil : ys ≡ [] = none (omega arith) in rw nil refl
mark_of_front (a ∷ b ∷ []) ys few none = let nil : ys ≡ [] = none (omega arith) in rw nil refl
mark_of_front (a ∷ b ∷ c ∷ []) ys few none = refl
mark_of_front (a ∷ b ∷ c ∷ d ∷ more) ys few none = absurd (omega arith)

-- the first three bytes tell whether the stream begins with a mark
pub marked_by_front : (left : Option (List ℕ)) (front : List ℕ) → length front ≤ 3 → (length front < 3 → IsAtEnd left) → IsMarked (prepend_known front left) (is_marked front)
marked_by_front None front few none = tt
marked_by_front (Some ys) front few none = mark_of_front front ys few none

-- what was taken stands before what is left
pub kept_front : (old new : Option (List ℕ)) (front : List ℕ) → Consumes old new front → Keeps old (prepend_known front new)
kept_front None new front taken = tt
kept_front (Some xs) None front taken = absurd taken
kept_front (Some xs) (Some ys) front taken = sym taken

drop_none : (n : ℕ) → ◌≡◌ {A = List ℕ} (drop n []) []
drop_none zero = refl
drop_none (suc n) = refl

drop_add : (at n : ℕ) (xs : List ℕ) → drop (at + n) xs ≡ drop n (drop at xs)
drop_add zero n xs = let same : 0 + n ≡ n = omega arith in ap (λ k. drop k xs) same
drop_add (suc at) n [] = drop_none (suc at + n) ∙ sym (drop_none n)
drop_add (suc at) n (x ∷ xs) = let next : suc at + n ≡ suc (at + n) = omega arith in ap (λ k. drop k (x ∷ xs)) next ∙ drop_add at n xs

-- what follows a piece of what is pending
front_moved : (X buf : List ℕ) (at count : ℕ) → take count buf ≡ take count (drop at X) → drop at X ≡ take count buf ++ drop (at + count) X
front_moved X buf at count same =
    sym (take-append-drop count (drop at X)) ∙ ap (λ (l : List ℕ). l ++ drop count (drop at X)) (sym same) ∙ ap (λ (l : List ℕ). take count buf ++ l) (sym (drop_add at count X))

given_of : (left : Option (List ℕ)) (front more given : List ℕ) → front ≡ given ++ more → Consumes (prepend_known front left) (prepend_known more left) given
given_of None front more given is = tt
given_of (Some ys) front more given is = ap (λ (x : List ℕ). x ++ ys) is ∙ append_assoc given more ys

-- bytes of the front are given
pub front_given : (left : Option (List ℕ)) (X buf : List ℕ) (at count : ℕ) → take count buf ≡ take count (drop at X)
    → Consumes (prepend_known (drop at X) left) (prepend_known (drop (at + count) X) left) (take count buf)
front_given left X buf at count same = given_of left (drop at X) (drop (at + count) X) (take count buf) (front_moved X buf at count same)

-- where none are pending, the source is read
pub read_on : {E : Type 0} (front : List ℕ) (a b : Option (List ℕ)) (r : Result ℕ E) (buf : List ℕ) → front ≡ [] → ReadConsumes a b r buf → ReadConsumes (prepend_known front a) (prepend_known front b) r buf
read_on [] a b r buf is h = rw (prepend_known-nil a, prepend_known-nil b) h
read_on (x ∷ xs) a b r buf is h = cc

-- some byte is given where one is pending and there is room
pub some_given : (pending : List ℕ) (count room : ℕ) → count ≡ min (length pending) room → (length pending == 0) ≡ false → count ≡ 0 → 0 < room → ⊥
some_given [] count room is some none lt = cc
some_given (x ∷ xs) count room is some none lt = omega arith
