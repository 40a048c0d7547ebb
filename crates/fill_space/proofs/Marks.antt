-- What stood at a mark, as the arena grows.
use Rattle.std.proofs.Common.{◌≡◌, ℕ, zero, suc, ◌≤◌, List, [], ◌∷◌, length, take, Some, slice_get, refl, sym, subst, arith}
use Rattle.fill_arena.specs.Contents.{Extends}
use Rattle.fill_arena.specs.declared.entry.Entry.{Entry}
use Rattle.fill_meet.proofs.Lists.{extends_length}
use Rattle.fill_split.specs.Keeping.{KeepsMarks}
use Rattle.fill_space.specs.Ground.{Ground}
use Rattle.fill_space.specs.Spaces.{SpaceStands, spaces_over, first_spaces}

-- fronts of a list that goes on from another one
pub front_stays : {A : Type 0} (xs ys : List A) (m : ℕ) → ((n : ℕ) (x : A) → slice_get xs n ≡ Some x → slice_get ys n ≡ Some x) → m ≤ length xs
    → take m ys ≡ take m xs
front_stays xs ys zero f h = refl
front_stays [] ys (suc m) f h = absurd (omega arith)
front_stays (x ∷ xs) [] (suc m) f h = absurd (let e = f 0 x refl in cc)
front_stays (x ∷ xs) (y ∷ ys) (suc m) f h =
    let head : y ≡ x = (let e = f 0 x refl in cc) in
    let rest : take m ys ≡ take m xs = front_stays xs ys m (λ n z e. f (suc n) z e) (omega arith) in
    cc

-- marks of an arena that grew
pub marks_stay : (g : Ground) (c d : List Entry) → Extends c d
    → KeepsMarks (λ m. m ≤ length c) (λ m. m ≤ length d)
    (λ m k l. SpaceStands (first_spaces m (spaces_over g c)) k l) (λ m k l. SpaceStands (first_spaces m (spaces_over g d)) k l)
marks_stay g c d on = record {
  stays = λ m h. let long = extends_length c d on in omega arith;
  marks = λ m k l h s. subst (λ front. SpaceStands (spaces_over g front) k l) (sym (front_stays c d m on h)) s;
  only = λ m k l h s. subst (λ front. SpaceStands (spaces_over g front) k l) (front_stays c d m on h) s;
}
