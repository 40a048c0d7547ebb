-- Spaces stand for the same examples in a copy of their arena.
use Rattle.std.proofs.Common.{◌≡◌, suc, ℕ, List, [], ◌∷◌, ◌++◌, length, take, drop, refl, ap, ◌∙◌, arith}
use Rattle.std.proofs.lemmas.List.{take_all, take-append-le}
use Rattle.std.specs.List.{AllZip}
use Rattle.std.specs.Prelude.{◌↔◌}
use Rattle.fill_tree.specs.Tree.{Atoms}
use Rattle.fill_arena.specs.Contents.{EachIn, IsGraph}
use Rattle.fill_arena.specs.Stands.{ProgramStands}
use Rattle.fill_arena.specs.declared.entry.Entry.{Entry}
use Rattle.fill_space.specs.Ground.{Ground}
use Rattle.fill_space.specs.Spaces.{Succeeds, spaces_over}

pub copies_stand : (g : Ground) (c d : List Entry) (old new : List ℕ) → EachIn (IsGraph d) new → AllZip (λ k n. (p : Atoms) → ProgramStands d n p ↔ ProgramStands c k p) old new
    → AllZip (Succeeds (spaces_over g c) (spaces_over g d)) old new
copies_stand g c d [] [] graphs z = tt
copies_stand g c d [] (n ∷ new) graphs z = absurd z
copies_stand g c d (k ∷ old) [] graphs z = absurd z
copies_stand g c d (k ∷ old) (n ∷ new) graphs z = (
  λ l s. record {
    graph = graphs 0 n refl;
    exact = λ p. let same = z.0 p in ((λ h. (s.exact p).0 (same.0 h)), (λ explains. same.1 ((s.exact p).1 explains)));
    some = s.some;
  },
  copies_stand g c d old new (λ i x at. graphs (suc i) x at) z.1,
)

-- what a list has after a slice of all of it was lent and written
pub lent_back : {A : Type 0} (items lent new : List A) (n : ℕ) → n ≡ length items → lent ≡ items → length new ≡ length lent → take n (new ++ drop (length new) items) ≡ new
lent_back items lent new n len same long =
    let size : n ≡ length new = (let all = ap length same in omega arith) in
    take-append-le n new (drop (length new) items) (omega arith) ∙ take_all n new (omega arith)
