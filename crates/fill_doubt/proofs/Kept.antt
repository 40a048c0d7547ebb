-- What was found of shapes, as one more is found, or all are forgotten.
use Rattle.std.proofs.Common.{◌≡◌, ⊎_elim, ℕ, List, [], ◌∷◌, ◌++◌, get_or, set, Some, slice_get, sym, ap, subst, ◌∙◌}
use Rattle.std.proofs.lemmas.Bool.{cases_order}
use Rattle.std.proofs.lemmas.Option.{slice_get_within}
use Rattle.fill_arena.specs.declared.entry.Entry.{Entry}
use Rattle.fill_arena.proofs.Lists.{get_left}
use Rattle.fill_arena.proofs.Scan.{here}
use Rattle.fill_doubt.specs.Memo.{IsTextAt}
use Rattle.fill_doubt.specs.Shapes.{HasText, IsReadAt, ShapesStand}
use Rattle.fill_doubt.specs.declared.memo.Memo.{Memo}
use Rattle.fill_doubt.specs.declared.read.Read.{Read}
use Rattle.fill_doubt.specs.declared.shaped.Shaped.{Shaped}
use Rattle.fill_doubt.specs.declared.shapes.Shapes.{Shapes}
use Rattle.fill_doubt.proofs.Maps.{apart}
use Rattle.fill_doubt.proofs.Tables.{set_other, set_same}

-- of no shape nothing was found
pub none_stand : (c : List Entry) (shapes : Shapes) → shapes.reads.items ≡ [] → ShapesStand c shapes
none_stand c shapes nil = record { each = λ i x at. absurd (none i x (subst (λ (xs : List Read). slice_get xs i ≡ Some x) nil at)) }
  where
    none : (i : ℕ) (x : Read) → slice_get {X = Read} [] i ≡ Some x → ⊥
    none i x h = cc

-- shapes keep their numbers as one more is read, and as more is found of one of them
pub pushed_reads : (old new : List Read) (x : Read) → new ≡ old ++ x ∷ [] → (w : List ℕ) (n : ℕ) → HasText old w n → HasText new w n
pushed_reads old new x is w n h =
    (h.0, subst (λ (xs : List Read). slice_get xs n ≡ Some h.0) (sym is) (get_left old (x ∷ []) n (slice_get_within old n h.0 h.1) ∙ h.1), h.2)

pub set_reads : (old : List Read) (m : ℕ) (x y : Read) → slice_get old m ≡ Some x → y.text ≡ x.text → (w : List ℕ) (n : ℕ) → HasText old w n → HasText (set old m y) w n
set_reads old m x y at same w n h = ⊎_elim
    (λ e.
    let there : slice_get old m ≡ Some h.0 = subst (λ j. slice_get old j ≡ Some h.0) e h.1 in
    let one : x ≡ h.0 = cc in
    (y, subst (λ j. slice_get (set old m y) j ≡ Some y) (sym e) (set_same old m y (slice_get_within old m x at)), same ∙ ap (λ (z : Read). z.text) one ∙ h.2))
    (λ o. (h.0, set_other old m n y (apart n m o) ∙ h.1, h.2)) (cases_order n m)

-- what is lent is what was sought
pub lent_read : (shapes : Shapes) (w : List ℕ) (n : ℕ) (x : Read) → IsReadAt shapes w n → x ≡ get_or shapes.reads.items n x → (slice_get shapes.reads.items n ≡ Some x) × (x.text ≡ w)
lent_read shapes w n x at is =
    let there = here shapes.reads.items n x (slice_get_within shapes.reads.items n at.0 at.1) is in
    let first = at.1 in
    let one : x ≡ at.0 = cc in
    (there, ap (λ (y : Read). y.text) one ∙ at.2)

pub lent_text : (memo : Memo) (t : List ℕ) (n : ℕ) (x : Shaped) → IsTextAt memo t n → x ≡ get_or memo.texts.items n x → (slice_get memo.texts.items n ≡ Some x) × (x.text.now ≡ t)
lent_text memo t n x at is =
    let there = here memo.texts.items n x (slice_get_within memo.texts.items n at.0 at.1) is in
    let first = at.1 in
    let one : x ≡ at.0 = cc in
    (there, ap (λ (y : Shaped). y.text.now) one ∙ at.2)
