-- An arena keeps what is true of it when an entry is pushed with its slot, or is refused.
use Rattle.std.proofs.Common.{◌≡◌, Result, Ok, Err, List, [], ◌∷◌, ◌++◌, length, sym, subst}
use Rattle.std.specs.Result.{OnOk, OnErr}
use Rattle.fill_arena.specs.Contents.{AreDistinct}
use Rattle.fill_arena.specs.Index.{IsIndexed, IsFree}
use Rattle.fill_arena.specs.WellMade.{IsEntry, IsWellMade}
use Rattle.fill_arena.specs.declared.entry.Entry.{Entry}
use Rattle.fill_arena.specs.declared.index.Slot.{Slot}
use Rattle.fill_arena.proofs.Grows.{made_pushed}
use Rattle.fill_arena.proofs.Indexed.{distinct_pushed, indexed_pushed}

-- what is true of each arena
abbrev pub IsKept : List Entry → List Slot → Type 0
IsKept c slots = IsWellMade c × AreDistinct c × IsIndexed c slots

pub pushed_keeps : {A E : Type 0} (c d : List Entry) (slots grown : List Slot) (e : Entry) (s : Slot) (r : Result A E) →
    OnOk r (d ≡ c ++ e ∷ []) → OnOk r (grown ≡ slots ++ s ∷ []) → OnErr r (d ≡ c) → OnErr r (grown ≡ slots) → IsFree c slots e s → IsEntry c (length c) e → IsKept c slots → IsKept d grown
pushed_keeps c d slots grown e s (Ok n) entries places same fixed free is kept =
    let made = made_pushed c e kept.0 is in
    let distinct = distinct_pushed c e kept.1 free.absent in
    let indexed = indexed_pushed c slots kept.2 e s free in
    (subst IsWellMade (sym entries) made, subst AreDistinct (sym entries) distinct, subst (λ l. IsIndexed l grown) (sym entries) (subst (IsIndexed (c ++ e ∷ [])) (sym places) indexed))
pushed_keeps c d slots grown e s (Err x) entries places same fixed free is kept =
    (subst IsWellMade (sym same) kept.0, subst AreDistinct (sym same) kept.1, subst (λ l. IsIndexed l grown) (sym same) (subst (IsIndexed c) (sym fixed) kept.2))
