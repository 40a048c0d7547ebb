-- The sets of a small arena.
use Rattle.std.proofs.Common.{ℕ, ◌≤◌, List, [], ◌∷◌, length, lit<}
use Rattle.std.proofs.lemmas.Option.{slice_get_within}
use Rattle.fill_arena.specs.Contents.{IsPlaceSet, IsSourceSet}
use Rattle.fill_arena.specs.WellMade.{AreAtoms, IsAtomItem}
use Rattle.fill_arena.specs.declared.entry.Entry.{Entry}
use Rattle.fill_arena.specs.declared.entry.Entry.TheVariants as kind
use Rattle.fill_arena.specs.declared.entry.AtomItem.TheVariants.{Const, Whole, Sub}
use Rattle.fill_arena.proofs.Samples.{each_nil, each_cons}

pub sample_constant : (c : List Entry) (t : List ℕ) → length t ≤ 100 → AreAtoms c (length c) (Const t ∷ [])
sample_constant c t few =
    let P = IsAtomItem c (length c) in
    record { some = lit< tt; each = each_cons P (Const t) [] few (each_nil P) }

pub sample_parts : (c : List Entry) (whole left right : ℕ) → IsSourceSet c whole → IsPlaceSet c left → IsPlaceSet c right
    → AreAtoms c (length c) (Sub whole left right ∷ Whole whole ∷ [])
sample_parts c whole left right sources lefts rights =
    let first = slice_get_within c whole (kind.Sources sources.0) sources.1 in
    let second = slice_get_within c left (kind.Places lefts.0) lefts.1 in
    let third = slice_get_within c right (kind.Places rights.0) rights.1 in
    let P = IsAtomItem c (length c) in
    record {
      some = lit< tt;
      each = each_cons P (Sub whole left right) (Whole whole ∷ []) ((sources, first), (lefts, second), (rights, third))
          (each_cons P (Whole whole) [] (sources, first) (each_nil P));
    }
