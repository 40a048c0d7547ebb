-- The sets of a small arena.
use Rattle.std.proofs.Common.{ℕ, ◌≤◌, List, [], ◌∷◌, length, lit<}
use Rattle.fill_arena.specs.Contents.{IsSourceSet}
use Rattle.fill_arena.specs.WellMade.{AreAtoms, AreSources, IsAtomItem, IsSourceItem}
use Rattle.fill_arena.specs.declared.entry.Entry.{Entry}
use Rattle.fill_arena.specs.declared.entry.AtomItem.TheVariants.{Const, Whole}
use Rattle.fill_arena.specs.declared.entry.SourceItem.TheVariants.{Col}
use Rattle.fill_arena.proofs.Samples.{each_nil, each_cons}
use Rattle.fill_meet.proofs.Grows.{sources_within}

pub sample_sources : (c : List Entry) (column : ℕ) → AreSources c (length c) (Col column ∷ [])
sample_sources c column =
    record { some = lit< tt; each = each_cons (IsSourceItem c (length c)) (Col column) [] tt (each_nil (IsSourceItem c (length c))) }

pub sample_atoms : (c : List Entry) (t : List ℕ) (whole : ℕ) → length t ≤ 100 → IsSourceSet c whole → AreAtoms c (length c) (Const t ∷ Whole whole ∷ [])
sample_atoms c t whole few sources =
    let P = IsAtomItem c (length c) in
    record { some = lit< tt; each = each_cons P (Const t) (Whole whole ∷ []) few (each_cons P (Whole whole) [] (sources_within c whole sources) (each_nil P)) }
