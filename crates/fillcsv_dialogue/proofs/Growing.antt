-- What is told between two states of a sink, one after the other.
use Rattle.std.proofs.Common.{◌≤◌, ℕ, List, [], ◌++◌, Option, Result, Ok, Err, arith, take}
use Rattle.std.specs.Prelude.{OnErr, OnOk}
use Rattle.std.specs.Io.KnownBytes.{Appends}
use Rattle.std.proofs.KnownBytes.{Appends-nil, Appends-trans}
use Rattle.fill_edge.specs.Outside.{AppendsPart}
use Rattle.fillcsv_dialogue.specs.Told.{Grew}

pub grew_not : (a : Option (List ℕ)) (m : ℕ) → Grew a a m m
grew_not a m = record { grown = ([], Appends-nil a); later = omega arith }

pub grew_both : (a b c : Option (List ℕ)) (m n o : ℕ) → Grew a b m n → Grew b c n o → Grew a c m o
grew_both a b c m n o first second = record {
  grown = (first.grown.0 ++ second.grown.0, Appends-trans a b c first.grown.0 second.grown.0 first.grown.1 second.grown.1);
  later = omega (arith, first.later, second.later);
}

-- a text was written, or a part of it
pub grew_by : {A E : Type 0} (r : Result A E) (old new : Option (List ℕ)) (before now : ℕ) (text : List ℕ) → OnOk r (Appends old new text) → OnErr r (AppendsPart old new text) → before ≤ now → Grew old new before now
grew_by (Ok done) old new before now text whole part later = record { grown = (text, whole); later = later }
grew_by (Err why) old new before now text whole part later = record { grown = (take part.0 text, part.2); later = later }
