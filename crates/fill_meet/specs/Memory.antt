-- Tables of what was found for pairs of sets.
use Rattle.std.specs.Prelude.{◌≡◌, ℕ, List, Option, Some, Bool, ◌&&◌, nat_eq, IsTrue, IfSome}
use Rattle.std.specs.HashMap.{HashMap, get}
use Rattle.fill_arena.specs.Contents.{EachIn}
use Rattle.fill_arena.specs.declared.entry.Entry.{Entry}
use Rattle.fill_meet.specs.declared.memo.Memo.{Memo}
use Rattle.fill_meet.specs.declared.verdicts.Verdict.{Verdict}
use Rattle.fill_meet.specs.Sets.{PlaceSetsMeet, SourceSetsMeet, AtomSetsMeet, IsWithin}

abbrev pub pair_eq : ℕ × ℕ → ℕ × ℕ → Bool
pair_eq x y = nat_eq x.0 y.0 && nat_eq x.1 y.1

-- what the table tells of a pair holds of it
pub record AreRight {S V : Type 0} (Meet : ℕ → ℕ → V → Type 0) (table : HashMap (ℕ × ℕ) V S) : Type 0 where
  pub each : (k : ℕ × ℕ) (made : V) → get pair_eq table k ≡ Some made → Meet k.0 k.1 made

-- where a slot tells that a set of places stands within another one, it does
abbrev pub WithinTold : List Entry → Option (Verdict Bool) → Type 0
WithinTold c r = IfSome r (λ verdict. IsTrue verdict.verdict → IsWithin c verdict.s verdict.t)

-- where a slot tells the common set of two sets of places, it is that
abbrev pub CommonTold : List Entry → Option (Verdict (Option ℕ)) → Type 0
CommonTold c r = IfSome r (λ verdict. PlaceSetsMeet c verdict.s verdict.t verdict.verdict)

-- what the tables tell is so in the arena
pub record IsRight (c : List Entry) (memo : Memo) : Type 0 where
  pub within : EachIn (WithinTold c) memo.within.items
  pub places : EachIn (CommonTold c) memo.places.items
  pub sources : AreRight (SourceSetsMeet c) memo.sources
  pub atoms : AreRight (AtomSetsMeet c) memo.atoms
