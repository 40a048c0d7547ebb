-- What a filter writes of records.
use Rattle.std.specs.Prelude.{◌≡◌, ℕ, ◌+◌, ◌<◌, ◌^◌, List, [], ◌∷◌, ◌++◌, take, slice_get, ⊤, Option, None, Some}
use Rattle.std.specs.List.{AllZip}
use Rattle.std.specs.Io.KnownBytes.{Appends}
use Rattle.fill_edge.specs.Outside.{AppendsPart}
use Rattle.fill_stream.specs.Records.{Rows}
use Rattle.fill_stream.specs.declared.filter.Unmade.{Unmade}
use Rattle.fill_stream.specs.declared.filter.Unmade.TheVariants as unmade
use Rattle.fill_stream.specs.declared.filter.Ending.{Ending}
use Rattle.fill_stream.specs.declared.filter.Ending.TheVariants as ending

-- texts, one after the other
abbrev pub joined : List (List ℕ) → List ℕ
joined [] = []
joined (text ∷ more) = text ++ joined more

-- known output has grown, and with what a buffer holds it has grown by these bytes
abbrev pub Held : Option (List ℕ) → Option (List ℕ) → List ℕ → List ℕ → Type 0
Held old new buffer whole = (front : List ℕ) × Appends old new front × (front ++ buffer ≡ whole)

-- what a refusal tells: the column for which the record is refused. Out of memory is free
abbrev pub Tells : (ℕ → Type 0) → Unmade → Type 0
Tells Refuses unmade.NoMemory = ⊤
Tells Refuses (unmade.Refused column) = Refuses column

-- a text of these bytes was put at the end
abbrev pub Puts : (List ℕ → Type 0) → List ℕ → List ℕ → Type 0
Puts Makes old new = (text : List ℕ) × Makes text × (new ≡ old ++ text)

-- what was written and what a buffer holds of these records after a filtering that ended so: what the buffer held before, and
-- then the text of each record, or of each of the first ones
abbrev pub EndsFiltered : (List (List ℕ) → List ℕ → Type 0) → (List (List ℕ) → ℕ → Type 0) → Ending → Rows → Option (List ℕ) → Option (List ℕ) → List ℕ → List ℕ → Type 0
EndsFiltered Makes Refuses ending.All rows old new before now =
    (texts : List (List ℕ)) × AllZip Makes rows texts × Held old new now (before ++ joined texts)
EndsFiltered Makes Refuses (ending.Refused n column) rows old new before now =
    (fields : List (List ℕ)) × (texts : List (List ℕ)) × (slice_get rows n ≡ Some fields) × Refuses fields column
    × AllZip Makes (take n rows) texts × Held old new now (before ++ joined texts)
EndsFiltered Makes Refuses ending.WriteFault rows old new before now =
    (n : ℕ) × (texts : List (List ℕ)) × AllZip Makes (take n rows) texts × AppendsPart old new (before ++ joined texts)
EndsFiltered Makes Refuses ending.Broken rows old new before now =
    (n : ℕ) × (texts : List (List ℕ)) × AllZip Makes (take n rows) texts × Held old new now (before ++ joined texts)

-- the same, where records are known
abbrev pub Filtered : (List (List ℕ) → List ℕ → Type 0) → (List (List ℕ) → ℕ → Type 0) → Ending → Option Rows → Option (List ℕ) → Option (List ℕ) → List ℕ → List ℕ → Type 0
Filtered Makes Refuses how None old new before now = ⊤
Filtered Makes Refuses how (Some rows) old new before now = EndsFiltered Makes Refuses how rows old new before now

-- the number of a refused record can be counted on
abbrev pub IsCounted : Ending → Type 0
IsCounted ending.All = ⊤
IsCounted (ending.Refused n column) = n + 1 < 2 ^ 64
IsCounted ending.WriteFault = ⊤
IsCounted ending.Broken = ⊤
