-- A record but the last takes at least two bytes.
use Rattle.std.proofs.Common.{◌≡◌, ℕ, zero, suc, ◌+◌, ◌*◌, ◌≤◌, List, [], ◌∷◌, ◌++◌, ◌⊎◌, inl, inr, Bool, true, false, length, None, Some, refl, arith}
use Rattle.std.specs.Prelude.{⊤, ◌==◌, ◌||◌, if◌then◌else◌}
use Rattle.csv.specs.declared.parser.Terminator.TheVariants as term
use Rattle.csv.specs.Machine.{after_end, Read, next_record, step, in_field, start_field, start_record, is_end, fields_after, field_after, ends_at_end}
use Rattle.csv.specs.Reading.{records_from, records_next, default_config, strip_bom, is_bom}
use Rattle.csv.specs.declared.parser.State.{State}
use Rattle.csv.specs.declared.parser.State.TheVariants as st
use Rattle.csv.specs.declared.parser.Action.{Action}
use Rattle.csv.specs.declared.parser.Action.TheVariants as act
use Rattle.fill_records.specs.Records.{records_of}
use Rattle.fill_records.proofs.Runs.{leaves_less, ends_here}

-- a state in which no record has begun
abbrev Between : State → Type 0
Between st.StartRecord = ⊤
Between st.AfterCr = ⊤
Between st.StartField = ⊥
Between st.InField = ⊥
Between st.InQuoted = ⊥
Between st.AfterQuote = ⊥
Between st.InEscape = ⊥
Between st.InComment = ⊥

-- a first byte that ends a line ends no record, and no other byte does
starts_no_end : (ends quotes parts : Bool) (after : State)
    → let first : State × Action = if ends then (st.StartRecord, act.Skip) else if quotes then (st.InQuoted, act.Skip) else if parts then (st.StartField, act.EndField) else if ends then (after, act.EndRecord) else (st.InField, act.Copy) in
    is_end first.1 ≡ false
starts_no_end true quotes parts after = refl
starts_no_end false true parts after = refl
starts_no_end false false true after = refl
starts_no_end false false false after = refl

-- the same after a carriage return, where a line feed is passed over
after_cr_no_end : (feeds ends quotes parts : Bool) (after : State)
    → let next : State × Action = if feeds then (st.StartRecord, act.Skip) else if ends then (st.StartRecord, act.Skip) else if quotes then (st.InQuoted, act.Skip) else if parts then (st.StartField, act.EndField) else if ends then (after, act.EndRecord) else (st.InField, act.Copy) in
    is_end next.1 ≡ false
after_cr_no_end true ends quotes parts after = refl
after_cr_no_end false ends quotes parts after = starts_no_end ends quotes parts after

first_no_end : (s : State) (c : ℕ) → Between s → is_end (step default_config s c).1 ≡ false
first_no_end st.StartRecord c between = starts_no_end ((c == 13) || (c == 10)) (c == 34) (c == 44) (after_end term.CRLF c)
first_no_end st.AfterCr c between = after_cr_no_end (c == 10) ((c == 13) || (c == 10)) (c == 34) (c == 44) (after_end term.CRLF c)
first_no_end st.StartField c between = absurd between
first_no_end st.InField c between = absurd between
first_no_end st.InQuoted c between = absurd between
first_no_end st.AfterQuote c between = absurd between
first_no_end st.InEscape c between = absurd between
first_no_end st.InComment c between = absurd between

-- a step that ends a record comes to a state between two
abbrev EndsBetween : State × Action → Type 0
EndsBetween p = is_end p.1 ≡ true → Between p.0

either : (b : Bool) (p q : State × Action) → EndsBetween p → EndsBetween q → EndsBetween (if b then p else q)
either true p q here there = here
either false p q here there = there

no_end : (p : State × Action) → is_end p.1 ≡ false → EndsBetween p
no_end p is ends = cc

after_between : (returned : Bool) → Between (if returned then st.AfterCr else st.StartRecord)
after_between true = tt
after_between false = tt

in_field_ends : (parts ends returned : Bool)
    → EndsBetween (if parts then (st.StartField, act.EndField) else if ends then ((if returned then st.AfterCr else st.StartRecord), act.EndRecord) else (st.InField, act.Copy))
in_field_ends parts ends returned =
    either parts (st.StartField, act.EndField) _ (no_end (st.StartField, act.EndField) refl) (either ends ((if returned then st.AfterCr else st.StartRecord), act.EndRecord) (st.InField, act.Copy) (λ _. after_between returned) (no_end (st.InField, act.Copy) refl))

field_step : (c : ℕ) → EndsBetween (in_field default_config c)
field_step c = in_field_ends (c == 44) ((c == 13) || (c == 10)) (c == 13)

start_step : (c : ℕ) → EndsBetween (start_field default_config c)
start_step c = either (c == 34) (st.InQuoted, act.Skip) (in_field default_config c) (no_end (st.InQuoted, act.Skip) refl) (field_step c)

record_step : (c : ℕ) → EndsBetween (start_record default_config c)
record_step c = either ((c == 13) || (c == 10)) (st.StartRecord, act.Skip) (start_field default_config c) (no_end (st.StartRecord, act.Skip) refl) (start_step c)

ended : (s : State) (c : ℕ) → EndsBetween (step default_config s c)
ended st.StartRecord c = record_step c
ended st.StartField c = start_step c
ended st.InField c = field_step c
ended st.InQuoted c = either (c == 34) (st.AfterQuote, act.Skip) (st.InQuoted, act.Copy) (no_end (st.AfterQuote, act.Skip) refl) (no_end (st.InQuoted, act.Copy) refl)
ended st.InEscape c = no_end (st.InQuoted, act.Copy) refl
ended st.AfterQuote c = either (c == 34) (st.InQuoted, act.Copy) (in_field default_config c) (no_end (st.InQuoted, act.Copy) refl) (field_step c)
ended st.InComment c = either (c == 10) (st.StartRecord, act.Skip) (st.InComment, act.Skip) (no_end (st.StartRecord, act.Skip) refl) (no_end (st.InComment, act.Skip) refl)
ended st.AfterCr c = either (c == 10) (st.StartRecord, act.Skip) (start_record default_config c) (no_end (st.StartRecord, act.Skip) refl) (record_step c)

-- nothing is read between two records at the end
none_between : (s : State) → Between s → next_record default_config s [] [] [] ≡ None
unfolding next_record
none_between st.StartRecord between = refl
none_between st.AfterCr between = refl
none_between st.StartField between = absurd between
none_between st.InField between = absurd between
none_between st.InQuoted between = absurd between
none_between st.AfterQuote between = absurd between
none_between st.InEscape between = absurd between
none_between st.InComment between = absurd between

-- the state after a record
between_after : (s : State) (fields : List (List ℕ)) (field xs : List ℕ) (p : Read) → next_record default_config s fields field xs ≡ Some p → Between p.1
unfolding next_record
between_after s fields field [] p is = let same = ends_here (ends_at_end s) (fields ++ (field ∷ []), st.StartRecord, []) p is in rw (← same) tt
between_after s fields field (c ∷ rest) p is =
    let fields2 = fields_after (step default_config s c).1 fields field in
    let field2 = field_after (step default_config s c).1 c field in
    let here : Read = (fields2, (step default_config s c).0, rest) in
    elim (is_end (step default_config s c).1)
    as (λ b. is_end (step default_config s c).1 ≡ b → (if b then Some here else next_record default_config (step default_config s c).0 fields2 field2 rest) ≡ Some p → Between p.1) [
      | true ↦ λ ends some. let same : here ≡ p = cc in rw (← same) (ended s c ends)
      | false ↦ λ _ later. between_after (step default_config s c).0 fields2 field2 rest p later
    ] refl is

-- how many bytes the first record leaves
leaves_two : (s : State) (c : ℕ) (rest : List ℕ) (p : Read) → Between s → next_record default_config s [] [] (c ∷ rest) ≡ Some p → (p.2 ≡ []) ⊎ (length p.2 + 2 ≤ length (c ∷ rest))
unfolding next_record
leaves_two s c [] p between is =
    let later = rw (first_no_end s c between) at is in
    let same = ends_here (ends_at_end (step default_config s c).0) _ p later in
    inl (rw (← same) refl)
leaves_two s c (d ∷ rest) p between is =
    let later = rw (first_no_end s c between) at is in
    let less = leaves_less default_config (step default_config s c).0 _ _ d rest p later in
    inr (omega arith)

-- the records of a text from a state between two
few_from : (reads : ℕ) (s : State) (xs : List ℕ) → Between s → 2 * length (records_from default_config reads s xs) ≤ length xs + 1
unfolding records_from
few_from zero s xs between = omega arith
few_from (suc reads) s [] between = rw (none_between s between) (omega arith)
few_from (suc reads) s (c ∷ rest) between =
    elim (next_record default_config s [] [] (c ∷ rest))
    as (λ o. next_record default_config s [] [] (c ∷ rest) ≡ o → 2 * length (records_next (records_from default_config reads) o) ≤ length (c ∷ rest) + 1) [
      | None ↦ λ _. omega arith
      | Some p ↦ λ is.
          let more = few_from reads p.1 p.2 (between_after s [] [] (c ∷ rest) p is) in
          elim (leaves_two s c rest p between is) [
            | inl last ↦ let none : length p.2 ≡ 0 = rw last refl in omega arith
            | inr less ↦ omega arith
          ]
    ] refl

strip_bom-shorter : (bytes : List ℕ) → length (strip_bom bytes) ≤ length bytes
unfolding strip_bom
strip_bom-shorter [] = omega arith
strip_bom-shorter (a ∷ []) = omega arith
strip_bom-shorter (a ∷ b ∷ []) = omega arith
strip_bom-shorter (a ∷ b ∷ c ∷ rest) = elim (is_bom a b c) as (λ mark. length (if mark then rest else a ∷ b ∷ c ∷ rest) ≤ length (a ∷ b ∷ c ∷ rest)) [ true ↦ omega arith | false ↦ omega arith ]

pub few : (bytes : List ℕ) → 2 * length (records_of bytes) ≤ length bytes + 1
unfolding records_of
few bytes = omega (arith, few_from (length (strip_bom bytes) + 1) st.StartRecord (strip_bom bytes) tt, strip_bom-shorter bytes)
