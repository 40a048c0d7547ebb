-- The steps that add lookup tables and keys, one after the other.
use Rattle.std.proofs.Common.{◌≡◌, ℕ, suc, ◌+◌, ◌<◌, ◌≤◌, List, [], ◌∷◌, length, drop, map, get_or, sym, ap, ◌∙◌, arith, subst}
use Rattle.std.proofs.Math.Seq.{drop-cons}
use Rattle.std.proofs.lemmas.List.{drop_all}
use Rattle.fill_text.specs.Data.{TableData}
use Rattle.fill_edge.specs.Outside.{Files, NoneFell}
use Rattle.fill_opening.specs.Opened.{Held, Told, Opening, Passed, and_then}
use Rattle.fill_opening.specs.Stops.{Counts, Stops}
use Rattle.fill_opening.specs.declared.stop.Stop.{Stop}
use Rattle.fill_opening.proofs.Binds.{Continues, continues_both, told_one, told_both, stops_later, stops_first, all_go_on}
use Rattle.fillcsv_options.specs.Words.{lookup_data}
use Rattle.fillcsv_options.specs.declared.asked.Lookup.{Lookup}
use Rattle.fillcsv_tables.specs.Tables.{lookup_opens, lookups_open}

abbrev pub from_lookups : List TableData → List Lookup → Held → Opening (List ℕ) (List TableData)
from_lookups tables lookups held = lookups_open held tables (map lookup_data lookups)

module _ (files : Files) (lookups : List Lookup) (tables : List TableData) (i : ℕ)
    (rest : Told files (λ held. Continues (from_lookups [] lookups held) (from_lookups tables (drop i lookups) held))) where
  -- all passed
  pub lookups_end : length lookups ≤ i → Told files (λ held. (from_lookups [] lookups held).outcome ≡ Passed tables)
  lookups_end past =
      told_one files _ _ (λ held c. c.same ∙ ap (λ (ls : List Lookup). (from_lookups tables ls held).outcome) (drop_all i lookups past)) rest

  module _ (lookup : Lookup) (is : lookup ≡ get_or lookups i lookup) (within : i < length lookups) where
    abbrev first : Held → Opening (List ℕ) (List TableData)
    first held = lookup_opens held tables (lookup_data lookup)

    abbrev others : Held → List TableData → Opening (List ℕ) (List TableData)
    others held after = from_lookups after (drop (i + 1) lookups) held

    here : Told files (λ held. Continues (from_lookups [] lookups held) (and_then (first held) (others held)))
    here =
        let next : drop i lookups ≡ lookup ∷ drop (i + 1) lookups = drop-cons lookups i lookup within ∙ (λ j. sym is j ∷ drop ((let e : suc i ≡ i + 1 = omega arith in e) j) lookups) in
        subst (λ (ls : List Lookup). Told files (λ held. Continues (from_lookups [] lookups held) (from_lookups tables ls held))) next rest

    -- what stops one stops all
    pub lookup_stops : (before mid now : Counts) → NoneFell before mid → (why : Stop (List ℕ)) → Stops first files mid now why → Stops (from_lookups [] lookups) files before now why
    lookup_stops before mid now fell why s =
        stops_later (from_lookups [] lookups) (λ held. and_then (first held) (others held)) before mid now fell files why here (stops_first first others mid now files why s)

    -- one that passes leaves the others
    pub lookup_passes : (after : List TableData) → Told files (λ held. (first held).outcome ≡ Passed after)
        → Told files (λ held. Continues (from_lookups [] lookups held) (from_lookups after (drop (i + 1) lookups) held))
    lookup_passes after passed = told_both files _ _ _ (λ held h k. continues_both _ _ _ h k) here (all_go_on files first others after passed)
