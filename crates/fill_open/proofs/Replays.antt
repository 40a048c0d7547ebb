-- The steps of a replay, and those of its table lines.
use Rattle.std.proofs.Common.{◌≡◌, ℕ, suc, ◌+◌, ◌<◌, ◌≤◌, List, [], ◌∷◌, length, drop, get_or, sym, ap, ◌∙◌, arith, subst}
use Rattle.std.specs.Prelude.{encode_utf8_all}
use Rattle.std.proofs.Math.Seq.{drop-cons}
use Rattle.std.proofs.lemmas.List.{drop_all}
use Rattle.fill_text.specs.Data.{SheetData, TableData}
use Rattle.fill_edge.specs.Outside.{Files, NoneFell}
use Rattle.fill_script.specs.declared.script.Script.{Script}
use Rattle.fill_script.specs.declared.script.TableLine.{TableLine}
use Rattle.fill_opening.specs.Opened.{Held, Told, Opening, Passed, at_once, and_then}
use Rattle.fill_open.specs.Steps.{script_opens, sheet_opens, line_opens, tables_open, from_script, from_sheet, replay_opens}
use Rattle.fill_open.specs.Refusal.{RefusalData}
use Rattle.fill_opening.specs.Stops.{Counts, Stops}
use Rattle.fill_opening.specs.declared.stop.Stop.{Stop}
use Rattle.fill_opening.proofs.Binds.{none_fell_both, Continues, continues_both, told_one, told_both, stops_later, stops_first, all_go_on}

module _ (files : Files) (session : List ℕ) (lines : List TableLine) (tables : List TableData) (i : ℕ)
    (rest : Told files (λ held. Continues (tables_open held session [] lines) (tables_open held session tables (drop i lines)))) where
  -- all lines passed
  pub lines_end : length lines ≤ i → Told files (λ held. (tables_open held session [] lines).outcome ≡ Passed tables)
  lines_end past =
      told_one files _ _ (λ held c. c.same ∙ ap (λ (ls : List TableLine). (tables_open held session tables ls).outcome) (drop_all i lines past)) rest

  module _ (line : TableLine) (is : line ≡ get_or lines i line) (within : i < length lines) where
    abbrev first : Held → Opening RefusalData (List TableData)
    first held = line_opens held session tables line

    abbrev others : Held → List TableData → Opening RefusalData (List TableData)
    others held after = tables_open held session after (drop (i + 1) lines)

    here : Told files (λ held. Continues (tables_open held session [] lines) (and_then (first held) (others held)))
    here =
        let next : drop i lines ≡ line ∷ drop (i + 1) lines = drop-cons lines i line within ∙ (λ j. sym is j ∷ drop ((let e : suc i ≡ i + 1 = omega arith in e) j) lines) in
        subst (λ (ls : List TableLine). Told files (λ held. Continues (tables_open held session [] lines) (tables_open held session tables ls))) next rest

    -- what stops a line stops all lines
    pub line_stops : (before mid now : Counts) → NoneFell before mid → (why : Stop RefusalData) → Stops first files mid now why → Stops (λ held. tables_open held session [] lines) files before now why
    line_stops before mid now fell why s =
        stops_later (λ held. tables_open held session [] lines) (λ held. and_then (first held) (others held)) before mid now fell files why here (stops_first first others mid now files why s)

    -- a line that passes leaves the others
    pub line_passes : (after : List TableData) → Told files (λ held. (first held).outcome ≡ Passed after)
        → Told files (λ held. Continues (tables_open held session [] lines) (tables_open held session after (drop (i + 1) lines)))
    line_passes after passed = told_both files _ _ _ (λ held h k. continues_both _ _ _ h k) here (all_go_on files first others after passed)

module _ (files : Files) (name : List ℕ) (script : Script) (read : Told files (λ held. (script_opens held name).outcome ≡ Passed script)) where
  from_script_on : Told files (λ held. Continues (replay_opens held name) (from_script held name script))
  from_script_on = all_go_on files (λ held. script_opens held name) (λ held. from_script held name) script read

  abbrev its_sheet : Held → Opening RefusalData SheetData
  its_sheet held = sheet_opens held script script.output (encode_utf8_all script.sheet)

  -- what stops the sheet stops the replay
  pub sheet_stops : (before mid now : Counts) → NoneFell before mid → (why : Stop RefusalData) → Stops its_sheet files mid now why → Stops (λ held. replay_opens held name) files before now why
  sheet_stops before mid now fell why s =
      stops_later (λ held. replay_opens held name) (λ held. from_script held name script) before mid now fell files why from_script_on
      (stops_first its_sheet (λ held. from_sheet held name script) mid now files why s)

  module _ (sheet : SheetData) (sheet_read : Told files (λ held. (its_sheet held).outcome ≡ Passed sheet)) where
    from_sheet_on : Told files (λ held. Continues (replay_opens held name) (from_sheet held name script sheet))
    from_sheet_on =
        told_both files _ _ _ (λ held h k. continues_both _ _ _ h k) from_script_on
        (all_go_on files its_sheet (λ held. from_sheet held name script) sheet sheet_read)

    -- what stops the tables stops the replay
    pub tables_stop : (before first mid now : Counts) → NoneFell before first → NoneFell first mid → (why : Stop RefusalData) → Stops (λ held. tables_open held name [] script.tables) files mid now why
        → Stops (λ held. replay_opens held name) files before now why
    tables_stop before first mid now fell fell_on why s =
        stops_later (λ held. replay_opens held name) (λ held. from_sheet held name script sheet) before mid now (none_fell_both before first mid fell fell_on) files why from_sheet_on
        (stops_first (λ held. tables_open held name [] script.tables) (λ held tables. at_once (Passed (record { script = script; sheet = sheet; tables = tables }))) mid now files why s)
