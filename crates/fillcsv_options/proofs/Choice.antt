-- What is asked for comes of options that each mean something, and go together.
use Rattle.std.proofs.Common.{◌≡◌, ◌∙◌, Bool, true, false, List, [], ◌∷◌, Option, None, Some, ap, refl, sym}
use Rattle.std.specs.Prelude.{if◌then◌else◌}
use Rattle.std.specs.List.{list_any}
use Rattle.clap.specs.Words.{Kinds, Row, Text, fault_of, matches_of}
use Rattle.clap.specs.declared.error.kind.ErrorKind.{ErrorKind}
use Rattle.clap.specs.declared.error.kind.ErrorKind.TheVariants.{DisplayHelp, DisplayVersion}
use Rattle.fillcsv_options.specs.declared.asked.Depth.{Depth}
use Rattle.fillcsv_options.specs.declared.asked.ProfileName.{ProfileName}
use Rattle.fillcsv_options.specs.Conflicts.{conflicts}
use Rattle.fillcsv_options.specs.Options.{app, run_app}
use Rattle.fillcsv_options.specs.Words.{AskedData, Asks, ChosenData, LookupData, Meaning, TargetData, TypedData, Wrong, asked_in, chosen, chosen_in, data_in, is_rule_word, meaning_by, meaning_of, meaning_of_kind, meaning_of_rows, run_meaning, run_of_rows, sheet_meaning}

-- what was chosen is what the options say
pub record AreChosen (a : Option Bool) (b : Option ProfileName) (c : Option Depth) (d : Option TargetData) (e : Option (List TypedData)) (f : Option (List LookupData)) (h : Option Bool) (all : ChosenData) : Type 0 where
  pub only_sure : a ≡ Some all.only_sure
  pub profile : b ≡ Some all.profile
  pub depth : c ≡ Some all.depth
  pub to : d ≡ Some all.to
  pub examples : e ≡ Some all.examples
  pub lookups : f ≡ Some all.lookups
  pub ask : h ≡ Some all.ask

pub are_chosen : (a : Option Bool) (b : Option ProfileName) (c : Option Depth) (d : Option TargetData) (e : Option (List TypedData)) (f : Option (List LookupData)) (h : Option Bool) (all : ChosenData)
    → chosen a b c d e f h ≡ Some all → AreChosen a b c d e f h all
are_chosen None b c d e f h all is = cc
are_chosen (Some a) None c d e f h all is = cc
are_chosen (Some a) (Some b) None d e f h all is = cc
are_chosen (Some a) (Some b) (Some c) None e f h all is = cc
are_chosen (Some a) (Some b) (Some c) (Some d) None f h all is = cc
are_chosen (Some a) (Some b) (Some c) (Some d) (Some e) None h all is = cc
are_chosen (Some a) (Some b) (Some c) (Some d) (Some e) (Some f) None all is = cc
are_chosen (Some a) (Some b) (Some c) (Some d) (Some e) (Some f) (Some h) all is =
    let same : record { only_sure = a; profile = b; depth = c; to = d; examples = e; lookups = f; ask = h } ≡ all = cc in
    record {
      only_sure = ap (λ (x : ChosenData). Some x.only_sure) same;
      profile = ap (λ (x : ChosenData). Some x.profile) same;
      depth = ap (λ (x : ChosenData). Some x.depth) same;
      to = ap (λ (x : ChosenData). Some x.to) same;
      examples = ap (λ (x : ChosenData). Some x.examples) same;
      lookups = ap (λ (x : ChosenData). Some x.lookups) same;
      ask = ap (λ (x : ChosenData). Some x.ask) same;
    }

asks_if : (t : Bool) (made a : AskedData) → (if t then Wrong else Asks made) ≡ Asks a → (t ≡ false) × (made ≡ a)
asks_if true made a is = cc
asks_if false made a is = (refl, cc)

-- the options that a sheet is asked for by
pub record ComesOf (rows : List Row) (a : AskedData) : Type 0 where
  pub choice : ChosenData
  pub means : chosen_in rows ≡ Some choice
  pub same : data_in rows choice ≡ a
  pub fits : conflicts a ≡ false

by_choice : (rows : List Row) (o : Option ChosenData) (a : AskedData) → chosen_in rows ≡ o → meaning_by rows o ≡ Asks a → ComesOf rows a
by_choice rows None a is means = cc
by_choice rows (Some c) a is means =
    let found = asks_if (conflicts (data_in rows c)) (data_in rows c) a means in
    record { choice = c; means = is; same = found.1; fits = sym (ap conflicts found.1) ∙ found.0 }

pub rows_come : (rows : List Row) (a : AskedData) → meaning_of_rows rows ≡ Asks a → ComesOf rows a
rows_come rows a means = by_choice rows (chosen_in rows) a refl means

-- ---- words

kind_asks : (k : ErrorKind) (a : AskedData) → meaning_of_kind k ≡ Asks a → ⊥
kind_asks DisplayHelp a is = cc
kind_asks DisplayVersion a is = cc
kind_asks _ a is = cc

sheet_comes : (kinds : Kinds) (rows : List Row) (a : AskedData) → meaning_of meaning_of_rows kinds rows ≡ Asks a → ComesOf rows a
sheet_comes [] rows a is = rows_come rows a is
sheet_comes (kind ∷ kinds) rows a is = absurd (kind_asks kind a is)

run_asks : (kinds : Kinds) (rows : List Row) (a : AskedData) → meaning_of run_of_rows kinds rows ≡ Asks a → ⊥
run_asks [] rows a is = cc
run_asks (kind ∷ kinds) rows a is = kind_asks kind a is

either_comes : {P : Type 0} (b : Bool) (run sheet : Meaning) (a : AskedData) → (run ≡ Asks a → ⊥) → (sheet ≡ Asks a → P)
    → (if b then run else sheet) ≡ Asks a → P
either_comes true run sheet a first second is = absurd (first is)
either_comes false run sheet a first second is = second is

sheet_means : (words : List Text) (a : AskedData) → sheet_meaning words ≡ Asks a → ComesOf (matches_of app words) a
unfolding sheet_meaning
sheet_means words a is = sheet_comes (fault_of app words) (matches_of app words) a is

run_means : (words : List Text) (a : AskedData) → run_meaning words ≡ Asks a → ⊥
unfolding run_meaning
run_means words a is = run_asks (fault_of run_app words) (matches_of run_app words) a is

pub words_come : (words : List Text) (a : AskedData) → asked_in words ≡ Asks a → ComesOf (matches_of app words) a
unfolding asked_in
words_come words a is = either_comes (list_any is_rule_word words) (run_meaning words) (sheet_meaning words) a (run_means words a) (sheet_means words a) is
