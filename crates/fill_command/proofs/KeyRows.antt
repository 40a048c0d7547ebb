-- The records of first keys, and a part of one key more.
use Rattle.std.proofs.Common.{◌≡◌, ℕ, ◌+◌, ◌<◌, List, [], ◌∷◌, ◌++◌, length, take, map, get_or, Option, refl, sym, ap, ◌∙◌, subst}
use Rattle.std.specs.Io.KnownBytes.{Appends}
use Rattle.std.proofs.lemmas.List.{take_more}
use Rattle.fill_edge.specs.Outside.{AppendsPart}
use Rattle.fill_sheet.specs.Report.{record_text}
use Rattle.fill_output.specs.Fields.{report_text}
use Rattle.fill_output.specs.Fields.{Fields}
use Rattle.fill_output.proofs.Bytes.{part_more}
use Rattle.fill_command.specs.Output.{key_record, keys_text}

records-append : (xs ys : List (List ℕ)) → map key_record (xs ++ ys) ≡ map key_record xs ++ map key_record ys
records-append [] ys = refl
records-append (x ∷ xs) ys = ap (λ (l : List Fields). key_record x ∷ l) (records-append xs ys)

module _ (keys : List (List ℕ)) (i : ℕ) (key : List ℕ) (within : i < length keys) (is : key ≡ get_or keys i key) where
  next_records : map key_record (take (i + 1) keys) ≡ map key_record (take i keys) ++ key_record key ∷ []
  next_records =
      let next : take (i + 1) keys ≡ take i keys ++ key ∷ [] = take_more keys i key within ∙ ap (λ (k : List ℕ). take i keys ++ k ∷ []) (sym is) in
      ap (map key_record) next ∙ records-append (take i keys) (key ∷ [])

  pub key_part : (old mid new : Option (List ℕ)) → Appends old mid (keys_text (take i keys)) → AppendsPart mid new (record_text (key_record key)) → AppendsPart old new (keys_text (take (i + 1) keys))
  key_part old mid new w h =
      subst (λ (l : List Fields). AppendsPart old new (report_text l)) (sym next_records) (part_more old mid new (map key_record (take i keys)) (key_record key) w h)
