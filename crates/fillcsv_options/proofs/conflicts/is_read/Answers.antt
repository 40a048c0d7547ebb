use Rattle.std.proofs.Common.{◌≡◌, ◌∙◌, false, List, ℕ, ap, sym}
use Rattle.std.specs.List.{list_any}
use Rattle.std.specs.Str.{bytes_eq}
use Rattle.fillcsv_options.specs.Conflicts.{is_table_at}
use Rattle.fillcsv_options.specs.Words.{data_of, lookup_data}
use Rattle.fillcsv_options.specs.declared.asked.Lookup.{Lookup}
use Rattle.fillcsv_options.proofs.Parts.{any_mapped, second_decides}
use Rattle.fillcsv_options.proofs.conflicts.is_read.Goals as goal

pub returns : goal.returns
returns c =
    let d = data_of c.args.asked.now in
    let path = c.args.path.now in
    let unlike : bytes_eq d.file path ≡ false = ap (λ (t : List ℕ). bytes_eq t path) (sym c.as_str.ensures.value) ∙ (sym c.eq.ensures ∙ c.if-eq.false) in
    let mapped = any_mapped lookup_data (is_table_at path) c.args.asked.now.lookups.items in
    let tables = c.has_table_at.ensures ∙ (ap (λ (l : List Lookup). list_any (λ x. is_table_at path (lookup_data x)) l) c.as_slice.ensures.value ∙ sym mapped) in
    second_decides (bytes_eq d.file path) (list_any (is_table_at path) d.lookups) c.has_table_at.result unlike tables
