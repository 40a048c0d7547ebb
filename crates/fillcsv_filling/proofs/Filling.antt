-- What is written of a long sheet, block by block.
use Rattle.std.proofs.Common.{◌≡◌, ◌∙◌, ℕ, zero, suc, ◌+◌, ◌≤◌, List, [], ◌∷◌, ◌++◌, take, Option, Bool, arith, ap, refl, subst, sym}
use Rattle.std.specs.Prelude.{◌||◌}
use Rattle.std.specs.List.{AllZip, list_any, range_with_len}
use Rattle.fill_text.specs.Data.{TableData}
use Rattle.fill_tree.specs.declared.user.Example.{Example}
use Rattle.fill_space.specs.declared.ground.Ground.{Ground}
use Rattle.fill_states.specs.declared.row_state.RowState.{RowState}
use Rattle.fill_output.proofs.Bytes.{appends_then, part_then as part_both}
use Rattle.fillcsv_rows.specs.Filled.{IsCellState, IsFilledRow, TellsUnsure, WritesPart, WritesRows, is_unsure}
use Rattle.fillcsv_blocks.specs.Blocks.{BlockData, StandsFor}
use Rattle.fillcsv_filling.specs.Long.{ground_of, rows_of}
use Rattle.fillcsv_filling.specs.Rows.{TellsOf, WritesOf, WritesPartOf}
use Rattle.fillcsv_filling.specs.Taught.{examples_of, ground_with}
use Rattle.fillcsv_filling.specs.Long.{LongData}
use Rattle.fillcsv_filling.proofs.Rowwise.{or_assoc}

zip_both : {B : Type 0} (R : ℕ → B → Type 0) (xs xs' : List ℕ) (ys ys' : List B) → AllZip R xs ys → AllZip R xs' ys' → AllZip R (xs ++ xs') (ys ++ ys')
zip_both R [] xs' [] ys' h k = k
zip_both R [] xs' (b ∷ ys) ys' h k = absurd h
zip_both R (a ∷ xs) xs' [] ys' h k = absurd h
zip_both R (a ∷ xs) xs' (b ∷ ys) ys' h k = (h.0, zip_both R xs xs' ys ys' h.1 k)

any_both : (xs ys : List RowState) → list_any is_unsure (xs ++ ys) ≡ (list_any is_unsure xs || list_any is_unsure ys)
any_both [] ys = refl
any_both (x ∷ xs) ys = ap (λ b. is_unsure x || b) (any_both xs ys) ∙ sym (or_assoc (is_unsure x) (list_any is_unsure xs) (list_any is_unsure ys))

pub take_range : (first n k : ℕ) → k ≤ n → take k (range_with_len first n) ≡ range_with_len first k
take_range first n zero le = refl
take_range first zero (suc k) le = absurd (omega arith)
take_range first (suc n) (suc k) le = ap (λ (l : List ℕ). first ∷ l) (take_range (first + 1) n k (omega arith))

-- by a block what is told of rows is told over the whole sheet
module _ (s : LongData) (tables : List TableData) (block : BlockData) (examples : List Example) (stands : StandsFor (ground_of s tables) block examples) where
  over_sheet : (P : Ground → List Example → Type 0) → P (ground_with s block) (examples_of block) → P (ground_of s tables) examples
  over_sheet P p =
      subst (λ (l : List Example). P (ground_of s tables) l) (sym stands.same) (subst (λ (t : List TableData). P (ground_of s t) (examples_of block)) stands.part.same.tables p)

  module _ (n m : ℕ) (rows : List ℕ) (numbers : range_with_len 1 n ++ rows ≡ range_with_len 1 m) (old mid new : Option (List ℕ)) where
    pub rows_then : WritesRows s.form s.typed (ground_of s tables) examples (rows_of s) [] n old mid → WritesOf s block rows mid new
        → WritesRows s.form s.typed (ground_of s tables) examples (rows_of s) [] m old new
    rows_then before next =
        let made = over_sheet (λ (g : Ground) (l : List Example). AllZip (IsFilledRow s.form s.typed g l (rows_of s)) rows next.0) next.1 in
        let Row = IsFilledRow s.form s.typed (ground_of s tables) examples (rows_of s) in (
          before.0 ++ next.0,
          subst (λ (l : List ℕ). AllZip Row l (before.0 ++ next.0)) numbers (zip_both Row (range_with_len 1 n) rows before.0 next.0 before.1 made),
          appends_then old mid new before.0 next.0 before.2 next.2,
        )

    pub part_then : WritesRows s.form s.typed (ground_of s tables) examples (rows_of s) [] n old mid → WritesPartOf s block rows mid new
        → WritesPart s.form s.typed (ground_of s tables) examples (rows_of s) [] m old new
    part_then before next =
        let made = over_sheet (λ (g : Ground) (l : List Example). AllZip (IsFilledRow s.form s.typed g l (rows_of s)) rows next.0) next.1 in
        let Row = IsFilledRow s.form s.typed (ground_of s tables) examples (rows_of s) in (
          before.0 ++ next.0,
          subst (λ (l : List ℕ). AllZip Row l (before.0 ++ next.0)) numbers (zip_both Row (range_with_len 1 n) rows before.0 next.0 before.1 made),
          part_both old mid new before.0 next.0 before.2 next.2,
        )

  pub tells_then : (n m : ℕ) (rows : List ℕ) → range_with_len 1 n ++ rows ≡ range_with_len 1 m → (first mid now : Bool)
      → TellsUnsure s.typed (ground_of s tables) examples n first mid → TellsOf s block rows mid now → TellsUnsure s.typed (ground_of s tables) examples m first now
  tells_then n m rows numbers first mid now before next =
      let states = over_sheet (λ (g : Ground) (l : List Example). AllZip (IsCellState s.typed g l) rows next.0) next.1 in
      let State = IsCellState s.typed (ground_of s tables) examples in (
        before.0 ++ next.0,
        subst (λ (l : List ℕ). AllZip State l (before.0 ++ next.0)) numbers (zip_both State (range_with_len 1 n) rows before.0 next.0 before.1 states),
        next.2 ∙ ap (λ b. b || list_any is_unsure next.0) before.2 ∙ or_assoc first (list_any is_unsure before.0) (list_any is_unsure next.0)
            ∙ ap (λ b. first || b) (sym (any_both before.0 next.0)),
      )
