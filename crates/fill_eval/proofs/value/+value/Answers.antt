use Rattle.std.proofs.Common.{◌≡◌, ◌<◌, ◌+◌, ◌∙◌, ℕ, List, [], ◌∷◌, ◌++◌, length, map, drop, Some, option_map, ap}
use Rattle.std.proofs.lemmas.List.{drop_more, map-append}
use Rattle.fill_tables.specs.Keys.{IsKeyedRow}
use Rattle.fill_tree.specs.Meaning.{source_tree, atom_tree}
use Rattle.fill_tree.specs.Tree.{atoms_of}
use Rattle.fill_tree.specs.Value.{SourceIs, ConditionsAre, IsValue, IsFilled, IsPieceBetween}
use Rattle.fill_eval.specs.Piece.{piece_text}
use Rattle.fill_eval.proofs.Pieces.{filled_of, between_of}
use Rattle.fill_eval.proofs.Values.{conditions_none, conditions_more}
use Rattle.fill_eval.proofs.Lookups.{looked_up, no_row, too_many_texts}
use Rattle.fill_eval.proofs.Trees.{whole_tree, sub_tree, lookup_tree}
use Rattle.fill_eval.proofs.value.+value.Goals as goal

pub condition_piece-returns-in_ok-text-in-Whole-clause-value : goal.condition_piece-returns-in_ok-text-in-Whole-clause-value
condition_piece-returns-in_ok-text-in-Whole-clause-value n c =
    let P = SourceIs c.args.sheet.now c.args.tables.now c.args.row (source_tree c.in-Whole.source) in
    let filled : IsValue (IsFilled P) (option_map piece_text c.filled.result) = filled_of P c.in_ok-text-in-Whole.text.now (option_map piece_text c.filled.result) c.in_ok-text-in-Whole.ensures
    (rw c.whole-in-Whole.ensures.value at c.filled.ensures.value) in
    rw (c.in-Whole.is, whole_tree c.in-Whole.source) filled

pub condition_piece-returns-in_ok-text-in-Sub-clause-value : goal.condition_piece-returns-in_ok-text-in-Sub-clause-value
condition_piece-returns-in_ok-text-in-Sub-clause-value n c =
    let P = SourceIs c.args.sheet.now c.args.tables.now c.args.row (source_tree c.in-Sub.source) in
    let piece : IsValue (IsPieceBetween P c.in-Sub.left c.in-Sub.right) (option_map piece_text c.between.result) =
    between_of P c.in-Sub.left c.in-Sub.right c.in_ok-text-in-Sub.text.now (option_map piece_text c.between.result) c.in_ok-text-in-Sub.ensures c.between.ensures.value in
    rw (c.in-Sub.is, sub_tree c.in-Sub.source c.in-Sub.left c.in-Sub.right) piece

pub condition_texts-returns-in_default-clause-none : goal.condition_texts-returns-in_default-clause-none
condition_texts-returns-in_default-clause-none n c texts are =
    let W = ConditionsAre c.args.sheet.now c.args.tables.now c.args.row (atoms_of (map atom_tree c.args.conditions.now)) in
    let a = c.condition-item.result in
    let i = c.loop-condition.condition-index in
    let next : drop i c.args.conditions.now ≡ a ∷ drop (i + 1) c.args.conditions.now = rw (← c.condition-item.is) at (drop_more c.args.conditions.now i a c.loop-condition-test.true) in
    let done = map (λ cell. cell.now) c.loop-condition.cells.items in
    let after = rw next at c.loop-condition.invariant in
    absurd (conditions_none c.args.sheet.now c.args.tables.now c.args.row done W (atom_tree a) (atoms_of (map atom_tree (drop (i + 1) c.args.conditions.now))) after c.in_default.ensures.value texts are)

pub select_text-returns-in_err-cells : goal.select_text-returns-in_err-cells
select_text-returns-in_err-cells n c =
    let s = c.args.s.now in
    let Q = ConditionsAre c.args.sheet.now c.args.tables.now c.args.row (atoms_of (map atom_tree s.conditions)) in
    let many : (texts : List (List ℕ)) → Q texts → 3 < length texts = rw c.as_slice.ensures at c.in_err-cells.ensures.none in
    rw (c.from_residual.ensures, lookup_tree s) (too_many_texts c.args.tables.now Q s.column s.table s.key c.has_key.ensures.shape many)

pub select_text-returns-in_err-found : goal.select_text-returns-in_err-found
select_text-returns-in_err-found n c =
    let s = c.args.s.now in
    let Q = ConditionsAre c.args.sheet.now c.args.tables.now c.args.row (atoms_of (map atom_tree s.conditions)) in
    let texts = map (λ cell. cell.now) c.in_ok-cells.cells.items in
    let are : IsValue Q (Some texts) = rw c.as_slice.ensures at c.in_ok-cells.ensures.some in
    let none : (row : ℕ) → ¬ (IsKeyedRow c.args.tables.now s.table s.key texts row) = rw c.as_slice-2.ensures.value at c.in_err-found.ensures.found in
    rw (c.from_residual-in_err-found.ensures, lookup_tree s) (no_row c.args.tables.now Q s.column s.table s.key texts are none)

pub select_text-returns : goal.select_text-returns
select_text-returns n c =
    let s = c.args.s.now in
    let Q = ConditionsAre c.args.sheet.now c.args.tables.now c.args.row (atoms_of (map atom_tree s.conditions)) in
    let texts = map (λ cell. cell.now) c.in_ok-cells.cells.items in
    let are : IsValue Q (Some texts) = rw c.as_slice.ensures at c.in_ok-cells.ensures.some in
    let found : IsKeyedRow c.args.tables.now s.table s.key texts c.in_ok-found.found = rw c.as_slice-2.ensures.value at c.in_ok-found.ensures.found in
    rw (c.table_cell.ensures, lookup_tree s) (looked_up c.args.sheet.now c.args.tables.now Q s.column s.table s.key c.in_ok-found.found texts c.in_ok-found.ensures.one are found)

pub condition_texts-loop-condition-preserved : goal.condition_texts-loop-condition-preserved
condition_texts-loop-condition-preserved n c =
    let W = ConditionsAre c.args.sheet.now c.args.tables.now c.args.row (atoms_of (map atom_tree c.args.conditions.now)) in
    let a = c.condition-item.result in
    let i = c.loop-condition.condition-index in
    let next : drop i c.args.conditions.now ≡ a ∷ drop (i + 1) c.args.conditions.now = rw (← c.condition-item.is) at (drop_more c.args.conditions.now i a c.loop-condition-test.true) in
    let cells = c.loop-condition.cells.items in
    let done = map (λ cell. cell.now) cells in
    let v = piece_text c.in-Some.piece in
    let after = rw next at c.loop-condition.invariant in
    let same : map (λ cell. cell.now) c.push.new.self.items ≡ done ++ v ∷ [] =
    rw c.push.ensures.items (map-append (λ cell. cell.now) cells (c.as_slice.result ∷ []) ∙ ap (λ x. done ++ x ∷ []) c.as_slice.ensures) in
    rw same (conditions_more c.args.sheet.now c.args.tables.now c.args.row done W (atom_tree a) (atoms_of (map atom_tree (drop (i + 1) c.args.conditions.now))) v after c.in-Some.ensures.value)
