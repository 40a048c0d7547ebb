-- A tree has at most one value on a row, where the tables' keys distinguish their rows.
use Rattle.std.proofs.Common.{◌≡◌, ℕ, List, [], ◌∷◌, ◌++◌, Some, map, slice_range, sym, ap, subst, ◌∙◌}
use Rattle.fill_text.specs.Data.{SheetData, TableData, nth, table_cell_at}
use Rattle.fill_tokens.specs.Value.{HasValue}
use Rattle.fill_tokens.specs.declared.place.Place.{Place}
use Rattle.fill_tokens.proofs.ValueLaws.{one_value}
use Rattle.fill_tree.specs.Tree.{SourceTree, AtomTree, Atoms, col, select, constant, whole, sub, end, more}
use Rattle.fill_tables.specs.Keys.{IsKeyedRow, KeysDistinguish}
use Rattle.fill_tree.specs.Value.{LooksUp, IsFilled, IsPieceBetween, IsHeadAndTail, IsJoined, SourceIs, AtomIs, ConditionIs, ConditionsAre, ProgramIs}

-- at most one value has the property
abbrev pub AtMostOne : {A : Type 0} → (A → Type 0) → Type 0
AtMostOne {A} P = (x y : A) → P x → P y → x ≡ y

some_injective : {A : Type 0} (x y : A) → Some x ≡ Some y → x ≡ y
some_injective x y h = cc

module _ (sheet : SheetData) (tables : List TableData) (distinguish : KeysDistinguish tables) where
  pub keyed_row_one : (table key : ℕ) (texts : List (List ℕ)) → AtMostOne (IsKeyedRow tables table key texts)
  keyed_row_one table key texts r s h k =
      let same : k.0 ≡ h.0 = some_injective k.0 h.0 (sym k.2 ∙ h.2) in
      let agree : map (nth h.1) h.0 ≡ map (nth k.1) h.0 = h.4 ∙ sym (subst (λ c. map (nth k.1) c ≡ map Some texts) same k.4) in
      distinguish table key r s h.0 h.1 k.1 h.2 h.3 k.3 agree

  lookup_one : (P : List (List ℕ) → Type 0) (column table key : ℕ) → AtMostOne P → AtMostOne (LooksUp P tables column table key)
  lookup_one P column table key one v w h k =
      let texts : k.0 ≡ h.0 = one k.0 h.0 k.2 h.2 in
      let rows : h.1 ≡ k.1 = keyed_row_one table key h.0 h.1 k.1 h.3 (subst (λ t. IsKeyedRow tables table key t k.1) texts k.3) in
      some_injective v w (sym h.4 ∙ ap (λ r. table_cell_at tables table r column) rows ∙ k.4)

  filled_one : (P : List ℕ → Type 0) → AtMostOne P → AtMostOne (IsFilled P)
  filled_one P one v w h k = one v w h.0 k.0

  piece_one : (P : List ℕ → Type 0) (p q : Place) → AtMostOne P → AtMostOne (IsPieceBetween P p q)
  piece_one P p q one v w h k =
      let texts : k.0 ≡ h.0 = one k.0 h.0 k.3 h.3 in
      let lefts : h.1 ≡ k.1 = one_value p h.0 h.1 k.1 h.4 (subst (λ t. HasValue p t k.1) texts k.4) in
      let rights : h.2 ≡ k.2 = one_value q h.0 h.2 k.2 h.5 (subst (λ t. HasValue q t k.2) texts k.5) in
      let left : v ≡ slice_range h.0 h.1 h.2 = h.7 in
      let right : w ≡ slice_range k.0 k.1 k.2 = k.7 in
      cc

  head_and_tail_one : (P : List ℕ → Type 0) (Q : List (List ℕ) → Type 0) → AtMostOne P → AtMostOne Q → AtMostOne (IsHeadAndTail P Q)
  head_and_tail_one P Q one rest [] ws h k = absurd h
  head_and_tail_one P Q one rest (v ∷ vs) [] h k = absurd k
  head_and_tail_one P Q one rest (v ∷ vs) (w ∷ ws) h k =
      let heads = one v w h.0 k.0 in
      let tails = rest vs ws h.1 k.1 in
      cc

  joined_one : (P Q : List ℕ → Type 0) → AtMostOne P → AtMostOne Q → AtMostOne (IsJoined P Q)
  joined_one P Q one rest v w h k =
      let fronts : h.0 ≡ k.0 = one h.0 k.0 h.2 k.2 in
      let backs : h.1 ≡ k.1 = rest h.1 k.1 h.3 k.3 in
      let left : v ≡ h.0 ++ h.1 = h.4 in
      let right : w ≡ k.0 ++ k.1 = k.4 in
      cc

  module _ (row : ℕ) where
    mutual
      pub source_one : (s : SourceTree) → AtMostOne (SourceIs sheet tables row s)
      source_one (col c) v w h k = some_injective v w (sym h ∙ k)
      source_one (select column table key conditions) v w h k =
          lookup_one (ConditionsAre sheet tables row conditions) column table key (conditions_one conditions) v w h k

      pub condition_one : (a : AtomTree) → AtMostOne (ConditionIs sheet tables row a)
      condition_one (constant t) v w h k = h ∙ sym k
      condition_one (whole s) v w h k = filled_one (SourceIs sheet tables row s) (source_one s) v w h k
      condition_one (sub s p q) v w h k = piece_one (SourceIs sheet tables row s) p q (source_one s) v w h k

      pub conditions_one : (cs : Atoms) → AtMostOne (ConditionsAre sheet tables row cs)
      conditions_one end vs ws h k = h ∙ sym k
      conditions_one (more a rest) vs ws h k =
          head_and_tail_one (ConditionIs sheet tables row a) (ConditionsAre sheet tables row rest) (condition_one a) (conditions_one rest) vs ws h k

    pub atom_one : (a : AtomTree) → AtMostOne (AtomIs sheet tables row a)
    atom_one (constant t) v w h k = h.0 ∙ sym k.0
    atom_one (whole s) v w h k = filled_one (SourceIs sheet tables row s) (source_one s) v w h k
    atom_one (sub s p q) v w h k = piece_one (SourceIs sheet tables row s) p q (source_one s) v w h k

    pub program_one : (p : Atoms) → AtMostOne (ProgramIs sheet tables row p)
    program_one end v w h k = h ∙ sym k
    program_one (more a rest) v w h k =
        joined_one (AtomIs sheet tables row a) (ProgramIs sheet tables row rest) (atom_one a) (program_one rest) v w h k
