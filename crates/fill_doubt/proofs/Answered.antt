-- Each tree has one answer on a row: a value, or none.
use Rattle.std.proofs.Common.{◌≡◌, ℕ, ◌+◌, ◌-◌, ◌<◌, ◌≤◌, List, [], ◌∷◌, ◌++◌, length, reverse, true, false, leb, Option, None, Some, position, slice_range, nat_lt, cond, pos, negsuc, refl, sym, arith}
use Rattle.std.proofs.lemmas.Bool.Decides.{nat_tests}
use Rattle.fill_text.specs.Data.{SheetData, TableData, nth, cell_at, table_cell_at}
use Rattle.fill_tables.specs.Keys.{KeysDistinguish}
use Rattle.fill_tables.specs.Rows.{has_cells}
use Rattle.fill_tables.proofs.Found.{find-None, find-Some}
use Rattle.fill_tokens.specs.Value.{HasValue}
use Rattle.fill_tokens.specs.declared.place.Place.{Place}
use Rattle.fill_tokens.specs.declared.place.Place.TheVariants.{CPos, Pos}
use Rattle.fill_tokens.proofs.CutLaws.{from_left, from_right}
use Rattle.fill_tokens.proofs.ListsExist.{cuts_exist}
use Rattle.fill_tokens.proofs.ValueLaws.{one_value}
use Rattle.fill_tree.specs.Tree.{SourceTree, AtomTree, Atoms, col, select, constant, whole, sub, end, more}
use Rattle.fill_tree.specs.Value.{IsValue, LooksUp, IsFilled, IsPieceBetween, IsHeadAndTail, IsJoined, SourceIs, AtomIs, ConditionIs, ConditionsAre}
use Rattle.fill_eval.proofs.Values.{none_is, some_is, has, only, never, alike}
use Rattle.fill_eval.proofs.Lookups.{looked_up, no_row, no_key}
use Rattle.fill_eval.proofs.Pieces.{filled_some, filled_none, filled_of, filled_of_none, between_some, between_none, between_apart, between_of, between_of_none, atom_filled}
use Rattle.fill_doubt.specs.Answers.{between}
use Rattle.fill_doubt.specs.Walks.{joined}

-- the property has a value, or none
abbrev pub Answered : {A : Type 0} → (A → Type 0) → Type 0
Answered {A} P = (o : Option A) × IsValue P o

-- at most one answer
pub answer_one : {A : Type 0} (P : A → Type 0) (o q : Option A) → IsValue P o → IsValue P q → o ≡ q
answer_one P None None is other = refl
answer_one P None (Some y) is other = absurd (never P y is (has P y other))
answer_one P (Some x) q is other = sym ((other x).0 (has P x is))

pub place_is : (p : Place) (t : List ℕ) (k : ℕ) → HasValue p t k → IsValue (HasValue p t) (Some k)
place_is p t k h = some_is (HasValue p t) k h (λ v g. one_value p t k v h g)

pub place_none : (p : Place) (t : List ℕ) → ((k : ℕ) → ¬ (HasValue p t k)) → IsValue (HasValue p t) None
place_none p t none = none_is (HasValue p t) none

pub place_answer : (p : Place) (t : List ℕ) → Answered (HasValue p t)
place_answer (CPos (pos j)) t = elim (leb j (length t)) as (λ b. leb j (length t) ≡ b → Answered (HasValue (CPos (pos j)) t)) [
  | true ↦ λ e. (Some j, place_is (CPos (pos j)) t j ((grind (arith, nat_tests)), refl))
  | false ↦ λ e. let lt : length t < j = grind (arith, nat_tests) in (None, place_none (CPos (pos j)) t (λ k h. let le = h.0 in omega arith))
] refl
place_answer (CPos (negsuc j)) t = elim (leb j (length t)) as (λ b. leb j (length t) ≡ b → Answered (HasValue (CPos (negsuc j)) t)) [
  | true ↦ λ e. let le : j ≤ length t = grind (arith, nat_tests) in (Some (length t - j), place_is (CPos (negsuc j)) t (length t - j) (omega arith))
  | false ↦ λ e. let lt : length t < j = grind (arith, nat_tests) in (None, place_none (CPos (negsuc j)) t (λ k h. omega arith))
] refl
place_answer (Pos r s (pos c)) t = let ks = cuts_exist r s t in (nth ks.0 c, λ k. from_left r s t ks.0 ks.1 c k)
place_answer (Pos r s (negsuc c)) t = let ks = cuts_exist r s t in (nth (reverse ks.0) (c + 1), λ k. from_right r s t ks.0 ks.1 (c + 1) k)

-- the piece between two places is that between their positions
pub between_is : (t : List ℕ) (p q : Place) (a b : Option ℕ) → IsValue (HasValue p t) a → IsValue (HasValue q t) b → IsValue (IsPieceBetween (λ u. u ≡ t) p q) (between t a b)
between_is t p q None b left right = between_none t p q (λ k l h g lt. never (HasValue p t) k left h)
between_is t p q (Some a) None left right = between_none t p q (λ k l h g lt. never (HasValue q t) l right g)
between_is t p q (Some a) (Some b) left right =
    elim (nat_lt a b) as (λ c. nat_lt a b ≡ c → IsValue (IsPieceBetween (λ u. u ≡ t) p q) (cond c (Some (slice_range t a b)) None)) [
      | true ↦ λ e. between_some t p q a b (has (HasValue p t) a left) (has (HasValue q t) b right) (grind (arith, nat_tests))
      | false ↦ λ e. between_apart t p q a b (has (HasValue p t) a left) (has (HasValue q t) b right) (grind (arith, nat_tests))
    ] refl

empty_or : (t : List ℕ) → Answered (IsFilled (λ u. u ≡ t))
empty_or [] = (None, filled_none [] refl)
empty_or (c ∷ t) = (Some (c ∷ t), filled_some (c ∷ t) (λ e. cc))

filled_answer : (P : List ℕ → Type 0) → Answered P → Answered (IsFilled P)
filled_answer P (None, is) = (None, filled_of_none P is)
filled_answer P (Some t, is) = let f = empty_or t in (f.0, filled_of P t f.0 is f.1)

piece_answer : (P : List ℕ → Type 0) (p q : Place) → Answered P → Answered (IsPieceBetween P p q)
piece_answer P p q (None, is) = (None, between_of_none P p q is)
piece_answer P p q (Some t, is) =
    let a = place_answer p t in
    let b = place_answer q t in
    let piece = between t a.0 b.0 in
    (piece, between_of P p q t piece is (between_is t p q a.0 b.0 a.1 b.1))

-- a text in front of those after it
abbrev pub put_front : Option (List ℕ) → Option (List (List ℕ)) → Option (List (List ℕ))
put_front None vs = None
put_front (Some v) None = None
put_front (Some v) (Some vs) = Some (v ∷ vs)

pub head_is : (P : List ℕ → Type 0) (Q : List (List ℕ) → Type 0) (a : Option (List ℕ)) (b : Option (List (List ℕ))) → IsValue P a → IsValue Q b → IsValue (IsHeadAndTail P Q) (put_front a b)
head_is P Q None b first rest = none_is (IsHeadAndTail P Q) no
  where
    no : (vs : List (List ℕ)) → ¬ (IsHeadAndTail P Q vs)
    no [] h = h
    no (v ∷ vs) h = never P v first h.0
head_is P Q (Some v) None first rest = none_is (IsHeadAndTail P Q) no
  where
    no : (vs : List (List ℕ)) → ¬ (IsHeadAndTail P Q vs)
    no [] h = h
    no (w ∷ ws) h = never Q ws rest h.1
head_is P Q (Some v) (Some vs) first rest = some_is (IsHeadAndTail P Q) (v ∷ vs) (has P v first, has Q vs rest) one
  where
    one : (ws : List (List ℕ)) → IsHeadAndTail P Q ws → v ∷ vs ≡ ws
    one [] h = absurd h
    one (w ∷ ws) h = let heads = only P v w first h.0 in let tails = only Q vs ws rest h.1 in cc

-- one text before another
pub joined_is : (P Q : List ℕ → Type 0) (a b : Option (List ℕ)) → IsValue P a → IsValue Q b → IsValue (IsJoined P Q) (joined a b)
joined_is P Q None b first rest = none_is (IsJoined P Q) (λ v h. never P h.0 first h.2)
joined_is P Q (Some v) None first rest = none_is (IsJoined P Q) (λ w h. never Q h.1 rest h.3)
joined_is P Q (Some v) (Some w) first rest = some_is (IsJoined P Q) (v ++ w) (v, w, has P v first, has Q w rest, refl) (λ u h.
    let fronts : v ≡ h.0 = only P v h.0 first h.2 in
    let backs : w ≡ h.1 = only Q w h.1 rest h.3 in
    let whole : u ≡ h.0 ++ h.1 = h.4 in
    cc)

module _ (sheet : SheetData) (tables : List TableData) (distinguish : KeysDistinguish tables) where
  lookup_by_row : (Q : List (List ℕ) → Type 0) (column table key : ℕ) (texts : List (List ℕ)) (t : TableData) (columns : List ℕ) → nth tables table ≡ Some t → nth t.keys key ≡ Some columns
      → IsValue Q (Some texts) → Answered (LooksUp Q tables column table key)
  lookup_by_row Q column table key texts t columns there is are =
      elim (position (has_cells columns texts) t.rows) as (λ (o : Option ℕ). position (has_cells columns texts) t.rows ≡ o → Answered (LooksUp Q tables column table key)) [
        | None ↦ λ e. (None, no_row tables Q column table key texts are (find-None tables table key texts t columns there is e))
        | Some k ↦ λ e.
            (table_cell_at tables table (k + 1) column, looked_up sheet tables Q column table key (k + 1) texts distinguish are (find-Some tables table key texts t columns k there is e))
      ] refl

  lookup_by_key : (Q : List (List ℕ) → Type 0) (column table key : ℕ) (texts : List (List ℕ)) (t : TableData) → nth tables table ≡ Some t → IsValue Q (Some texts) → Answered (LooksUp Q tables column table key)
  lookup_by_key Q column table key texts t there are =
      elim (nth t.keys key) as (λ (o : Option (List ℕ)). nth t.keys key ≡ o → Answered (LooksUp Q tables column table key)) [
        | None ↦ λ e. (None, no_row tables Q column table key texts are (no_key tables table key texts (rw there e)))
        | Some columns ↦ λ e. lookup_by_row Q column table key texts t columns there e are
      ] refl

  pub lookup_answer : (Q : List (List ℕ) → Type 0) (column table key : ℕ) → Answered Q → Answered (LooksUp Q tables column table key)
  lookup_answer Q column table key (None, is) = (None, none_is (LooksUp Q tables column table key) (λ v h. never Q h.0 is h.2))
  lookup_answer Q column table key (Some texts, are) =
      elim (nth tables table) as (λ (o : Option TableData). nth tables table ≡ o → Answered (LooksUp Q tables column table key)) [
        | None ↦ λ e. (None, no_row tables Q column table key texts are (no_key tables table key texts (rw e refl)))
        | Some t ↦ λ e. lookup_by_key Q column table key texts t e are
      ] refl

  module _ (row : ℕ) where
    mutual
      pub source_answer : (x : SourceTree) → Answered (SourceIs sheet tables row x)
      source_answer (col c) = (cell_at sheet row c, λ v. ((λ h. h), (λ h. h)))
      source_answer (select column table key conditions) = lookup_answer (ConditionsAre sheet tables row conditions) column table key (conditions_answer conditions)

      pub condition_answer : (a : AtomTree) → Answered (ConditionIs sheet tables row a)
      condition_answer (constant t) = (Some t, some_is (λ v. v ≡ t) t refl (λ v h. sym h))
      condition_answer (whole s) = filled_answer (SourceIs sheet tables row s) (source_answer s)
      condition_answer (sub s p q) = piece_answer (SourceIs sheet tables row s) p q (source_answer s)

      pub conditions_answer : (cs : Atoms) → Answered (ConditionsAre sheet tables row cs)
      conditions_answer end = (Some [], some_is (λ vs. vs ≡ []) [] refl (λ v h. sym h))
      conditions_answer (more a rest) =
          let first = condition_answer a in
          let others = conditions_answer rest in
          (put_front first.0 others.0, head_is (ConditionIs sheet tables row a) (ConditionsAre sheet tables row rest) first.0 others.0 first.1 others.1)

    pub atom_answer : (a : AtomTree) → Answered (AtomIs sheet tables row a)
    atom_answer a =
        let f = filled_answer (ConditionIs sheet tables row a) (condition_answer a) in
        (f.0, alike (IsFilled (ConditionIs sheet tables row a)) (AtomIs sheet tables row a) f.0 (atom_filled sheet tables row a) f.1)
