-- The answers of sets, by the items that the sets list.
use Rattle.std.proofs.Common.{◌≡◌, ◌↔◌, ◌⊎◌, inl, inr, ⊎_elim, ℕ, suc, ◌≤◌, length, drop, List, [], ◌∷◌, ◌++◌, Bool, true, false, ◌||◌, Option, None, Some, IfSome, option_map, slice_get, refl, sym, ap, subst, ◌∙◌}
use Rattle.std.proofs.lemmas.Bool.{false≢true}
use Rattle.std.proofs.lemmas.List.{drop_all}
use Rattle.fill_text.specs.Data.{SheetData, TableData, cell_at}
use Rattle.fill_tokens.specs.Value.{HasValue}
use Rattle.fill_tokens.specs.declared.place.Place.{Place}
use Rattle.fill_tokens.proofs.ValueLaws.{value_within}
use Rattle.fill_tree.specs.Grammar.{IsPart, HasPart, is_part, has_part}
use Rattle.fill_tree.specs.Tree.{SourceTree, AtomTree, Atoms, col, select, constant, whole, sub, end, more}
use Rattle.fill_tree.specs.Value.{IsValue, LooksUp, IsFilled, IsPieceBetween, IsHeadAndTail, SourceIs, AtomIs, ConditionIs, ConditionsAre}
use Rattle.fill_arena.specs.Contents.{SomeIn, IsPlaceSet}
use Rattle.fill_arena.specs.Stands.{AtomFits, AtomStands, SourceFits, SourceStands, PlaceStands, ConditionFits, ConditionsFit}
use Rattle.fill_arena.specs.declared.entry.AtomItem.{AtomItem}
use Rattle.fill_arena.specs.declared.entry.AtomItem.TheVariants.{Const, Whole, Sub}
use Rattle.fill_arena.specs.declared.entry.ConditionItem.{ConditionItem}
use Rattle.fill_arena.specs.declared.entry.Entry.{Entry}
use Rattle.fill_arena.specs.declared.entry.Entry.TheVariants as kind
use Rattle.fill_arena.specs.declared.entry.SelectItem.{SelectItem}
use Rattle.fill_arena.specs.declared.entry.SourceItem.{SourceItem}
use Rattle.fill_arena.specs.declared.entry.SourceItem.TheVariants.{Col, Select}
use Rattle.fill_eval.specs.Piece.{IsWithin, piece_text}
use Rattle.fill_eval.specs.declared.piece.Piece.{Piece}
use Rattle.fill_eval.proofs.Values.{none_is, has, only, never, alike}
use Rattle.fill_eval.proofs.Pieces.{filled_of, filled_of_none, between_of, between_of_none}
use Rattle.fill_doubt.specs.Answers.{AreBetween, between, AreJoined, PiecesHave}
use Rattle.fill_doubt.specs.Gives.{PlaceGives, SubGives, WholeOf, AreWholes, ArePiecesOf}
use Rattle.fill_doubt.specs.Memo.{IsOnRow, SourceAnswers, AtomAnswers, PartAnswers, SourceItemAnswers, PartItemAnswers, ConstantItemAnswers, ConditionPartAnswers, IsChoiceOf, ChoiceAnswers, IsRowOf, RowAnswers}
use Rattle.fill_doubt.specs.Rows.{CellsHave, Choice, RowText, RowsHave, ChosenBy, ChoicesHave, in_front, RowFinds, AreFound}
use Rattle.fill_doubt.specs.declared.conditions.Cells.{Cells}
use Rattle.fill_doubt.specs.declared.answers.Pieces.{Pieces}
use Rattle.fill_doubt.specs.declared.row.OnRow.{OnRow}
use Rattle.fill_doubt.proofs.Answered.{answer_one, place_answer, between_is, source_answer, conditions_answer, condition_answer, put_front, head_is}
use Rattle.fill_doubt.proofs.Appended.{append_assoc, append_none, drop_here}
use Rattle.fill_doubt.proofs.Filled.{atom_items, items_atom, source_items, items_source, place_stands}

-- pieces between places of two sets, by the sets' positions
pub sub_gives : (c : List Entry) (lefts rights : ℕ) (t : List ℕ) (o : Option (List ℕ)) → AreBetween t (PlaceGives c lefts t) (PlaceGives c rights t) o ↔ SubGives c lefts rights t o
sub_gives c lefts rights t o = (
  (λ h.
      let l = h.2 in
      let r = h.3 in
      (l.0, r.0, l.1, r.1, subst (IsValue (IsPieceBetween (λ u. u ≡ t) l.0 r.0)) (sym h.4) (between_is t l.0 r.0 h.0 h.1 l.2 r.2))),
  (λ h.
      let a = place_answer h.0 t in
      let b = place_answer h.1 t in
      (a.0, b.0, (h.0, h.2, a.1), (h.1, h.3, b.1), answer_one (IsPieceBetween (λ u. u ≡ t) h.0 h.1) o (between t a.0 b.0) h.4 (between_is t h.0 h.1 a.0 b.0 a.1 b.1))),
)

-- by positions that were found
pub between_gives : (c : List Entry) (lefts rights : ℕ) (t : List ℕ) (L R : Option ℕ → Type 0) → ((o : Option ℕ) → L o ↔ PlaceGives c lefts t o) → ((o : Option ℕ) → R o ↔ PlaceGives c rights t o)
    → (o : Option (List ℕ)) → AreBetween t L R o ↔ SubGives c lefts rights t o
between_gives c lefts rights t L R l r o =
    let both = sub_gives c lefts rights t o in (
      (λ h. both.0 (h.0, h.1, (l h.0).0 h.2, (r h.1).0 h.3, h.4)),
      (λ s. let h = both.1 s in (h.0, h.1, (l h.0).1 h.2, (r h.1).1 h.3, h.4)),
    )

pub ends_within : (c : List Entry) (rights : ℕ) (t : List ℕ) (R : Option ℕ → Type 0) → ((o : Option ℕ) → R o ↔ PlaceGives c rights t o) → (b : ℕ) → R (Some b) → b ≤ length t
ends_within c rights t R r b h = let p = (r (Some b)).0 h in value_within p.0 t b (has (HasValue p.0 t) b p.2)

-- by some of the positions
pub some_between : (c : List Entry) (lefts rights : ℕ) (t : List ℕ) (L R : Option ℕ → Type 0) → ((o : Option ℕ) → L o → PlaceGives c lefts t o) → ((o : Option ℕ) → R o → PlaceGives c rights t o)
    → (o : Option (List ℕ)) → AreBetween t L R o → SubGives c lefts rights t o
some_between c lefts rights t L R l r o h = (sub_gives c lefts rights t o).0 (h.0, h.1, l h.0 h.2, r h.1 h.3, h.4)

pub ends_sound : (c : List Entry) (rights : ℕ) (t : List ℕ) (R : Option ℕ → Type 0) → ((o : Option ℕ) → R o → PlaceGives c rights t o) → (b : ℕ) → R (Some b) → b ≤ length t
ends_sound c rights t R r b h = let p = r (Some b) h in value_within p.0 t b (has (HasValue p.0 t) b p.2)

-- what a property with an answer becomes where its text is taken whole or in pieces
pub whole_of : (P : List ℕ → Type 0) (t o : Option (List ℕ)) → IsValue P t → WholeOf t o ↔ IsValue (IsFilled P) o
whole_of P None o is = (
  (λ h. subst (IsValue (IsFilled P)) (sym h) (filled_of_none P is)),
  (λ h. answer_one (IsFilled P) o None h (filled_of_none P is)),
)
whole_of P (Some t) o is = (
  (λ h. filled_of P t o is h),
  (λ h. alike (IsFilled P) (IsFilled (λ u. u ≡ t)) o (λ v. ((λ f. (sym (only P t v is f.0), f.1)), (λ f. (subst P (sym f.0) (has P t is), f.1)))) h),
)

piece_of : (P : List ℕ → Type 0) (p q : Place) (t : List ℕ) (o : Option (List ℕ)) → IsValue P (Some t) → IsValue (IsPieceBetween P p q) o → IsValue (IsPieceBetween (λ u. u ≡ t) p q) o
piece_of P p q t o is = alike (IsPieceBetween P p q) (IsPieceBetween (λ u. u ≡ t) p q) o (λ v. (
  (λ f. (f.0, f.1, f.2, sym (only P t f.0 is f.3), f.4, f.5, f.6, f.7)),
  (λ f. (f.0, f.1, f.2, subst P (sym f.3) (has P t is), f.4, f.5, f.6, f.7)),
))

-- lookups by texts that are alike
found_by : (tables : List TableData) (Q : List (List ℕ) → Type 0) (column table key : ℕ) (texts : List (List ℕ)) (o : Option (List ℕ)) → IsValue Q (Some texts)
    → IsValue (LooksUp (λ ts. ts ≡ texts) tables column table key) o ↔ IsValue (LooksUp Q tables column table key) o
found_by tables Q column table key texts o is =
    let same : (v : List ℕ) → LooksUp (λ ts. ts ≡ texts) tables column table key v ↔ LooksUp Q tables column table key v = (λ v. (
      (λ h. (h.0, h.1, subst Q (sym h.2) (has Q texts is), h.3, h.4)),
      (λ h. (h.0, h.1, sym (only Q texts h.0 is h.2), h.3, h.4)),
    )) in (
      alike (LooksUp (λ ts. ts ≡ texts) tables column table key) (LooksUp Q tables column table key) o same,
      alike (LooksUp Q tables column table key) (LooksUp (λ ts. ts ≡ texts) tables column table key) o (λ v. ((same v).1, (same v).0)),
    )

found_by_none : (tables : List TableData) (Q : List (List ℕ) → Type 0) (column table key : ℕ) → IsValue Q None → IsValue (LooksUp Q tables column table key) None
found_by_none tables Q column table key is = none_is (LooksUp Q tables column table key) (λ v h. never Q h.0 is h.2)

-- the two forms of "not a constant"
pub part_true : (a : AtomTree) → is_part a ≡ true → IsPart a
part_true (constant t) e = absurd (false≢true e)
part_true (whole s) e = tt
part_true (sub s p q) e = tt

pub true_part : (a : AtomTree) → IsPart a → true ≡ is_part a
true_part (constant t) h = absurd h
true_part (whole s) h = refl
true_part (sub s p q) h = refl

parts_true : (cs : Atoms) → has_part cs ≡ true → HasPart cs
parts_true end e = absurd (false≢true e)
parts_true (more (constant t) rest) e = inr (parts_true rest e)
parts_true (more (whole s) rest) e = inl tt
parts_true (more (sub s p q) rest) e = inl tt

true_parts : (cs : Atoms) → HasPart cs → has_part cs ≡ true
true_parts end h = absurd h
true_parts (more (constant t) rest) h = ⊎_elim (λ l. absurd l) (λ r. true_parts rest r) h
true_parts (more (whole s) rest) h = refl
true_parts (more (sub s p q) rest) h = refl

row_eq : (r u : RowText) → r.texts ≡ u.texts → r.part ≡ u.part → r ≡ u
row_eq r u e f = ap (λ ts. let v : RowText = record { texts = ts; part = r.part } in v) e ∙ ap (λ b. let v : RowText = record { texts = u.texts; part = b } in v) f

-- with the texts of the conditions from a number on, those before it are the texts of all
abbrev pub AreJoinedTo : OnRow → List ConditionItem → ℕ → List Cells → Type 0
AreJoinedTo on items k made = (cs : List Cells) → ((o : Option RowText) → RowsHave cs o ↔ RowAnswers on (drop k items) o) → (o : Option RowText) → RowsHave (made ++ cs) o ↔ RowAnswers on items o

module _ (on : OnRow) (ok : IsOnRow on) where
  abbrev arena : List Entry
  arena = on.arena.now

  abbrev sheet : SheetData
  sheet = on.sheet.now

  abbrev tables : List TableData
  tables = on.tables.now

  pub sources_listed : (s : ℕ) (items : List SourceItem) → slice_get arena s ≡ Some (kind.Sources items) → (o : Option (List ℕ)) → SomeIn (λ i. SourceItemAnswers on i o) items ↔ SourceAnswers on s o
  sources_listed s items is o = (
    (λ h. (h.2.0, items_source arena s items is h.2.0 (h.0, h.1, h.2.1), h.2.2)),
    (λ h. let f = source_items arena s items is h.0 h.1 in (f.0, f.1, (h.0, f.2, h.2))),
  )

  pub parts_listed : (s : ℕ) (items : List AtomItem) → slice_get arena s ≡ Some (kind.Atoms items) → (o : Option (List ℕ)) → SomeIn (λ i. PartItemAnswers on i o) items ↔ PartAnswers on s o
  parts_listed s items is o = (
    (λ h. (h.2.0, items_atom arena s items is h.2.0 (h.0, h.1, h.2.1), h.2.2, h.2.3)),
    (λ h. let f = atom_items arena s items is h.0 h.1 in (f.0, f.1, (h.0, f.2, h.2, h.3))),
  )

  constant_item : (i : AtomItem) (t : List ℕ) (o : Option (List ℕ)) → AtomFits (constant t) arena i → IsValue (AtomIs sheet tables on.row (constant t)) o → ConstantItemAnswers i o
  constant_item (Const u) t o fits is = subst (λ w. IsValue (IsFilled (λ v. v ≡ w)) o) (sym fits) is
  constant_item (Whole b) t o fits is = fits
  constant_item (Sub b l r) t o fits is = fits

  item_constant : (i : AtomItem) (o : Option (List ℕ)) → ConstantItemAnswers i o → (a : AtomTree) × AtomFits a arena i × IsValue (AtomIs sheet tables on.row a) o
  item_constant (Const u) o is = (constant u, refl, is)
  item_constant (Whole b) o is = absurd is
  item_constant (Sub b l r) o is = absurd is

  -- all atoms of a set: those that are no constants, and the constants
  pub atoms_listed : (s : ℕ) (items : List AtomItem) → slice_get arena s ≡ Some (kind.Atoms items) → (o : Option (List ℕ)) → (PartAnswers on s o ⊎ SomeIn (λ i. ConstantItemAnswers i o) items) ↔ AtomAnswers on s o
  atoms_listed s items is o = (
    (λ h. ⊎_elim (λ l. (l.0, l.1, l.3)) (λ r. let a = item_constant r.0 o r.2 in (a.0, items_atom arena s items is a.0 (r.0, r.1, a.1), a.2)) h),
    (λ h. split h.0 h.1 h.2),
  )
    where
      split : (a : AtomTree) → AtomStands arena s a → IsValue (AtomIs sheet tables on.row a) o → PartAnswers on s o ⊎ SomeIn (λ i. ConstantItemAnswers i o) items
      split (constant t) stands v = let f = atom_items arena s items is (constant t) stands in inr (f.0, f.1, constant_item f.0 t o f.2 v)
      split (whole x) stands v = inl (whole x, stands, tt, v)
      split (sub x p q) stands v = inl (sub x p q, stands, tt, v)

  -- a column
  pub column_item : (column : ℕ) (o : Option (List ℕ)) → (o ≡ cell_at sheet on.row column) ↔ SourceItemAnswers on (Col column) o
  column_item column o = (
    (λ e. (col column, refl, subst (IsValue (λ v. cell_at sheet on.row column ≡ Some v)) (sym e) (λ v. ((λ h. h), (λ h. h))))),
    (λ h. back h.0 h.1 h.2),
  )
    where
      back : (x : SourceTree) → SourceFits x arena (Col column) → IsValue (SourceIs sheet tables on.row x) o → o ≡ cell_at sheet on.row column
      back (col m) fits is =
          answer_one (λ v. cell_at sheet on.row m ≡ Some v) o (cell_at sheet on.row m) is (λ v. ((λ h. h), (λ h. h))) ∙ ap (λ n. cell_at sheet on.row n) (sym fits)
      back (select column table key conditions) fits is = absurd fits

  -- no constant alone
  pub no_parts : (i : AtomItem) (o : Option (List ℕ)) (t : List ℕ) → i ≡ Const t → ¬ (PartItemAnswers on i o)
  no_parts i o t e h = go h.0 (subst (AtomFits h.0 arena) e h.1) h.2
    where
      go : (a : AtomTree) → AtomFits a arena (Const t) → IsPart a → ⊥
      go (constant u) fits part = part
      go (whole x) fits part = fits
      go (sub x p q) fits part = fits

  -- the wholes of a set's sources
  pub whole_item : (b : ℕ) (o : Option (List ℕ)) → AreWholes (SourceAnswers on b) o ↔ PartItemAnswers on (Whole b) o
  whole_item b o = (
    (λ h. let x = h.1.0 in (whole x, h.1.1, tt, (whole_of (SourceIs sheet tables on.row x) h.0 o h.1.2).0 h.2)),
    (λ h. back h.0 h.1 h.2 h.3),
  )
    where
      back : (a : AtomTree) → AtomFits a arena (Whole b) → IsPart a → IsValue (AtomIs sheet tables on.row a) o → AreWholes (SourceAnswers on b) o
      back (constant t) fits part is = absurd part
      back (whole x) fits part is =
          let t = source_answer sheet tables ok.distinguish on.row x in
          (t.0, (x, fits, t.1), (whole_of (SourceIs sheet tables on.row x) t.0 o t.1).1 is)
      back (sub x p q) fits part is = absurd fits

  -- pieces of them
  pub sub_item : (b l r : ℕ) (o : Option (List ℕ)) → ArePiecesOf arena l r (SourceAnswers on b) o → (p : Place) → PlaceStands arena l p → (q : Place) → PlaceStands arena r q → PartItemAnswers on (Sub b l r) o
  sub_item b l r o (None, t, e) p sp q sq =
      let P = SourceIs sheet tables on.row t.0 in
      (sub t.0 p q, (t.1, sp, sq), tt, subst (IsValue (IsPieceBetween P p q)) (sym e) (between_of_none P p q t.2))
  sub_item b l r o (Some v, t, h) p sp q sq =
      let P = SourceIs sheet tables on.row t.0 in
      (sub t.0 h.0 h.1, (t.1, h.2, h.3), tt, between_of P h.0 h.1 v o t.2 h.4)

  pub item_sub : (b l r : ℕ) (o : Option (List ℕ)) → PartItemAnswers on (Sub b l r) o → ArePiecesOf arena l r (SourceAnswers on b) o
  item_sub b l r o h = back h.0 h.1 h.2 h.3
    where
      pieces : (x : SourceTree) (p q : Place) → SourceStands arena b x → PlaceStands arena l p → PlaceStands arena r q → (t : Option (List ℕ)) → IsValue (SourceIs sheet tables on.row x) t
          → IsValue (IsPieceBetween (SourceIs sheet tables on.row x) p q) o → ArePiecesOf arena l r (SourceAnswers on b) o
      pieces x p q stands sp sq None is v =
          let P = SourceIs sheet tables on.row x in
          (None, (x, stands, is), answer_one (IsPieceBetween P p q) o None v (between_of_none P p q is))
      pieces x p q stands sp sq (Some t) is v = (Some t, (x, stands, is), (p, q, sp, sq, piece_of (SourceIs sheet tables on.row x) p q t o is v))

      back : (a : AtomTree) → AtomFits a arena (Sub b l r) → IsPart a → IsValue (AtomIs sheet tables on.row a) o → ArePiecesOf arena l r (SourceAnswers on b) o
      back (constant t) fits part is = absurd part
      back (whole x) fits part is = absurd fits
      back (sub x p q) fits part is = let t = source_answer sheet tables ok.distinguish on.row x in pieces x p q fits.0 fits.1 fits.2 t.0 t.1 is

  -- constants all have texts, so where conditions have none some of them is a part
  constants_have : (cs : Atoms) → has_part cs ≡ false → (ts : List (List ℕ)) × ConditionsAre sheet tables on.row cs ts
  constants_have end e = ([], refl)
  constants_have (more (constant t) rest) e = let r = constants_have rest e in (t ∷ r.0, (refl, r.1))
  constants_have (more (whole s) rest) e = cc
  constants_have (more (sub s p q) rest) e = cc

  none_mixed : (cs : Atoms) → IsValue (ConditionsAre sheet tables on.row cs) None → HasPart cs
  none_mixed cs is = elim (has_part cs) as (λ b. has_part cs ≡ b → HasPart cs) [
    | true ↦ λ e. parts_true cs e
    | false ↦ λ e. let ts = constants_have cs e in absurd (never (ConditionsAre sheet tables on.row cs) ts.0 is ts.1)
  ] refl

  -- lookups, by the texts of their conditions
  pub select_item : (i : SelectItem) (o : Option (List ℕ)) → AreFound tables i.column i.table i.key (RowAnswers on i.conditions) o ↔ SourceItemAnswers on (Select i) o
  select_item i o = ((λ h. to h.0 h.1 h.2), (λ h. back h.0 h.1 h.2))
    where
      to : (r : Option RowText) → RowAnswers on i.conditions r → RowFinds tables i.column i.table i.key r o → SourceItemAnswers on (Select i) o
      to None h e =
          let Q = ConditionsAre sheet tables on.row h.0 in (
            select i.column i.table i.key h.0,
            (refl, refl, refl, none_mixed h.0 h.2, h.1),
            subst (IsValue (LooksUp Q tables i.column i.table i.key)) (sym e) (found_by_none tables Q i.column i.table i.key h.2),
          )
      to (Some r) h f =
          let Q = ConditionsAre sheet tables on.row h.0 in
          (select i.column i.table i.key h.0, (refl, refl, refl, parts_true h.0 (sym h.3 ∙ f.0), h.1), (found_by tables Q i.column i.table i.key r.texts o h.2).0 f.1)

      finds : (cs : Atoms) → ConditionsFit cs arena i.conditions → HasPart cs → (r : Option (List (List ℕ))) → IsValue (ConditionsAre sheet tables on.row cs) r
          → IsValue (LooksUp (ConditionsAre sheet tables on.row cs) tables i.column i.table i.key) o → AreFound tables i.column i.table i.key (RowAnswers on i.conditions) o
      finds cs fit mixed None is v =
          let Q = ConditionsAre sheet tables on.row cs in
          (None, (cs, fit, is, tt), answer_one (LooksUp Q tables i.column i.table i.key) o None v (found_by_none tables Q i.column i.table i.key is))
      finds cs fit mixed (Some ts) is v =
          let Q = ConditionsAre sheet tables on.row cs in
          (Some (record { texts = ts; part = has_part cs }), (cs, fit, is, refl), (true_parts cs mixed, (found_by tables Q i.column i.table i.key ts o is).1 v))

      back : (x : SourceTree) → SourceFits x arena (Select i) → IsValue (SourceIs sheet tables on.row x) o → AreFound tables i.column i.table i.key (RowAnswers on i.conditions) o
      back (col m) fits is = absurd fits
      back (select column table key cs) fits is =
          let r = conditions_answer sheet tables ok.distinguish on.row cs in
          let Q = ConditionsAre sheet tables on.row cs in
          let first = subst (λ n. IsValue (LooksUp Q tables n table key) o) (sym fits.0) is in
          let second = subst (λ n. IsValue (LooksUp Q tables i.column n key) o) (sym fits.1) first in
          let third = subst (λ n. IsValue (LooksUp Q tables i.column i.table n) o) (sym fits.2) second in
          finds cs fits.4 fits.3 r.0 r.1 third

  -- the choices of a condition
  pub choices_item : (i : ConditionItem) (parts : Pieces) → ((o : Option (List ℕ)) → PiecesHave parts o ↔ ConditionPartAnswers on i.atoms o) → (x : Option Choice) → ChoicesHave i.constant parts x ↔ ChoiceAnswers on i x
  choices_item i parts exact x = ((λ h. to x h), (λ h. back h.0 x h.1 h.2 h.3))
    where
      part_fits : (a : AtomTree) (s : ℕ) → i.atoms ≡ Some s → IsPart a → AtomStands arena s a → ConditionFits a arena i (AtomFits a arena)
      part_fits (constant t) s e part stands = absurd part
      part_fits (whole y) s e part stands = (s, e, stands)
      part_fits (sub y p q) s e part stands = (s, e, stands)

      part_is : (a : AtomTree) (o : Option (List ℕ)) → IsPart a → IsValue (AtomIs sheet tables on.row a) o → IsValue (ConditionIs sheet tables on.row a) o
      part_is (constant t) o part is = absurd part
      part_is (whole y) o part is = is
      part_is (sub y p q) o part is = is

      from_parts : (o : Option (List ℕ)) (at : Option ℕ) → i.atoms ≡ at → ConditionPartAnswers on at o → (a : AtomTree) × IsPart a × ConditionFits a arena i (AtomFits a arena) × IsValue (ConditionIs sheet tables on.row a) o
      from_parts o None e h = absurd h
      from_parts o (Some s) e h = (h.0, h.2, part_fits h.0 s e h.2 h.1, part_is h.0 o h.2 h.3)

      chosen : (b : Bool) (t : List ℕ) → ChosenBy b t i.constant parts → (a : AtomTree) × ConditionFits a arena i (AtomFits a arena) × IsValue (ConditionIs sheet tables on.row a) (Some t) × (b ≡ is_part a)
      chosen true t h = let a = from_parts (Some t) i.atoms refl ((exact (Some t)).0 h) in (a.0, a.2, a.3, true_part a.0 a.1)
      chosen false t h = (constant t, h, (λ v. ((λ e. ap Some (sym e)), (λ e. let f = e in cc))), refl)

      to : (y : Option Choice) → ChoicesHave i.constant parts y → ChoiceAnswers on i y
      to None h = let a = from_parts None i.atoms refl ((exact None).0 h) in (a.0, a.2, a.3, tt)
      to (Some y) h = let a = chosen y.part y.text h in (a.0, a.1, a.2, a.3)

      in_parts : (o : Option (List ℕ)) (a : AtomTree) (at : Option ℕ) → i.atoms ≡ at → IsPart a → ((s : ℕ) × (i.atoms ≡ Some s) × AtomStands arena s a) → IsValue (AtomIs sheet tables on.row a) o → ConditionPartAnswers on at o
      in_parts o a None e part f is = let g = f.1 in cc
      in_parts o a (Some s) e part f is = let g = f.1 in let same : f.0 ≡ s = cc in (a, subst (λ n. AtomStands arena n a) same f.2, part, is)

      back_part : (a : AtomTree) (y : Option Choice) → IsPart a → ((s : ℕ) × (i.atoms ≡ Some s) × AtomStands arena s a) → IsValue (AtomIs sheet tables on.row a) (option_map (λ z. z.text) y) → IsChoiceOf a y → ChoicesHave i.constant parts y
      back_part a None part f is c = (exact None).1 (in_parts None a i.atoms refl part f is)
      back_part a (Some y) part f is c =
          subst (λ b. ChosenBy b y.text i.constant parts) (sym (c ∙ sym (true_part a part))) ((exact (Some y.text)).1 (in_parts (Some y.text) a i.atoms refl part f is))

      back : (a : AtomTree) (y : Option Choice) → ConditionFits a arena i (AtomFits a arena) → IsValue (ConditionIs sheet tables on.row a) (option_map (λ z. z.text) y) → IsChoiceOf a y → ChoicesHave i.constant parts y
      back (constant t) None fits is c = absurd (never (λ v. v ≡ t) t is refl)
      back (constant t) (Some y) fits is c =
          let same : y.text ≡ t = has (λ v. v ≡ t) y.text is in
          subst (λ b. ChosenBy b y.text i.constant parts) (sym c) (fits ∙ ap Some (sym same))
      back (whole s) y fits is c = back_part (whole s) y tt fits is c
      back (sub s p q) y fits is c = back_part (sub s p q) y tt fits is c

  -- the rows of no conditions, and of one more
  pub no_rows : (o : Option RowText) → (o ≡ Some (record { texts = []; part = false })) ↔ RowAnswers on [] o
  no_rows o = (
    (λ e. subst (RowAnswers on []) (sym e) (end, tt, (λ v. ((λ h. ap Some (sym h)), (λ h. let f = h in cc))), refl)),
    (λ h. back h.0 o h.1 h.2 h.3),
  )
    where
      back : (cs : Atoms) (y : Option RowText) → ConditionsFit cs arena [] → IsValue (ConditionsAre sheet tables on.row cs) (option_map (λ r. r.texts) y) → IsRowOf cs y → y ≡ Some (record { texts = []; part = false })
      back end None fits is c = absurd (never (λ vs. vs ≡ []) [] is refl)
      back end (Some y) fits is c = let e : y.texts ≡ [] = has (λ vs. vs ≡ []) y.texts is in ap Some (row_eq y (record { texts = []; part = false }) e c)
      back (more a rest) y fits is c = absurd fits

  texts_of : (x : Option Choice) (r : Option RowText) → option_map (λ y. y.texts) (in_front x r) ≡ put_front (option_map (λ y. y.text) x) (option_map (λ y. y.texts) r)
  texts_of None r = refl
  texts_of (Some x) None = refl
  texts_of (Some x) (Some r) = refl

  row_of : (a : AtomTree) (cs : Atoms) (x : Option Choice) (r : Option RowText) → IsChoiceOf a x → IsRowOf cs r → IsRowOf (more a cs) (in_front x r)
  row_of a cs None r c d = tt
  row_of a cs (Some x) None c d = tt
  row_of a cs (Some x) (Some r) c d = ap (λ b. b || r.part) c ∙ ap (λ b. is_part a || b) d

  choice_for : (a : AtomTree) (o : Option (List ℕ)) → (x : Option Choice) × (option_map (λ y. y.text) x ≡ o) × IsChoiceOf a x
  choice_for a None = (None, refl, tt)
  choice_for a (Some t) = (Some (record { text = t; part = is_part a }), refl, refl)

  row_for : (cs : Atoms) (o : Option (List (List ℕ))) → (x : Option RowText) × (option_map (λ y. y.texts) x ≡ o) × IsRowOf cs x
  row_for cs None = (None, refl, tt)
  row_for cs (Some ts) = (Some (record { texts = ts; part = has_part cs }), refl, refl)

  same_row : (cs : Atoms) (o q : Option RowText) → option_map (λ y. y.texts) o ≡ option_map (λ y. y.texts) q → IsRowOf cs o → IsRowOf cs q → o ≡ q
  same_row cs None None e c d = refl
  same_row cs None (Some r) e c d = absurd cc
  same_row cs (Some r) None e c d = absurd cc
  same_row cs (Some r) (Some u) e c d = let ts : r.texts ≡ u.texts = cc in ap Some (row_eq r u ts (c ∙ sym d))

  pub longer_row : (i : ConditionItem) (is : List ConditionItem) (o : Option RowText) → AreJoined in_front (ChoiceAnswers on i) (RowAnswers on is) o ↔ RowAnswers on (i ∷ is) o
  longer_row i is o = (
    (λ h.
        let a = h.2.0 in
        let cs = h.3.0 in
        let both = head_is (ConditionIs sheet tables on.row a) (ConditionsAre sheet tables on.row cs) (option_map (λ y. y.text) h.0) (option_map (λ y. y.texts) h.1) h.2.2 h.3.2 in
        let made = subst (IsValue (ConditionsAre sheet tables on.row (more a cs))) (sym (texts_of h.0 h.1)) both in
        subst (RowAnswers on (i ∷ is)) (sym h.4) (more a cs, (h.2.1, h.3.1), made, row_of a cs h.0 h.1 h.2.3 h.3.3)),
    (λ h. back h.0 h.1 h.2 h.3),
  )
    where
      back : (cs : Atoms) → ConditionsFit cs arena (i ∷ is) → IsValue (ConditionsAre sheet tables on.row cs) (option_map (λ r. r.texts) o) → IsRowOf cs o → AreJoined in_front (ChoiceAnswers on i) (RowAnswers on is) o
      back end fits v c = absurd fits
      back (more a rest) fits v c =
          let P = ConditionIs sheet tables on.row a in
          let Q = ConditionsAre sheet tables on.row rest in
          let first = condition_answer sheet tables ok.distinguish on.row a in
          let others = conditions_answer sheet tables ok.distinguish on.row rest in
          let x = choice_for a first.0 in
          let r = row_for rest others.0 in
          let is_first = subst (IsValue P) (sym x.1) first.1 in
          let is_rest = subst (IsValue Q) (sym r.1) others.1 in
          let both = head_is P Q (option_map (λ y. y.text) x.0) (option_map (λ y. y.texts) r.0) is_first is_rest in
          let texts = answer_one (IsHeadAndTail P Q) (option_map (λ y. y.texts) o) (put_front (option_map (λ y. y.text) x.0) (option_map (λ y. y.texts) r.0)) v both in
          (x.0, r.0, (a, fits.0, is_first, x.2), (rest, fits.1, is_rest, r.2), same_row (more a rest) o (in_front x.0 r.0) (texts ∙ sym (texts_of x.0 r.0)) c (row_of a rest x.0 r.0 x.2 r.2))

  -- the texts of a condition in front of those of others
  conditions_by : (i : ConditionItem) (is : List ConditionItem) (c : Cells) (cs : List Cells) → ((x : Option Choice) → CellsHave c x ↔ ChoiceAnswers on i x) → ((o : Option RowText) → RowsHave cs o ↔ RowAnswers on is o)
      → (o : Option RowText) → RowsHave (c ∷ cs) o ↔ RowAnswers on (i ∷ is) o
  conditions_by i is c cs first rows o =
      let row = longer_row i is o in (
        (λ h. row.0 (h.0, h.1, (first h.0).0 h.2, (rows h.1).0 h.3, h.4)),
        (λ g. let h = row.1 g in (h.0, h.1, (first h.0).1 h.2, (rows h.1).1 h.3, h.4)),
      )

  pub joined_start : (items : List ConditionItem) (made : List Cells) → made ≡ [] → AreJoinedTo on items 0 made
  joined_start items made none cs h o = subst (λ (ms : List Cells). RowsHave (ms ++ cs) o ↔ RowAnswers on items o) (sym none) (h o)

  pub joined_more : (items : List ConditionItem) (k : ℕ) (x : ConditionItem) → slice_get items k ≡ Some x → (made new : List Cells) (c : Cells) → new ≡ made ++ c ∷ [] → ((y : Option Choice) → CellsHave c y ↔ ChoiceAnswers on x y)
      → AreJoinedTo on items k made → AreJoinedTo on items (suc k) new
  joined_more items k x at made new c is exact before cs h o =
      subst (λ (ms : List Cells). RowsHave (ms ++ cs) o ↔ RowAnswers on items o) (sym is)
      (subst (λ (ms : List Cells). RowsHave ms o ↔ RowAnswers on items o) (append_assoc made (c ∷ []) cs)
      (before (c ∷ cs) (λ q. subst (λ (xs : List ConditionItem). RowsHave (c ∷ cs) q ↔ RowAnswers on xs q) (sym (drop_here items k x at)) (conditions_by x (drop (suc k) items) c cs exact h q)) o))

  pub joined_end : (items : List ConditionItem) (k : ℕ) (made : List Cells) → length items ≤ k → AreJoinedTo on items k made → (o : Option RowText) → RowsHave made o ↔ RowAnswers on items o
  joined_end items k made past before o =
      subst (λ (ms : List Cells). RowsHave ms o ↔ RowAnswers on items o) (append_none made)
      (before [] (λ q. subst (λ (xs : List ConditionItem). RowsHave [] q ↔ RowAnswers on xs q) (sym (drop_all k items past)) (no_rows q)) o)

  pub lookups_by : (i : SelectItem) (R : Option RowText → Type 0) → ((o : Option RowText) → R o ↔ RowAnswers on i.conditions o) → (o : Option (List ℕ))
      → AreFound tables i.column i.table i.key R o ↔ SourceItemAnswers on (Select i) o
  lookups_by i R rows o =
      let found = select_item i o in (
        (λ h. found.0 (h.0, (rows h.0).0 h.1, h.2)),
        (λ g. let h = found.1 g in (h.0, (rows h.0).1 h.1, h.2)),
      )

  pub wholes_by : (b : ℕ) (T : Option (List ℕ) → Type 0) → ((o : Option (List ℕ)) → T o ↔ SourceAnswers on b o) → (o : Option (List ℕ)) → AreWholes T o ↔ PartItemAnswers on (Whole b) o
  wholes_by b T texts o =
      let item = whole_item b o in (
        (λ h. item.0 (h.0, (texts h.0).0 h.1, h.2)),
        (λ g. let h = item.1 g in (h.0, (texts h.0).1 h.1, h.2)),
      )

  pub subs_by : (b l r : ℕ) (T : Option (List ℕ) → Type 0) → IsPlaceSet arena l → IsPlaceSet arena r → ((o : Option (List ℕ)) → T o ↔ SourceAnswers on b o) → (o : Option (List ℕ))
      → ArePiecesOf arena l r T o ↔ PartItemAnswers on (Sub b l r) o
  subs_by b l r T left right texts o =
      let p = place_stands arena ok.made l left in
      let q = place_stands arena ok.made r right in (
        (λ h. sub_item b l r o (h.0, (texts h.0).0 h.1, h.2) p.0 p.1 q.0 q.1),
        (λ g. let h = item_sub b l r o g in (h.0, (texts h.0).1 h.1, h.2)),
      )

  pub atoms_by : (s : ℕ) (items : List AtomItem) → slice_get arena s ≡ Some (kind.Atoms items) → (old new : Option (List ℕ) → Type 0) → ((o : Option (List ℕ)) → old o ↔ PartAnswers on s o)
      → ((o : Option (List ℕ)) → new o ↔ (old o ⊎ SomeIn (λ i. ConstantItemAnswers i o) items)) → (o : Option (List ℕ)) → new o ↔ AtomAnswers on s o
  atoms_by s items is old new parts gains o =
      let both = atoms_listed s items is o in (
        (λ h. both.0 (⊎_elim (λ l. inl ((parts o).0 l)) (λ r. inr r) ((gains o).0 h))),
        (λ a. (gains o).1 (⊎_elim (λ l. inl ((parts o).1 l)) (λ r. inr r) (both.1 a))),
      )

  pub part_answers : (s : ℕ) (items : List AtomItem) → slice_get arena s ≡ Some (kind.Atoms items) → (k : ℕ) (i : AtomItem) → slice_get items k ≡ Some i → (o : Option (List ℕ)) → PartItemAnswers on i o → AtomAnswers on s o
  part_answers s items is k i at o h = (atoms_listed s items is o).0 (inl ((parts_listed s items is o).0 (i, (k, at), h)))

pub no_constant : (i : AtomItem) → ((t : List ℕ) → ¬ (i ≡ Const t)) → (o : Option (List ℕ)) → ¬ (ConstantItemAnswers i o)
no_constant (Const t) not o h = not t refl
no_constant (Whole b) not o h = h
no_constant (Sub b l r) not o h = h

pub constant_answers : (i : AtomItem) (t u : List ℕ) (o : Option Piece) → i ≡ Const t → u ≡ t → IsValue (IsFilled (λ v. v ≡ u)) (option_map piece_text o) → IfSome o IsWithin
    → IfSome o (λ piece. IsWithin piece × ConstantItemAnswers i (Some (piece_text piece)))
constant_answers i t u None is same value within = tt
constant_answers i t u (Some x) is same value within =
    (within, subst (λ (j : AtomItem). ConstantItemAnswers j (Some (piece_text x))) (sym is) (subst (λ (w : List ℕ). IsValue (IsFilled (λ v. v ≡ w)) (Some (piece_text x))) same value))
