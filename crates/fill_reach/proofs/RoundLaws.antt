-- What a round does to the marks, and what they say at the end.
use Rattle.std.proofs.Common.{◌≡◌, ◌≢◌, ◌⊎◌, ℕ, zero, suc, ◌+◌, ◌<◌, ◌≤◌, List, [], length, map, get_or, nat_lt, Bool, true, All, Contains, inl, inr, refl, sym, ap, subst, ◌∙◌, arith, add-one}
use Rattle.std.specs.declared.cmp.Ordering.{Ordering}
use Rattle.std.specs.declared.cmp.Ordering.TheVariants.{Less, Equal, Greater}
use Rattle.std.specs.Ordering.{nat_cmp, ordering_then}
use Rattle.std.specs.List.{filter}
use Rattle.std.proofs.lemmas.Bool.{cases_order}
use Rattle.std.proofs.lemmas.Bool.Decides.{nat_tests}
use Rattle.std.proofs.lemmas.List.Kept.{AllPairs-filter}
use Rattle.std.proofs.lemmas.List.Elements.{All-contains, Contains-get_or, filter_passes}
use Rattle.fill_text.specs.Data.{SheetData, TableData}
use Rattle.fill_tables.specs.Tables.{AreTables}
use Rattle.fill_text.specs.Lists.{Lists}
use Rattle.fill_tree.specs.Tree.{select}
use Rattle.fill_tree.specs.Grammar.{greatest_depth, source_depth}
use Rattle.fill_tree.specs.declared.user.Settings.{Settings}
use Rattle.fill_reach.specs.Marks.{AreMarked, AreMarkedAs, AreTexts, IsKnownBy, IsMark, IsMarkedAs, IsNew, IsReachedBy}
use Rattle.fill_reach.specs.Reach.{FindsEach, IsReached, IsReachedAt, reached_cmp}
use Rattle.fill_reach.specs.Spots.{Spot, IsFreeCell, IsSpot, KeepScalars, Touches, spot_cmp, spot_of}
use Rattle.fill_reach.specs.declared.rows.ReachedRow.{ReachedRow}
use Rattle.fill_reach.proofs.MapLaws.{contains_mapped, mapped_from, filter_keeps, filter_from, mapped_pairs, mapped_same}
use Rattle.fill_reach.proofs.ReachLaws.{reached_deeper, reached_not_zero, known_input, known_cell, known_cases, reached_touches, reached_spot, touches_reached}

not_zero : (n : ℕ) → 1 ≤ n → (m : ℕ) × (n ≡ suc m)
not_zero zero le = absurd (omega arith)
not_zero (suc m) le = (m, refl)

spots_less : (o p q e : Ordering) → ordering_then o (ordering_then p q) ≡ Less → ordering_then o (ordering_then p (ordering_then q e)) ≡ Less
spots_less Less p q e h = refl
spots_less Greater p q e h = h
spots_less Equal Less q e h = refl
spots_less Equal Greater q e h = h
spots_less Equal Equal Less e h = refl
spots_less Equal Equal Greater e h = h
spots_less Equal Equal Equal e h = absurd (let f : ⊥ = cc in f)

module _ (settings : Settings) (sheet : SheetData) (tables : List TableData) (row : ℕ) where
  -- the row with its mark that a row of a table is kept as
  spot_mark : (d : ℕ) (rows : List ReachedRow) (s : Spot) → AreMarked settings sheet tables row d rows → IsSpot tables s → (r : ReachedRow) × Contains rows r × (spot_of r ≡ s) × IsMark settings sheet tables row d r
  spot_mark d rows s are is =
      let found = mapped_from spot_of rows s ((are.spots.exact s).1 is) in
      (found.0, found.1, found.2, All-contains (IsMark settings sheet tables row d) rows found.0 are.marks found.1)

  -- a row that is reached by the depth of the marks has one
  reached_marked : (d : ℕ) (r : ReachedRow) → IsMark settings sheet tables row d r → IsReachedBy settings sheet tables row d (spot_of r)
      → (before : ℕ) × (r.depth ≡ suc before) × (suc before ≤ d) × IsReachedBy settings sheet tables row (suc before) (spot_of r)
  reached_marked d r mark reached =
      elim r.depth as (λ m. r.depth ≡ m → (before : ℕ) × (r.depth ≡ suc before) × (suc before ≤ d) × IsReachedBy settings sheet tables row (suc before) (spot_of r)) [
        | zero ↦ λ none.
            elim d as (λ n. d ≡ n → IsReachedBy settings sheet tables row n (spot_of r) → (before : ℕ) × (r.depth ≡ suc before) × (suc before ≤ d) × IsReachedBy settings sheet tables row (suc before) (spot_of r)) [
              | zero ↦ λ _ h. absurd (reached_not_zero settings sheet tables row (spot_of r) h)
              | suc e ↦ λ is h. absurd (mark.unmarked none e is (reached_touches settings sheet tables row e (spot_of r) h))
            ] refl reached
        | suc before ↦ λ is. let facts = mark.marked before is in (before, is, facts.0, facts.1)
      ] refl

  -- a text that is known by the depth is new then, or known by a lesser one
  known_or_new : (d : ℕ) (rows : List ReachedRow) (u : List ℕ) → AreTables tables → AreMarked settings sheet tables row d rows → IsKnownBy settings sheet tables row d u
      → IsNew sheet tables row rows d u ⊎ ((e : ℕ) × (d ≡ suc e) × IsKnownBy settings sheet tables row e u)
  known_or_new zero rows u tables_are are known = elim (known_cases settings sheet tables row zero u known) [
    | inl input ↦ inl (inl (refl, input))
    | inr cell ↦ absurd (reached_not_zero settings sheet tables row cell.0 cell.1)
  ]
  known_or_new (suc e) rows u tables_are are known = elim (known_cases settings sheet tables row (suc e) u known) [
    | inl input ↦ inr (e, refl, known_input settings sheet tables row e u input)
    | inr (s, reached, cell) ↦
        let kept = spot_mark (suc e) rows s are (reached_spot settings sheet tables row (suc e) s reached) in
        let r : ReachedRow = kept.0 in
        let same : spot_of r ≡ s = kept.2 in
        let mark = reached_marked (suc e) r kept.3 (subst (IsReachedBy settings sheet tables row (suc e)) (sym same) reached) in
        let depth : r.depth ≡ suc mark.0 = mark.1 in
        let shallow : suc mark.0 ≤ suc e = mark.2 in
        let here : IsFreeCell tables (spot_of r) u = subst (λ z. IsFreeCell tables z u) (sym same) cell in
        elim (cases_order (suc mark.0) (suc e)) [
          | inl equal ↦ inl (inr (omega arith, (r, kept.1, depth ∙ equal, here)))
          | inr o ↦ elim o [
            | inl less ↦ inr (e, refl, known_cell settings sheet tables row e (spot_of r) u tables_are (reached_deeper settings sheet tables row (suc mark.0) e (spot_of r) (omega arith) mark.3) here)
            | inr greater ↦ absurd (omega arith)
          ]
        ]
  ]

  new_known : (d : ℕ) (rows : List ReachedRow) (u : List ℕ) → AreTables tables → AreMarked settings sheet tables row d rows → IsNew sheet tables row rows d u → IsKnownBy settings sheet tables row d u
  new_known d rows u tables_are are (inl (zero_is, input)) = known_input settings sheet tables row d u input
  new_known d rows u tables_are are (inr (some, (r, there, depth, cell))) =
      let before = not_zero d some in
      let mark = All-contains (IsMark settings sheet tables row d) rows r are.marks there in
      let facts = mark.marked before.0 (depth ∙ before.1) in
      known_cell settings sheet tables row d (spot_of r) u tables_are (reached_deeper settings sheet tables row (suc before.0) d (spot_of r) facts.0 facts.1) cell

  -- the mark of one row after a round
  module _ (d : ℕ) (rows : List ReachedRow) (texts : List (List ℕ)) (tables_are : AreTables tables) (are : AreMarked settings sheet tables row d rows) (exact : AreTexts (IsNew sheet tables row rows d) texts) where
    touches_none : (r : ReachedRow) → r.depth ≡ 0 → IsMark settings sheet tables row d r → ¬ (Touches (Contains texts) tables (spot_of r)) → ¬ (Touches (IsKnownBy settings sheet tables row d) tables (spot_of r))
    touches_none r none mark apart (v, cell, (u, known, piece)) = elim (known_or_new d rows u tables_are are known) [
      | inl new ↦ apart (v, cell, (u, (exact.exact u).1 new, piece))
      | inr (e, is, earlier) ↦ mark.unmarked none e is (v, cell, (u, earlier, piece))
    ]

    mark_kept : (r : ReachedRow) → r.depth ≢ 0 → IsMark settings sheet tables row d r → IsMark settings sheet tables row (d + 1) r
    mark_kept r some mark = record {
      unmarked = λ none before is. absurd (some none);
      marked = λ before is. let facts = mark.marked before is in let le = facts.0 in ((omega arith), facts.1, facts.2);
    }

    mark_none : (r : ReachedRow) → r.depth ≡ 0 → IsMark settings sheet tables row d r → ¬ (Touches (Contains texts) tables (spot_of r)) → IsMark settings sheet tables row (d + 1) r
    mark_none r none mark apart = record {
      unmarked = λ _ before is.
          let same : d ≡ before = omega arith in
          subst (λ n. ¬ (Touches (IsKnownBy settings sheet tables row n) tables (spot_of r))) same (touches_none r none mark apart);
      marked = λ before is. absurd (omega arith);
    }

    mark_given : (r : ReachedRow) → r.depth ≡ 0 → IsSpot tables (spot_of r) → IsMark settings sheet tables row d r → Touches (Contains texts) tables (spot_of r) → KeepScalars tables (spot_of r)
        → IsMark settings sheet tables row (d + 1) (record r { depth = d + 1 })
    mark_given r none spot mark (v, cell, (u, there, piece)) scalars =
        let known : IsKnownBy settings sheet tables row d u = new_known d rows u tables_are are ((exact.exact u).0 there) in
        let reached = touches_reached settings sheet tables row d (spot_of r) v u tables_are spot scalars cell known (All-contains (λ t. length t < 2147483648) texts u exact.short there) piece in
        record {
          unmarked = λ zero_is before is. absurd (let f : d + 1 ≡ 0 = zero_is in omega arith);
          marked = λ before is.
              let same : d ≡ before = (let f : d + 1 ≡ suc before = is in omega arith) in (
                (omega arith),
                subst (λ n. IsReachedBy settings sheet tables row (suc n) (spot_of r)) same reached,
                subst (λ n. ¬ (IsReachedBy settings sheet tables row n (spot_of r))) same (λ earlier.
                    let m = reached_marked d r mark earlier in
                    let depth : r.depth ≡ suc m.0 = m.1 in
                    omega arith),
              );
        }

    mark_after : (old new : ReachedRow) → IsSpot tables (spot_of old) → IsMark settings sheet tables row d old → IsMarkedAs tables (Contains texts) (d + 1) old new → IsMark settings sheet tables row (d + 1) new
    mark_after old new spot mark (inl (some, same)) = subst (IsMark settings sheet tables row (d + 1)) (sym same) (mark_kept old some mark)
    mark_after old new spot mark (inr (inl (none, apart, same))) = subst (IsMark settings sheet tables row (d + 1)) (sym same) (mark_none old none mark apart)
    mark_after old new spot mark (inr (inr (none, touches, scalars, same))) = subst (IsMark settings sheet tables row (d + 1)) (sym same) (mark_given old none spot mark touches scalars)

    spot_after : (old new : ReachedRow) → IsMarkedAs tables (Contains texts) (d + 1) old new → spot_of new ≡ spot_of old
    spot_after old new (inl (some, same)) = ap spot_of same
    spot_after old new (inr (inl (none, apart, same))) = ap spot_of same
    spot_after old new (inr (inr (none, touches, scalars, same))) = ap spot_of same

    pub marks_after : (new : List ReachedRow) → AreMarkedAs tables (Contains texts) (d + 1) rows new → AreMarked settings sheet tables row (d + 1) new
    marks_after new after =
        let size : length new ≡ length rows = after.0 in
        let spots : map spot_of new ≡ map spot_of rows = mapped_same spot_of rows new size (λ i r l. spot_after (get_or rows i r) (get_or new i r) (after.1 i r l)) in
        record {
          spots = subst (Lists spot_cmp (IsSpot tables)) (sym spots) are.spots;
          marks = λ k r l.
              let old : ReachedRow = get_or rows k r in
              let there : Contains rows old = Contains-get_or rows k r (omega arith) in
              mark_after old (get_or new k r) ((are.spots.exact (spot_of old)).0 (contains_mapped spot_of rows old there)) (are.marks k r (omega arith)) (after.1 k r (omega arith));
        }

  -- where no text is new, the marks are right at all later depths
  nothing_touched : (d : ℕ) (rows : List ReachedRow) → AreMarkedAs tables (Contains []) d rows rows
  nothing_touched d rows = (refl, (λ i r lt. kept d (get_or rows i r)))
    where
      kept : (d : ℕ) (r : ReachedRow) → IsMarkedAs tables (Contains []) d r r
      kept d r = elim r.depth as (λ n. r.depth ≡ n → IsMarkedAs tables (Contains []) d r r) [
        | zero ↦ λ none. inr (inl (none, (λ h. let c = h.2.1.1 in omega arith), refl))
        | suc n ↦ λ some. inl ((λ none. let f : 0 ≡ suc n = sym none ∙ some in omega arith), refl)
      ] refl

  marks_next : (d : ℕ) (rows : List ReachedRow) → AreTables tables → AreMarked settings sheet tables row d rows → AreTexts (IsNew sheet tables row rows d) []
      → AreMarked settings sheet tables row (d + 1) rows × AreTexts (IsNew sheet tables row rows (d + 1)) []
  marks_next d rows tables_are are texts = (
    marks_after d rows [] tables_are are texts rows (nothing_touched (d + 1) rows),
    record {
      exact = λ v. (
        (λ c. absurd (let lt = c.1 in omega arith)),
        (λ h. elim h [
          | inl first ↦ absurd (let f : d + 1 ≡ 0 = first.0 in omega arith)
          | inr later ↦
              let r : ReachedRow = later.1.0 in
              let depth : r.depth ≡ d + 1 = later.1.2 in
              let mark = All-contains (IsMark settings sheet tables row d) rows r are.marks later.1.1 in
              let facts = mark.marked d (depth ∙ add-one d) in
              absurd (let le = facts.0 in omega arith)
        ]),
      );
      short = λ k e lt. absurd (omega arith);
    },
  )

  pub marks_stay : (n d e : ℕ) (rows : List ReachedRow) → e ≡ n + d → AreTables tables → AreMarked settings sheet tables row d rows → AreTexts (IsNew sheet tables row rows d) [] → AreMarked settings sheet tables row e rows
  marks_stay zero d e rows is tables_are are texts = subst (λ m. AreMarked settings sheet tables row m rows) (let f : d ≡ e = omega arith in f) are
  marks_stay (suc n) d e rows is tables_are are texts =
      let next = marks_next d rows tables_are are texts in
      marks_stay n (d + 1) e rows (omega arith) tables_are next.0 next.1

  -- a row of the list, and what it is reached as
  reached_at : (d : ℕ) (r : ReachedRow) → d ≤ settings.depth → IsReachedBy settings sheet tables row d (spot_of r)
      → (e : ℕ) × (e ≤ d) × IsReachedAt settings sheet tables row r.table r.key r.row e
  reached_at d r le h =
      let depth = source_depth (select h.column r.table r.key h.conditions) in
      let shallow : depth ≤ d = h.shallow in
      (depth, shallow, (h.column, h.conditions, h.source, refl, (omega arith), h.picks))

  reached_by : (d : ℕ) (r : ReachedRow) → IsReachedAt settings sheet tables row r.table r.key r.row d → (1 ≤ d) × (d ≤ settings.depth) × IsReachedBy settings sheet tables row d (spot_of r)
  reached_by d r (column, conditions, source, depth, within, picks) =
      let is : 1 + greatest_depth conditions ≡ d = depth in
      ((omega arith), within, record { column = column; conditions = conditions; source = source; shallow = (omega arith); picks = picks })

  module _ (rows : List ReachedRow) (are : AreMarked settings sheet tables row settings.depth rows) where
    listed_reached : (r : ReachedRow) → Contains rows r → r.depth ≢ 0 → IsReached settings sheet tables row r
    listed_reached r there some =
        let mark = All-contains (IsMark settings sheet tables row settings.depth) rows r are.marks there in
        let before = not_zero r.depth (omega arith) in
        let facts = mark.marked before.0 before.1 in
        let at = reached_at (suc before.0) r facts.0 facts.1 in
        let least : (depth : ℕ) → IsReachedAt settings sheet tables row r.table r.key r.row depth → r.depth ≤ depth = λ depth h.
        let by = reached_by depth r h in
        elim (cases_order (suc before.0) depth) [
          | inl equal ↦ let is = before.1 in omega arith
          | inr o ↦ elim o [
            | inl less ↦ let is = before.1 in omega arith
            | inr greater ↦ absurd (facts.2 (reached_deeper settings sheet tables row depth before.0 (spot_of r) (omega arith) by.2))
          ]
        ]
        in
        let exact : at.0 ≡ r.depth = (let le = least at.0 at.2 in let ge = at.1 in let is = before.1 in omega arith) in
        record { reached = subst (IsReachedAt settings sheet tables row r.table r.key r.row) exact at.2; least = least }

    with_mark : Spot → ℕ → ReachedRow
    with_mark z d = record { table = z.table; key = z.key; row = z.row; depth = d }

    same_row : (r s : ReachedRow) → spot_of s ≡ spot_of r → s.depth ≡ r.depth → s ≡ r
    unfolding with_mark
    same_row r s spots depths = ap (λ z. with_mark z s.depth) spots ∙ ap (with_mark (spot_of r)) depths

    reached_listed : (r : ReachedRow) → IsReached settings sheet tables row r → Contains rows r × (r.depth ≢ 0)
    reached_listed r is =
        let by = reached_by r.depth r is.reached in
        let deep = reached_deeper settings sheet tables row r.depth settings.depth (spot_of r) by.1 by.2 in
        let kept = spot_mark settings.depth rows (spot_of r) are (reached_spot settings sheet tables row settings.depth (spot_of r) deep) in
        let s : ReachedRow = kept.0 in
        let spots : spot_of s ≡ spot_of r = kept.2 in
        let m = reached_marked settings.depth s kept.3 (subst (IsReachedBy settings sheet tables row settings.depth) (sym spots) deep) in
        let marked : s.depth ≢ 0 = (let is = m.1 in omega arith) in
        let other = listed_reached s kept.1 marked in
        let mine : IsReachedAt settings sheet tables row s.table s.key s.row r.depth = subst (λ (z : Spot). IsReachedAt settings sheet tables row z.table z.key z.row r.depth) (sym spots) is.reached in
        let its : IsReachedAt settings sheet tables row r.table r.key r.row s.depth = subst (λ (z : Spot). IsReachedAt settings sheet tables row z.table z.key z.row s.depth) spots other.reached in
        let depths : s.depth ≡ r.depth = (let a = other.least r.depth mine in let b = is.least s.depth its in omega arith) in
        (subst (Contains rows) (same_row r s spots depths) kept.1, (let some = by.0 in omega arith))

    -- each row that a lookup picks has a mark, with no more than the lookup's depth
    pub marks_find : FindsEach settings sheet tables row (filter (λ r. nat_lt 0 r.depth) rows)
    marks_find table key found depth h =
        let picked : ReachedRow = record { table = table; key = key; row = found; depth = depth } in
        let by = reached_by depth picked h in
        let deep = reached_deeper settings sheet tables row depth settings.depth (spot_of picked) by.1 by.2 in
        let kept = spot_mark settings.depth rows (spot_of picked) are (reached_spot settings sheet tables row settings.depth (spot_of picked) deep) in
        let s : ReachedRow = kept.0 in
        let spots : spot_of s ≡ spot_of picked = kept.2 in
        let m = reached_marked settings.depth s kept.3 (subst (IsReachedBy settings sheet tables row settings.depth) (sym spots) deep) in
        let marked : s.depth ≢ 0 = (let is = m.1 in omega arith) in
        let other = listed_reached s kept.1 marked in
        let mine : IsReachedAt settings sheet tables row s.table s.key s.row depth = subst (λ (z : Spot). IsReachedAt settings sheet tables row z.table z.key z.row depth) (sym spots) h in (
          s,
          filter_keeps (λ r. nat_lt 0 r.depth) rows s kept.1 (grind (arith, nat_tests)),
          ap (λ (z : Spot). z.table) spots,
          ap (λ (z : Spot). z.key) spots,
          ap (λ (z : Spot). z.row) spots,
          other.least depth mine,
        )

    -- the rows with a mark at the last depth are those that are reached
    pub marks_end : Lists reached_cmp (IsReached settings sheet tables row) (filter (λ r. nat_lt 0 r.depth) rows)
    marks_end =
        let marked : ReachedRow → Bool = λ r. nat_lt 0 r.depth in
        record {
          rising = AllPairs-filter (λ x y. reached_cmp x y ≡ Less) marked rows (λ i j r before within.
              let a = get_or rows i r in
              let b = get_or rows j r in
              spots_less (nat_cmp a.table b.table) (nat_cmp a.key b.key) (nat_cmp a.row b.row) (nat_cmp a.depth b.depth)
              (mapped_pairs spot_of (λ x y. spot_cmp x y ≡ Less) rows are.spots.rising i j r before within));
          exact = λ r. (
            λ c.
                let passes : nat_lt 0 r.depth ≡ true = All-contains (λ z. marked z ≡ true) (filter marked rows) r (filter_passes marked rows) c in
                listed_reached r (filter_from marked rows r c) (λ none. let f : nat_lt 0 0 ≡ true = subst (λ n. nat_lt 0 n ≡ true) none passes in cc),
            λ is. let listed = reached_listed r is in filter_keeps marked rows r listed.0 (let some = listed.1 in grind (arith, nat_tests)),
          );
        }

pub marked_spots : (settings : Settings) (sheet : SheetData) (tables : List TableData) (row d : ℕ) (rows : List ReachedRow) → AreMarked settings sheet tables row d rows → All (λ r. IsSpot tables (spot_of r)) rows
marked_spots settings sheet tables row d rows are k r lt =
    let item : ReachedRow = get_or rows k r in
    (are.spots.exact (spot_of item)).0 (contains_mapped spot_of rows item (Contains-get_or rows k r lt))
