-- What texts come from, and the sources that give them.
use Rattle.std.proofs.Common.{◌≡◌, ◌↔◌, ◌⊎◌, inl, inr, ℕ, ◌≤◌, List, [], length, map, get_or, Contains, Some, slice_get, refl, sym, ap, ◌∙◌, subst, arith}
use Rattle.std.proofs.lemmas.Option.{slice_get_within}
use Rattle.fill_text.specs.Data.{table_cell_at}
use Rattle.fill_tables.specs.Tables.{AreTables}
use Rattle.fill_tree.specs.Tree.{SourceTree, col, select}
use Rattle.fill_tree.specs.Grammar.{IsSource, source_depth, number_of_atoms}
use Rattle.fill_text.specs.Lists.{Lists}
use Rattle.fill_arena.specs.Contents.{In, EachIn}
use Rattle.fill_reach.specs.Marks.{IsKnownBy, IsReachedBy}
use Rattle.fill_reach.specs.Reach.{FindsEach, IsReached, Picks, reached_cmp}
use Rattle.fill_reach.specs.Spots.{IsFree, IsKeyOf, spot_of}
use Rattle.fill_reach.specs.declared.rows.ReachedRow.{ReachedRow}
use Rattle.fill_reach.proofs.MapLaws.{contains_mapped, mapped_from}
use Rattle.fill_reach.proofs.ReachLaws.{known_cell, known_input, reached_spot}
use Rattle.fill_reach.proofs.StepLaws.{at_contains, contains_at}
use Rattle.fill_sources.specs.Gives.{Gives, at_depth}
use Rattle.fill_sources.specs.Origins.{AreTexts, Grown, HasLeast, HasOrigin, InputsTo, IsFreeIn, IsOrigin, RowsTo, number_in, texts_in}
use Rattle.fill_sources.specs.Sets.{Reads}
use Rattle.fill_sources.specs.declared.row.OnRow.{OnRow}
use Rattle.fill_sources.specs.declared.texts.Named.{Named}
use Rattle.fill_sources.specs.declared.texts.Origin.{Origin}
use Rattle.fill_sources.specs.declared.texts.Origin.TheVariants.{Col, Cell}
use Rattle.fill_sources.specs.declared.texts.Texts.{Texts}
use Rattle.fill_sources.proofs.Lists as lists
use Rattle.fill_sources.proofs.Lookups.{free_of, source_under}

-- the row of a reached row's least lookup
pub reached_by : (on : OnRow) (r : ReachedRow) → IsReached on.settings on.sheet.now on.tables.now on.row r → IsReachedBy on.settings on.sheet.now on.tables.now on.row r.depth (spot_of r)
reached_by on r h =
    let at = h.reached in
    let deep = at.3 in
    record { column = at.0; conditions = at.1; source = at.2; shallow = omega arith; picks = at.5 }

deeper : (on : OnRow) (d : ℕ) (v : List ℕ) → d ≤ on.settings.depth → IsKnownBy on.settings on.sheet.now on.tables.now on.row d v → (x : SourceTree) × Gives on v x
deeper on d v le k = let s = k.shallow in (k.tree, record { source = k.source; shallow = omega arith; value = k.value })

-- some source gives what comes from there
pub origin_gives : (on : OnRow) → AreTables on.tables.now → (v : List ℕ) (o : Origin) → IsOrigin on v o → (x : SourceTree) × Gives on v x
origin_gives on are v (Col c) h =
    deeper on on.settings.depth v (omega arith) (known_input on.settings on.sheet.now on.tables.now on.row on.settings.depth v (c, h.0, h.1, h.2))
origin_gives on are v (Cell r c) h =
    deeper on r.depth v h.0.reached.4
    (known_cell on.settings on.sheet.now on.tables.now on.row r.depth (spot_of r) v are (reached_by on r h.0) (c, h.1, h.2))

-- what gives a text reads what it comes from
pub origin_of : (on : OnRow) → HasLeast on → (d : ℕ) → d ≤ on.settings.depth → (v : List ℕ) (x : SourceTree) → Gives (at_depth on d) v x → (o : Origin) × IsOrigin on v o × Reads on o x
origin_of on least d le v (col c) g = (Col c, (g.source.0, g.source.1, g.value), refl)
origin_of on least d le v (select column table key conditions) g =
    let deep : source_depth (select column table key conditions) ≤ d = g.shallow in
    let source : IsSource on.settings on.sheet.now on.tables.now (select column table key conditions) =
    source_under (at_depth on d).settings on.settings refl on.sheet.now on.tables.now (select column table key conditions) g.source in
    let value = g.value in
    let picks : Picks on.sheet.now on.tables.now on.row table key conditions value.1 = (value.0, value.2, value.3) in
    let r = least table key value.1 (source_depth (select column table key conditions)) (column, conditions, source, refl, omega arith, picks) in
    let row : ReachedRow = r.0 in
    let free : IsFree on.tables.now table key column = free_of on.tables.now column table key (number_of_atoms conditions) source.0 in
    let free_there : IsFree on.tables.now row.table row.key column = subst (λ k. IsFree on.tables.now row.table k column) (sym r.3) (subst (λ t. IsFree on.tables.now t key column) (sym r.2) free) in
    let cell_there : table_cell_at on.tables.now row.table row.row column ≡ Some v =
    subst (λ n. table_cell_at on.tables.now row.table n column ≡ Some v) (sym r.4) (subst (λ t. table_cell_at on.tables.now t value.1 column ≡ Some v) (sym r.2) value.4) in
    let picks_there : Picks on.sheet.now on.tables.now on.row table key conditions row.row = subst (λ n. Picks on.sheet.now on.tables.now on.row table key conditions n) (sym r.4) picks in
    (Cell row column, (r.1, free_there, cell_there), (refl, sym r.2, sym r.3, picks_there))

-- a source of a lesser depth is one
pub gives_deeper : (on : OnRow) (d : ℕ) → d ≤ on.settings.depth → (v : List ℕ) (x : SourceTree) → Gives (at_depth on d) v x → Gives on v x
gives_deeper on d le v x g =
    let deep = g.shallow in
    record { source = source_under (at_depth on d).settings on.settings refl on.sheet.now on.tables.now x g.source; shallow = omega arith; value = g.value }

-- exactly the texts that sources give, each once
module _ (on : OnRow) (t : Texts) (are : AreTexts on t) where
  text_given : (v : List ℕ) → Contains (texts_in t) v → (x : SourceTree) × Gives on v x
  text_given v h =
      let n = mapped_from (λ (m : Named). m.text.now) t.named.items v h in
      let at = contains_at t.named.items n.0 n.1 in
      let o = are.numbered.some at.0 n.0 at.2 in
      origin_gives on are.tables v o.0 ((are.exact v o.0).0 (n.0, (at.0, at.2), (n.2, o.1)))

  pub text_of : (v : List ℕ) (o : Origin) → IsOrigin on v o → (k : ℕ) × (n : Named) × (slice_get t.named.items k ≡ Some n) × (n.text.now ≡ v) × In o n.origins
  text_of v o h =
      let s = (are.exact v o).1 h in
      (s.1.0, s.0, s.1.1, s.2.0, s.2.1)

  given_text : (v : List ℕ) → ((x : SourceTree) × Gives on v x) → Contains (texts_in t) v
  given_text v g =
      let o = origin_of on are.least on.settings.depth (omega arith) v g.0 g.1 in
      let n = text_of v o.0 o.1 in
      subst (λ u. Contains (texts_in t) u) n.3 (contains_mapped (λ (m : Named). m.text.now) t.named.items n.1 (at_contains t.named.items n.0 n.1 n.2))

  pub texts_exact : (v : List ℕ) → Contains (texts_in t) v ↔ ((x : SourceTree) × Gives on v x)
  texts_exact v = (text_given v, given_text v)

  pub number_of : (i : ℕ) (v : List ℕ) → slice_get (texts_in t) i ≡ Some v → number_in t v ≡ Some i
  number_of i v h =
      let n = lists.mapped_from (λ (m : Named). m.text.now) t.named.items i v h in
      subst (λ u. number_in t u ≡ Some i) n.2 (are.numbered.right i n.0 n.1)

  pub texts_once : (i j : ℕ) (v : List ℕ) → slice_get (texts_in t) i ≡ Some v → slice_get (texts_in t) j ≡ Some v → i ≡ j
  texts_once i j v a b = let e : Some i ≡ Some j = sym (number_of i v a) ∙ number_of j v b in cc

  -- the text of a number comes from all that the text comes from
  pub origin_in : (k : ℕ) (n : Named) → slice_get t.named.items k ≡ Some n → (o : Origin) → IsOrigin on n.text.now o → In o n.origins
  origin_in k n at o h =
      let m = text_of n.text.now o h in
      let first : number_in t n.text.now ≡ Some k = are.numbered.right k n at in
      let second : number_in t n.text.now ≡ Some m.0 = subst (λ u. number_in t u ≡ Some m.0) m.3 (are.numbered.right m.0 m.1 m.2) in
      let e : Some k ≡ Some m.0 = sym first ∙ second in
      let same : k ≡ m.0 = cc in
      let one : n ≡ m.1 = lists.same_at t.named.items k m.0 n m.1 same at m.2 in
      subst (λ (z : Named). In o z.origins) (sym one) m.4

  pub origin_is : (k : ℕ) (n : Named) → slice_get t.named.items k ≡ Some n → (o : Origin) → In o n.origins → IsOrigin on n.text.now o
  origin_is k n at o h = (are.exact n.text.now o).0 (n, (k, at), (refl, h))

-- all texts of the row
module _ (on : OnRow) (rows : List ReachedRow) (listed : Lists reached_cmp (IsReached on.settings on.sheet.now on.tables.now on.row) rows) where
  found_origin : (inputs : List ℕ) → inputs ≡ on.sheet.now.inputs → (v : List ℕ) (o : Origin) → (InputsTo on inputs (length inputs) v o ⊎ RowsTo on.tables.now rows (length rows) v o) → IsOrigin on v o
  found_origin inputs same v o h = elim h [
    | inl p ↦
        let there : Contains on.sheet.now.inputs p.1 = subst (λ l. Contains l p.1) same (at_contains inputs p.0 p.1 p.3) in
        subst (λ (z : Origin). IsOrigin on v z) (sym p.4.2) (there, p.4.0, p.4.1)
    | inr q ↦
        let free : IsFreeIn on.tables.now q.1 q.4.0 v o = q.4.1 in
        let reached = (listed.exact q.1).0 (at_contains rows q.0 q.1 q.3) in
        subst (λ (z : Origin). IsOrigin on v z) (sym free.2) (reached, free.0, free.1)
  ]

  origin_found : (inputs : List ℕ) → inputs ≡ on.sheet.now.inputs → (v : List ℕ) (o : Origin) → IsOrigin on v o → InputsTo on inputs (length inputs) v o ⊎ RowsTo on.tables.now rows (length rows) v o
  origin_found inputs same v (Col column) h =
      let at = contains_at inputs column (subst (λ l. Contains l column) (sym same) h.0) in
      inl (at.0, column, at.1, at.2, (h.1, h.2, refl))
  origin_found inputs same v (Cell r column) h =
      let at = contains_at rows r ((listed.exact r).1 h.0) in
      inr (at.0, r, at.1, at.2, (column, (h.1, h.2, refl)))

  pub found_all : (inputs : List ℕ) → inputs ≡ on.sheet.now.inputs → (a b c : List Named) → a ≡ [] → Grown a b (InputsTo on inputs (length inputs)) → Grown b c (RowsTo on.tables.now rows (length rows))
      → (v : List ℕ) (o : Origin) → HasOrigin c v o ↔ IsOrigin on v o
  found_all inputs same a b c empty f g v o = (
    λ h. elim ((g v o).0 h) [
      | inl i ↦ elim ((f v o).0 i) [
        | inl j ↦ absurd (lists.in_empty j.0 (subst (λ (l : List Named). In j.0 l) empty j.1))
        | inr p ↦ found_origin inputs same v o (inl p)
      ]
      | inr q ↦ found_origin inputs same v o (inr q)
    ],
    λ h. elim (origin_found inputs same v o h) [
      | inl p ↦ (g v o).1 (inl ((f v o).1 (inr p)))
      | inr q ↦ (g v o).1 (inr q)
    ],
  )

  -- the rows that were reached have keys, and a least depth
  pub rows_keyed : EachIn (λ r. IsKeyOf on.tables.now r.table r.key) rows
  rows_keyed k r h =
      (reached_spot on.settings on.sheet.now on.tables.now on.row r.depth (spot_of r) (reached_by on r ((listed.exact r).0 (at_contains rows k r h)))).keyed

  pub least_of : FindsEach on.settings on.sheet.now on.tables.now on.row rows → HasLeast on
  least_of finds table key found depth h =
      let r = finds table key found depth h in
      (r.0, (listed.exact r.0).0 r.1, r.2, r.3, r.4, r.5)

-- the text of a number, as it is read
pub named_text : (named : List Named) (k : ℕ) (n : Named) → n ≡ get_or named k n → (t : List ℕ) → slice_get (map (λ m. m.text.now) named) k ≡ Some t → n.text.now ≡ t
named_text named k n is t at =
    let m = lists.mapped_from (λ (z : Named). z.text.now) named k t at in
    let lt = slice_get_within named k m.0 m.1 in
    let one : n ≡ m.0 = lists.same_at named k k n m.0 refl (lists.here named k n lt is) m.1 in
    ap (λ (z : Named). z.text.now) one ∙ m.2
