-- The ways to put texts of conditions together, one text of each.
use Rattle.std.proofs.Common.{◌≡◌, ◌↔◌, ◌⊎◌, inl, inr, ⊎_elim, ℕ, List, [], ◌∷◌, ◌++◌, Bool, true, false, ◌||◌, Option, None, Some, IsTrue, slice_get, refl, sym, ap, subst, ◌∙◌}
use Rattle.std.proofs.lemmas.Bool.{false≢true}
use Rattle.fill_arena.specs.Contents.{SomeIn}
use Rattle.fill_eval.specs.Piece.{piece_text}
use Rattle.fill_doubt.specs.Answers.{Gains, Lack}
use Rattle.fill_doubt.specs.Rows.{AreFound, CellsHave, Choice, ChoicesHave, ChosenBy, Find, FindsBy, Fit, RowFinds, RowText, RowsHave, after, cell_choice, choice_of, in_front}
use Rattle.fill_doubt.specs.declared.answers.Pieces.{Pieces}
use Rattle.fill_doubt.specs.declared.conditions.Cell.{Cell}
use Rattle.fill_doubt.specs.declared.conditions.Cells.{Cells}
use Rattle.fill_doubt.specs.declared.rows.Look.{Look}
use Rattle.fill_doubt.proofs.Appended.{append_assoc, append_none}
use Rattle.fill_doubt.proofs.Gains.{gains_then, joined_split}

pub front_right : (x : Option Choice) → in_front x None ≡ None
front_right None = refl
front_right (Some x) = refl

row_same : (r u : RowText) → r.texts ≡ u.texts → r.part ≡ u.part → r ≡ u
row_same r u e f = ap (λ ts. let v : RowText = record { texts = ts; part = r.part } in v) e ∙ ap (λ b. let v : RowText = record { texts = u.texts; part = b } in v) f

or_assoc : (a b c : Bool) → (a || (b || c)) ≡ ((a || b) || c)
or_assoc true b c = refl
or_assoc false b c = refl

or_none : (a : Bool) → (a || false) ≡ a
or_none true = refl
or_none false = refl

or_true : (a : Bool) → (a || true) ≡ true
or_true true = refl
or_true false = refl

-- a text in front of others
abbrev front : List ℕ → Bool → RowText → RowText
front t p s = record { texts = t ∷ s.texts; part = p || s.part }

after_front : (cells : List (List ℕ)) (part : Bool) (t : List ℕ) (p : Bool) (s : RowText) → after cells part (front t p s) ≡ after (cells ++ t ∷ []) (part || p) s
after_front cells part t p s = row_same (after cells part (front t p s)) (after (cells ++ t ∷ []) (part || p) s) (append_assoc cells (t ∷ []) s.texts) (or_assoc part p s.part)

abbrev no_text : RowText
no_text = record { texts = []; part = false }

after_none : (cells : List (List ℕ)) (part : Bool) → after cells part no_text ≡ record { texts = cells; part = part }
after_none cells part = row_same (after cells part no_text) (record { texts = cells; part = part }) (append_none cells) (or_none part)

-- a way goes on with one of the condition's texts
module _ (c : Cells) (cs : List Cells) where
  -- a way's first text and the others
  parted : (r : RowText) → RowsHave (c ∷ cs) (Some r) → (a : Choice) × (s : RowText) × CellsHave c (Some a) × RowsHave cs (Some s) × (r ≡ front a.text a.part s)
  parted r h = by h.0 h.1 h.2 h.3 h.4
    where
      by : (a : Option Choice) (b : Option RowText) → CellsHave c a → RowsHave cs b → Some r ≡ in_front a b → (x : Choice) × (s : RowText) × CellsHave c (Some x) × RowsHave cs (Some s) × (r ≡ front x.text x.part s)
      by None b l m e = absurd cc
      by (Some a) None l m e = absurd cc
      by (Some a) (Some s) l m e = let is : r ≡ front a.text a.part s = cc in (a, s, l, m, is)

  pub lack_none : Lack (CellsHave c) (RowsHave cs) ↔ RowsHave (c ∷ cs) None
  lack_none =
      let split = joined_split in_front (λ r. refl) front_right (CellsHave c) (RowsHave cs) None in (
        (λ l. split.0 (inl (refl, l))),
        (λ h. ⊎_elim (λ x. x.1) (λ x. let e = x.4 in absurd cc) (split.1 h)),
      )

  pub have_front : (((x : Option Choice) × CellsHave c x) × ((o : Option RowText) × RowsHave cs o)) ↔ ((o : Option RowText) × RowsHave (c ∷ cs) o)
  have_front = (
    (λ h. (in_front h.0.0 h.1.0, (h.0.0, h.1.0, h.0.1, h.1.1, refl))),
    (λ h. ((h.1.0, h.1.2), (h.1.1, h.1.3))),
  )

  module _ (look : Look) (cells : List (List ℕ)) (part : Bool) where
    abbrev pub NextFinds : Cell → Option (List ℕ) → Type 0
    NextFinds x o = Find look (cells ++ x.text.now ∷ []) (part || x.part) cs o

    pub next_find : (o : Option (List ℕ)) → SomeIn (λ x. NextFinds x o) c.cells.items ↔ Find look cells part (c ∷ cs) o
    next_find o = ((λ h. to h.0 h.1 h.2.0 h.2.1 h.2.2), (λ h. back h.0 h.1 h.2))
      where
        to : (x : Cell) → ((k : ℕ) × (slice_get c.cells.items k ≡ Some x)) → (s : RowText) → RowsHave cs (Some s) → FindsBy look (after (cells ++ x.text.now ∷ []) (part || x.part) s) o → Find look cells part (c ∷ cs) o
        to x at s rest f =
            (front x.text.now x.part s, (Some (cell_choice x), Some s, (x, at, refl), rest, refl), subst (λ r. FindsBy look r o) (sym (after_front cells part x.text.now x.part s)) f)

        back : (r : RowText) → RowsHave (c ∷ cs) (Some r) → FindsBy look (after cells part r) o → SomeIn (λ x. NextFinds x o) c.cells.items
        back r h f =
            let p = parted r h in
            let l = p.2 in
            let s = p.1 in
            let moved : FindsBy look (after cells part (front p.0.text p.0.part s)) o = subst (λ q. FindsBy look (after cells part q) o) p.4 f in
            let own : FindsBy look (after cells part (front l.0.text.now l.0.part s)) o = subst (λ (y : Choice). FindsBy look (after cells part (front y.text y.part s)) o) (sym l.2) moved in
            (l.0, l.1, (s, p.3, subst (λ q. FindsBy look q o) (after_front cells part l.0.text.now l.0.part s) own))

  -- cells that fit go on with one of the condition's texts
  pub fit_front : (t : List ℕ) (ts : List (List ℕ)) (part : Bool) → Fit (c ∷ cs) (t ∷ ts) part ↔ ((b : Bool) × CellsHave c (Some (choice_of t b)) × Fit cs ts (part || b))
  fit_front t ts part = (
    (λ h.
        let p = parted h.0 h.1 in
        let r : t ∷ ts ≡ p.0.text ∷ p.1.texts = sym h.2 ∙ ap (λ (q : RowText). q.texts) p.4 in
        let first : p.0.text ≡ t = cc in
        let others : p.1.texts ≡ ts = cc in
        let flag : (part || (p.0.part || p.1.part)) ≡ true = ap (λ (q : RowText). part || q.part) (sym p.4) ∙ h.3 in
        (p.0.part, subst (λ u. CellsHave c (Some (choice_of u p.0.part))) first p.2, (p.1, p.3, others, sym (or_assoc part p.0.part p.1.part) ∙ flag))),
    (λ h.
        let f = h.2 in
        (front t h.0 f.0, (Some (choice_of t h.0), Some f.0, h.1, f.1, refl), ap (λ l. t ∷ l) f.2, or_assoc part h.0 f.0.part ∙ f.3)),
  )

  pub fit_none : (part : Bool) → ¬ (Fit (c ∷ cs) [] part)
  fit_none part h = let p = parted h.0 h.1 in let e : [] ≡ p.0.text ∷ p.1.texts = sym h.2 ∙ ap (λ (q : RowText). q.texts) p.4 in cc

-- the way that has ended
pub last_find : (look : Look) (cells : List (List ℕ)) (part : Bool) (o : Option (List ℕ)) → FindsBy look (record { texts = cells; part = part }) o ↔ Find look cells part [] o
last_find look cells part o = (
  (λ f. (no_text, refl, subst (λ r. FindsBy look r o) (sym (after_none cells part)) f)),
  (λ h. let is : h.0 ≡ no_text = (let e = h.1 in cc) in subst (λ r. FindsBy look r o) (after_none cells part) (subst (λ r. FindsBy look (after cells part r) o) is h.2)),
)

pub last_fit : (part : Bool) → (part ≡ true) ↔ Fit [] [] part
last_fit part = (
  (λ h. (no_text, refl, refl, or_none part ∙ h)),
  (λ h. let is : h.0 ≡ no_text = (let e = h.1 in cc) in sym (or_none part) ∙ ap (λ (r : RowText). part || r.part) (sym is) ∙ h.3),
)

pub last_unfit : (t : List ℕ) (ts : List (List ℕ)) (part : Bool) → ¬ (Fit [] (t ∷ ts) part)
last_unfit t ts part h = let is : h.0 ≡ no_text = (let e = h.1 in cc) in let e : [] ≡ t ∷ ts = ap (λ (r : RowText). r.texts) (sym is) ∙ h.2 in cc

-- cells that fit with a part do so without, where there was one
pub fit_with : (c : Cells) (cs : List Cells) (t : List ℕ) (ts : List (List ℕ)) (part : Bool) → CellsHave c (Some (choice_of t true)) → Fit cs ts true ↔ Fit (c ∷ cs) (t ∷ ts) part
fit_with c cs t ts part has = (
  (λ f. (fit_front c cs t ts part).1 (true, has, subst (λ b. Fit cs ts b) (sym (or_true part)) f)),
  (λ h. let f = (fit_front c cs t ts part).0 h in (f.2.0, f.2.1, f.2.2, refl)),
)

pub fit_without : (c : Cells) (cs : List Cells) (t : List ℕ) (ts : List (List ℕ)) (part : Bool) → ¬ (CellsHave c (Some (choice_of t true))) → CellsHave c (Some (choice_of t false)) → Fit cs ts part ↔ Fit (c ∷ cs) (t ∷ ts) part
fit_without c cs t ts part not has = (
  (λ f. (fit_front c cs t ts part).1 (false, has, subst (λ b. Fit cs ts b) (sym (or_none part)) f)),
  (λ h. let f = (fit_front c cs t ts part).0 h in by f.0 f.1 f.2),
)
  where
    by : (b : Bool) → CellsHave c (Some (choice_of t b)) → Fit cs ts (part || b) → Fit cs ts part
    by true there f = absurd (not there)
    by false there f = subst (λ b. Fit cs ts b) (or_none part) f

pub unfit : (c : Cells) (cs : List Cells) (t : List ℕ) (ts : List (List ℕ)) (part : Bool) → ¬ (CellsHave c (Some (choice_of t true))) → ¬ (CellsHave c (Some (choice_of t false))) → ¬ (Fit (c ∷ cs) (t ∷ ts) part)
unfit c cs t ts part not neither h = let f = (fit_front c cs t ts part).0 h in by f.0 f.1
  where
    by : (b : Bool) → CellsHave c (Some (choice_of t b)) → ⊥
    by true there = not there
    by false there = neither there

-- what all ways find, and those with a condition that has no text
pub found_by_ways : (look : Look) (cs : List Cells) (lacks : Bool) → (IsTrue lacks ↔ RowsHave cs None) → (o : Option (List ℕ))
    → (((o ≡ None) × (lacks ≡ true)) ⊎ Find look [] false cs o) ↔ AreFound look.tables.now look.item.now.column look.item.now.table look.item.now.key (RowsHave cs) o
found_by_ways look cs lacks is o = (
  (λ h. ⊎_elim (λ l. (None, is.0 l.1, l.0)) (λ r. (Some r.0, r.1, r.2)) h),
  (λ h. back h.0 h.1 h.2),
)
  where
    back : (r : Option RowText) → RowsHave cs r → RowFinds look.tables.now look.item.now.column look.item.now.table look.item.now.key r o → ((o ≡ None) × (lacks ≡ true)) ⊎ Find look [] false cs o
    back None m e = inl (e, is.1 m)
    back (Some r) m f = inr (r, m, f)

-- the texts of a condition: the constant's, and those of the parts
abbrev pub OfConstant : Option (List ℕ) → Option Choice → Type 0
OfConstant fixed o = (t : List ℕ) × (fixed ≡ Some t) × (o ≡ Some (choice_of t false))

abbrev pub OfParts : Pieces → Option Choice → Type 0
OfParts parts o = SomeIn (λ x. o ≡ Some (choice_of (piece_text x) true)) parts.pieces.items

module _ (fixed : Option (List ℕ)) (parts : Pieces) where
  all_cells : (o : Option Choice) → (((o ≡ None) × (parts.none ≡ true)) ⊎ (OfConstant fixed o ⊎ OfParts parts o)) ↔ ChoicesHave fixed parts o
  all_cells o = (
    (λ h. ⊎_elim
        (λ l. subst (ChoicesHave fixed parts) (sym l.0) l.1)
        (λ r. ⊎_elim (λ k. subst (ChoicesHave fixed parts) (sym k.2) k.1) (λ k. subst (ChoicesHave fixed parts) (sym k.2) (k.0, k.1, refl)) r)
        h),
    (λ h. back o h),
  )
    where
      listed : (p : Bool) (t : List ℕ) → ChosenBy p t fixed parts → OfConstant fixed (Some (choice_of t p)) ⊎ OfParts parts (Some (choice_of t p))
      listed false t h = inl (t, h, refl)
      listed true t h = inr (h.0, h.1, ap (λ u. Some (choice_of u true)) (sym h.2))

      back : (q : Option Choice) → ChoicesHave fixed parts q → ((q ≡ None) × (parts.none ≡ true)) ⊎ (OfConstant fixed q ⊎ OfParts parts q)
      back None h = inl (refl, h)
      back (Some x) h = inr (listed x.part x.text h)

  pub cells_listed : (a b c : Option Choice → Type 0) → ((o : Option Choice) → a o ↔ ((o ≡ None) × (parts.none ≡ true))) → Gains a b (OfConstant fixed) → Gains b c (OfParts parts)
      → (o : Option Choice) → c o ↔ ChoicesHave fixed parts o
  cells_listed a b c start first second o =
      let both = gains_then a b c (OfConstant fixed) (OfParts parts) first second o in (
        (λ h. (all_cells o).0 (⊎_elim (λ l. inl ((start o).0 l)) (λ r. inr r) (both.0 h))),
        (λ h. both.1 (⊎_elim (λ l. inl ((start o).1 l)) (λ r. inr r) ((all_cells o).1 h))),
      )

-- where there is no condition
pub no_lack : IsTrue false ↔ RowsHave [] None
no_lack = ((λ t. absurd (false≢true t)), (λ h. absurd cc))

pub one_way : IsTrue true ↔ ((o : Option RowText) × RowsHave [] o)
one_way = ((λ t. (Some no_text, refl)), (λ h. refl))

pub fit_by : (b : Bool) (cs ds : List Cells) (ts us : List (List ℕ)) (part : Bool) → cs ≡ ds → ts ≡ us → (IsTrue b ↔ Fit ds us part) → IsTrue b ↔ Fit cs ts part
fit_by b cs ds ts us part e f h = subst (λ (xs : List Cells). IsTrue b ↔ Fit xs ts part) (sym e) (subst (λ (ys : List (List ℕ)). IsTrue b ↔ Fit ds ys part) (sym f) h)
