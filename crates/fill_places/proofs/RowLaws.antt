-- All places of a position, put together.
use Rattle.std.proofs.Common.{◌≡◌, ℕ, ◌+◌, ◌<◌, ◌⊎◌, inl, inr, List, [], ◌∷◌, ◌++◌, length, refl, sym, ap, ◌∙◌, subst, arith, Bool, true, ℤ, pos, negsuc, slice_get, Some, get_or}
use Rattle.std.specs.declared.cmp.Ordering.TheVariants as Ordering
use Rattle.std.specs.declared.cmp.Ordering.TheVariants.{Less}
use Rattle.std.specs.Ordering.{nat_cmp, ordering_then}
use Rattle.std.proofs.lemmas.Option.{same_Some, slice_get_read, slice_get_within, get_or_from_slice_get}
use Rattle.std.proofs.lemmas.Bool.{cases_order}
use Rattle.fill_tokens.specs.Span.{IsCut}
use Rattle.fill_tokens.specs.Place.{place_cmp, seq_cmp, signed_cmp}
use Rattle.fill_tokens.specs.declared.token.Token.{Token}
use Rattle.fill_tokens.specs.declared.place.Place.{Place}
use Rattle.fill_tokens.specs.declared.place.Place.TheVariants.{CPos, Pos}
use Rattle.fill_places.specs.declared.entry.Entry.{Entry}
use Rattle.fill_text.specs.Lists.{Lists, Adds}
use Rattle.fill_places.specs.Marks.{AreMarks}
use Rattle.fill_places.specs.Sides.{LeftAt, RightAt}
use Rattle.fill_places.specs.Entries.{AreInOrder, AreLefts, AreRights, IsMarkedAt}
use Rattle.fill_places.specs.Wanted.{IsWanted, FixedOf, PairOf, RowOf, FromLeft, FromLefts}
use Rattle.fill_tokens.proofs.SeqOrder.{seq_same, less_nat, nat_less}
use Rattle.fill_tokens.specs.declared.token_set.TokenSet.{TokenSet}
use Rattle.fill_text.proofs.ListsLaws.{adds_none, adds_one, adds_same, adds_then, adds_all}

wanted_cut : (token_set : TokenSet) (t : List ℕ) (k : ℕ) (a b : List Token) (c : ℤ) → IsWanted token_set t k (Pos a b c) → IsCut a b t k
wanted_cut token_set t k a b (pos c) h = h.1.1
wanted_cut token_set t k a b (negsuc c) h = h.1.1

wanted_left : (token_set : TokenSet) (t : List ℕ) (k : ℕ) (a b : List Token) (c : ℤ) → IsWanted token_set t k (Pos a b c) → LeftAt token_set t a k
wanted_left token_set t k a b c h = let around = h.0.0.2 in (record { tokens = h.0.1.0; start = around.start_left; end = around.end_left }, (wanted_cut token_set t k a b c h).0)

wanted_right : (token_set : TokenSet) (t : List ℕ) (k : ℕ) (a b : List Token) (c : ℤ) → IsWanted token_set t k (Pos a b c) → RightAt token_set t b k
wanted_right token_set t k a b c h = let around = h.0.0.2 in (record { tokens = h.0.1.1; start = around.start_right; end = around.end_right }, (wanted_cut token_set t k a b c h).1)

-- the numbers of the entries that are marked
pub marked_none : (es : List Entry) (k : ℕ) (old : List ℕ) → Adds nat_cmp old old (λ i. (i < 0) × IsMarkedAt es k i)
marked_none es k old = adds_none nat_cmp (λ i. (i < 0) × IsMarkedAt es k i) old (λ i h. let u = h.0 in omega arith)

pub marked_more : (es : List Entry) (k m : ℕ) (old mid new : List ℕ) → Adds nat_cmp old mid (λ i. (i < m) × IsMarkedAt es k i) → new ≡ mid ++ m ∷ [] → IsMarkedAt es k m →
    Adds nat_cmp old new (λ i. (i < m + 1) × IsMarkedAt es k i)
marked_more es k m old mid new a e marked =
    adds_then nat_cmp (λ i. (i < m) × IsMarkedAt es k i) (λ i. i ≡ m) (λ i. (i < m + 1) × IsMarkedAt es k i) old mid new a (adds_one nat_cmp (λ i. i ≡ m) mid new m e refl (λ y q. q))
    (λ x y p q. nat_less x y (let u = p.0 in omega arith))
    (λ x s. elim (cases_order x m) [
      | inl q ↦ inr q
      | inr o ↦ elim o [ inl l ↦ inl (l, s.1) | inr g ↦ absurd (let u = s.0 in omega arith) ]
    ])
    (λ x q. ((let u = q.0 in omega arith), q.1))
    (λ x q. ((omega arith), subst (IsMarkedAt es k) (sym q) marked))

pub marked_not : (es : List Entry) (k m : ℕ) (e : Entry) (old mid : List ℕ) → slice_get es m ≡ Some e → (slice_get e.at k ≡ Some true → ⊥) →
    Adds nat_cmp old mid (λ i. (i < m) × IsMarkedAt es k i) → Adds nat_cmp old mid (λ i. (i < m + 1) × IsMarkedAt es k i)
marked_not es k m e old mid at flag a =
    adds_same nat_cmp (λ i. (i < m) × IsMarkedAt es k i) (λ i. (i < m + 1) × IsMarkedAt es k i) old mid
    (λ x q. ((let u = q.0 in omega arith), q.1))
    (λ x s. elim (cases_order x m) [
      | inl q ↦ absurd (let y = s.1 in
          let same : y.0 ≡ e = same_Some y.0 e (sym y.1 ∙ ap (slice_get es) q ∙ at) in
          flag (subst (λ (z : Entry). slice_get z.at k ≡ Some true) same y.2))
      | inr o ↦ elim o [ inl l ↦ (l, s.1) | inr g ↦ absurd (let u = s.0 in omega arith) ]
    ]) a

pub marked_all : (es : List Entry) (k m : ℕ) (old new : List ℕ) → old ≡ [] → m ≡ length es → Adds nat_cmp old new (λ i. (i < m) × IsMarkedAt es k i) → Lists nat_cmp (IsMarkedAt es k) new
marked_all es k m old new e n a = adds_all nat_cmp (IsMarkedAt es k) old new e
    (adds_same nat_cmp (λ i. (i < m) × IsMarkedAt es k i) (IsMarkedAt es k) old new (λ x q. q.1)
    (λ x q. ((let u = slice_get_within es x q.0 q.1 in omega arith), q)) a)

-- the pairs of the next number come after those of the numbers before
module _ (token_set : TokenSet) (t : List ℕ) (k : ℕ) (l : List Token) (es : List Entry) (numbers : List ℕ) (up : AreInOrder es) (some : Lists nat_cmp (IsMarkedAt es k) numbers) where
  module _ (m i : ℕ) (e : Entry) (number : slice_get numbers m ≡ Some i) (at : slice_get es i ≡ Some e) where
    earlier : (j h : ℕ) → j < m → slice_get numbers j ≡ Some h → h < i
    earlier j h lt g = less_nat h i (
        let w = slice_get_within numbers m i number in
        let x = get_or_from_slice_get numbers j h 0 g in
        let y = get_or_from_slice_get numbers m i 0 number in
        subst (λ z. nat_cmp h z ≡ Less) y (subst (λ z. nat_cmp z (get_or numbers m 0) ≡ Less) x (some.rising j m 0 lt w)))

    row_less : (p q : Place) → RowOf token_set t k l es numbers m p → PairOf token_set t k l e.seq q → place_cmp p q ≡ Less
    row_less (CPos j) q a b = absurd a
    row_less (Pos x y c) (CPos j) a b = absurd b
    row_less (Pos x y c) (Pos u v d) a b =
        let h = a.1 in
        let less : seq_cmp h.2.seq e.seq ≡ Less = up h.1 i h.2 e (earlier h.0 h.1 h.3 h.4) h.5 at in
        let less2 : seq_cmp y v ≡ Less = subst (λ z. seq_cmp y z ≡ Less) (sym b.1) (subst (λ z. seq_cmp z e.seq ≡ Less) h.6 less) in
        let same : x ≡ u = a.0 ∙ sym b.0 in
        let eq = subst (λ z. seq_cmp x z ≡ Ordering.Equal) same (seq_same x) in
        ap (λ o. ordering_then o (ordering_then (seq_cmp y v) (signed_cmp c d))) eq ∙ ap (λ o. ordering_then o (signed_cmp c d)) less2

    row_split : (p : Place) → RowOf token_set t k l es numbers (m + 1) p → RowOf token_set t k l es numbers m p ⊎ PairOf token_set t k l e.seq p
    row_split (CPos j) h = absurd h
    row_split (Pos x y c) h =
        let s = h.1 in
        elim (cases_order s.0 m) [
          | inl q ↦
              (let one : s.1 ≡ i = same_Some s.1 i (sym s.4 ∙ ap (slice_get numbers) q ∙ number) in
              let same : s.2 ≡ e = same_Some s.2 e (sym s.5 ∙ ap (slice_get es) one ∙ at) in
              inr (h.0, sym s.6 ∙ ap (λ (z : Entry). z.seq) same, h.2))
          | inr o ↦ elim o [
            | inl less ↦ inl (h.0, (s.0, s.1, s.2, less, s.4, s.5, s.6), h.2)
            | inr more ↦ absurd (let b : s.0 < m + 1 = s.3 in omega arith)
          ]
        ]

    row_left : (p : Place) → RowOf token_set t k l es numbers m p → RowOf token_set t k l es numbers (m + 1) p
    row_left (CPos j) h = h
    row_left (Pos x y c) h = let s = h.1 in (h.0, (s.0, s.1, s.2, (let b : s.0 < m = s.3 in omega arith), s.4, s.5, s.6), h.2)

    row_right : (p : Place) → PairOf token_set t k l e.seq p → RowOf token_set t k l es numbers (m + 1) p
    row_right (CPos j) h = h
    row_right (Pos x y c) h = (h.0, (m, i, e, omega arith, number, at, sym h.1), h.2)

    pub row_more : (old mid new : List Place) → Adds place_cmp old mid (RowOf token_set t k l es numbers m) → Adds place_cmp mid new (PairOf token_set t k l e.seq) → Adds place_cmp old new (RowOf token_set t k l es numbers (m + 1))
    row_more old mid new a b =
        adds_then place_cmp (RowOf token_set t k l es numbers m) (PairOf token_set t k l e.seq) (RowOf token_set t k l es numbers (m + 1)) old mid new a b row_less row_split row_left row_right

pub row_none : (token_set : TokenSet) (t : List ℕ) (k : ℕ) (l : List Token) (es : List Entry) (numbers : List ℕ) (old : List Place) → Adds place_cmp old old (RowOf token_set t k l es numbers 0)
row_none token_set t k l es numbers old = adds_none place_cmp (RowOf token_set t k l es numbers 0) old none
  where
    none : (p : Place) → RowOf token_set t k l es numbers 0 p → ⊥
    none (CPos i) h = h
    none (Pos x y c) h = let s = h.1 in (let b : s.0 < 0 = s.3 in omega arith)

pub number_is : (es : List Entry) (k : ℕ) (numbers : List ℕ) (m i : ℕ) → Lists nat_cmp (IsMarkedAt es k) numbers → slice_get numbers m ≡ Some i → IsMarkedAt es k i
number_is es k numbers m i some at = (some.exact i).0 (m, slice_get_within numbers m i at, get_or_from_slice_get numbers m i i at)

-- all right sequences that begin at the position
pub row_all : (token_set : TokenSet) (t : List ℕ) (k : ℕ) (l : List Token) (es : List Entry) (numbers : List ℕ) (old new : List Place) → AreRights token_set t es → Lists nat_cmp (IsMarkedAt es k) numbers →
    Adds place_cmp old new (RowOf token_set t k l es numbers (length numbers)) → Adds place_cmp old new (FromLeft token_set t k l)
row_all token_set t k l es numbers old new are some a = adds_same place_cmp (RowOf token_set t k l es numbers (length numbers)) (FromLeft token_set t k l) old new to back a
  where
    to : (p : Place) → RowOf token_set t k l es numbers (length numbers) p → FromLeft token_set t k l p
    to (CPos i) h = h
    to (Pos x y c) h = (h.0, h.2)

    back : (p : Place) → FromLeft token_set t k l p → RowOf token_set t k l es numbers (length numbers) p
    back (CPos i) h = h
    back (Pos x y c) h =
        let right = wanted_right token_set t k x y c h.1 in
        let f = are.full y h.1.0.0.2.short_right k right in
        let mark = (are.each f.0 f.1 f.3).0.full k (subst (λ z. RightAt token_set t z k) (sym f.4) right) in
        let j = (some.exact f.0).1 (f.1, f.3, mark) in
        (h.0, (j.0, f.0, f.1, j.1, slice_get_read numbers (length numbers) j.0 f.0 refl j.1 (sym j.2), f.3, f.4), h.1)

pub no_left : (token_set : TokenSet) (t : List ℕ) (k : ℕ) (l : List Token) (flags : List Bool) (old : List Place) → AreMarks (LeftAt token_set t l) (length t) flags → (slice_get flags k ≡ Some true → ⊥) → Adds place_cmp old old (FromLeft token_set t k l)
no_left token_set t k l flags old m at = adds_none place_cmp (FromLeft token_set t k l) old none
  where
    none : (p : Place) → FromLeft token_set t k l p → ⊥
    none (CPos i) h = h
    none (Pos x y c) h =
        at (m.full k (subst (λ z. LeftAt token_set t z k) h.0 (wanted_left token_set t k x y c h.1)))

-- the places of the next left sequence come after those of the ones before
module _ (token_set : TokenSet) (t : List ℕ) (k : ℕ) (es : List Entry) (up : AreInOrder es) (m : ℕ) (e : Entry) (at : slice_get es m ≡ Some e) where
  lefts_less : (p q : Place) → FromLefts token_set t k es m p → FromLeft token_set t k e.seq q → place_cmp p q ≡ Less
  lefts_less (CPos i) q a b = absurd a
  lefts_less (Pos x y c) (CPos j) a b = absurd b
  lefts_less (Pos x y c) (Pos u v d) a b =
      let h = a.0 in
      let less : seq_cmp h.1.seq e.seq ≡ Less = up h.0 m h.1 e h.2 h.3 at in
      let less2 : seq_cmp x u ≡ Less = subst (λ z. seq_cmp x z ≡ Less) (sym b.0) (subst (λ z. seq_cmp z e.seq ≡ Less) h.4 less) in
      ap (λ o. ordering_then o (ordering_then (seq_cmp y v) (signed_cmp c d))) less2

  lefts_split : (p : Place) → FromLefts token_set t k es (m + 1) p → FromLefts token_set t k es m p ⊎ FromLeft token_set t k e.seq p
  lefts_split (CPos i) h = absurd h
  lefts_split (Pos x y c) h =
      let s = h.0 in
      elim (cases_order s.0 m) [
        | inl q ↦ (let same : s.1 ≡ e = same_Some s.1 e (sym s.3 ∙ ap (slice_get es) q ∙ at) in inr (sym s.4 ∙ ap (λ (z : Entry). z.seq) same, h.1))
        | inr o ↦ elim o [
          | inl less ↦ inl ((s.0, s.1, less, s.3, s.4), h.1)
          | inr more ↦ absurd (let b : s.0 < m + 1 = s.2 in omega arith)
        ]
      ]

  lefts_left : (p : Place) → FromLefts token_set t k es m p → FromLefts token_set t k es (m + 1) p
  lefts_left (CPos i) h = h
  lefts_left (Pos x y c) h = let s = h.0 in ((s.0, s.1, (let b : s.0 < m = s.2 in omega arith), s.3, s.4), h.1)

  lefts_right : (p : Place) → FromLeft token_set t k e.seq p → FromLefts token_set t k es (m + 1) p
  lefts_right (CPos i) h = h
  lefts_right (Pos x y c) h = ((m, e, omega arith, at, sym h.0), h.1)

  pub lefts_more : (old mid new : List Place) → Adds place_cmp old mid (FromLefts token_set t k es m) → Adds place_cmp mid new (FromLeft token_set t k e.seq) → Adds place_cmp old new (FromLefts token_set t k es (m + 1))
  lefts_more old mid new a b =
      adds_then place_cmp (FromLefts token_set t k es m) (FromLeft token_set t k e.seq) (FromLefts token_set t k es (m + 1)) old mid new a b lefts_less lefts_split lefts_left lefts_right

pub lefts_none : (token_set : TokenSet) (t : List ℕ) (k : ℕ) (es : List Entry) (old : List Place) → Adds place_cmp old old (FromLefts token_set t k es 0)
lefts_none token_set t k es old = adds_none place_cmp (FromLefts token_set t k es 0) old none
  where
    none : (p : Place) → FromLefts token_set t k es 0 p → ⊥
    none (CPos i) h = h
    none (Pos x y c) h = let s = h.0 in (let b : s.0 < 0 = s.2 in omega arith)

pub all_lists : (token_set : TokenSet) (t : List ℕ) (k : ℕ) (es : List Entry) (old mid new : List Place) → AreLefts token_set t es → old ≡ [] →
    Adds place_cmp old mid (FixedOf token_set t k) → Adds place_cmp mid new (FromLefts token_set t k es (length es)) → Lists place_cmp (IsWanted token_set t k) new
all_lists token_set t k es old mid new are e a b = adds_all place_cmp (IsWanted token_set t k) old new e
    (adds_then place_cmp (FixedOf token_set t k) (FromLefts token_set t k es (length es)) (IsWanted token_set t k) old mid new a b less split fixed between)
  where
    less : (p q : Place) → FixedOf token_set t k p → FromLefts token_set t k es (length es) q → place_cmp p q ≡ Less
    less (CPos i) (CPos j) a b = absurd b
    less (CPos i) (Pos x y c) a b = refl
    less (Pos x y c) q a b = absurd a

    split : (p : Place) → IsWanted token_set t k p → FixedOf token_set t k p ⊎ FromLefts token_set t k es (length es) p
    split (CPos i) h = inl h
    split (Pos x y c) h = inr (are.full x h.0.0.2.short_left k (wanted_left token_set t k x y c h), h)

    fixed : (p : Place) → FixedOf token_set t k p → IsWanted token_set t k p
    fixed (CPos i) h = h
    fixed (Pos x y c) h = absurd h

    between : (p : Place) → FromLefts token_set t k es (length es) p → IsWanted token_set t k p
    between (CPos i) h = absurd h
    between (Pos x y c) h = h.1
