-- The search for minimal keys, step by step.
use Rattle.std.proofs.Common.{◌≡◌, ℕ, zero, suc, ◌+◌, ◌<◌, ◌≤◌, ◌⊎◌, inl, inr, List, [], ◌∷◌, ◌++◌, length, refl, sym, ap, ◌∙◌, subst, arith, length-append, append_assoc}
use Rattle.std.specs.Prelude.{All, Contains}
use Rattle.std.specs.List.{AllPairs}
use Rattle.std.proofs.lemmas.Bool.{cases_order}
use Rattle.std.proofs.lemmas.List.{append-nil}
use Rattle.std.proofs.lemmas.List.Elements.{All-nil, All-push, All-append, All-contains, Contains-push, Contains-append_left, All-weaker, All-contains_itself}
use Rattle.std.proofs.lemmas.List.Quantifiers.{all_pairs_push}
use Rattle.fill_text.specs.Data.{TableData}
use Rattle.fill_text.specs.Lists.{Adds, Lists}
use Rattle.fill_text.proofs.ListsLaws.{adds_none, adds_one, adds_same, adds_then, adds_all}
use Rattle.fill_tables.specs.Tables.{column_count}
use Rattle.fill_keys.specs.Keys.{AreColumns, IsMinimalKey, keys_cmp}
use Rattle.fill_keys.specs.Search.{AreSmaller, BeginsMinimalKey, IsNext, IsPrefix}
use Rattle.fill_keys.proofs.SoFar.{GoesOnBefore, IsSmaller}
use Rattle.fill_keys.proofs.KeyLaws.{fewer_less, base_less}

no_items : {A : Type 0} (xs : List A) → length xs ≡ 0 → xs ≡ []
no_items [] h = refl
no_items (x ∷ xs) h = absurd (omega arith)

first_item : {A : Type 0} (xs : List A) → 1 ≤ length xs → (x : A) × (rest : List A) × (xs ≡ x ∷ rest)
first_item [] h = absurd (omega arith)
first_item (x ∷ xs) h = (x, xs, refl)

-- a set of columns is a prefix that is long enough
pub whole_set : (width size : ℕ) (columns : List ℕ) → IsPrefix width size columns → length columns ≡ size → 1 ≤ size → size ≤ 3 → AreColumns width columns
whole_set width size columns p e some few = record { some = omega arith; few = omega arith; within = p.within; rising = p.rising }

pub no_prefix : (width size : ℕ) → IsPrefix width size []
no_prefix width size = record { fits = omega arith; within = All-nil (λ c. (1 ≤ c) × (c ≤ width)); rising = λ i j d l w. absurd (omega arith) }

pub first_next : IsNext [] 1
first_next column = (λ h. (h, All-nil (λ earlier. earlier < column)), λ h. h.0)

pub longer_prefix : (width size column next : ℕ) (columns : List ℕ) → IsPrefix width size columns → IsNext columns next → next ≤ column → column ≤ width → length columns < size →
    IsPrefix width size (columns ++ column ∷ [])
longer_prefix width size column next columns p n from to lt =
    let after = (n column).0 from in
    record {
      fits = omega (arith, length-append columns (column ∷ []));
      within = All-push (λ c. (1 ≤ c) × (c ≤ width)) columns column p.within (after.0, to);
      rising = all_pairs_push (λ a b. a < b) columns column p.rising after.1;
    }

pub longer_next : (column next : ℕ) (columns : List ℕ) → IsNext columns next → next ≤ column → IsNext (columns ++ column ∷ []) (column + 1)
longer_next column next columns n from later = (
  λ h. (let a = (n column).0 from in (
    omega (arith, a.0),
    All-push (λ earlier. earlier < later) columns column (All-weaker (λ earlier. earlier < column) (λ earlier. earlier < later) (λ x l. omega arith) columns a.1) (omega arith),
  )),
  λ h. (let a : column < later = All-contains (λ earlier. earlier < later) (columns ++ column ∷ []) column h.1 (Contains-push columns column) in omega arith),
)

-- what follows some columns in a set comes after each of them
apart : (columns rest : List ℕ) (column : ℕ) → AllPairs (λ a b. a < b) ((columns ++ column ∷ []) ++ rest) → All (λ earlier. earlier < column) columns
apart [] rest column h k d l = absurd (omega arith)
apart (x ∷ xs) rest column h zero d l =
    let c : Contains ((xs ++ column ∷ []) ++ rest) column = Contains-append_left (xs ++ column ∷ []) rest column (Contains-push xs column) in
    subst (λ v. x < v) c.2 (h zero (suc c.0) column (omega arith) (let w = c.1 in omega arith))
apart (x ∷ xs) rest column h (suc k) d l = apart xs rest column (λ i j e lt w. h (suc i) (suc j) e (omega arith) (omega arith)) k d (omega arith)

pub goes_on : (width column : ℕ) (columns rest key : List ℕ) → AreColumns width key → key ≡ (columns ++ column ∷ []) ++ rest →
    (1 ≤ column) × (column ≤ width) × All (λ earlier. earlier < column) columns
goes_on width column columns rest key set e =
    let within : All (λ c. (1 ≤ c) × (c ≤ width)) ((columns ++ column ∷ []) ++ rest) = subst (All (λ c. (1 ≤ c) × (c ≤ width))) e set.within in
    let both : (1 ≤ column) × (column ≤ width) =
    All-contains (λ c. (1 ≤ c) × (c ≤ width)) ((columns ++ column ∷ []) ++ rest) column within (Contains-append_left (columns ++ column ∷ []) rest column (Contains-push columns column)) in
    (both.0, both.1, apart columns rest column (subst (AllPairs (λ a b. a < b)) e set.rising))

module _ (tables : List TableData) (table : ℕ) where
  -- what is added are minimal keys
  pub more_smaller : (size : ℕ) (old new : List (List ℕ)) (Q : List ℕ → Type 0) → ((key : List ℕ) → Q key → IsMinimalKey tables table key) →
      Adds keys_cmp old new Q → AreSmaller tables table size old → AreSmaller tables table size new
  more_smaller size old new Q are a s = record {
    each = subst (All (IsMinimalKey tables table)) (sym a.1)
        (All-append (IsMinimalKey tables table) old a.0 s.each (All-weaker (Contains a.0) (IsMinimalKey tables table) (λ key c. are key ((a.2.exact key).0 c)) a.0 (All-contains_itself a.0)));
    full = λ key m l. subst (λ keys. Contains keys key) (sym a.1) (Contains-append_left old a.0 key (s.full key m l));
  }

  -- the columns are put to the list, or not, as they are a minimal key
  pub key_none : (columns : List ℕ) (keys : List (List ℕ)) → (IsMinimalKey tables table columns → ⊥) → Adds keys_cmp keys keys (λ key. (key ≡ columns) × IsMinimalKey tables table key)
  key_none columns keys not =
      adds_none keys_cmp (λ key. (key ≡ columns) × IsMinimalKey tables table key) keys (λ key h. not (subst (IsMinimalKey tables table) h.0 h.1))

  pub key_one : (columns : List ℕ) (old new : List (List ℕ)) → new ≡ old ++ columns ∷ [] → IsMinimalKey tables table columns →
      Adds keys_cmp old new (λ key. (key ≡ columns) × IsMinimalKey tables table key)
  key_one columns old new e is = adds_one keys_cmp (λ key. (key ≡ columns) × IsMinimalKey tables table key) old new columns e (refl, is) (λ key h. h.0)

  module _ (size : ℕ) (columns : List ℕ) where
    -- the columns are all of the set
    pub begins_whole : (old new : List (List ℕ)) → length columns ≡ size → Adds keys_cmp old new (λ key. (key ≡ columns) × IsMinimalKey tables table key) →
        Adds keys_cmp old new (BeginsMinimalKey tables table size columns)
    begins_whole old new e a =
        adds_same keys_cmp (λ key. (key ≡ columns) × IsMinimalKey tables table key) (BeginsMinimalKey tables table size columns) old new
        (λ key h. record { minimal = h.1; sized = ap length h.0 ∙ e; begins = ([], h.0 ∙ sym (append-nil columns)) })
        (λ key b.
        let none : b.begins.0 ≡ [] = no_items b.begins.0 (let n = b.sized in let l = ap length b.begins.1 in omega (arith, length-append columns b.begins.0)) in
        (b.begins.1 ∙ ap (λ r. columns ++ r) none ∙ append-nil columns, b.minimal))
        a

    pub goes_on_none : (next : ℕ) (old : List (List ℕ)) → IsNext columns next → Adds keys_cmp old old (GoesOnBefore tables table size columns next)
    goes_on_none next old n = adds_none keys_cmp (GoesOnBefore tables table size columns next) old
        (λ key g.
        let b = g.2 in
        let f = goes_on (column_count tables table) g.0 columns b.begins.0 key b.minimal.set b.begins.1 in
        let l : next ≤ g.0 = (n g.0).1 (f.0, f.2) in
        let lt = g.1 in omega arith)

    pub goes_on_more : (column : ℕ) (old mid new : List (List ℕ)) → Adds keys_cmp old mid (GoesOnBefore tables table size columns column) →
        Adds keys_cmp mid new (BeginsMinimalKey tables table size (columns ++ column ∷ [])) → Adds keys_cmp old new (GoesOnBefore tables table size columns (column + 1))
    goes_on_more column old mid new a b =
        adds_then keys_cmp (GoesOnBefore tables table size columns column) (BeginsMinimalKey tables table size (columns ++ column ∷ [])) (GoesOnBefore tables table size columns (column + 1))
        old mid new a b
        (λ x y g h. base_less columns g.2.begins.0 h.begins.0 x y g.0 column g.2.begins.1 h.begins.1 (g.2.sized ∙ sym h.sized) g.1)
        (λ x g. here x g.0 g.1 g.2)
        (λ x g. (g.0, (let lt = g.1 in omega arith), g.2))
        (λ x h. (column, omega arith, h))
      where
        last : (m : ℕ) → m < column + 1 → (m < column) ⊎ (m ≡ column)
        last m h = elim (cases_order m column) [
          | inl e ↦ inr e
          | inr o ↦ elim o [ inl l ↦ inl l | inr g ↦ absurd (omega arith) ]
        ]

        here : (x : List ℕ) (m : ℕ) → m < column + 1 → BeginsMinimalKey tables table size (columns ++ m ∷ []) x →
            GoesOnBefore tables table size columns column x ⊎ BeginsMinimalKey tables table size (columns ++ column ∷ []) x
        here x m lt b = elim (last m lt) [
          | inl l ↦ inl (m, l, b)
          | inr e ↦ inr (subst (λ v. BeginsMinimalKey tables table size (columns ++ v ∷ []) x) e b)
        ]

    pub goes_on_all : (end : ℕ) (old new : List (List ℕ)) → length columns < size → column_count tables table < end →
        Adds keys_cmp old new (GoesOnBefore tables table size columns end) → Adds keys_cmp old new (BeginsMinimalKey tables table size columns)
    goes_on_all end old new short over a =
        adds_same keys_cmp (GoesOnBefore tables table size columns end) (BeginsMinimalKey tables table size columns) old new
        (λ key g. record {
          minimal = g.2.minimal;
          sized = g.2.sized;
          begins = (g.0 ∷ g.2.begins.0, g.2.begins.1 ∙ append_assoc columns (g.0 ∷ []) g.2.begins.0);
        })
        (λ key b.
        let f = first_item b.begins.0 (let n = b.sized in let l = ap length b.begins.1 in omega (arith, length-append columns b.begins.0)) in
        let e : key ≡ (columns ++ f.0 ∷ []) ++ f.1 = b.begins.1 ∙ ap (λ r. columns ++ r) f.2 ∙ sym (append_assoc columns (f.0 ∷ []) f.1) in
        let on = goes_on (column_count tables table) f.0 columns f.1 key b.minimal.set e in
        (f.0, (let le = on.1 in omega arith), record { minimal = b.minimal; sized = b.sized; begins = (f.1, e) }))
        a

  pub smaller_none : Adds keys_cmp [] [] (IsSmaller tables table 1)
  smaller_none = adds_none keys_cmp (IsSmaller tables table 1) [] (λ key s. let a = s.0.set.some in let b = s.1 in omega arith)

  pub smaller_known : (size : ℕ) (keys : List (List ℕ)) → Adds keys_cmp [] keys (IsSmaller tables table size) → AreSmaller tables table size keys
  smaller_known size keys a =
      let l = adds_all keys_cmp (IsSmaller tables table size) [] keys refl a in
      record {
        each = All-weaker (Contains keys) (IsMinimalKey tables table) (λ key c. ((l.exact key).0 c).0) keys (All-contains_itself keys);
        full = λ key m lt. (l.exact key).1 (m, lt);
      }

  pub smaller_more : (size : ℕ) (mid new : List (List ℕ)) → Adds keys_cmp [] mid (IsSmaller tables table size) → Adds keys_cmp mid new (BeginsMinimalKey tables table size []) →
      Adds keys_cmp [] new (IsSmaller tables table (size + 1))
  smaller_more size mid new a b =
      adds_then keys_cmp (IsSmaller tables table size) (BeginsMinimalKey tables table size []) (IsSmaller tables table (size + 1)) [] mid new a b
      (λ x y s h. fewer_less x y (let lt = s.1 in let e = h.sized in omega arith))
      (λ x s. elim (cases_order (length x) size) [
        | inl e ↦ inr (record { minimal = s.0; sized = e; begins = (x, refl) })
        | inr o ↦ elim o [ inl l ↦ inl (s.0, l) | inr g ↦ absurd (let lt = s.1 in omega arith) ]
      ])
      (λ x s. (s.0, (let lt = s.1 in omega arith)))
      (λ x h. (h.minimal, (let e = h.sized in omega arith)))

  pub smaller_all : (size : ℕ) (keys : List (List ℕ)) → 4 ≤ size → Adds keys_cmp [] keys (IsSmaller tables table size) → Lists keys_cmp (IsMinimalKey tables table) keys
  smaller_all size keys over a =
      adds_all keys_cmp (IsMinimalKey tables table) [] keys refl
      (adds_same keys_cmp (IsSmaller tables table size) (IsMinimalKey tables table) [] keys (λ key s. s.0) (λ key m. (m, (let f = m.set.few in omega arith))) a)
