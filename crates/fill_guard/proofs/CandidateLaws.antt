-- The literals that are kept, put together in their order.
use Rattle.std.proofs.Common.{◌≡◌, ℕ, zero, suc, ◌+◌, ◌<◌, ◌≤◌, ◌⊎◌, ◌↔◌, inl, inr, List, [], ◌∷◌, ◌++◌, length, get_or, slice_get, Some, Bool, true, false, refl, sym, ap, ◌∙◌, subst, arith, append_assoc}
use Rattle.std.specs.Prelude.{Contains}
use Rattle.std.specs.Ordering.{ordering_reverse, on}
use Rattle.std.specs.List.{AllPairs, All, AllZip}
use Rattle.std.specs.List.Sorted.{IsStrictlyIncreasing}
use Rattle.std.specs.declared.cmp.Ordering.TheVariants.{Less}
use Rattle.std.proofs.lemmas.Bool.{cases_lt}
use Rattle.std.proofs.lemmas.Option.{same_Some, slice_get_within, get_or_from_slice_get}
use Rattle.std.proofs.lemmas.List.{append-nil}
use Rattle.std.proofs.lemmas.List.Elements.{Contains-append_left, Contains-append_right, Contains-append_cases}
use Rattle.std.proofs.lemmas.List.Kept.{AllPairs-from_increasing}
use Rattle.fill_text.specs.Data.{SheetData, cell_at}
use Rattle.fill_tokens.specs.Span.{Begins}
use Rattle.fill_tokens.specs.Place.{seq_cmp}
use Rattle.fill_tokens.specs.declared.token.Token.{Token}
use Rattle.fill_tokens.proofs.CountLaws.{count_unique}
use Rattle.fill_tokens.specs.declared.token_set.TokenSet.{TokenSet}
use Rattle.fill_text.specs.Lists.{Lists}
use Rattle.fill_text.proofs.ListsLaws.{lists_append}
use Rattle.fill_text.proofs.ListReads.{contains_read, read_contains}
use Rattle.fill_tree.specs.Guard.{HasMatches, NegatedWhere, LiteralHolds}
use Rattle.fill_tree.specs.Separate.{IsLiteral, IsTested, literal_cmp}
use Rattle.fill_tree.specs.declared.guard.Literal.{Literal}
use Rattle.fill_tree.specs.declared.user.Settings.{Settings}
use Rattle.fill_guard.specs.Matches.{IsMatchCount}
use Rattle.fill_guard.specs.Read.{AreCells, AreCounts, HoldsOn, Passes}
use Rattle.fill_guard.specs.Candidate.{IsMask, IsSetOf, StandsFor, NotAfter, AreMore, Keeps, OnlyLiteral, OfLeast, OfSigns, OfSeqs, OfColumn, OfColumns}
use Rattle.fill_guard.specs.Least.{AreCandidates}
use Rattle.fill_guard.specs.declared.candidates.Candidate.{Candidate}
use Rattle.fill_guard.proofs.GuardOrder.{literal_total, less_column, less_seq, less_least, less_sign}
use Rattle.fill_guard.proofs.MaskLaws.{mask_over, all_over, all_under, zip_weaker, zip_then}

-- a literal that is before another, or is it, is not after it
pub less_not : (a b : Literal) → literal_cmp a b ≡ Less → NotAfter a b
less_not a b h back =
    let e : Less ≡ ordering_reverse Less = sym h ∙ literal_total.antisymm a b ∙ ap ordering_reverse back in
    cc

pub never_less : (a : Literal) → NotAfter a a
never_less a h = less_not a a h h

pub same_not : (a b : Literal) → a ≡ b → NotAfter a b
same_not a b e = subst (NotAfter a) e (never_less a)

none_in : {A : Type 0} (x : A) → Contains {X = A} [] x → ⊥
none_in x h = let w = h.1 in omega arith

one_in : {A : Type 0} (x y : A) → Contains (x ∷ []) y → x ≡ y
one_in x y (zero, w, e) = e
one_in x y (suc i, w, e) = absurd (omega arith)

-- the literal holds on a row exactly where the count of matches passes, of which no more than three are asked for
passes_of : (sheet : SheetData) (row : ℕ) (l : Literal) (t : List ℕ) (few : ℕ) → l.least ≤ 3 → cell_at sheet row l.column ≡ Some t → IsMatchCount l.seq t few →
    Passes l few ↔ LiteralHolds sheet row l
passes_of sheet row l t few small is counted = by_sign l.negated
  where
    same_cell : (u : List ℕ) → cell_at sheet row l.column ≡ Some u → u ≡ t
    same_cell u other = same_Some u t (sym other ∙ is)

    enough : HasMatches l.seq t l.least → l.least ≤ few
    enough h = let e = count_unique (Begins l.seq t) (length t + 1) h.0 counted.0 h.1 counted.1 in let le = h.2 in let m = counted.2 in omega arith

    has : l.least ≤ few → HasMatches l.seq t l.least
    has le = (counted.0, counted.1, (let m = counted.2 in omega arith))

    by_sign : (sign : Bool) → NegatedWhere sign (l.least ≤ few) ↔ ((u : List ℕ) × (cell_at sheet row l.column ≡ Some u) × NegatedWhere sign (HasMatches l.seq u l.least))
    by_sign true = (
      λ low. (t, is, λ h. low (enough h)),
      λ h le. h.2 (subst (λ u. HasMatches l.seq u l.least) (sym (same_cell h.0 h.1)) (has le)),
    )
    by_sign false = (
      λ le. (t, is, has le),
      λ h. enough (subst (λ u. HasMatches l.seq u l.least) (same_cell h.0 h.1) h.2),
    )

counts_pass : (sheet : SheetData) (l : Literal) (rows counts : List ℕ) → l.least ≤ 3 → AreCounts sheet l.column l.seq rows counts → AllZip (λ row count. Passes l count ↔ LiteralHolds sheet row l) rows counts
counts_pass sheet l rows counts small are =
    zip_weaker (λ row count. (t : List ℕ) × (cell_at sheet row l.column ≡ Some t) × IsMatchCount l.seq t count) (λ row count. Passes l count ↔ LiteralHolds sheet row l) rows counts
    (λ row count h. passes_of sheet row l h.0 count small h.1 h.2) are

pub passes_on : (sheet : SheetData) (l : Literal) (rows counts : List ℕ) → l.least ≤ 3 → AreCounts sheet l.column l.seq rows counts → All (Passes l) counts → HoldsOn sheet rows l
passes_on sheet l rows counts small are = all_over (Passes l) (λ row. LiteralHolds sheet row l) rows counts (counts_pass sheet l rows counts small are)

pub holds_pass : (sheet : SheetData) (l : Literal) (rows counts : List ℕ) → l.least ≤ 3 → AreCounts sheet l.column l.seq rows counts → HoldsOn sheet rows l → All (Passes l) counts
holds_pass sheet l rows counts small are = all_under (Passes l) (λ row. LiteralHolds sheet row l) rows counts (counts_pass sheet l rows counts small are)

pub set_of_mask : (sheet : SheetData) (l : Literal) (rows counts : List ℕ) (mask : ℕ) → l.least ≤ 3 → AreCounts sheet l.column l.seq rows counts → IsMask (Passes l) counts mask → IsSetOf sheet rows l mask
set_of_mask sheet l rows counts mask small are = mask_over (Passes l) (λ row. LiteralHolds sheet row l) rows counts mask (counts_pass sheet l rows counts small are)

pub counts_of_cells : (sheet : SheetData) (column : ℕ) (r : List Token) (rows : List ℕ) (cells : List (List ℕ)) (counts : List ℕ) → AreCells sheet column rows cells →
    AllZip (IsMatchCount r) cells counts → AreCounts sheet column r rows counts
counts_of_cells sheet column r rows cells counts = zip_then (λ row t. cell_at sheet row column ≡ Some t) (IsMatchCount r) rows cells counts

module _ (sheet : SheetData) (inside outside : List ℕ) where
  keeps_none : (Q : Literal → Type 0) (old : List Candidate) → ((l : Literal) → Q l → ⊥) → Keeps sheet inside outside old old Q
  keeps_none Q old none = (
    [],
    sym (append-nil old),
    record {
      rising = λ i j d l w. absurd (omega arith);
      each = λ k c. absurd (none_in k c);
      full = λ l q h. absurd (none l q);
    },
  )

  -- a literal that doesn't hold on all rows inside, one whose set is kept, and a new one
  pub keeps_skip : (x : Literal) (old : List Candidate) → (HoldsOn sheet inside x → ⊥) → Keeps sheet inside outside old old (OnlyLiteral x)
  keeps_skip x old fails = (
    [],
    sym (append-nil old),
    record {
      rising = λ i j d l w. absurd (omega arith);
      each = λ k c. absurd (none_in k c);
      full = λ l q h. absurd (fails (subst (HoldsOn sheet inside) q h));
    },
  )

  pub keeps_known : (x : Literal) (k : Candidate) (old : List Candidate) → Contains old k → IsSetOf sheet outside x k.outside → Keeps sheet inside outside old old (OnlyLiteral x)
  keeps_known x k old has is = (
    [],
    sym (append-nil old),
    record {
      rising = λ i j d l w. absurd (omega arith);
      each = λ k2 c. absurd (none_in k2 c);
      full = λ l q h. (k, inl (subst (λ z. IsSetOf sheet outside z k.outside) (sym q) is), inl has);
    },
  )

  -- where a literal is kept that alone makes a guard, no other one is needed
  pub keeps_done : (Q : Literal → Type 0) (k : Candidate) (old : List Candidate) → Contains old k → k.outside ≡ 0 → Keeps sheet inside outside old old Q
  keeps_done Q k old has none = (
    [],
    sym (append-nil old),
    record {
      rising = λ i j d l w. absurd (omega arith);
      each = λ k2 c. absurd (none_in k2 c);
      full = λ l q h. (k, inr none, inl has);
    },
  )

  pub keeps_new : (k : Candidate) (old new : List Candidate) → new ≡ old ++ k ∷ [] → HoldsOn sheet inside k.literal → IsSetOf sheet outside k.literal k.outside →
      Keeps sheet inside outside old new (OnlyLiteral k.literal)
  keeps_new k old new e holds is = (
    k ∷ [],
    e,
    record {
      rising = λ i j d l w. absurd (omega arith);
      each = λ k2 c.
          subst (λ z. OnlyLiteral k.literal z.literal × HoldsOn sheet inside z.literal × IsSetOf sheet outside z.literal z.outside) (one_in k k2 c) (refl, holds, is);
      full = λ l q h. (k, inl (subst (λ z. IsSetOf sheet outside z k.outside) (sym q) is), inr ((zero, omega arith, refl), same_not k.literal l (sym q)));
    },
  )

  keeps_same : (Q R : Literal → Type 0) (old new : List Candidate) → ((l : Literal) → Q l → R l) → ((l : Literal) → R l → Q l) → Keeps sheet inside outside old new Q → Keeps sheet inside outside old new R
  keeps_same Q R old new f g a = (
    a.0,
    a.1,
    record {
      rising = a.2.rising;
      each = λ k c. let b = a.2.each k c in (f k.literal b.0, b.1, b.2);
      full = λ l q h. a.2.full l (g l q) h;
    },
  )

  keeps_then : (Q R S : Literal → Type 0) (old mid new : List Candidate) → Keeps sheet inside outside old mid Q → Keeps sheet inside outside mid new R →
      ((x y : Literal) → Q x → R y → literal_cmp x y ≡ Less) →
      ((l : Literal) → S l → Q l ⊎ R l) → ((l : Literal) → Q l → S l) → ((l : Literal) → R l → S l) → Keeps sheet inside outside old new S
  keeps_then Q R S old mid new a b less split left right = (
    a.0 ++ b.0,
    b.1 ∙ ap (λ z. z ++ b.0) a.1 ∙ append_assoc old a.0 b.0,
    record { rising = rising; each = each; full = full },
  )
    where
      rising : AllPairs (λ x y. literal_cmp x.literal y.literal ≡ Less) (a.0 ++ b.0)
      rising = (lists_append (on (λ (k : Candidate). k.literal) literal_cmp) (Contains a.0) (Contains b.0) (λ k. Contains a.0 k ⊎ Contains b.0 k) a.0 b.0
          (record { rising = a.2.rising; exact = λ k. (λ c. c, λ c. c) }) (record { rising = b.2.rising; exact = λ k. (λ c. c, λ c. c) })
          (λ x y c d. less x.literal y.literal (a.2.each x c).0 (b.2.each y d).0)
          (λ k s. s) (λ k c. inl c) (λ k c. inr c)).rising

      each : (k : Candidate) → Contains (a.0 ++ b.0) k → S k.literal × HoldsOn sheet inside k.literal × IsSetOf sheet outside k.literal k.outside
      each k c = elim (Contains-append_cases a.0 b.0 k c) [
        | inl l ↦ (let e = a.2.each k l in (left k.literal e.0, e.1, e.2))
        | inr r ↦ (let e = b.2.each k r in (right k.literal e.0, e.1, e.2))
      ]

      full : (l : Literal) → S l → HoldsOn sheet inside l →
          (k : Candidate) × StandsFor sheet outside l k × (Contains old k ⊎ (Contains (a.0 ++ b.0) k × NotAfter k.literal l))
      full l s h = elim (split l s) [
        | inl q ↦
            (let f = a.2.full l q h in
            (f.0, f.1, elim f.2 [ inl o ↦ inl o | inr m ↦ inr (Contains-append_left a.0 b.0 f.0 m.0, m.1) ]))
        | inr r ↦
            (let f = b.2.full l r h in (
              f.0,
              f.1,
              elim f.2 [
                | inl c ↦ elim (Contains-append_cases old a.0 f.0 (subst (λ z. Contains z f.0) a.1 c)) [
                  | inl o ↦ inl o
                  | inr m ↦ inr (Contains-append_left a.0 b.0 f.0 m, less_not f.0.literal l (less f.0.literal l (a.2.each f.0 m).0 r))
                ]
                | inr m ↦ inr (Contains-append_right a.0 b.0 f.0 m.0, m.1)
              ],
            ))
      ]

  -- the plain literal and the negated one
  pub signs_both : (column : ℕ) (r : List Token) (least : ℕ) (plain negated : Literal) (old mid new : List Candidate) →
      plain ≡ record { negated = false; column = column; seq = r; least = least } → negated ≡ record { negated = true; column = column; seq = r; least = least } →
      Keeps sheet inside outside old mid (OnlyLiteral plain) → Keeps sheet inside outside mid new (OnlyLiteral negated) → Keeps sheet inside outside old new (OfSigns column r least)
  signs_both column r least plain negated old mid new p n a b =
      keeps_then (OnlyLiteral plain) (OnlyLiteral negated) (OfSigns column r least) old mid new a b
      (λ x y q s.
      let e = q ∙ p in let f = s ∙ n in
      less_sign x y (ap (λ (l : Literal). l.column) e ∙ sym (ap (λ (l : Literal). l.column) f)) (ap (λ (l : Literal). l.seq) e ∙ sym (ap (λ (l : Literal). l.seq) f))
      (ap (λ (l : Literal). l.least) e ∙ sym (ap (λ (l : Literal). l.least) f)) (ap (λ (l : Literal). l.negated) e) (ap (λ (l : Literal). l.negated) f))
      (λ l h. elim (sign_of l.negated) [
        | inl e ↦ inl ((λ i. record { negated = e i; column = h.0 i; seq = h.1 i; least = h.2 i }) ∙ sym p)
        | inr e ↦ inr ((λ i. record { negated = e i; column = h.0 i; seq = h.1 i; least = h.2 i }) ∙ sym n)
      ])
      (λ l q. let e = q ∙ p in (ap (λ (l : Literal). l.column) e, ap (λ (l : Literal). l.seq) e, ap (λ (l : Literal). l.least) e))
      (λ l q. let e = q ∙ n in (ap (λ (l : Literal). l.column) e, ap (λ (l : Literal). l.seq) e, ap (λ (l : Literal). l.least) e))
    where
      sign_of : (b : Bool) → (b ≡ false) ⊎ (b ≡ true)
      sign_of false = inl refl
      sign_of true = inr refl

  -- numbers of matches, one more at a time
  pub leasts_none : (column : ℕ) (r : List Token) (old : List Candidate) → Keeps sheet inside outside old old (OfLeast column r 1)
  leasts_none column r old = keeps_none (OfLeast column r 1) old (λ l h. let u = h.2 in let v = h.3 in omega arith)

  pub leasts_more : (column : ℕ) (r : List Token) (m : ℕ) (old mid new : List Candidate) → 1 ≤ m → Keeps sheet inside outside old mid (OfLeast column r m) →
      Keeps sheet inside outside mid new (OfSigns column r m) → Keeps sheet inside outside old new (OfLeast column r (m + 1))
  leasts_more column r m old mid new some a b =
      keeps_then (OfLeast column r m) (OfSigns column r m) (OfLeast column r (m + 1)) old mid new a b
      (λ x y p q. less_least x y (p.0 ∙ sym q.0) (p.1 ∙ sym q.1) (let u = p.3 in let v = q.2 in omega arith))
      (λ l h. elim (cases_lt l.least m) [
        | inl lt ↦ inl (h.0, h.1, h.2, lt)
        | inr ge ↦ inr (h.0, h.1, (let u = h.3 in omega arith))
      ])
      (λ l p. (p.0, p.1, p.2, (let u = p.3 in omega arith)))
      (λ l q. (q.0, q.1, (let u = q.2 in omega arith), (let u = q.2 in omega arith)))

  -- sequences, one more at a time
  pub seqs_none : (column : ℕ) (seqs : List (List Token)) (old : List Candidate) → Keeps sheet inside outside old old (OfSeqs column seqs 0)
  seqs_none column seqs old = keeps_none (OfSeqs column seqs 0) old (λ l h. let u = h.1.1 in omega arith)

  pub seqs_more : (token_set : TokenSet) (column : ℕ) (seqs : List (List Token)) (m : ℕ) (r : List Token) (old mid new : List Candidate) → Lists seq_cmp (IsTested token_set) seqs → slice_get seqs m ≡ Some r →
      Keeps sheet inside outside old mid (OfSeqs column seqs m) → Keeps sheet inside outside mid new (OfLeast column r 4) → Keeps sheet inside outside old new (OfSeqs column seqs (m + 1))
  seqs_more token_set column seqs m r old mid new lists at a b =
      keeps_then (OfSeqs column seqs m) (OfLeast column r 4) (OfSeqs column seqs (m + 1)) old mid new a b less split
      (λ l p. (p.0, (p.1.0, (let u = p.1.1 in omega arith), p.1.2), p.2, p.3))
      (λ l q. (q.0, (m, omega arith, at ∙ ap Some (sym q.1)), q.2, (let u = q.3 in omega arith)))
    where
      less : (x y : Literal) → OfSeqs column seqs m x → OfLeast column r 4 y → literal_cmp x y ≡ Less
      less x y p q =
          let before : seq_cmp (get_or seqs p.1.0 r) (get_or seqs m r) ≡ Less = lists.rising p.1.0 m r p.1.1 (slice_get_within seqs m r at) in
          let first : get_or seqs p.1.0 r ≡ x.seq = get_or_from_slice_get seqs p.1.0 x.seq r p.1.2 in
          let second : get_or seqs m r ≡ y.seq = get_or_from_slice_get seqs m r r at ∙ sym q.1 in
          less_seq x y (p.0 ∙ sym q.0) (subst (λ z. seq_cmp x.seq z ≡ Less) second (subst (λ z. seq_cmp z (get_or seqs m r) ≡ Less) first before))

      split : (l : Literal) → OfSeqs column seqs (m + 1) l → OfSeqs column seqs m l ⊎ OfLeast column r 4 l
      split l h = elim (cases_lt h.1.0 m) [
        | inl lt ↦ inl (h.0, (h.1.0, lt, h.1.2), h.2, h.3)
        | inr ge ↦
            (let e : h.1.0 ≡ m = (let u = h.1.1 in omega arith) in
            let same : l.seq ≡ r = same_Some l.seq r (sym h.1.2 ∙ ap (slice_get seqs) e ∙ at) in
            inr (h.0, same, h.2, (let u = h.3 in omega arith)))
      ]

  pub seqs_all : (token_set : TokenSet) (column : ℕ) (seqs : List (List Token)) (m : ℕ) (old new : List Candidate) → Lists seq_cmp (IsTested token_set) seqs → m ≡ length seqs →
      Keeps sheet inside outside old new (OfSeqs column seqs m) → Keeps sheet inside outside old new (OfColumn token_set column)
  seqs_all token_set column seqs m old new lists e = keeps_same (OfSeqs column seqs m) (OfColumn token_set column) old new
      (λ l p. (p.0, (lists.exact l.seq).0 (contains_read seqs p.1.0 l.seq p.1.2), p.2, p.3))
      (λ l q. let c = read_contains seqs l.seq ((lists.exact l.seq).1 q.1) in (q.0, (c.0, (let u = c.1 in omega arith), c.2), q.2, q.3))

  -- columns, one more at a time
  pub columns_none : (token_set : TokenSet) (columns : List ℕ) (old : List Candidate) → Keeps sheet inside outside old old (OfColumns token_set columns 0)
  columns_none token_set columns old = keeps_none (OfColumns token_set columns 0) old (λ l h. let u = h.0.1 in omega arith)

  pub columns_more : (token_set : TokenSet) (columns : List ℕ) (m column : ℕ) (old mid new : List Candidate) → IsStrictlyIncreasing columns → slice_get columns m ≡ Some column →
      Keeps sheet inside outside old mid (OfColumns token_set columns m) → Keeps sheet inside outside mid new (OfColumn token_set column) → Keeps sheet inside outside old new (OfColumns token_set columns (m + 1))
  columns_more token_set columns m column old mid new rises at a b =
      keeps_then (OfColumns token_set columns m) (OfColumn token_set column) (OfColumns token_set columns (m + 1)) old mid new a b less split
      (λ l p. ((p.0.0, (let u = p.0.1 in omega arith), p.0.2), p.1, p.2, p.3))
      (λ l q. ((m, omega arith, at ∙ ap Some (sym q.0)), q.1, q.2, q.3))
    where
      less : (x y : Literal) → OfColumns token_set columns m x → OfColumn token_set column y → literal_cmp x y ≡ Less
      less x y p q =
          let before : get_or columns p.0.0 0 < get_or columns m 0 = AllPairs-from_increasing columns rises p.0.0 m 0 p.0.1 (slice_get_within columns m column at) in
          let first : get_or columns p.0.0 0 ≡ x.column = get_or_from_slice_get columns p.0.0 x.column 0 p.0.2 in
          let second : get_or columns m 0 ≡ y.column = get_or_from_slice_get columns m column 0 at ∙ sym q.0 in
          less_column x y (omega arith)

      split : (l : Literal) → OfColumns token_set columns (m + 1) l → OfColumns token_set columns m l ⊎ OfColumn token_set column l
      split l h = elim (cases_lt h.0.0 m) [
        | inl lt ↦ inl ((h.0.0, lt, h.0.2), h.1, h.2, h.3)
        | inr ge ↦
            (let e : h.0.0 ≡ m = (let u = h.0.1 in omega arith) in
            inr (same_Some l.column column (sym h.0.2 ∙ ap (slice_get columns) e ∙ at), h.1, h.2, h.3))
      ]

  pub columns_all : (settings : Settings) (m : ℕ) (old new : List Candidate) → old ≡ [] → m ≡ length sheet.inputs →
      Keeps sheet inside outside old new (OfColumns settings.profile.tokens sheet.inputs m) → AreCandidates settings sheet inside outside new
  columns_all settings m old new empty e a =
      let b = keeps_same (OfColumns settings.profile.tokens sheet.inputs m) (IsLiteral settings sheet) old new
      (λ l p. record { input = contains_read sheet.inputs p.0.0 l.column p.0.2; tested = p.1; some = p.2; few = p.3 })
      (λ l q. let c = read_contains sheet.inputs l.column q.input in ((c.0, (let u = c.1 in omega arith), c.2), q.tested, q.some, q.few)) a in
      let same : new ≡ b.0 = b.1 ∙ ap (λ z. z ++ b.0) empty in
      subst (λ z. AreMore sheet inside outside (IsLiteral settings sheet) z new) empty (subst (λ z. AreMore sheet inside outside (IsLiteral settings sheet) old z) (sym same) b.2)
