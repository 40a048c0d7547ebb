-- The sequences of one length from those of the length before.
use Rattle.std.proofs.Common.{◌≡◌, ℕ, ◌+◌, ◌<◌, ◌≤◌, inl, inr, List, [], ◌∷◌, ◌++◌, length, refl, sym, ap, ◌∙◌, subst, arith, slice_get, Some, length-append}
use Rattle.std.proofs.lemmas.Option.{same_Some}
use Rattle.std.proofs.lemmas.Bool.{cases_order}
use Rattle.std.specs.declared.cmp.Ordering.TheVariants.{Less}
use Rattle.fill_tokens.specs.declared.token.TheConstants.{TOKEN_COUNT}
use Rattle.fill_tokens.specs.Token.{token_number}
use Rattle.fill_tokens.specs.Place.{seq_cmp}
use Rattle.fill_tokens.specs.declared.token.Token.{Token}
use Rattle.fill_tokens.proofs.TokenLaws.{number_exact, number_within}
use Rattle.fill_tokens.proofs.SpanLaws.{seq_unsnoc}
use Rattle.fill_places.specs.declared.entry.Entry.{Entry}
use Rattle.fill_places.specs.Marks.{AreMarks}
use Rattle.fill_places.specs.Sides.{LeftAt, RightAt}
use Rattle.fill_places.specs.Entries.{Entries, AddsEntries, HasLength, HasAtMost, IsOnly, EndsWithOne, EndsWithAny, BeginsWithIt, BeginsWithAny}
use Rattle.fill_places.proofs.SideLaws.{left_front, right_rest}
use Rattle.fill_tokens.proofs.SeqOrder.{snoc_less, base_less, behind_less, front_less, shorter_less, number_some}
use Rattle.fill_tokens.specs.declared.token_set.TokenSet.{TokenSet}
use Rattle.fill_places.proofs.EntryLaws.{entries_append, entries_same, entries_one, grows_none, grows_then}

module _ (M : List Token → ℕ → Type 0) (n : ℕ) where
  -- a token after a sequence
  pub ends_none : (base : List Token) (old : List Entry) → AddsEntries M n old old (EndsWithOne base 1)
  ends_none base old = grows_none M n (EndsWithOne base 1) old (λ r h k m. let b : token_number h.0 < 1 = h.1 in let z = number_some h.0 in omega arith)

  pub ends_more : (base : List Token) (m : ℕ) (x : Token) (old mid new : List Entry) → token_number x ≡ m →
      AddsEntries M n old mid (EndsWithOne base m) → AddsEntries M n mid new (IsOnly (base ++ x ∷ [])) → AddsEntries M n old new (EndsWithOne base (m + 1))
  ends_more base m x old mid new num a b =
      grows_then M n (EndsWithOne base m) (IsOnly (base ++ x ∷ [])) (EndsWithOne base (m + 1)) old mid new a b
      (λ r s p q.
      let lt : token_number p.0 < token_number x = (let u : token_number p.0 < m = p.1 in omega arith) in
      subst (λ z. seq_cmp z s ≡ Less) (sym p.2) (subst (λ z. seq_cmp (base ++ p.0 ∷ []) z ≡ Less) (sym q) (snoc_less base p.0 x lt)))
      (λ r p. elim (cases_order (token_number p.0) m) [
        | inl e ↦ inr (let same : p.0 ≡ x = number_exact p.0 x (e ∙ sym num) in p.2 ∙ ap (λ z. base ++ z ∷ []) same)
        | inr o ↦ elim o [ inl l ↦ inl (p.0, l, p.2) | inr g ↦ absurd (let u : token_number p.0 < m + 1 = p.1 in omega arith) ]
      ])
      (λ r p. (p.0, (let u : token_number p.0 < m = p.1 in omega arith), p.2))
      (λ r p. (x, omega arith, p))

  pub any_end_none : (es old : List Entry) → AddsEntries M n old old (EndsWithAny es 0)
  any_end_none es old = grows_none M n (EndsWithAny es 0) old (λ r h k m. let u : h.0 < 0 = h.2 in omega arith)

  pub any_end_more : (es : List Entry) (j m : ℕ) (e : Entry) (old mid new : List Entry) → Entries M n (HasLength j) es → slice_get es m ≡ Some e →
      AddsEntries M n old mid (EndsWithAny es m) → AddsEntries M n mid new (EndsWithOne e.seq (TOKEN_COUNT + 1)) → AddsEntries M n old new (EndsWithAny es (m + 1))
  any_end_more es j m e old mid new layer at a b =
      grows_then M n (EndsWithAny es m) (EndsWithOne e.seq (TOKEN_COUNT + 1)) (EndsWithAny es (m + 1)) old mid new a b
      (λ r s p q.
      let less : seq_cmp p.1.seq e.seq ≡ Less = layer.rising p.0 m p.1 e p.2 p.3 at in
      let l1 : length p.1.seq ≡ j = (layer.each p.0 p.1 p.3).1 in
      let l2 : length e.seq ≡ j = (layer.each m e at).1 in
      let x = p.4 in
      subst (λ z. seq_cmp z s ≡ Less) (sym x.2) (subst (λ z. seq_cmp (p.1.seq ++ x.0 ∷ []) z ≡ Less) (sym q.2) (base_less p.1.seq e.seq x.0 q.0 (l1 ∙ sym l2) less)))
      (λ r p. elim (cases_order p.0 m) [
        | inl q ↦ (let same : p.1 ≡ e = same_Some p.1 e (sym p.3 ∙ ap (slice_get es) q ∙ at) in inr (subst (λ (z : Entry). EndsWithOne z.seq (TOKEN_COUNT + 1) r) same p.4))
        | inr o ↦ elim o [ inl l ↦ inl (p.0, p.1, l, p.3, p.4) | inr g ↦ absurd (let u : p.0 < m + 1 = p.2 in omega arith) ]
      ])
      (λ r p. (p.0, p.1, (let u : p.0 < m = p.2 in omega arith), p.3, p.4))
      (λ r p. (m, e, omega arith, at, p))

  -- a token before a sequence
  pub it_none : (x : Token) (es old : List Entry) → AddsEntries M n old old (BeginsWithIt x es 0)
  it_none x es old = grows_none M n (BeginsWithIt x es 0) old (λ r h k m. let u : h.0 < 0 = h.2 in omega arith)

  pub it_more : (x : Token) (es : List Entry) (j m : ℕ) (e : Entry) (old mid new : List Entry) → Entries M n (HasLength j) es → slice_get es m ≡ Some e →
      AddsEntries M n old mid (BeginsWithIt x es m) → AddsEntries M n mid new (IsOnly (x ∷ e.seq)) → AddsEntries M n old new (BeginsWithIt x es (m + 1))
  it_more x es j m e old mid new layer at a b =
      grows_then M n (BeginsWithIt x es m) (IsOnly (x ∷ e.seq)) (BeginsWithIt x es (m + 1)) old mid new a b
      (λ r s p q.
      let less : seq_cmp p.1.seq e.seq ≡ Less = layer.rising p.0 m p.1 e p.2 p.3 at in
      let l1 : length p.1.seq ≡ j = (layer.each p.0 p.1 p.3).1 in
      let l2 : length e.seq ≡ j = (layer.each m e at).1 in
      subst (λ z. seq_cmp z s ≡ Less) (sym p.4) (subst (λ z. seq_cmp (x ∷ p.1.seq) z ≡ Less) (sym q) (behind_less x p.1.seq e.seq (l1 ∙ sym l2) less)))
      (λ r p. elim (cases_order p.0 m) [
        | inl q ↦ (let same : p.1 ≡ e = same_Some p.1 e (sym p.3 ∙ ap (slice_get es) q ∙ at) in inr (p.4 ∙ ap (λ (z : Entry). x ∷ z.seq) same))
        | inr o ↦ elim o [ inl l ↦ inl (p.0, p.1, l, p.3, p.4) | inr g ↦ absurd (let u : p.0 < m + 1 = p.2 in omega arith) ]
      ])
      (λ r p. (p.0, p.1, (let u : p.0 < m = p.2 in omega arith), p.3, p.4))
      (λ r p. (m, e, omega arith, at, p))

  pub begins_none : (es old : List Entry) → AddsEntries M n old old (BeginsWithAny es 1)
  begins_none es old = grows_none M n (BeginsWithAny es 1) old (λ r h k m. let b : token_number h.0 < 1 = h.1 in let z = number_some h.0 in omega arith)

  pub begins_more : (es : List Entry) (j m : ℕ) (x : Token) (old mid new : List Entry) → Entries M n (HasLength j) es → token_number x ≡ m →
      AddsEntries M n old mid (BeginsWithAny es m) → AddsEntries M n mid new (BeginsWithIt x es (length es)) → AddsEntries M n old new (BeginsWithAny es (m + 1))
  begins_more es j m x old mid new layer num a b =
      grows_then M n (BeginsWithAny es m) (BeginsWithIt x es (length es)) (BeginsWithAny es (m + 1)) old mid new a b
      (λ r s p q.
      let lt : token_number p.0 < token_number x = (let u : token_number p.0 < m = p.1 in omega arith) in
      let g = p.2 in
      let l1 : length g.1.seq ≡ j = (layer.each g.0 g.1 g.3).1 in
      let l2 : length q.1.seq ≡ j = (layer.each q.0 q.1 q.3).1 in
      subst (λ z. seq_cmp z s ≡ Less) (sym g.4) (subst (λ z. seq_cmp (p.0 ∷ g.1.seq) z ≡ Less) (sym q.4) (front_less p.0 x g.1.seq q.1.seq (l1 ∙ sym l2) lt)))
      (λ r p. elim (cases_order (token_number p.0) m) [
        | inl e ↦ inr (let same : p.0 ≡ x = number_exact p.0 x (e ∙ sym num) in subst (λ z. BeginsWithIt z es (length es) r) same p.2)
        | inr o ↦ elim o [ inl l ↦ inl (p.0, l, p.2) | inr g ↦ absurd (let u : token_number p.0 < m + 1 = p.1 in omega arith) ]
      ])
      (λ r p. (p.0, (let u : token_number p.0 < m = p.1 in omega arith), p.2))
      (λ r p. (x, omega arith, p))

  -- the lists of two lengths, put together
  pub longer_after : (j : ℕ) (a b : List Entry) → Entries M n (HasAtMost j) a → Entries M n (HasLength (j + 1)) b → Entries M n (HasAtMost (j + 1)) (a ++ b)
  longer_after j a b x y = entries_append M n (HasAtMost j) (HasLength (j + 1)) (HasAtMost (j + 1)) a b x y
      (λ r s p q. shorter_less r s (let u : length r ≤ j = p in let v : length s ≡ j + 1 = q in omega arith))
      (λ r p. elim (cases_order (length r) (j + 1)) [
        | inl e ↦ inr e
        | inr o ↦ elim o [ inl l ↦ inl (omega arith) | inr g ↦ absurd (let u : length r ≤ j + 1 = p in omega arith) ]
      ])
      (λ r p. let u : length r ≤ j = p in omega arith)
      (λ r p. let u : length r ≡ j + 1 = p in omega arith)

  pub first_layer : (e : Entry) → e.seq ≡ [] → AreMarks (M []) n e.at → Entries M n (HasLength 0) (e ∷ [])
  first_layer e s m = entries_one M n (HasLength 0) e (subst (λ z. AreMarks (M z) n e.at) (sym s) m) (ap length s) (λ r q. nil_only r q ∙ sym s)
    where
      nil_only : (r : List Token) → HasLength 0 r → r ≡ []
      nil_only [] h = refl
      nil_only (x ∷ xs) h = absurd (let u : length (x ∷ xs) ≡ 0 = h in omega arith)

  pub all_layers : (a b c d : List Entry) → Entries M n (HasLength 0) a → Entries M n (HasLength 1) b → Entries M n (HasLength 2) c → Entries M n (HasLength 3) d →
      Entries M n (HasAtMost 3) (((a ++ b) ++ c) ++ d)
  all_layers a b c d x y z u =
      let none : Entries M n (HasAtMost 0) a = entries_same M n (HasLength 0) (HasAtMost 0) a (λ r q. let v : length r ≡ 0 = q in omega arith) (λ r k q m. let v : length r ≤ 0 = q in omega arith) x in
      longer_after 2 ((a ++ b) ++ c) d (longer_after 1 (a ++ b) c (longer_after 0 a b none y) z) u

last_of : (y : Token) (ys : List Token) → (s : List Token) × (x : Token) × (y ∷ ys ≡ s ++ x ∷ [])
last_of y [] = ([], y, refl)
last_of y (z ∷ zs) = let r = last_of z zs in (y ∷ r.0, r.1, ap (λ l. y ∷ l) r.2)

-- a longer left sequence that ends somewhere is one of the layer with a token after it
split_last : (token_set : TokenSet) (t : List ℕ) (n : ℕ) (es : List Entry) (j : ℕ) (r : List Token) (k : ℕ) → Entries (LeftAt token_set t) n (HasLength j) es → HasLength (j + 1) r → LeftAt token_set t r k → EndsWithAny es (length es) r
split_last token_set t n es j [] k layer h l = absurd (let u : length {A = Token} [] ≡ j + 1 = h in omega arith)
split_last token_set t n es j (y ∷ ys) k layer h l =
    let p = last_of y ys in
    let s = p.0 in
    let x = p.1 in
    let q : y ∷ ys ≡ s ++ x ∷ [] = p.2 in
    let few : length s ≡ j = (let u : length (y ∷ ys) ≡ j + 1 = h in let v = ap length q ∙ length-append s (x ∷ []) in omega arith) in
    let l2 = subst (λ z. LeftAt token_set t z k) q l in
    let u = seq_unsnoc s x t l2.1.0 k l2.1.1 in
    let f = layer.full s few u.0 (left_front token_set s x l2.0, (l2.1.0, u.1)) in
    (f.0, f.1, f.2, f.3, (x, (let w : token_number x ≤ TOKEN_COUNT = number_within x in omega arith), q ∙ ap (λ z. z ++ x ∷ []) (sym f.4)))

pub next_lefts : (token_set : TokenSet) (t : List ℕ) (n : ℕ) (es : List Entry) (j : ℕ) (row : List Entry) → Entries (LeftAt token_set t) n (HasLength j) es → Entries (LeftAt token_set t) n (EndsWithAny es (length es)) row → Entries (LeftAt token_set t) n (HasLength (j + 1)) row
next_lefts token_set t n es j row layer a = entries_same (LeftAt token_set t) n (EndsWithAny es (length es)) (HasLength (j + 1)) row
    (λ r m. let l : length m.1.seq ≡ j = (layer.each m.0 m.1 m.3).1 in let y = m.4 in ap length y.2 ∙ length-append m.1.seq (y.0 ∷ []) ∙ ap (λ z. z + 1) l)
    (λ r k h l. split_last token_set t n es j r k layer h l) a

-- a longer right sequence that begins somewhere is one of the layer with a token before it
split_first : (token_set : TokenSet) (t : List ℕ) (n : ℕ) (es : List Entry) (j : ℕ) (r : List Token) (k : ℕ) → Entries (RightAt token_set t) n (HasLength j) es → HasLength (j + 1) r → RightAt token_set t r k → BeginsWithAny es (TOKEN_COUNT + 1) r
split_first token_set t n es j [] k layer h l = absurd (let u : length {A = Token} [] ≡ j + 1 = h in omega arith)
split_first token_set t n es j (x ∷ xs) k layer h l =
    let few : length xs ≡ j = (let u : length (x ∷ xs) ≡ j + 1 = h in omega arith) in
    let s = l.1.1 in
    let f = layer.full xs few s.0 (right_rest token_set x xs l.0, (l.1.0, s.2)) in
    (x, (let w : token_number x ≤ TOKEN_COUNT = number_within x in omega arith), (f.0, f.1, f.2, f.3, ap (λ z. x ∷ z) (sym f.4)))

pub next_rights : (token_set : TokenSet) (t : List ℕ) (n : ℕ) (es : List Entry) (j : ℕ) (row : List Entry) → Entries (RightAt token_set t) n (HasLength j) es → Entries (RightAt token_set t) n (BeginsWithAny es (TOKEN_COUNT + 1)) row → Entries (RightAt token_set t) n (HasLength (j + 1)) row
next_rights token_set t n es j row layer a = entries_same (RightAt token_set t) n (BeginsWithAny es (TOKEN_COUNT + 1)) (HasLength (j + 1)) row
    (λ r m. let g = m.2 in let l : length g.1.seq ≡ j = (layer.each g.0 g.1 g.3).1 in let u : length r ≡ length (m.0 ∷ g.1.seq) = ap length g.4 in let v : length r ≡ j + 1 = omega arith in v)
    (λ r k h l. split_first token_set t n es j r k layer h l) a
