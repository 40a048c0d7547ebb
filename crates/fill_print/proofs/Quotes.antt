-- Reading texts between quotes.
use Rattle.std.proofs.Common.{◌≡◌, ◌≢◌, ℕ, ◌<◌, ◌≤◌, ◌⊎◌, inl, inr, Bool, true, false, List, [], ◌∷◌, ◌++◌, length, Option, None, Some, refl, sym, ap, subst, ◌∙◌, arith}
use Rattle.std.proofs.lemmas.List.{append_assoc}
use Rattle.std.proofs.lemmas.Bool.{cases_eq, ne_eqb}
use Rattle.std.specs.Char.{IsScalar, encode_utf8}
use lib.Utf8.{low_scalar}
use Rattle.fill_print.specs.Utf8.{Scalar, High}
use Rattle.fill_print.proofs.Encoding.{ascii_at, ascii_is, scalar_one, scalar_nothing, scalar_shrinks, high_from}
use Rattle.fill_print.specs.Reading.{Takes, Halts, Then, Plain, Gives}
use Rattle.fill_print.specs.Notation.{char_text, chars_text}
use Rattle.std.specs.Prelude.{All}
use Rattle.std.proofs.lemmas.List.Elements.{All-nil, All-cons, All-head, All-tail}
use Rattle.fill_print.specs.Texts.{CharStep, and_then_may_end, Quoted, Escaped}
use Rattle.fill_print.proofs.Chains.{OneForm, IsSpelled, IsAt, HasText, Completes, plain_takes, plain_one, gives_takes, gives_spelled, then_takes, then_stops, then_halts, at_takes, at_halts, halts_first, halts_empty, many_one, link}

-- how a character is written at the front
pub data Written (c : ℕ) (s k : List ℕ) : Type 0 where
  quote : c ≡ 39 → s ≡ 92 ∷ 39 ∷ k → Written c s k
  slash : c ≡ 92 → s ≡ 92 ∷ 92 ∷ k → Written c s k
  itself : c ≢ 39 → c ≢ 92 → Scalar c s k → Written c s k

pub plain_text : (c : ℕ) → c ≢ 39 → c ≢ 92 → char_text c ≡ encode_utf8 c
plain_text c a b = rw (ne_eqb c 39 a, ne_eqb c 92 b) refl

pub written : (c : ℕ) (s k : List ℕ) → IsScalar c × (s ≡ char_text c ++ k) → Written c s k
written c s k both = elim (cases_eq c 39) [
  | inl h ↦ quote h (both.1 ∙ ap (λ x. char_text x ++ k) h)
  | inr ne ↦ elim (cases_eq c 92) [
    | inl h ↦ slash h (both.1 ∙ ap (λ x. char_text x ++ k) h)
    | inr no_slash ↦ itself ne no_slash (both.0, both.1 ∙ ap (λ x. x ++ k) (plain_text c ne no_slash))
  ]
]

numerals : (A : Type 0) → ◌≡◌ {A = ℕ} 39 92 → A
numerals A e = absurd (omega arith)

same_char : (c d : ℕ) (s k l : List ℕ) → Written c s k → Written d s l → (c ≡ d) × (k ≡ l)
same_char c d s k l (quote a p) (quote b q) = (cc, cc)
same_char c d s k l (quote a p) (slash b q) = numerals _ cc
same_char c d s k l (quote a p) (itself no_quote no_slash q) = absurd (no_slash (ascii_at d 92 (39 ∷ k) l (omega arith) (subst (λ x. Scalar d x l) p q)).0)
same_char c d s k l (slash a p) (quote b q) = numerals _ cc
same_char c d s k l (slash a p) (slash b q) = (cc, cc)
same_char c d s k l (slash a p) (itself no_quote no_slash q) = absurd (no_slash (ascii_at d 92 (92 ∷ k) l (omega arith) (subst (λ x. Scalar d x l) p q)).0)
same_char c d s k l (itself no_quote no_slash p) (quote b q) = absurd (no_slash (ascii_at c 92 (39 ∷ l) k (omega arith) (subst (λ x. Scalar c x k) q p)).0)
same_char c d s k l (itself no_quote no_slash p) (slash b q) = absurd (no_slash (ascii_at c 92 (92 ∷ l) k (omega arith) (subst (λ x. Scalar c x k) q p)).0)
same_char c d s k l (itself no_quote no_slash p) (itself b q r) = scalar_one.law c d s k l p r

no_quote_at : (c : ℕ) (s k l : List ℕ) → Written c s k → s ≡ 39 ∷ l → ⊥
no_quote_at c s k l (quote a p) e = numerals ⊥ cc
no_quote_at c s k l (slash a p) e = numerals ⊥ cc
no_quote_at c s k l (itself no_quote no_slash p) e = no_quote (ascii_at c 39 l k (omega arith) (subst (λ x. Scalar c x k) e p)).0

step_same : (may_end : Bool) (o p : Option ℕ) (s k l : List ℕ) → CharStep may_end o s k → CharStep may_end p s l → (o ≡ p) × (k ≡ l)
step_same may_end None None s k l p q = (refl, let e : 39 ∷ k ≡ 39 ∷ l = sym p.1 ∙ q.1 in cc)
step_same may_end None (Some d) s k l p q = absurd (no_quote_at d s l k (written d s l q) p.1)
step_same may_end (Some c) None s k l p q = absurd (no_quote_at c s k l (written c s k p) q.1)
step_same may_end (Some c) (Some d) s k l p q = let h = same_char c d s k l (written c s k p) (written d s l q) in (ap Some h.0, h.1)

pub step_one : (may_end : Bool) → OneForm (CharStep may_end)
step_one may_end = record { law = λ a b s k l p q. step_same may_end a b s k l p q }

-- after a backslash
escaped_text : HasText Escaped
escaped_text = (39, 39, [], λ k. (inl refl, refl))

pub escaped_takes : (c : ℕ) (bytes after : List ℕ) → bytes ≡ c ∷ after → (c ≡ 39) ⊎ (c ≡ 92) → Takes Escaped bytes c after
escaped_takes c bytes after e h = record { front = c ∷ []; is = e; spelled = λ k. (h, refl) }

pub escaped_empty : (bytes : List ℕ) → bytes ≡ [] → Halts Escaped bytes 0
escaped_empty bytes e = halts_empty Escaped escaped_text bytes e (λ a k h. let x : ◌≡◌ {A = List ℕ} [] (a ∷ k) = h.1 in let no_such : ⊥ = cc in no_such)

pub escaped_halts : (c : ℕ) (bytes after : List ℕ) → bytes ≡ c ∷ after → c ≢ 39 → c ≢ 92 → Halts Escaped bytes (length bytes)
escaped_halts c bytes after e a b = halts_first Escaped escaped_text c bytes after e (λ x s k h.
    let same : c ≡ x = (let f : c ∷ s ≡ x ∷ k = h.1 in cc) in
    elim h.0 [ inl g ↦ a (same ∙ g) | inr g ↦ b (same ∙ g) ])

-- a character or the end
step_text : (may_end : Bool) → HasText (CharStep may_end)
step_text may_end = (Some 97, 97, [], λ k. (refl, ap (λ x. x ++ k) (sym (ascii_is 97 (omega arith)))))

pub step_empty : (may_end : Bool) (bytes : List ℕ) → bytes ≡ [] → Halts (CharStep may_end) bytes 0
step_empty may_end bytes e = halts_empty (CharStep may_end) (step_text may_end) bytes e (λ o k h. go o k h)
  where
    nothing : (c : ℕ) (k : List ℕ) → Written c [] k → ⊥
    nothing c k (quote a p) = let no_such : ⊥ = cc in no_such
    nothing c k (slash a p) = let no_such : ⊥ = cc in no_such
    nothing c k (itself a b p) = scalar_nothing c k p

    go : (o : Option ℕ) (k : List ℕ) → CharStep may_end o [] k → ⊥
    go None k h = let x : ◌≡◌ {A = List ℕ} [] (39 ∷ k) = h.1 in let no_such : ⊥ = cc in no_such
    go (Some c) k h = nothing c k (written c [] k h)

pub end_takes : (may_end : Bool) (bytes after : List ℕ) → may_end ≡ true → bytes ≡ 39 ∷ after → Takes (CharStep may_end) bytes None after
end_takes may_end bytes after h e = record { front = 39 ∷ []; is = e; spelled = λ k. (h, refl) }

pub end_halts : (may_end : Bool) (bytes after : List ℕ) → may_end ≡ false → bytes ≡ 39 ∷ after → Halts (CharStep may_end) bytes (length bytes)
end_halts may_end bytes after h e = halts_first (CharStep may_end) (step_text may_end) 39 bytes after e (λ o s k g. go o s k g)
  where
    go : (o : Option ℕ) (s k : List ℕ) → CharStep may_end o (39 ∷ s) k → ⊥
    go None s k g = let bad : true ≡ false = sym g.0 ∙ h in let no_such : ⊥ = cc in no_such
    go (Some c) s k g = no_quote_at c (39 ∷ s) k s (written c (39 ∷ s) k g) refl

pub char_takes : (may_end : Bool) (c : ℕ) (bytes after : List ℕ) → c < 128 → c ≢ 39 → c ≢ 92 → bytes ≡ c ∷ after → Takes (CharStep may_end) bytes (Some c) after
char_takes may_end c bytes after h a b e = record { front = c ∷ []; is = e; spelled = λ k. (low_scalar c (omega arith), ap (λ x. x ++ k) (sym (plain_text c a b ∙ ascii_is c h))) }

-- a character of two bytes or more
pub step_high : (may_end : Bool) (b : ℕ) → 128 ≤ b → IsAt (CharStep may_end) (Then High (λ c. Gives (Some c))) b
step_high may_end b ge = record {
  forth = λ o s k h. subst (λ x. CharStep may_end x s k) (sym h.later.0)
      (h.here.1.0, h.here.1.1 ∙ ap (λ x. encode_utf8 h.item ++ x) h.later.1 ∙ ap (λ x. x ++ k) (sym (plain_text h.item (λ e. let f = h.here.0 in omega arith) (λ e. let f = h.here.0 in omega arith))));
  back = λ o s k h. go o s k h;
}
  where
    other : (c : ℕ) (s k : List ℕ) → Written c (b ∷ s) k → Then High (λ c. Gives (Some c)) (Some c) (b ∷ s) k
    other c s k (quote a p) = absurd (let f : b ≡ 92 = cc in omega arith)
    other c s k (slash a p) = absurd (let f : b ≡ 92 = cc in omega arith)
    other c s k (itself p q r) = link c k (high_from c b s k ge r, r) (refl, refl)

    go : (o : Option ℕ) (s k : List ℕ) → CharStep may_end o (b ∷ s) k → Then High (λ c. Gives (Some c)) o (b ∷ s) k
    go None s k h = absurd (let f : b ≡ 39 = (let g : b ∷ s ≡ 39 ∷ k = h.1 in cc) in omega arith)
    go (Some c) s k h = other c s k (written c (b ∷ s) k h)

-- behind a backslash stands what Escaped says
abbrev Behind : Option ℕ → List ℕ → List ℕ → Type 0
Behind = Then (Plain (92 ∷ [])) (λ u. Then Escaped (λ c. Gives (Some c)))

escape_text : (c : ℕ) → (c ≡ 39) ⊎ (c ≡ 92) → char_text c ≡ 92 ∷ c ∷ []
escape_text c (inl e) = rw e refl
escape_text c (inr e) = rw e refl

small_escape : (c : ℕ) → (c ≡ 39) ⊎ (c ≡ 92) → IsScalar c
small_escape c (inl e) = low_scalar c (omega arith)
small_escape c (inr e) = low_scalar c (omega arith)

step_behind : (may_end : Bool) → IsAt (CharStep may_end) Behind 92
step_behind may_end = record {
  forth = λ o s k h.
      let c = h.later.item in
      let text : s ≡ char_text c ++ k = h.here ∙ ap (λ x. 92 ∷ x) (h.later.here.1 ∙ ap (λ x. c ∷ x) h.later.later.1) ∙ ap (λ x. x ++ k) (sym (escape_text c h.later.here.0)) in
      subst (λ x. CharStep may_end x s k) (sym h.later.later.0) (small_escape c h.later.here.0, text);
  back = λ o s k h. go o s k h;
}
  where
    behind : (c : ℕ) (s k : List ℕ) → Written c (92 ∷ s) k → Behind (Some c) (92 ∷ s) k
    behind c s k (quote a p) = link tt s refl (link c k (inl a, let e : s ≡ 39 ∷ k = cc in cc) (refl, refl))
    behind c s k (slash a p) = link tt s refl (link c k (inr a, let e : s ≡ 92 ∷ k = cc in cc) (refl, refl))
    behind c s k (itself a b p) = absurd (b (ascii_at c 92 s k (omega arith) p).0)

    go : (o : Option ℕ) (s k : List ℕ) → CharStep may_end o (92 ∷ s) k → Behind o (92 ∷ s) k
    go None s k h = numerals _ (let e : 92 ∷ s ≡ 39 ∷ k = h.1 in cc)
    go (Some c) s k h = behind c s k (written c (92 ∷ s) k h)

pub behind_takes : (may_end : Bool) (c : ℕ) (bytes after rest : List ℕ) → bytes ≡ 92 ∷ after → Takes Escaped after c rest → Takes (CharStep may_end) bytes (Some c) rest
behind_takes may_end c bytes after rest e t =
    at_takes (CharStep may_end) Behind 92 (Some c) bytes rest (step_behind may_end)
    (then_takes (Plain (92 ∷ [])) (λ u. Then Escaped (λ c. Gives (Some c))) tt (Some c) bytes after rest (plain_takes (92 ∷ []) bytes after e)
    (then_takes Escaped (λ c. Gives (Some c)) c (Some c) after rest rest t (gives_takes (Some c) rest)))

pub behind_halts : (may_end : Bool) (bytes after : List ℕ) (left : ℕ) → bytes ≡ 92 ∷ after → Halts Escaped after left → Halts (CharStep may_end) bytes left
behind_halts may_end bytes after left e h =
    at_halts (CharStep may_end) Behind 92 bytes after left (step_behind may_end) e
    (then_halts (Plain (92 ∷ [])) (λ u. Then Escaped (λ c. Gives (Some c))) (plain_one (92 ∷ [])) tt bytes after left (plain_takes (92 ∷ []) bytes after e)
    (then_stops Escaped (λ c. Gives (Some c)) after left h (λ c. gives_spelled (Some c))))

-- whole texts
pub quoted_one : (may_end : Bool) → OneForm (Quoted may_end)
quoted_one may_end = many_one CharStep and_then_may_end step_one may_end

pub text_completes : (may_end : Bool) → Completes CharStep and_then_may_end may_end
text_completes may_end a t h = record { some = []; text = 39 ∷ []; spelled = λ k. (refl, refl) }

pub quoted_spelled : (may_end : Bool) → IsSpelled (Quoted may_end)
quoted_spelled may_end = record { some = 97 ∷ []; text = 97 ∷ 39 ∷ []; spelled = λ k. (39 ∷ k, (refl, ap (λ x. x ++ 39 ∷ k) (sym (ascii_is 97 (omega arith)))), (refl, refl)) }

-- what is between quotes; only where it may be empty it is
pub quoted_forth : (may_be_empty : Bool) (t s k : List ℕ) → Quoted may_be_empty t s k → All IsScalar t × (s ≡ chars_text t ++ 39 ∷ k) × (t ≡ [] → may_be_empty ≡ true)
quoted_forth may_be_empty [] s k h = (All-nil IsScalar, h.1, λ e. h.0)
quoted_forth may_be_empty (c ∷ t) s k h =
    let rest = quoted_forth true t h.0 k h.2 in (
      All-cons IsScalar c t h.1.0 rest.0,
      h.1.1 ∙ ap (λ x. char_text c ++ x) rest.1 ∙ sym (append_assoc (char_text c) (chars_text t) (39 ∷ k)),
      (λ e. let no_such : ⊥ = cc in absurd no_such),
    )

pub quoted_back : (may_be_empty : Bool) (t s k : List ℕ) → All IsScalar t → s ≡ chars_text t ++ 39 ∷ k → (t ≡ [] → may_be_empty ≡ true) → Quoted may_be_empty t s k
quoted_back may_be_empty [] s k all e filled = (filled refl, e)
quoted_back may_be_empty (c ∷ t) s k all e filled = (
  chars_text t ++ 39 ∷ k,
  (All-head IsScalar c t all, e ∙ append_assoc (char_text c) (chars_text t) (39 ∷ k)),
  quoted_back true t (chars_text t ++ 39 ∷ k) k (All-tail IsScalar c t all) refl (λ e. refl),
)

char_shrinks : (c : ℕ) (s k : List ℕ) → Written c s k → length k < length s
char_shrinks c s k (quote a e) = omega (arith, ap length e)
char_shrinks c s k (slash a e) = omega (arith, ap length e)
char_shrinks c s k (itself a b e) = scalar_shrinks c s k e

pub step_shrinks : (may_end : Bool) (c : ℕ) (bytes rest : List ℕ) → Takes (CharStep may_end) bytes (Some c) rest → length rest < length bytes
step_shrinks may_end c bytes rest t = let h = char_shrinks c (t.front ++ rest) rest (written c (t.front ++ rest) rest (t.spelled rest)) in omega (arith, ap length t.is)
