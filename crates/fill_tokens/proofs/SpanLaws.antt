-- A token spans at most one piece from a position, and one up to a position; sequences are taken apart at either end.
use Rattle.std.proofs.Common.{◌≡◌, ℕ, zero, suc, ◌+◌, ◌-◌, ◌<◌, ◌≤◌, inl, inr, Bool, List, [], ◌∷◌, ◌++◌, length, take, drop, refl, sym, ap, ◌∙◌, subst, arith, slice_get, Some}
use Rattle.std.specs.Prelude.{◌↔◌}
use Rattle.std.proofs.lemmas.Bool.{cases_order}
use Rattle.std.proofs.lemmas.Option.{slice_get_within, get_or_from_slice_get}
use Rattle.std.proofs.lemmas.List.{take_more, drop_more}
use Rattle.fill_tokens.specs.Kind.{run_has, kind_of}
use Rattle.fill_tokens.specs.Span.{IsRun, KindSpans, Spans, SeqSpans, Begins, Ends}
use Rattle.fill_tokens.specs.declared.token.Token.{Token}
use Rattle.fill_tokens.specs.declared.kind.Kind.{Kind}
use Rattle.fill_tokens.specs.declared.kind.Kind.TheVariants.{AtStart, AtEnd, Run, Single}

-- of two runs from one position neither ends before the other
run_end_not_before : (p : ℕ → Bool) (t : List ℕ) (a b c : ℕ) → IsRun p t a b → IsRun p t a c → b < c → ⊥
run_end_not_before p t a b c r s h =
    let inside = s.inside b (omega arith) h in
    let outside = r.after (omega arith) in
    cc

-- of two runs up to one position neither begins before the other
run_start_not_before : (p : ℕ → Bool) (t : List ℕ) (a b c : ℕ) → IsRun p t a c → IsRun p t b c → a < b → ⊥
run_start_not_before p t a (suc b) c r s h =
    let inside = r.inside b (omega arith) (omega (arith, s.some)) in
    let e : b + 1 ≡ suc b = omega arith in
    let outside = s.before b e in
    cc
run_start_not_before p t a zero c r s h = omega arith

run_one_end : (p : ℕ → Bool) (t : List ℕ) (a b c : ℕ) → IsRun p t a b → IsRun p t a c → b ≡ c
run_one_end p t a b c r s = elim (cases_order b c) [
  | inl e ↦ e
  | inr h ↦ elim h [ inl l ↦ absurd (run_end_not_before p t a b c r s l) | inr g ↦ absurd (run_end_not_before p t a c b s r g) ]
]

run_one_start : (p : ℕ → Bool) (t : List ℕ) (a b c : ℕ) → IsRun p t a c → IsRun p t b c → a ≡ b
run_one_start p t a b c r s = elim (cases_order a b) [
  | inl e ↦ e
  | inr h ↦ elim h [ inl l ↦ absurd (run_start_not_before p t a b c r s l) | inr g ↦ absurd (run_start_not_before p t b a c s r g) ]
]

kind_one_end : (k : Kind) (t : List ℕ) (a b c : ℕ) → KindSpans k t a b → KindSpans k t a c → b ≡ c
kind_one_end AtStart t a b c r s = omega arith
kind_one_end AtEnd t a b c r s = omega arith
kind_one_end (Run class) t a b c r s = run_one_end (run_has class) t a b c r s
kind_one_end (Single x) t a b c r s = omega arith

kind_one_start : (k : Kind) (t : List ℕ) (a b c : ℕ) → KindSpans k t a c → KindSpans k t b c → a ≡ b
kind_one_start AtStart t a b c r s = omega arith
kind_one_start AtEnd t a b c r s = omega arith
kind_one_start (Run class) t a b c r s = run_one_start (run_has class) t a b c r s
kind_one_start (Single x) t a b c r s = omega arith

pub one_end : (x : Token) (t : List ℕ) (a b c : ℕ) → Spans x t a b → Spans x t a c → b ≡ c
one_end x = kind_one_end (kind_of x)

pub one_start : (x : Token) (t : List ℕ) (a b c : ℕ) → Spans x t a c → Spans x t b c → a ≡ b
one_start x = kind_one_start (kind_of x)

kind_within : (k : Kind) (t : List ℕ) (a b : ℕ) → KindSpans k t a b → (a ≤ b) × (b ≤ length t)
kind_within AtStart t a b r = (omega arith, omega arith)
kind_within AtEnd t a b r = (omega arith, omega arith)
kind_within (Run class) t a b r = (omega (arith, r.some), r.within)
kind_within (Single x) t a b r = (omega arith, omega arith)

pub within : (x : Token) (t : List ℕ) (a b : ℕ) → Spans x t a b → (a ≤ b) × (b ≤ length t)
within x = kind_within (kind_of x)

pub seq_within : (r : List Token) (t : List ℕ) (a b : ℕ) → SeqSpans r t a b → (a ≤ b) × (b ≤ length t)
seq_within [] t a b s = (omega arith, omega arith)
seq_within (x ∷ xs) t a b s =
    let first = within x t a s.0 s.1 in
    let rest = seq_within xs t s.0 b s.2 in
    (omega arith, omega arith)

-- one token more at the end
pub seq_snoc : (r : List Token) (x : Token) (t : List ℕ) (a m b : ℕ) → SeqSpans r t a m → Spans x t m b → SeqSpans (r ++ x ∷ []) t a b
seq_snoc [] x t a m b s h =
    let e : m ≡ a = sym s.0 in
    (b, subst (λ i. Spans x t i b) e h, (refl, (within x t m b h).1))
seq_snoc (y ∷ ys) x t a m b s h = (s.0, s.1, seq_snoc ys x t s.0 m b s.2 h)

pub seq_unsnoc : (r : List Token) (x : Token) (t : List ℕ) (a b : ℕ) → SeqSpans (r ++ x ∷ []) t a b → (m : ℕ) × SeqSpans r t a m × Spans x t m b
seq_unsnoc [] x t a b s =
    let h = subst (λ i. Spans x t a i) s.2.0 s.1 in
    let w = within x t a b h in
    (a, (refl, omega arith), h)
seq_unsnoc (y ∷ ys) x t a b s =
    let rest = seq_unsnoc ys x t s.0 b s.2 in
    (rest.0, (s.0, s.1, rest.1), rest.2)

-- what is left after the first token
pub begins_step : (x : Token) (xs : List Token) (t : List ℕ) (a b : ℕ) → Spans x t a b → Begins (x ∷ xs) t a ↔ Begins xs t b
begins_step x xs t a b h = (
  λ s. (s.0, subst (λ i. SeqSpans xs t i s.0) (one_end x t a s.1.0 b s.1.1 h) s.1.2),
  λ s. (s.0, (b, h, s.1)),
)

pub begins_none : (x : Token) (xs : List Token) (t : List ℕ) (a : ℕ) → ((b : ℕ) → Spans x t a b → ⊥) → Begins (x ∷ xs) t a → ⊥
begins_none x xs t a none s = none s.1.0 s.1.1

pub ends_step : (r : List Token) (x : Token) (t : List ℕ) (a b : ℕ) → Spans x t a b → Ends (r ++ x ∷ []) t b ↔ Ends r t a
ends_step r x t a b h = (
  λ s. let u = seq_unsnoc r x t s.0 b s.1 in (s.0, subst (λ i. SeqSpans r t s.0 i) (one_start x t u.0 a b u.2 h) u.1),
  λ s. (s.0, seq_snoc r x t s.0 a b s.1 h),
)

pub ends_none : (r : List Token) (x : Token) (t : List ℕ) (b : ℕ) → ((a : ℕ) → Spans x t a b → ⊥) → Ends (r ++ x ∷ []) t b → ⊥
ends_none r x t b none s = let u = seq_unsnoc r x t s.0 b s.1 in none u.0 u.2

-- the first of the tokens that are left, from the left or from the right
drop_step : (r : List Token) (i : ℕ) (x : Token) → slice_get r i ≡ Some x → drop i r ≡ x ∷ drop (i + 1) r
drop_step r i x h = drop_more r i x (slice_get_within r i x h) ∙ ap (λ v. v ∷ drop (i + 1) r) (get_or_from_slice_get r i x x h)

take_step : (r : List Token) (i : ℕ) (x : Token) → slice_get r i ≡ Some x → take (i + 1) r ≡ take i r ++ x ∷ []
take_step r i x h = take_more r i x (slice_get_within r i x h) ∙ ap (λ v. take i r ++ v ∷ []) (get_or_from_slice_get r i x x h)

-- a match from the left goes on past a token, or ends there
pub right_more : (r : List Token) (t : List ℕ) (k at i b : ℕ) (x : Token) → slice_get r i ≡ Some x →
    Begins r t k ↔ Begins (drop i r) t at → Spans x t at b → Begins r t k ↔ Begins (drop (i + 1) r) t b
right_more r t k at i b x e same h =
    let step = begins_step x (drop (i + 1) r) t at b h in
    let d = drop_step r i x e in (
      λ s. step.0 (subst (λ l. Begins l t at) d (same.0 s)),
      λ s. same.1 (subst (λ l. Begins l t at) (sym d) (step.1 s)),
    )

pub right_none : (r : List Token) (t : List ℕ) (k at i : ℕ) (x : Token) → slice_get r i ≡ Some x →
    Begins r t k ↔ Begins (drop i r) t at → ((b : ℕ) → Spans x t at b → ⊥) → Begins r t k → ⊥
right_none r t k at i x e same none s =
    begins_none x (drop (i + 1) r) t at none (subst (λ l. Begins l t at) (drop_step r i x e) (same.0 s))

-- a match from the right goes on past a token, or ends there
take_from : (r : List Token) (i : ℕ) (x : Token) → 0 < i → slice_get r (i - 1) ≡ Some x → take i r ≡ take (i - 1) r ++ x ∷ []
take_from r i x p e = let q : i ≡ (i - 1) + 1 = omega arith in ap (λ j. take j r) q ∙ take_step r (i - 1) x e

pub left_more : (r : List Token) (t : List ℕ) (k at i a : ℕ) (x : Token) → 0 < i → slice_get r (i - 1) ≡ Some x →
    Ends r t k ↔ Ends (take i r) t at → Spans x t a at → Ends r t k ↔ Ends (take (i - 1) r) t a
left_more r t k at i a x p e same h =
    let step = ends_step (take (i - 1) r) x t a at h in
    let d = take_from r i x p e in (
      λ s. step.0 (subst (λ l. Ends l t at) d (same.0 s)),
      λ s. same.1 (subst (λ l. Ends l t at) (sym d) (step.1 s)),
    )

pub left_none : (r : List Token) (t : List ℕ) (k at i : ℕ) (x : Token) → 0 < i → slice_get r (i - 1) ≡ Some x →
    Ends r t k ↔ Ends (take i r) t at → ((a : ℕ) → Spans x t a at → ⊥) → Ends r t k → ⊥
left_none r t k at i x p e same none s =
    ends_none (take (i - 1) r) x t at none (subst (λ l. Ends l t at) (take_from r i x p e) (same.0 s))
