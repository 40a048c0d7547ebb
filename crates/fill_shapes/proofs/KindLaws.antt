-- A token spans blocks: where it does in a shape it does in the text, and the other way round.
use Rattle.std.proofs.Common.{◌≡◌, ℕ, ◌+◌, ◌-◌, ◌<◌, ◌≤◌, inl, inr, Bool, true, false, not, ◌||◌, List, length, slice_index, refl, sym, ap, ◌∙◌, subst, arith}
use Rattle.std.proofs.lemmas.Bool.{cases_order}
use Rattle.fill_text.specs.Classes.{class_of}
use Rattle.fill_tokens.specs.Kind.{run_has, kind_of}
use Rattle.fill_tokens.specs.Span.{IsRun, KindSpans}
use Rattle.fill_tokens.specs.declared.kind.RunClass.{RunClass}
use Rattle.fill_tokens.specs.declared.kind.RunClass.TheVariants as class
use Rattle.fill_tokens.specs.declared.kind.Kind.{Kind}
use Rattle.fill_tokens.specs.declared.kind.Kind.TheVariants.{AtStart, AtEnd, Run, Single}
use Rattle.fill_tokens.specs.declared.token.Token.{Token}
use Rattle.fill_tokens.specs.declared.token.Token.TheVariants.{Start, End, Digits, Upper, Lower, Alpha, Word, Space, Hyphen, Dot, Comma, Semicolon, Colon, Slash, Backslash, Underscore, At, Hash, Ampersand, LeftParen, RightParen, DoubleQuote, SingleQuote, Percent, Plus, Dollar, NonSpace, NonDigit, NonAlpha, Equals, Less, Greater, LeftBracket, RightBracket, LeftBrace, RightBrace, Bar, Newline}
use Rattle.fill_shapes.specs.Stretched.{is_sign, IsStretched}
use Rattle.fill_shapes.proofs.BoundLaws.{bound, mono, mono_le, lt_from, le_from, first, last, bound_within, block, lies, lies_in}

-- the one character of a token is a sign
abbrev pub IsPlain : Kind → Type 0
IsPlain (Single c) = is_sign c ≡ true
IsPlain AtStart = Unit {0}
IsPlain AtEnd = Unit {0}
IsPlain (Run class) = Unit {0}

pub plain : (x : Token) → IsPlain (kind_of x)
plain Start = tt
plain End = tt
plain Digits = tt
plain Upper = tt
plain Lower = tt
plain Alpha = tt
plain Word = tt
plain Space = tt
plain Hyphen = refl
plain Dot = refl
plain Comma = refl
plain Semicolon = refl
plain Colon = refl
plain Slash = refl
plain Backslash = refl
plain Underscore = refl
plain At = refl
plain Hash = refl
plain Ampersand = refl
plain LeftParen = refl
plain RightParen = refl
plain DoubleQuote = refl
plain SingleQuote = refl
plain Percent = refl
plain Plus = refl
plain Dollar = refl
plain NonSpace = tt
plain NonDigit = tt
plain NonAlpha = tt
plain Equals = refl
plain Less = refl
plain Greater = refl
plain LeftBracket = refl
plain RightBracket = refl
plain LeftBrace = refl
plain RightBrace = refl
plain Bar = refl
plain Newline = refl

-- characters of the same classes are in the same classes of runs
same_runs : (r : RunClass) (c d : ℕ) → class_of c ≡ class_of d → run_has r c ≡ run_has r d
same_runs class.Digit c d e = ap (λ k. k.digit) e
same_runs class.Upper c d e = ap (λ k. k.upper) e
same_runs class.Lower c d e = ap (λ k. k.lower) e
same_runs class.Alpha c d e = ap (λ k. k.alpha) e
same_runs class.Word c d e = ap (λ k. k.alpha || k.digit) e
same_runs class.Space c d e = ap (λ k. k.space) e
same_runs class.NonSpace c d e = ap (λ k. not k.space) e
same_runs class.NonDigit c d e = ap (λ k. not k.digit) e
same_runs class.NonAlpha c d e = ap (λ k. not k.alpha) e

both : (x y z : Bool) → x ≡ z → y ≡ z → x ≡ true → y ≡ false → ⊥
both x y z e f g h = let b : true ≡ false = sym g ∙ e ∙ sym f ∙ h in cc

module _ (w t bounds : List ℕ) (s : IsStretched w t bounds) where
  abbrev at : ℕ → ℕ
  at = bound w t bounds s

  has : (r : RunClass) (i k : ℕ) → i < length w → at i ≤ k → k < at (i + 1) → run_has r (slice_index t k) ≡ run_has r (slice_index w i)
  has r i k h l m = same_runs r (slice_index t k) (slice_index w i) ((block w t bounds s i h).classes k l m)

  has_first : (r : RunClass) (i : ℕ) → i < length w → run_has r (slice_index t (at i)) ≡ run_has r (slice_index w i)
  has_first r i h = has r i (at i) h (omega arith) (mono w t bounds s i (i + 1) (omega arith) (omega arith))

  run_forth : (r : RunClass) (i j : ℕ) → IsRun (run_has r) w i j → IsRun (run_has r) t (at i) (at j)
  run_forth r i j u = record {
    some = mono w t bounds s i j u.some u.within;
    within = bound_within w t bounds s j u.within;
    inside = λ k l m.
        let x = lies w t bounds s j k u.within m in
        let past = lt_from w t bounds s i (x.0 + 1) (let o = u.some in let n = u.within in omega arith) (let v = x.3 in omega arith) in
        has r x.0 k (let v = x.1 in let n = u.within in omega arith) x.2 x.3 ∙ u.inside x.0 (omega arith) x.1;
    before = λ k e.
        let small : i ≤ length w = let o = u.some in let n = u.within in omega arith in
        let x = lies w t bounds s i k small (omega arith) in
        let far = le_from w t bounds s i (x.0 + 1) small (let v = x.3 in omega arith) in
        has r x.0 k (let v = x.1 in omega arith) x.2 x.3 ∙ u.before x.0 (let v = x.1 in omega arith);
    after = λ l.
        let h = lt_from w t bounds s j (length w) u.within (let e = last w t bounds s in omega arith) in
        has_first r j h ∙ u.after h;
  }

  run_back : (r : RunClass) (i j : ℕ) → i ≤ length w → j ≤ length w → IsRun (run_has r) t (at i) (at j) → IsRun (run_has r) w i j
  run_back r i j h g u = record {
    some = lt_from w t bounds s i j h u.some;
    within = g;
    inside = λ x l m. sym (has_first r x (omega arith)) ∙ u.inside (at x) (mono_le w t bounds s i x l (omega arith)) (mono w t bounds s x j m g);
    before = λ x e.
        let low = mono w t bounds s x i (omega arith) h in
        let f : at i ≡ at (x + 1) = ap at (sym e) in
        sym (has r x (at i - 1) (omega arith) (omega arith) (omega arith)) ∙ u.before (at i - 1) (omega arith);
    after = λ l. sym (has_first r j l) ∙ u.after (let m = mono w t bounds s j (length w) l (omega arith) in let e = last w t bounds s in omega arith);
  }

  -- a run begins and ends at bounds
  run_start : (r : RunClass) (a b : ℕ) → IsRun (run_has r) t a b → (i : ℕ) × (i ≤ length w) × (at i ≡ a)
  run_start r a b u =
      let x = lies_in w t bounds s a (let o = u.some in let n = u.within in omega arith) in
      elim (cases_order (at x.0) a) [
        | inl e ↦ (x.0, (let v = x.1 in omega arith), e)
        | inr o ↦ elim o [
          | inl lt ↦ absurd (both (run_has r (slice_index t a)) (run_has r (slice_index t (a - 1))) (run_has r (slice_index w x.0)) (has r x.0 a x.1 x.2 x.3) (has r x.0 (a - 1) x.1 (omega arith) (let v = x.3 in omega arith))
              (u.inside a (omega arith) u.some) (u.before (a - 1) (omega arith)))
          | inr gt ↦ absurd (let v = x.2 in omega arith)
        ]
      ]

  run_end : (r : RunClass) (a b : ℕ) → IsRun (run_has r) t a b → (j : ℕ) × (j ≤ length w) × (at j ≡ b)
  run_end r a b u = elim (cases_order b (length t)) [
    | inl e ↦ (length w, omega arith, last w t bounds s ∙ sym e)
    | inr c ↦ elim c [
      | inr gt ↦ absurd (let n = u.within in omega arith)
      | inl small ↦
          let x = lies_in w t bounds s b small in
          elim (cases_order (at x.0) b) [
            | inl e ↦ (x.0, (let v = x.1 in omega arith), e)
            | inr o ↦ elim o [
              | inl lt ↦ absurd (both (run_has r (slice_index t (b - 1))) (run_has r (slice_index t b)) (run_has r (slice_index w x.0)) (has r x.0 (b - 1) x.1 (omega arith) (let v = x.3 in omega arith)) (has r x.0 b x.1 x.2 x.3)
                  (u.inside (b - 1) (let n = u.some in omega arith) (omega arith)) (u.after small))
              | inr gt ↦ absurd (let v = x.2 in omega arith)
            ]
          ]
    ]
  ]

  pub kind_forth : (k : Kind) → IsPlain k → (i j : ℕ) → KindSpans k w i j → KindSpans k t (at i) (at j)
  kind_forth AtStart p i j h = (ap at h.0 ∙ first w t bounds s, ap at h.1 ∙ first w t bounds s)
  kind_forth AtEnd p i j h = (ap at h.0 ∙ last w t bounds s, ap at h.1 ∙ last w t bounds s)
  kind_forth (Run r) p i j h = run_forth r i j h
  kind_forth (Single c) p i j h = elim (block w t bounds s i h.0).itself [
    | inl one ↦ (
      let m = mono w t bounds s i (i + 1) (omega arith) (let l = h.0 in omega arith) in let n = bound_within w t bounds s (i + 1) (let l = h.0 in omega arith) in omega arith,
      one.1 ∙ h.1,
      ap at h.2 ∙ one.0,
    )
    | inr far ↦ absurd (both (is_sign c) (is_sign (slice_index w i)) (is_sign c) refl (ap is_sign h.1) p far)
  ]

  pub kind_back : (k : Kind) → IsPlain k → (a b : ℕ) → KindSpans k t a b → (i : ℕ) × (j : ℕ) × (i ≤ length w) × (j ≤ length w) × (at i ≡ a) × (at j ≡ b) × KindSpans k w i j
  kind_back AtStart p a b h = (0, 0, omega arith, omega arith, first w t bounds s ∙ sym h.0, first w t bounds s ∙ sym h.1, (refl, refl))
  kind_back AtEnd p a b h = (length w, length w, omega arith, omega arith, last w t bounds s ∙ sym h.0, last w t bounds s ∙ sym h.1, (refl, refl))
  kind_back (Run r) p a b h =
      let x = run_start r a b h in
      let y = run_end r a b h in
      (x.0, y.0, x.1, y.1, x.2, y.2, run_back r x.0 y.0 x.1 y.1 (subst (λ n. IsRun (run_has r) t n (at y.0)) (sym x.2) (subst (λ n. IsRun (run_has r) t a n) (sym y.2) h)))
  kind_back (Single c) p a b h =
      let x = lies_in w t bounds s a h.0 in
      let u = block w t bounds s x.0 x.1 in
      let l = x.1 in
      let v = x.2 in
      let n = x.3 in
      elim u.itself [
        | inl one ↦
            let o = one.0 in
            let e : at x.0 ≡ a = omega arith in
            let f : at (x.0 + 1) ≡ b = let g = h.2 in omega arith in
            (x.0, x.0 + 1, omega arith, omega arith, e, f, (x.1, sym one.1 ∙ ap (slice_index t) e ∙ h.1, refl))
        | inr far ↦ absurd (both (is_sign c) (is_sign (slice_index w x.0)) (is_sign (slice_index t a)) (ap is_sign (sym h.1)) (sym (u.signs a x.2 x.3)) p far)
      ]
