-- The runs of a class, one character after the other.
use Rattle.std.proofs.Common.{◌≡◌, ℕ, zero, suc, ◌+◌, ◌<◌, ◌≤◌, inl, inr, Bool, true, false, List, [], ◌∷◌, ◌++◌, length, slice_get, slice_index, Some, None, sym, ap, ◌∙◌, subst, arith}
use Rattle.std.proofs.lemmas.Bool.{cases_order, cases_lt}
use Rattle.std.proofs.lemmas.List.{length_push}
use Rattle.fill_text.specs.Classes.{class_of}
use Rattle.fill_text.specs.declared.class.Class.{Class}
use Rattle.fill_tokens.specs.Span.{IsRun}
use Rattle.fill_spans.specs.Pieces.{AreExactly}
use Rattle.fill_spans.specs.Read.{AreClasses, RunsBelow, IsEdge, GoesOn, AreRead}
use Rattle.fill_spans.proofs.PieceLaws.{push_cases, none_are, same_are, piece_more}

-- the classes of the first m characters
pub record AreClassesBelow (t : List ℕ) (m : ℕ) (classes : List Class) : Type 0 where
  pub long : length classes ≡ m
  pub each : (i : ℕ) (k : Class) → slice_get classes i ≡ Some k → k ≡ class_of (slice_index t i)

pub classes_more : (t : List ℕ) (m : ℕ) (classes more : List Class) (k : Class) → k ≡ class_of (slice_index t m) → more ≡ classes ++ k ∷ [] → AreClassesBelow t m classes → AreClassesBelow t (m + 1) more
classes_more t m classes more k is e are = subst (AreClassesBelow t (m + 1)) (sym e) record {
  long = length_push classes k ∙ ap (λ n. n + 1) are.long;
  each = λ i l h. elim (push_cases classes k l i h) [
    | inl old ↦ are.each i l old
    | inr last ↦ sym last.1 ∙ is ∙ ap (λ n. class_of (slice_index t n)) (sym are.long ∙ sym last.0)
  ];
}

pub classes_all : (t : List ℕ) (m : ℕ) (classes : List Class) → m ≡ length t → AreClassesBelow t m classes → AreClasses t classes
classes_all t m classes e are = record { long = are.long ∙ e; each = are.each }

module _ (p : ℕ → Bool) (t : List ℕ) where
  both : (i : ℕ) → p (slice_index t i) ≡ true → p (slice_index t i) ≡ false → ⊥
  both i a b = let e : true ≡ false = sym a ∙ b in cc

  -- a run that ends where the one ends that goes on is that one
  same_start : (i s x : ℕ) → GoesOn p t i s → IsRun p t x i → x ≡ s
  same_start i s x g r = elim (cases_order x s) [
    | inl e ↦ e
    | inr o ↦ elim o [ inl l ↦ absurd (before i s x g r l) | inr m ↦ absurd (after x i s g r m) ]
  ]
    where
      before : (i s x : ℕ) → GoesOn p t i s → IsRun p t x i → x < s → ⊥
      before i zero x g r l = omega arith
      before i (suc s) x g r l = both s (r.inside s (omega arith) (let u = g.0 in omega arith)) (g.2 s (omega arith))

      after : (x i s : ℕ) → GoesOn p t i s → IsRun p t x i → s < x → ⊥
      after zero i s g r m = omega arith
      after (suc x) i s g r m = both x (g.1 x (omega arith) (let u = r.some in omega arith)) (r.before x (omega arith))

  -- no run ends where none goes on
  no_run : (i x : ℕ) → IsEdge p t i → IsRun p t x i → ⊥
  no_run zero x edge r = let u = r.some in omega arith
  no_run (suc i) x edge r = both i (r.inside i (let u = r.some in omega arith) (omega arith)) (edge i (omega arith))

  -- no run ends at a character of the class
  no_end : (i x : ℕ) → i < length t → p (slice_index t i) ≡ true → IsRun p t x i → ⊥
  no_end i x lt is r = both i is (r.after lt)

  still : (i : ℕ) (xs ys : List ℕ) → ((x : ℕ) → IsRun p t x i → ⊥) → AreExactly (RunsBelow p t i) xs ys → AreExactly (RunsBelow p t (i + 1)) xs ys
  still i xs ys none = same_are (RunsBelow p t i) (RunsBelow p t (i + 1)) xs ys (λ x y s. (s.0, (let u = s.1 in omega arith)))
      (λ x y s. elim (cases_order y i) [
        | inl e ↦ absurd (none x (subst (IsRun p t x) e s.0))
        | inr o ↦ elim o [ inl l ↦ (s.0, l) | inr g ↦ absurd (let u = s.1 in omega arith) ]
      ])

  ended : (i s : ℕ) (xs ys xs2 ys2 : List ℕ) → i ≤ length t → (i < length t → p (slice_index t i) ≡ false) → GoesOn p t i s → xs2 ≡ xs ++ s ∷ [] → ys2 ≡ ys ++ i ∷ [] →
      AreExactly (RunsBelow p t i) xs ys → AreExactly (RunsBelow p t (i + 1)) xs2 ys2
  ended i s xs ys xs2 ys2 within past g e f are =
      piece_more (RunsBelow p t i) (RunsBelow p t (i + 1)) xs ys s i are
      (record { some = g.0; within = within; inside = g.1; before = g.2; after = past }, omega arith)
      (λ x y r. (low x y r, r.1))
      (λ x y r. (r.0, (let u = r.1 in omega arith)))
      (λ x y r. elim (cases_order y i) [
        | inl same ↦ inr (same_start i s x g (subst (IsRun p t x) same r.0), same)
        | inr o ↦ elim o [ inl l ↦ inl (r.0, l) | inr g ↦ absurd (let u = r.1 in omega arith) ]
      ])
      xs2 ys2 e f
    where
      low : (x y : ℕ) → RunsBelow p t i x y → x < s
      low x y r = elim (cases_lt x s) [
        | inl lt ↦ lt
        | inr le ↦ let u = r.1 in let v = r.0.some in absurd (both y (g.1 y (omega arith) u) (r.0.after (omega arith)))
      ]

  pub read_none : (xs ys : List ℕ) → xs ≡ [] → ys ≡ [] → AreRead p t 0 xs ys None
  read_none xs ys e f = record {
    runs = none_are (RunsBelow p t 0) xs ys e f (λ a b s. let u = s.1 in omega arith);
    last = λ j h. absurd (omega arith);
  }

  -- a character more, which is in the class or is not
  pub read_out : (i : ℕ) (xs ys : List ℕ) → p (slice_index t i) ≡ false → AreRead p t i xs ys None → AreRead p t (i + 1) xs ys None
  read_out i xs ys not r = record {
    runs = still i xs ys (λ x. no_run i x r.last) r.runs;
    last = λ j h. let e : i ≡ j = omega arith in subst (λ k. p (slice_index t k) ≡ false) e not;
  }

  pub read_in : (i : ℕ) (xs ys : List ℕ) → p (slice_index t i) ≡ true → AreRead p t i xs ys None → AreRead p t (i + 1) xs ys (Some i)
  read_in i xs ys is r = record {
    runs = still i xs ys (λ x. no_run i x r.last) r.runs;
    last = (omega arith, (λ j l m. let e : i ≡ j = omega arith in subst (λ k. p (slice_index t k) ≡ true) e is), r.last);
  }

  pub read_on : (i s : ℕ) (xs ys : List ℕ) → i < length t → p (slice_index t i) ≡ true → AreRead p t i xs ys (Some s) → AreRead p t (i + 1) xs ys (Some s)
  read_on i s xs ys lt is r = record {
    runs = still i xs ys (λ x. no_end i x lt is) r.runs;
    last = ((let u = r.last.0 in omega arith), inside, r.last.2);
  }
    where
      inside : (j : ℕ) → s ≤ j → j < i + 1 → p (slice_index t j) ≡ true
      inside j l m = elim (cases_order j i) [
        | inl e ↦ subst (λ k. p (slice_index t k) ≡ true) (sym e) is
        | inr o ↦ elim o [ inl low ↦ r.last.1 j l low | inr high ↦ absurd (omega arith) ]
      ]

  pub read_end : (i s : ℕ) (xs ys xs2 ys2 : List ℕ) → i < length t → p (slice_index t i) ≡ false → xs2 ≡ xs ++ s ∷ [] → ys2 ≡ ys ++ i ∷ [] → AreRead p t i xs ys (Some s) → AreRead p t (i + 1) xs2 ys2 None
  read_end i s xs ys xs2 ys2 lt not e f r = record {
    runs = ended i s xs ys xs2 ys2 (omega arith) (λ l. not) r.last e f r.runs;
    last = λ j h. let e : i ≡ j = omega arith in subst (λ k. p (slice_index t k) ≡ false) e not;
  }

  all_runs : (n : ℕ) (xs ys : List ℕ) → n ≡ length t → AreExactly (RunsBelow p t (n + 1)) xs ys → AreExactly (IsRun p t) xs ys
  all_runs n xs ys e = same_are (RunsBelow p t (n + 1)) (IsRun p t) xs ys (λ x y r. r.0) (λ x y r. (r, (let u = r.within in omega arith)))

  pub read_all : (n : ℕ) (xs ys : List ℕ) → n ≡ length t → AreRead p t n xs ys None → AreExactly (IsRun p t) xs ys
  read_all n xs ys e r = all_runs n xs ys e (still n xs ys (λ x. no_run n x r.last) r.runs)

  pub read_last : (n s : ℕ) (xs ys xs2 ys2 : List ℕ) → n ≡ length t → xs2 ≡ xs ++ s ∷ [] → ys2 ≡ ys ++ n ∷ [] → AreRead p t n xs ys (Some s) → AreExactly (IsRun p t) xs2 ys2
  read_last n s xs ys xs2 ys2 e f g r =
      all_runs n xs2 ys2 e (ended n s xs ys xs2 ys2 (omega arith) (λ l. absurd (omega arith)) r.last f g r.runs)
