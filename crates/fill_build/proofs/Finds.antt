-- The places where known texts go together with the rest of a text.
use Rattle.std.proofs.Common.{◌≡◌, ℕ, ◌+◌, ◌<◌, ◌≤◌, inl, inr, List, [], ◌∷◌, ◌++◌, length, drop, Some, slice_get, refl, sym, ap, ◌∙◌, subst, arith, length-drop}
use Rattle.std.specs.Prelude.{nat_le}
use Rattle.std.proofs.lemmas.Bool.{cases_lt, leb-true, le-leb}
use Rattle.std.proofs.lemmas.Option.{slice_get_within}
use Rattle.fill_arena.specs.Contents.{In}
use Rattle.fill_build.specs.Hits.{GoTogether, AreHits, HitsText, HitsBelow, wide}
use Rattle.fill_build.specs.declared.hits.Hit.{Hit}
use Rattle.fill_build.proofs.Lists.{in_empty, in_pushed, in_last, in_more, in_filtered, in_filter, same_value}
use Rattle.fill_build.proofs.Together.{together_once}

-- where they go together at all, the place is within the text
place_within : (t rest : List ℕ) (at run : ℕ) → GoTogether (drop at t) rest run → 1 ≤ run → at < length t
place_within t rest at run f some =
    let one = (f 1).1 some in
    let first = one.0 in
    let long = length-drop at t in
    omega arith

hit_is : (h : Hit) (text at run : ℕ) → h.text ≡ text → h.at ≡ at → h.run ≡ run → let made : Hit = record { text = text; at = at; run = run } in made ≡ h
hit_is h text at run a b c =
    let first : ℕ → Hit = λ n. record { text = n; at = at; run = run } in
    let second : ℕ → Hit = λ n. record { text = h.text; at = n; run = run } in
    let third : ℕ → Hit = λ n. record { text = h.text; at = h.at; run = n } in
    sym (ap first a) ∙ (sym (ap second b) ∙ sym (ap third c))

module _ (k : ℕ) (t rest : List ℕ) where
  pub hits_start : (hits : List Hit) → HitsText k t rest 0 hits hits
  hits_start hits = record { exact = λ h. (λ i. inl i, λ c. elim c [ inl i ↦ i | inr n ↦ let none = n.1 in absurd (omega arith) ]) }

  pub hits_skip : (n : ℕ) (old new : List Hit) → HitsText k t rest n old new → GoTogether (drop n t) rest 0 → HitsText k t rest (n + 1) old new
  hits_skip n old new s none =
      record {
        exact = λ h. (
          λ i. elim ((s.exact h).0 i) [ inl o ↦ inl o | inr m ↦ let lt = m.1 in inr (m.0, omega arith, m.2, m.3) ],
          λ c. elim c [
            | inl o ↦ (s.exact h).1 (inl o)
            | inr m ↦ elim (cases_lt h.at n) [
              | inl lt ↦ (s.exact h).1 (inr (m.0, lt, m.2, m.3))
              | inr le ↦
                  let up = m.1 in
                  let same : h.at ≡ n = omega arith in
                  let zero = together_once (drop n t) rest h.run 0 (subst (λ a. GoTogether (drop a t) rest h.run) same m.2) none in
                  let some = m.3 in
                  absurd (omega arith)
            ]
          ],
        );
      }

  pub hits_put : (n run : ℕ) (old new : List Hit) → HitsText k t rest n old new → GoTogether (drop n t) rest run → 1 ≤ run
      → HitsText k t rest (n + 1) old (new ++ (record { text = k; at = n; run = run }) ∷ [])
  hits_put n run old new s together some =
      let made : Hit = record { text = k; at = n; run = run } in
      record {
        exact = λ h. (
          λ i. elim (in_pushed new made h i) [
            | inl j ↦ elim ((s.exact h).0 j) [ inl o ↦ inl o | inr m ↦ let lt = m.1 in inr (m.0, omega arith, m.2, m.3) ]
            | inr e ↦ inr (subst (λ (z : Hit). (z.text ≡ k) × (z.at < n + 1) × GoTogether (drop z.at t) rest z.run × (1 ≤ z.run)) e (refl, omega arith, together, some))
          ],
          λ c. elim c [
            | inl o ↦ in_more new made h ((s.exact h).1 (inl o))
            | inr m ↦ elim (cases_lt h.at n) [
              | inl lt ↦ in_more new made h ((s.exact h).1 (inr (m.0, lt, m.2, m.3)))
              | inr le ↦
                  let up = m.1 in
                  let same : h.at ≡ n = omega arith in
                  let run_is = together_once (drop n t) rest h.run run (subst (λ a. GoTogether (drop a t) rest h.run) same m.2) together in
                  subst (λ (z : Hit). In z (new ++ made ∷ [])) (hit_is h k n run m.0 same run_is) (in_last new made)
            ]
          ],
        );
      }

module _ (texts : List (List ℕ)) (rest : List ℕ) where
  pub below_start : HitsBelow texts rest 0 []
  below_start = record { exact = λ h. (λ i. absurd (in_empty h i), λ c. let none = c.0 in absurd (omega arith)) }

  pub below_more : (k : ℕ) (t : List ℕ) (old new : List Hit) → slice_get texts k ≡ Some t → HitsBelow texts rest k old → HitsText k t rest (length t) old new → HitsBelow texts rest (k + 1) new
  below_more k t old new at s put =
      record {
        exact = λ h. (
          λ i. elim ((put.exact h).0 i) [
            | inl o ↦ let f = (s.exact h).0 o in let lt = f.0 in (omega arith, f.1, f.2)
            | inr m ↦ let same = m.0 in (omega arith, (t, subst (λ n. slice_get texts n ≡ Some t) (sym same) at, m.2), m.3)
          ],
          λ c. elim (cases_lt h.text k) [
            | inl lt ↦ (put.exact h).1 (inl ((s.exact h).1 (lt, c.1, c.2)))
            | inr le ↦
                let up = c.0 in
                let same : h.text ≡ k = omega arith in
                let one = same_value texts h.text k c.1.0 t same c.1.1 at in
                let together = subst (λ u. GoTogether (drop h.at u) rest h.run) one c.1.2 in
                (put.exact h).1 (inr (same, place_within t rest h.at h.run together c.2, together, c.2))
          ],
        );
      }

  pub below_end : (k : ℕ) (hits : List Hit) → length texts ≤ k → HitsBelow texts rest k hits → AreHits texts rest 1 hits
  below_end k hits end s =
      record {
        exact = λ h. (
          λ i. let f = (s.exact h).0 i in (f.1, f.2),
          λ c. let lt = slice_get_within texts h.text c.0.0 c.0.1 in (s.exact h).1 (omega arith, c.0, c.1),
        );
      }

  pub narrowed : (m width : ℕ) (hits : List Hit) → m ≤ width → AreHits texts rest m hits → AreHits texts rest width (wide width hits)
  narrowed m width hits le s =
      record {
        exact = λ h. (
          λ i.
              let f = in_filtered (λ (z : Hit). nat_le width z.run) hits h i in
              (((s.exact h).0 f.0).0, leb-true width h.run f.1),
          λ c.
              let fits = c.1 in
              in_filter (λ (z : Hit). nat_le width z.run) hits h ((s.exact h).1 (c.0, omega arith)) (le-leb width h.run fits),
        );
      }
