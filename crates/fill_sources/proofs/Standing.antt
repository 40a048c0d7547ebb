-- Spots, as more are put to them.
use Rattle.std.proofs.Common.{◌≡◌, ◌↔◌, inl, inr, ℕ, ◌+◌, ◌<◌, ◌≤◌, List, [], ◌∷◌, ◌++◌, length, Some, slice_get, slice_range, refl, sym, ap, ◌∙◌, subst, arith}
use Rattle.std.proofs.lemmas.Bool.{cases_lt}
use Rattle.std.proofs.lemmas.Option.{slice_get_within}
use Rattle.fill_arena.specs.Contents.{In}
use Rattle.fill_sources.specs.Readers.{GainsSpots, StandsAt, StandsIn}
use Rattle.fill_sources.specs.declared.spots.Spot.{Spot}
use Rattle.fill_sources.proofs.Lists.{in_empty, in_last, in_more, in_pushed, same_at}

-- the characters stand there in the text, before a place
abbrev pub StandsBefore : List ℕ → ℕ → List ℕ → ℕ → Spot → Type 0
StandsBefore t k w n h = (h.at < n) × StandsIn t k w h

-- they stand in one of the first texts
abbrev pub StandsFirst : List (List ℕ) → ℕ → List ℕ → Spot → Type 0
StandsFirst texts n w h = (h.text < n) × StandsAt texts w h

spot_same : (x y : Spot) → x.text ≡ y.text → x.at ≡ y.at → x ≡ y
spot_same x y p q = ap (λ t. (let z : Spot = record { text = t; at = x.at } in z)) p ∙ ap (λ a. (let z : Spot = record { text = y.text; at = a } in z)) q

pub spots_start : (old : List Spot) (Q : Spot → Type 0) → ((h : Spot) → Q h → ⊥) → GainsSpots old old Q
spots_start old Q none h = (λ i. inl i, λ i. elim i [ inl j ↦ j | inr q ↦ absurd (none h q) ])

pub spots_alike : (old new : List Spot) (P Q : Spot → Type 0) → GainsSpots old new P → ((h : Spot) → Q h ↔ P h) → GainsSpots old new Q
spots_alike old new P Q f both h = (
  λ i. elim ((f h).0 i) [ inl j ↦ inl j | inr p ↦ inr ((both h).1 p) ],
  λ i. elim i [ inl j ↦ (f h).1 (inl j) | inr q ↦ (f h).1 (inr ((both h).0 q)) ],
)

-- a place where they don't stand, and one where they do
pub spot_skip : (old mid : List Spot) (t : List ℕ) (k : ℕ) (w : List ℕ) (n : ℕ) → (slice_range t n (n + length w) ≡ w → ⊥) → GainsSpots old mid (StandsBefore t k w n) → GainsSpots old mid (StandsBefore t k w (n + 1))
spot_skip old mid t k w n other f = spots_alike old mid (StandsBefore t k w n) (StandsBefore t k w (n + 1)) f (λ h. (
  λ s. elim (cases_lt h.at n) [
    | inl lt ↦ (lt, s.1)
    | inr le ↦ let up = s.0 in let e : h.at ≡ n = omega arith in absurd (other (subst (λ m. slice_range t m (m + length w) ≡ w) e s.1.2))
  ],
  λ s. let lt = s.0 in (omega arith, s.1),
))

pub spot_more : (old mid new : List Spot) (t : List ℕ) (k : ℕ) (w : List ℕ) (n : ℕ) → n + length w ≤ length t → slice_range t n (n + length w) ≡ w → GainsSpots old mid (StandsBefore t k w n) →
    new ≡ mid ++ record { text = k; at = n } ∷ [] → GainsSpots old new (StandsBefore t k w (n + 1))
spot_more old mid new t k w n le stands f is h =
    let here : Spot = record { text = k; at = n } in (
      λ i. elim (in_pushed mid here h (subst (λ (l : List Spot). In h l) is i)) [
        | inl j ↦ elim ((f h).0 j) [ inl o ↦ inl o | inr s ↦ let lt = s.0 in inr (omega arith, s.1) ]
        | inr same ↦ inr (subst (λ (z : Spot). StandsBefore t k w (n + 1) z) same (omega arith, (refl, le, stands)))
      ],
      λ i. elim i [
        | inl o ↦ subst (λ (l : List Spot). In h l) (sym is) (in_more mid here h ((f h).1 (inl o)))
        | inr s ↦ elim (cases_lt h.at n) [
          | inl lt ↦ subst (λ (l : List Spot). In h l) (sym is) (in_more mid here h ((f h).1 (inr (lt, s.1))))
          | inr ge ↦
              let up = s.0 in
              let e : here ≡ h = spot_same here h (sym s.1.0) (omega arith) in
              subst (λ (l : List Spot). In h l) (sym is) (subst (λ (z : Spot). In z (mid ++ here ∷ [])) e (in_last mid here))
        ]
      ],
    )

-- all places of a text
pub spots_all : (old new : List Spot) (t : List ℕ) (k : ℕ) (w : List ℕ) (n : ℕ) → length t < n + length w → GainsSpots old new (StandsBefore t k w n) → GainsSpots old new (StandsIn t k w)
spots_all old new t k w n past f = spots_alike old new (StandsBefore t k w n) (StandsIn t k w) f (λ h. (
  λ s. let within = s.1 in (omega arith, s),
  λ s. s.1,
))

pub spots_short : (old : List Spot) (t : List ℕ) (k : ℕ) (w : List ℕ) → length t < length w → GainsSpots old old (StandsIn t k w)
spots_short old t k w short = spots_start old (StandsIn t k w) (λ h s. let within = s.1 in absurd (omega arith))

-- one text more
pub text_more : (texts : List (List ℕ)) (old new : List Spot) (t : List ℕ) (n : ℕ) (w : List ℕ) → slice_get texts n ≡ Some t → ((h : Spot) → In h old ↔ StandsFirst texts n w h) → GainsSpots old new (StandsIn t n w) →
    (h : Spot) → In h new ↔ StandsFirst texts (n + 1) w h
text_more texts old new t n w at f g h = (
  λ i. elim ((g h).0 i) [
    | inl o ↦ let s = (f h).0 o in let lt = s.0 in (omega arith, s.1)
    | inr s ↦ let e = s.0 in (omega arith, (t, subst (λ m. slice_get texts m ≡ Some t) (sym e) at, s.1, s.2))
  ],
  λ s. elim (cases_lt h.text n) [
    | inl lt ↦ (g h).1 (inl ((f h).1 (lt, s.1)))
    | inr le ↦
        let up = s.0 in
        let e : h.text ≡ n = omega arith in
        let one : s.1.0 ≡ t = same_at texts h.text n s.1.0 t e s.1.1 at in
        (g h).1 (inr (e, subst (λ u. h.at + length w ≤ length u) one s.1.2, subst (λ u. slice_range u h.at (h.at + length w) ≡ w) one s.1.3))
  ],
)

pub texts_all : (texts : List (List ℕ)) (new : List Spot) (n : ℕ) (w : List ℕ) → length texts ≤ n → ((h : Spot) → In h new ↔ StandsFirst texts n w h) → (h : Spot) → In h new ↔ StandsAt texts w h
texts_all texts new n w all f h = (
  λ i. ((f h).0 i).1,
  λ s. let lt = slice_get_within texts h.text s.0 s.1 in (f h).1 (omega arith, s),
)

pub texts_none : (texts : List (List ℕ)) (new : List Spot) (w : List ℕ) → new ≡ [] → (h : Spot) → In h new ↔ StandsFirst texts 0 w h
texts_none texts new w is h = (
  λ i. absurd (in_empty h (subst (λ (l : List Spot). In h l) is i)),
  λ s. let lt = s.0 in absurd (omega arith),
)
