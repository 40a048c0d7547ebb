-- Where known texts go together with a text.
use Rattle.std.specs.Prelude.{◌≡◌, ◌↔◌, ◌⊎◌, ℕ, ◌<◌, ◌≤◌, nat_le, List, length, take, drop, Some, slice_get}
use Rattle.std.specs.List.{filter}
use Rattle.fill_arena.specs.Contents.{In}
use Rattle.fill_sources.specs.declared.spots.Spot.{Spot}
use Rattle.fill_build.specs.declared.hits.Hit.{Hit}

abbrev pub spot_of : Hit → Spot
spot_of h = record { text = h.text; at = h.at }

-- both lists begin with the same n items
abbrev pub BeginAlike : List ℕ → List ℕ → ℕ → Type 0
BeginAlike xs ys m = (m ≤ length xs) × (m ≤ length ys) × (take m xs ≡ take m ys)

-- they begin with the same n items, and no more
abbrev pub GoTogether : List ℕ → List ℕ → ℕ → Type 0
GoTogether xs ys n = (m : ℕ) → BeginAlike xs ys m ↔ (m ≤ n)

-- from its place on, the hit's text goes together with the rest for the hit's run
abbrev pub IsRun : List (List ℕ) → List ℕ → Hit → Type 0
IsRun texts rest h = (t : List ℕ) × (slice_get texts h.text ≡ Some t) × GoTogether (drop h.at t) rest h.run

-- exactly the places of texts that go together with the rest for at least n characters
pub record AreHits (texts : List (List ℕ)) (rest : List ℕ) (width : ℕ) (hits : List Hit) : Type 0 where
  pub exact : (h : Hit) → In h hits ↔ (IsRun texts rest h × (width ≤ h.run))

-- the places before n of the text of number k that go together with the rest were put to others
pub record HitsText (k : ℕ) (text rest : List ℕ) (n : ℕ) (old new : List Hit) : Type 0 where
  pub exact : (h : Hit) → In h new ↔ (In h old ⊎ ((h.text ≡ k) × (h.at < n) × GoTogether (drop h.at text) rest h.run × (1 ≤ h.run)))

-- exactly such places of the texts before number k
pub record HitsBelow (texts : List (List ℕ)) (rest : List ℕ) (k : ℕ) (hits : List Hit) : Type 0 where
  pub exact : (h : Hit) → In h hits ↔ ((h.text < k) × IsRun texts rest h × (1 ≤ h.run))

-- those that go together for at least n characters
abbrev pub wide : ℕ → List Hit → List Hit
wide width hits = filter (λ h. nat_le width h.run) hits
