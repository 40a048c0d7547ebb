-- The first literal, or the first two, whose sets of rows outside have no row in common.
use Rattle.std.specs.Prelude.{◌≡◌, ◌≢◌, ℕ, ◌<◌, List, [], length, slice_get, Some, bit_and}
use Rattle.fill_text.specs.Data.{SheetData}
use Rattle.fill_tree.specs.Separate.{IsLiteral}
use Rattle.fill_tree.specs.declared.guard.Literal.{Literal}
use Rattle.fill_tree.specs.declared.guard.Guard.{Guard}
use Rattle.fill_tree.specs.declared.user.Settings.{Settings}
use Rattle.fill_guard.specs.Candidate.{AreMore}
use Rattle.fill_guard.specs.declared.candidates.Candidate.{Candidate}

-- the literals that are kept of all of the grammar
abbrev pub AreCandidates : Settings → SheetData → List ℕ → List ℕ → List Candidate → Type 0
AreCandidates settings sheet inside outside ks = AreMore sheet inside outside (IsLiteral settings sheet) [] ks

-- none of the first m literals alone holds on no row outside
abbrev pub NoneAlone : List Candidate → ℕ → Type 0
NoneAlone ks m = (i : ℕ) (k : Candidate) → i < m → slice_get ks i ≡ Some k → k.outside ≢ 0

-- the first literal that does
abbrev pub IsFirstAlone : List Candidate → Literal → Type 0
IsFirstAlone ks l = (i : ℕ) × (k : Candidate) × (slice_get ks i ≡ Some k) × (k.outside ≡ 0) × (k.literal ≡ l) × NoneAlone ks i

-- the two literals at these places hold together on no row outside
pub record AreApart (ks : List Candidate) (i j : ℕ) : Type 0 where
  pub first : Candidate
  pub second : Candidate
  pub at_first : slice_get ks i ≡ Some first
  pub at_second : slice_get ks j ≡ Some second
  pub apart : bit_and first.outside second.outside ≡ 0

-- the literal at the place is apart from none of the later ones below m
abbrev pub NonePartner : List Candidate → ℕ → ℕ → Type 0
NonePartner ks i m = (j : ℕ) → i < j → j < m → AreApart ks i j → ⊥

-- the first of the later ones that it is apart from
abbrev pub IsPartner : List Candidate → ℕ → ℕ → Type 0
IsPartner ks i j = (i < j) × AreApart ks i j × NonePartner ks i j

-- none of the first m literals is apart from a later one
abbrev pub NonePair : List Candidate → ℕ → Type 0
NonePair ks m = (i : ℕ) → i < m → NonePartner ks i (length ks)

-- the first two that are apart
abbrev pub IsFirstPair : List Candidate → Guard → Type 0
IsFirstPair ks g = (i j : ℕ) × (a b : Candidate) × (i < j) × (slice_get ks i ≡ Some a) × (slice_get ks j ≡ Some b) × (bit_and a.outside b.outside ≡ 0)
    × (g ≡ record { first = a.literal; second = Some b.literal }) × NonePair ks i × NonePartner ks i j
