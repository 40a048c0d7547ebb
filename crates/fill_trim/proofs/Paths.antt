-- Paths and walks.
use Rattle.std.proofs.Common.{◌≡◌, ℕ, ◌⊎◌, inl, inr, List, [], ◌∷◌, refl, sym}
use Rattle.fill_arena.specs.Contents.{In, SomeIn}
use Rattle.fill_arena.specs.WellMade.{Path}
use Rattle.fill_arena.specs.declared.entry.Edge.{Edge}
use Rattle.fill_trim.specs.Trim.{HasWalk}
use Rattle.fill_trim.specs.Marks.{Leads}

module _ (edges : List Edge) where
  pub leads_same : (a b : ℕ) → a ≡ b → Leads edges a b
  leads_same a b e = ([], e)

  -- one more edge before a path, and after it
  pub leads_first : (e : Edge) (b : ℕ) → In e edges → Leads edges e.to b → Leads edges e.from b
  leads_first e b i r = (e ∷ r.0, (i, refl, r.1))

  path_more : (p : List Edge) (a : ℕ) (e : Edge) → In e edges → Path edges a p e.from → Leads edges a e.to
  path_more [] a e i h = (e ∷ [], (i, sym h, refl))
  path_more (x ∷ p) a e i h = let r = path_more p x.to e i h.2 in (x ∷ r.0, (h.0, h.1, r.1))

  pub leads_last : (a : ℕ) (e : Edge) → In e edges → Leads edges a e.from → Leads edges a e.to
  leads_last a e i r = path_more r.0 a e i r.1

  -- one path after another
  path_on : (p : List Edge) (a b c : ℕ) → Path edges a p b → Leads edges b c → Leads edges a c
  path_on [] a b c h r = rw h r
  path_on (x ∷ p) a b c h r = let q = path_on p x.to b c h.2 r in (x ∷ q.0, (h.0, h.1, q.1))

  pub leads_on : (a b c : ℕ) → Leads edges a b → Leads edges b c → Leads edges a c
  leads_on a b c r s = path_on r.0 a b c r.1 s

  -- the last edge of a path, and the first one
  path_end : (p : List Edge) (a b : ℕ) → Path edges a p b → (a ≡ b) ⊎ SomeIn (λ e. (e.to ≡ b) × Leads edges a e.from) edges
  path_end [] a b h = inl h
  path_end (x ∷ p) a b h = elim (path_end p x.to b h.2) [
    | inl same ↦ inr (x, h.0, (same, ([], sym h.1)))
    | inr r ↦ inr (r.0, r.1, (r.2.0, (x ∷ r.2.1.0, (h.0, h.1, r.2.1.1))))
  ]

  pub leads_end : (a b : ℕ) → Leads edges a b → (a ≡ b) ⊎ SomeIn (λ e. (e.to ≡ b) × Leads edges a e.from) edges
  leads_end a b r = path_end r.0 a b r.1

  path_start : (p : List Edge) (a b : ℕ) → Path edges a p b → (a ≡ b) ⊎ SomeIn (λ e. (e.from ≡ a) × Leads edges e.to b) edges
  path_start [] a b h = inl h
  path_start (x ∷ p) a b h = inr (x, h.0, (h.1, (p, h.2)))

  pub leads_start : (a b : ℕ) → Leads edges a b → (a ≡ b) ⊎ SomeIn (λ e. (e.from ≡ a) × Leads edges e.to b) edges
  leads_start a b r = path_start r.0 a b r.1

  -- a walk goes along a path
  pub walk_leads : (sets : List ℕ) (a b : ℕ) → HasWalk sets edges a b → Leads edges a b
  walk_leads [] a b h = ([], h)
  walk_leads (s ∷ rest) a b h = let r = walk_leads rest h.0.to b h.2.2 in (h.0 ∷ r.0, (h.1, h.2.0, r.1))
