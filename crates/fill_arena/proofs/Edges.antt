-- Walks over a graph's edges, from the last edge to the first one.
use Rattle.std.proofs.Common.{◌≡◌, ◌≢◌, ◌⊎◌, ℕ, zero, suc, List, [], ◌∷◌, Some, slice_get, inl, inr, sym, subst, arith}
use Rattle.fill_tokens.specs.declared.prices.Prices.{Prices}
use Rattle.fill_tree.specs.Tree.{AtomTree, Atoms, end, more}
use Rattle.fill_arena.specs.Contents.{In, HasEdges, HasNodes}
use Rattle.fill_arena.specs.Stands.{Walks, WalksAreCheap}
use Rattle.fill_arena.specs.WellMade.{IsFirstEdge}
use Rattle.fill_arena.specs.declared.entry.Edge.{Edge}
use Rattle.fill_arena.specs.declared.entry.Entry.{Entry}
use Rattle.fill_arena.specs.declared.entry.Entry.TheVariants.{Graph}

-- a walk over some of the edges is one over all of them
pub walk_kept : (c : List Entry) (es edges : List Edge) → ((k : ℕ) (f : Edge) → slice_get es k ≡ Some f → (j : ℕ) × (slice_get edges j ≡ Some f)) → (p : Atoms) (last at : ℕ) → Walks p c es last at → Walks p c edges last at
walk_kept c es edges among end last at h = h
walk_kept c es edges among (more a q) last at h = (h.0, among h.1.0 h.0 h.1.1, (h.2.0, h.2.1, walk_kept c es edges among q last h.0.to h.2.2))

pub walks_cheap : (prices : Prices) (c : List Entry) (es edges : List Edge) (last : ℕ) → ((k : ℕ) (f : Edge) → slice_get es k ≡ Some f → (j : ℕ) × (slice_get edges j ≡ Some f)) → WalksAreCheap prices c edges last → WalksAreCheap prices c es last
walks_cheap prices c es edges last among cheap p at h = cheap p at (walk_kept c es edges among p last at h)

pub no_walk : (c : List Entry) (a : AtomTree) (q : Atoms) (last at : ℕ) → ¬ (Walks (more a q) c [] last at)
no_walk c a q last at h = let there = h.1.1 in cc

module _ (c : List Entry) (e : Edge) (rest : List Edge) (last : ℕ) where
  pub in_rest : (k : ℕ) (f : Edge) → slice_get (e ∷ rest) k ≡ Some f → (e ≡ f) ⊎ In f rest
  in_rest zero f h = inl cc
  in_rest (suc k) f h = inr (k, h)

  pub walks_more : (p : Atoms) (at : ℕ) → Walks p c rest last at → Walks p c (e ∷ rest) last at
  walks_more p at h = walk_kept c rest (e ∷ rest) (λ k f there. (suc k, there)) p last at h

  module _ (first : IsFirstEdge e rest) where
    pub walks_back : (p : Atoms) (at : ℕ) → at ≢ e.from → Walks p c (e ∷ rest) last at → Walks p c rest last at
    walks_back end at apart h = h
    walks_back (more a q) at apart h = elim (in_rest h.1.0 h.0 h.1.1) [
      | inl same ↦ absurd (apart (sym (subst (λ f. f.from ≡ at) (sym same) h.2.0)))
      | inr there ↦ (h.0, there, (h.2.0, h.2.1, walks_back q h.0.to (first.never_back h.0 there) h.2.2))
    ]

    pub onward : e.to ≢ e.from
    onward same = let lt = first.onward in absurd (omega arith)

pub the_graph : (c : List Entry) (g nodes : ℕ) (edges : List Edge) → HasNodes c g nodes → HasEdges c g edges → slice_get c g ≡ Some (Graph nodes edges)
the_graph c g nodes edges h k =
    let first = h.1 in
    let second = k.1 in
    let e : k.0 ≡ nodes = cc in
    subst (λ n. slice_get c g ≡ Some (Graph n edges)) e k.1
