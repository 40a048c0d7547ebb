-- The first rests of programs, one edge after the other from the back.
use Rattle.std.proofs.Common.{◌≡◌, ◌≢◌, ◌⊎◌, ◌↔◌, ℕ, ◌+◌, ◌-◌, ◌<◌, ◌≤◌, ◌^◌, List, [], ◌∷◌, ◌++◌, length, map, Some, slice_get, Vec, Global, inl, inr, refl, ap, sym, subst, ◌∙◌, arith}
use Rattle.std.specs.Prelude.{Contains}
use Rattle.std.specs.Ordering.{nat_cmp, ordering_then}
use Rattle.std.proofs.lemmas.Bool.{cases_eq}
use Rattle.fill_tokens.specs.declared.prices.Prices.{Prices}
use Rattle.fill_tree.specs.Cost.{atom_cost, program_cost}
use Rattle.fill_tree.specs.Order.{atom_cmp, atoms_cmp, program_cmp}
use Rattle.fill_tree.specs.Tree.{AtomTree, Atoms, end, more}
use Rattle.fill_tree.proofs.TreeOrder.{atom_total, atoms_total, exact_atom_lists}
use Rattle.fill_arena.specs.Stands.{AtomStands, ProgramStands, Walks, WalksAreCheap}
use Rattle.fill_arena.specs.declared.entry.Edge.{Edge}
use Rattle.fill_arena.specs.declared.entry.Entry.{Entry}
use Rattle.fill_arena.proofs.Edges.{in_rest, no_walk, onward, walks_back, walks_more}
use Rattle.fill_arena.proofs.Lists.{get_pushed}
use Rattle.fill_arena.specs.WellMade.{IsFirstEdge}
use Rattle.fill_best.specs.Cheapest.{Priced, AreCheapest}
use Rattle.fill_best.specs.Costs.{by_cost, linked}
use Rattle.fill_best.specs.First.{AreFirst, IsMade}
use Rattle.fill_best.specs.Rests.{AreFirstRests}
use Rattle.fill_best.specs.declared.costed.Costed.{Costed}
use Rattle.fill_best.proofs.Firsts.{first_seen}
use Rattle.fill_best.proofs.Takes.{cheapest_none, cheapest_one, cheapest_same, first_of_made, made_cheap, takes_after}

abbrev pub free : Atoms → Costed Atoms
free p = record { cost = 0; item = p }

module _ (prices : Prices) (c : List Entry) (e : Edge) (rest : List Edge) (last : ℕ) where
  -- what the edge leads to: one of its atoms and then a walk from where it ends
  abbrev Along : Atoms → Type 0
  Along = IsMade more (AtomStands c e.atoms) (λ q. Walks q c rest last e.to)

  walk_along : (p : Atoms) → Along p → Walks p c (e ∷ rest) last e.from
  walk_along p h = subst (λ q. Walks q c (e ∷ rest) last e.from) h.4 (e, (0, refl), (refl, h.2, walks_more c e rest last h.1 e.to h.3))

  adds : (a : AtomTree) (q : Atoms) → AtomStands c e.atoms a → Walks q c rest last e.to → program_cost prices (more a q) ≡ prices.atom + atom_cost prices a + program_cost prices q
  adds a q h w = omega arith

  module _ (k : ℕ) (xs : List (Costed AtomTree)) (ys : List (Costed Atoms)) (firsts : AreCheapest (atom_cost prices) atom_cmp (AtomStands c e.atoms) k xs)
      (seconds : AreCheapest (program_cost prices) atoms_cmp (λ q. Walks q c rest last e.to) k ys) where
    pub edge_cheap : WalksAreCheap prices c (e ∷ rest) last → (x : Costed AtomTree) (y : Costed Atoms) → Contains xs x → Contains ys y → prices.atom + x.cost + y.cost < 2 ^ 64
    edge_cheap cheap = made_cheap atom_cmp atoms_cmp atoms_cmp (atom_total, atoms_total, atoms_total) exact_atom_lists more (λ a b p q. refl) prices.atom (atom_cost prices) (program_cost prices) (program_cost prices)
        (AtomStands c e.atoms) (λ q. Walks q c rest last e.to) Along (λ a q h w. (a, q, h, w, refl)) (λ p h. h) adds k xs ys firsts seconds
        (λ p h. cheap p e.from (walk_along p h))

    module _ (first : IsFirstEdge e rest) where
      walk_splits : (p : Atoms) → Walks p c (e ∷ rest) last e.from → Walks p c rest last e.from ⊎ Along p
      walk_splits end h = inl h
      walk_splits (more a q) h = elim (in_rest c e rest last h.1.0 h.0 h.1.1) [
        | inl same ↦
            let stands = subst (λ f. AtomStands c f.atoms a) (sym same) h.2.1 in
            let walk = subst (λ f. Walks q c (e ∷ rest) last f.to) (sym same) h.2.2 in
            inr (a, q, stands, walks_back c e rest last first q e.to (onward c e rest last first) walk, refl)
        | inr there ↦ inl (h.0, there, (h.2.0, h.2.1, walks_back c e rest last first q h.0.to (first.never_back h.0 there) h.2.2))
      ]

      edge_first : (old new : List (Costed Atoms)) → AreCheapest (program_cost prices) atoms_cmp (λ p. Walks p c rest last e.from) k old →
          AreFirst (by_cost atoms_cmp) (λ z. Contains old z ⊎ IsMade (linked more prices.atom) (Contains xs) (Contains ys) z) k new →
          AreCheapest (program_cost prices) atoms_cmp (λ p. Walks p c (e ∷ rest) last e.from) k new
      edge_first old new before made =
          let along =
          first_of_made atom_cmp atoms_cmp atoms_cmp (atom_total, atoms_total, atoms_total) exact_atom_lists more (λ a b p q. refl) prices.atom (atom_cost prices) (program_cost prices) (program_cost prices)
          (AtomStands c e.atoms) (λ q. Walks q c rest last e.to) Along (λ a q h w. (a, q, h, w, refl)) (λ p h. h) adds k xs ys firsts seconds (Contains old) new made in
          takes_after (program_cost prices) atoms_cmp atoms_total exact_atom_lists k (λ p. Walks p c rest last e.from) Along (λ p. Walks p c (e ∷ rest) last e.from) old new
          (λ p h. walks_more c e rest last p e.from h) walk_along walk_splits before along

      pub edge_step : (old new : List (Vec (Costed Atoms) Global)) (before made : Vec (Costed Atoms) Global) → AreFirstRests prices c rest last k old → slice_get old e.from ≡ Some before →
          AreFirst (by_cost atoms_cmp) (λ z. Contains before.items z ⊎ IsMade (linked more prices.atom) (Contains xs) (Contains ys) z) k made.items →
          slice_get new e.from ≡ Some made → ((n : ℕ) → n ≢ e.from → slice_get new n ≡ slice_get old n) → AreFirstRests prices c (e ∷ rest) last k new
      edge_step old new before made are at joined here others = record {
        each = λ n o there. elim (cases_eq n e.from) [
          | inl same ↦
              let moved : slice_get new e.from ≡ Some o = subst (λ m. slice_get new m ≡ Some o) same there in
              let one : made ≡ o = cc in
              let result = edge_first before.items made.items (are.each e.from before at) joined in
              subst (λ m. AreCheapest (program_cost prices) atoms_cmp (λ p. Walks p c (e ∷ rest) last m) k o.items) (sym same)
              (subst (λ (v : Vec (Costed Atoms) Global). AreCheapest (program_cost prices) atoms_cmp (λ p. Walks p c (e ∷ rest) last e.from) k v.items) one result)
          | inr apart ↦
              cheapest_same (program_cost prices) atoms_cmp atoms_total exact_atom_lists k (λ p. Walks p c rest last n) (λ p. Walks p c (e ∷ rest) last n) o.items
              (λ p h. walks_more c e rest last p n h) (λ p h. walks_back c e rest last first p n apart h) (are.each n o (sym (others n apart) ∙ there))
        ];
      }

-- without edges
pub rests_start : (prices : Prices) (c : List Entry) (k : ℕ) (xs : List (Vec (Costed Atoms) Global)) (x : Vec (Costed Atoms) Global) → 1 ≤ k →
    ((n : ℕ) (o : Vec (Costed Atoms) Global) → slice_get xs n ≡ Some o → o.items ≡ []) → x.items ≡ free end ∷ [] → AreFirstRests prices c [] (length xs) k (xs ++ x ∷ [])
rests_start prices c k xs x some none is = record {
  each = λ n o there. elim (get_pushed xs x n o there) [
    | inl a ↦ subst (AreCheapest (program_cost prices) atoms_cmp (λ p. Walks p c [] (length xs) n) k) (sym (none n o a.1))
        (cheapest_none (program_cost prices) atoms_cmp atoms_total exact_atom_lists k (λ p. Walks p c [] (length xs) n) (nothing n a.0))
    | inr b ↦ subst (λ (v : Vec (Costed Atoms) Global). AreCheapest (program_cost prices) atoms_cmp (λ p. Walks p c [] (length xs) n) k v.items) b.1
        (subst (AreCheapest (program_cost prices) atoms_cmp (λ p. Walks p c [] (length xs) n) k) (sym is)
        (cheapest_one (program_cost prices) atoms_cmp atoms_total exact_atom_lists k (λ p. Walks p c [] (length xs) n) end 0 some refl b.0 (only n)))
  ];
}
  where
    nothing : (n : ℕ) → n < length xs → (p : Atoms) → ¬ (Walks p c [] (length xs) n)
    nothing n lt end h = absurd (omega arith)
    nothing n lt (more a q) h = no_walk c a q (length xs) n h

    only : (n : ℕ) (p : Atoms) → Walks p c [] (length xs) n → end ≡ p
    only n end h = refl
    only n (more a q) h = absurd (no_walk c a q (length xs) n h)

-- the whole graph
same_order : (prices : Prices) (x y : Costed Atoms) → x.cost ≡ program_cost prices x.item → y.cost ≡ program_cost prices y.item → by_cost atoms_cmp x y ≡ program_cmp prices x.item y.item
same_order prices x y p q = ap (λ n. ordering_then (nat_cmp n y.cost) (atoms_cmp x.item y.item)) p ∙ ap (λ n. ordering_then (nat_cmp (program_cost prices x.item) n) (atoms_cmp x.item y.item)) q

pub first_stand : (prices : Prices) (c : List Entry) (g nodes k : ℕ) (edges : List Edge) (xs : List (Costed Atoms)) → ((p : Atoms) → ProgramStands c g p ↔ Walks p c edges (nodes - 1) 0) →
    AreCheapest (program_cost prices) atoms_cmp (λ p. Walks p c edges (nodes - 1) 0) k xs → AreFirst (program_cmp prices) (ProgramStands c g) k (map (λ x. x.item) xs)
first_stand prices c g nodes k edges xs same first =
    first_seen (by_cost atoms_cmp) (program_cmp prices) (λ x. x.item) (Priced (program_cost prices) (λ p. Walks p c edges (nodes - 1) 0)) (ProgramStands c g)
    (λ x p. (same x.item).1 p.1)
    (λ p h. (record { cost = program_cost prices p; item = p }, (refl, (same p).0 h), refl))
    (λ x y p q less. sym (same_order prices x y p.0 q.0) ∙ less) k xs first
