-- The best rests of programs, one edge after the other from the back.
use Rattle.std.proofs.Common.{◌≡◌, ◌≢◌, ◌⊎◌, ◌↔◌, ℕ, ◌+◌, ◌-◌, ◌<◌, List, [], ◌∷◌, ◌++◌, length, Option, Some, None, slice_get, inl, inr, refl, ap, sym, subst, ◌∙◌, arith}
use Rattle.std.specs.declared.cmp.Ordering.{Ordering}
use Rattle.std.specs.declared.cmp.Ordering.TheVariants.{Less}
use Rattle.std.specs.Ordering.{ordering_reverse}
use Rattle.std.proofs.lemmas.Bool.{cases_eq}
use Rattle.fill_tree.specs.Chosen.{IsLeast}
use Rattle.fill_tree.specs.Cost.{atom_cost, program_cost}
use Rattle.fill_tree.specs.Meaning.{atom_tree, program_tree}
use Rattle.fill_tree.specs.Order.{atoms_cmp, program_cmp, atom_rank, chain_rank}
use Rattle.fill_tree.specs.Tree.{AtomTree, Atoms, end, more}
use Rattle.fill_tree.specs.declared.tree.Atom.{Atom}
use Rattle.fill_tree.proofs.ProgramOrder.{program_antisymm}
use Rattle.fill_arena.specs.Stands.{AtomStands, ProgramStands, Walks}
use Rattle.fill_arena.specs.WellMade.{IsFirstEdge}
use Rattle.fill_arena.specs.declared.entry.Edge.{Edge}
use Rattle.fill_arena.specs.declared.entry.Entry.{Entry}
use Rattle.fill_arena.proofs.Edges.{in_rest, no_walk, onward, walks_back, walks_more}
use Rattle.fill_arena.proofs.Lists.{get_pushed}
use Rattle.fill_text.specs.Orders.{AtMost}
use Rattle.fill_tokens.specs.declared.prices.Prices.{Prices}
use Rattle.fill_arena.specs.Best.{IsBest, IsLesser}
use Rattle.fill_rank.specs.Sets.{AreBestRests, IsBestChain, IsPut, link_cost}
use Rattle.fill_rank.specs.LowerBounds.{IsBeaten, IsLowerBound}
use Rattle.fill_tree.specs.declared.chain.Chain.{Chain}
use Rattle.fill_rank.proofs.Best.{chains_lesser}
use Rattle.fill_rank.proofs.Put.{Starts, as_link, best_put}
use Rattle.fill_rank.proofs.LowerBounds.{at_most_cost, cheaper_first}

same_chain : (cost : Atoms → ℕ) (P S : Atoms → Type 0) → ((p : Atoms) → S p → P p) → ((p : Atoms) → P p → S p) → (o : Option Chain) → IsBestChain cost P o → IsBestChain cost S o
same_chain cost P S to from None h = λ p s. h p (to p s)
same_chain cost P S to from (Some x) h = (h.0, record { has = from (program_tree x.atoms) h.1.has; least = λ p s. h.1.least p (to p s) })

module _ (prices : Prices) (c : List Entry) (e : Edge) (rest : List Edge) (last : ℕ) where
  module _ (first : IsFirstEdge e rest) where
    Along : Atoms → Type 0
    Along = Starts (AtomStands c e.atoms) (λ q. Walks q c rest last e.to)

    walk_splits : (p : Atoms) → Walks p c (e ∷ rest) last e.from → Walks p c rest last e.from ⊎ Starts (AtomStands c e.atoms) (λ q. Walks q c rest last e.to) p
    walk_splits end h = inl h
    walk_splits (more a q) h = elim (in_rest c e rest last h.1.0 h.0 h.1.1) [
      | inl same ↦
          let stands = subst (λ f. AtomStands c f.atoms a) (sym same) h.2.1 in
          let walk = subst (λ f. Walks q c (e ∷ rest) last f.to) (sym same) h.2.2 in
          inr (stands, walks_back c e rest last first q e.to (onward c e rest last first) walk)
      | inr there ↦ inl (h.0, there, (h.2.0, h.2.1, walks_back c e rest last first q h.0.to (first.never_back h.0 there) h.2.2))
    ]

    walk_along : (p : Atoms) → Starts (AtomStands c e.atoms) (λ q. Walks q c rest last e.to) p → Walks p c (e ∷ rest) last e.from
    walk_along end h = absurd h
    walk_along (more a q) h = (e, (0, refl), (refl, h.0, walks_more c e rest last q e.to h.1))

    pub edge_step : (old new : List (Option Chain)) (before next along made : Option Chain) (a : Atom) →
        AreBestRests prices c rest last old → slice_get old e.from ≡ Some before → slice_get old e.to ≡ Some next →
        IsBest (atom_rank prices) (AtomStands c e.atoms) (atom_tree a) → IsPut (link_cost prices) (Some a) next along → IsLesser chain_rank before along made →
        slice_get new e.from ≡ Some made → ((n : ℕ) → n ≢ e.from → slice_get new n ≡ slice_get old n) → AreBestRests prices c (e ∷ rest) last new
    edge_step old new before next along made a are at to best put lesser here others = record {
      each = λ n o there. elim (cases_eq n e.from) [
        | inl same ↦
            let moved : slice_get new e.from ≡ Some o = subst (λ m. slice_get new m ≡ Some o) same there in
            let one : made ≡ o = cc in
            let adds : (b : AtomTree) (p : Atoms) → program_cost prices (more b p) ≡ link_cost prices b + program_cost prices p = λ b p. refl in
            let onto = best_put (link_cost prices) (program_cost prices) adds (AtomStands c e.atoms) (λ q. Walks q c rest last e.to) (Some a) next along put
            (as_link prices (AtomStands c e.atoms) (Some a) best) (are.each e.to next to) in
            let result = chains_lesser (program_cost prices) (λ p. Walks p c rest last e.from) (Starts (AtomStands c e.atoms) (λ q. Walks q c rest last e.to)) (λ p. Walks p c (e ∷ rest) last e.from)
            walk_splits (λ p h. walks_more c e rest last p e.from h) walk_along before along made lesser (are.each e.from before at) onto in
            subst (λ m. IsBestChain (program_cost prices) (λ p. Walks p c (e ∷ rest) last m) o) (sym same)
            (subst (IsBestChain (program_cost prices) (λ p. Walks p c (e ∷ rest) last e.from)) one result)
        | inr apart ↦
            same_chain (program_cost prices) (λ p. Walks p c rest last n) (λ p. Walks p c (e ∷ rest) last n) (λ p h. walks_back c e rest last first p n apart h) (λ p h. walks_more c e rest last p n h) o
            (are.each n o (sym (others n apart) ∙ there))
      ];
    }

    -- an edge along which all costs more than the best so far
    pub edge_beaten : (old : List (Option Chain)) (before next : Option Chain) (bound : ℕ) → AreBestRests prices c rest last old → slice_get old e.from ≡ Some before → slice_get old e.to ≡ Some next →
        IsLowerBound (atom_cost prices) (AtomStands c e.atoms) bound → IsBeaten prices before bound next → AreBestRests prices c (e ∷ rest) last old
    edge_beaten old before next bound are at to low beaten = record {
      each = λ n o there. elim (cases_eq n e.from) [
        | inl same ↦
            let moved : slice_get old e.from ≡ Some o = subst (λ m. slice_get old m ≡ Some o) same there in
            let one : before ≡ o = cc in
            let best = subst (IsBestChain (program_cost prices) (λ p. Walks p c rest last e.from)) beaten.2 (are.each e.from before at) in
            let tail = subst (IsBestChain (program_cost prices) (λ p. Walks p c rest last e.to)) beaten.3 (are.each e.to next to) in
            subst (λ m. IsBestChain (program_cost prices) (λ p. Walks p c (e ∷ rest) last m) o) (sym same)
            (subst (IsBestChain (program_cost prices) (λ p. Walks p c (e ∷ rest) last e.from)) (sym beaten.2 ∙ one) (stays beaten.0 beaten.1 best tail beaten.4))
        | inr apart ↦
            same_chain (program_cost prices) (λ p. Walks p c rest last n) (λ p. Walks p c (e ∷ rest) last n) (λ p h. walks_back c e rest last first p n apart h) (λ p h. walks_more c e rest last p n h) o
            (are.each n o there)
      ];
    }
      where
        stays : (b x : Chain) → IsBestChain (program_cost prices) (λ p. Walks p c rest last e.from) (Some b) → IsBestChain (program_cost prices) (λ p. Walks p c rest last e.to) (Some x) →
            b.cost < prices.atom + bound + x.cost → IsBestChain (program_cost prices) (λ p. Walks p c (e ∷ rest) last e.from) (Some b)
        stays b x best tail lt = (
          best.0,
          record {
            has = walks_more c e rest last (program_tree b.atoms) e.from best.1.has;
            least = λ p h. elim (walk_splits p h) [ inl before ↦ best.1.least p before | inr starts ↦ later p starts ];
          },
        )
          where
            later : (p : Atoms) → Starts (AtomStands c e.atoms) (λ q. Walks q c rest last e.to) p → AtMost (program_cmp prices (program_tree b.atoms) p)
            later end s = absurd s
            later (more a q) s =
                let head = low a s.0 in
                let rests = at_most_cost (program_cost prices) atoms_cmp (program_tree x.atoms) q (tail.1.least q s.1) in
                let own = best.0 in
                let other = tail.0 in
                cheaper_first (program_cost prices) atoms_cmp (program_tree b.atoms) (more a q) (omega arith)

-- without edges
pub rests_start : (prices : Prices) (c : List Entry) (xs : List (Option Chain)) (x : Chain) → ((n : ℕ) (o : Option Chain) → slice_get xs n ≡ Some o → o ≡ None) →
    x.cost ≡ 0 → program_tree x.atoms ≡ end → AreBestRests prices c [] (length xs) (xs ++ Some x ∷ [])
rests_start prices c xs x none cost tree = record {
  each = λ n o there. elim (get_pushed xs (Some x) n o there) [
    | inl a ↦ subst (IsBestChain (program_cost prices) (λ p. Walks p c [] (length xs) n)) (sym (none n o a.1)) (nothing n a.0)
    | inr b ↦ subst (IsBestChain (program_cost prices) (λ p. Walks p c [] (length xs) n)) b.1 (carried n b.0, subst (IsBest (program_cmp prices) (λ p. Walks p c [] (length xs) n)) (sym tree) (here n b.0))
  ];
}
  where
    nothing : (n : ℕ) → n < length xs → (p : Atoms) → ¬ (Walks p c [] (length xs) n)
    nothing n lt end h = absurd (omega arith)
    nothing n lt (more a q) h = no_walk c a q (length xs) n h

    carried : (n : ℕ) → n ≡ length xs → x.cost ≡ program_cost prices (program_tree x.atoms)
    carried n e = cost ∙ ap (program_cost prices) (sym tree)

    here : (n : ℕ) → n ≡ length xs → IsBest (program_cmp prices) (λ p. Walks p c [] (length xs) n) end
    here n e = record { has = e; least = least }
      where
        least : (p : Atoms) → Walks p c [] (length xs) n → AtMost (program_cmp prices end p)
        least end h = inr refl
        least (more a q) h = absurd (no_walk c a q (length xs) n h)

-- the whole graph
reversed_less : (o q : Ordering) → q ≡ ordering_reverse o → AtMost o → ¬ (q ≡ Less)
reversed_less o q e (inl h) less = cc
reversed_less o q e (inr h) less = cc

pub least_stands : (prices : Prices) (c : List Entry) (g nodes : ℕ) (edges : List Edge) (x : Chain) → ((p : Atoms) → ProgramStands c g p ↔ Walks p c edges (nodes - 1) 0) →
    IsBestChain (program_cost prices) (λ p. Walks p c edges (nodes - 1) 0) (Some x) → IsLeast prices (ProgramStands c g) (program_tree x.atoms)
least_stands prices c g nodes edges x same best = record {
  has = (same (program_tree x.atoms)).1 best.1.has;
  least = λ q h. reversed_less (program_cmp prices (program_tree x.atoms) q) (program_cmp prices q (program_tree x.atoms)) (program_antisymm prices q (program_tree x.atoms)) (best.1.least q ((same q).0 h));
}
