-- One walk, by the first edge from each node.
use Rattle.std.proofs.Common.{◌≡◌, ℕ, ◌+◌, ◌-◌, ◌<◌, ◌≤◌, ⊎_elim, List, [], ◌∷◌, ◌++◌, length, Option, Some, slice_get, refl, sym, ap, ◌∙◌, subst, arith}
use Rattle.std.proofs.lemmas.Option.{slice_get_within}
use Rattle.std.proofs.lemmas.Bool.{cases_lt}
use Rattle.fill_arena.specs.WellMade.{Path}
use Rattle.fill_arena.specs.declared.entry.Edge.{Edge}
use Rattle.fill_doubt.specs.Walks.{Reads}
use Rattle.fill_doubt.proofs.Spelling.{AreFine, reads_append, reads_edge}

-- the text is spelled to the node, and no edge so far leads on from it
pub record IsWalked (G : Edge → Option (List ℕ) → Type 0) (edges : List Edge) (nodes at : ℕ) (text : List ℕ) (i : ℕ) : Type 0 where
  pub spelled : Reads G edges 0 at (Some text)
  pub within : at < nodes
  pub passed : (k : ℕ) (f : Edge) → k < i → slice_get edges k ≡ Some f → f.from ≡ at → ⊥

pub walked_start : (G : Edge → Option (List ℕ) → Type 0) (edges : List Edge) (nodes : ℕ) (text : List ℕ) → 0 < nodes → text ≡ [] → IsWalked G edges nodes 0 text 0
walked_start G edges nodes text h e = record { spelled = ([], (refl, ap Some e)); within = h; passed = λ k f l g q. omega arith }

module _ (G : Edge → Option (List ℕ) → Type 0) (edges : List Edge) (nodes at : ℕ) (text : List ℕ) (i : ℕ) (fine : AreFine G nodes edges) (s : IsWalked G edges nodes at text i) where
  pub walked_more : (e : Edge) (t : List ℕ) → slice_get edges i ≡ Some e → G e (Some t) → e.from ≡ at → IsWalked G edges nodes e.to (text ++ t) (i + 1)
  walked_more e t h j from =
      let rises = fine.onward i e h in
      record {
        spelled = reads_append G edges 0 at e.to (Some text) (Some t) s.spelled (subst (λ k. Reads G edges k e.to (Some t)) from (reads_edge G edges e (Some t) (i, h) j));
        within = fine.within i e h;
        passed = λ k f l g q. let back = fine.ordered i k e f h g (sym q) in omega arith;
      }

  pub walked_skip : (e : Edge) → slice_get edges i ≡ Some e → (e.from ≡ at → ⊥) → IsWalked G edges nodes at text (i + 1)
  walked_skip e h n =
      record {
        spelled = s.spelled;
        within = s.within;
        passed = λ k f l g q.
            ⊎_elim (λ lt. s.passed k f lt g q)
            (λ ge. let same : k ≡ i = omega arith in
            let both : Some e ≡ Some f = sym h ∙ (rw same at g) in
            let ef : f ≡ e = cc in
            n (subst (λ (v : Edge). v.from ≡ at) ef q))
            (cases_lt k i);
      }

  pub walked_end : length edges ≤ i → Reads G edges 0 (nodes - 1) (Some text)
  walked_end h = go (fine.to_last at s.within).0 (fine.to_last at s.within).1
    where
      go : (p : List Edge) → Path edges at p (nodes - 1) → Reads G edges 0 (nodes - 1) (Some text)
      go [] e = subst (λ k. Reads G edges 0 k (Some text)) e s.spelled
      go (e ∷ p) q = let w = slice_get_within edges q.0.0 e q.0.1 in absurd (s.passed q.0.0 e (omega arith) q.0.1 q.1)
