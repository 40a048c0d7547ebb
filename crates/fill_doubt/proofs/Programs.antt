-- What walks spell is what the programs of a graph answer.
use Rattle.std.proofs.Common.{◌≡◌, ◌↔◌, ℕ, ◌-◌, List, [], ◌∷◌, Option, Some, refl, sym, subst}
use Rattle.fill_text.specs.Data.{SheetData, TableData}
use Rattle.fill_tables.specs.Keys.{KeysDistinguish}
use Rattle.fill_tree.specs.Tree.{Atoms, end, more}
use Rattle.fill_tree.specs.Value.{IsValue, AtomIs, ProgramIs}
use Rattle.fill_arena.specs.Stands.{ProgramStands, Walks}
use Rattle.fill_arena.specs.WellMade.{IsWellMade, IsSortedGraph}
use Rattle.fill_arena.specs.declared.entry.Edge.{Edge}
use Rattle.fill_arena.specs.declared.entry.Entry.{Entry}
use Rattle.fill_eval.proofs.Values.{some_is}
use Rattle.fill_doubt.specs.Gives.{AtomGives, ProgramGives, Differ}
use Rattle.fill_doubt.specs.Walks.{joined, Spells, Reads, Differs}
use Rattle.fill_doubt.proofs.Answered.{answer_one, joined_is, atom_answer}
use Rattle.fill_doubt.proofs.Filled.{atom_stands}
use Rattle.fill_doubt.proofs.Spelling.{AreFine}

module _ (c : List Entry) (sheet : SheetData) (tables : List TableData) (distinguish : KeysDistinguish tables) (row : ℕ) where
  -- the answers of an edge's atoms
  abbrev pub Edges : Edge → Option (List ℕ) → Type 0
  Edges e o = AtomGives c sheet tables row e.atoms o

  module _ (edges : List Edge) (last : ℕ) where
    spelled : (walk : List Edge) (at : ℕ) (o : Option (List ℕ)) → Spells Edges edges walk at last o → (p : Atoms) × Walks p c edges last at × IsValue (ProgramIs sheet tables row p) o
    spelled [] at o h = (end, h.0, subst (λ q. IsValue (λ v. v ≡ []) q) (sym h.1) (some_is (λ v. v ≡ []) [] refl (λ v e. sym e)))
    spelled (e ∷ walk) at o h =
        let a = h.2.2.0 in
        let rest = spelled walk e.to h.2.1 h.2.3 in (
          more a rest.0,
          (e, h.0, (h.1, h.2.2.1, rest.1)),
          subst (λ q. IsValue (ProgramIs sheet tables row (more a rest.0)) q) (sym h.2.4) (joined_is (AtomIs sheet tables row a) (ProgramIs sheet tables row rest.0) h.2.0 h.2.1 h.2.2.2 rest.2),
        )

    walked : (p : Atoms) (at : ℕ) → Walks p c edges last at → (o : Option (List ℕ)) × IsValue (ProgramIs sheet tables row p) o × Reads Edges edges at last o
    walked end at h = (Some [], some_is (λ v. v ≡ []) [] refl (λ v e. sym e), ([], (h, refl)))
    walked (more a p) at h =
        let e = h.0 in
        let first = atom_answer sheet tables distinguish row a in
        let rest = walked p e.to h.2.2 in (
          joined first.0 rest.0,
          joined_is (AtomIs sheet tables row a) (ProgramIs sheet tables row p) first.0 rest.0 first.1 rest.1,
          (e ∷ rest.2.0, (h.1, h.2.0, (first.0, rest.0, (a, h.2.1, first.1), rest.2.1, refl))),
        )

  module _ (g nodes : ℕ) (edges : List Edge) (same : (p : Atoms) → ProgramStands c g p ↔ Walks p c edges (nodes - 1) 0) where
    pub reads_gives : (o : Option (List ℕ)) → Reads Edges edges 0 (nodes - 1) o → ProgramGives c sheet tables row g o
    reads_gives o r = let p = spelled edges (nodes - 1) r.0 0 o r.1 in (p.0, (same p.0).1 p.1, p.2)

    pub gives_reads : (o : Option (List ℕ)) → ProgramGives c sheet tables row g o → Reads Edges edges 0 (nodes - 1) o
    gives_reads o h =
        let w = walked edges (nodes - 1) h.0 0 ((same h.0).0 h.1) in
        subst (λ q. Reads Edges edges 0 (nodes - 1) q) (answer_one (ProgramIs sheet tables row h.0) w.0 o w.1 h.2) w.2

    pub differ_differs : Differs Edges edges (nodes - 1) ↔ Differ c sheet tables row g
    differ_differs = (
      (λ d. (d.0, d.1, reads_gives d.0 d.2, reads_gives d.1 d.3, d.4)),
      (λ d. (d.0, d.1, gives_reads d.0 d.2, gives_reads d.1 d.3, d.4)),
    )

  -- a graph's edges are fine
  pub edges_fine : (n nodes : ℕ) (edges : List Edge) → IsWellMade c → IsSortedGraph c n nodes edges → AreFine Edges nodes edges
  edges_fine n nodes edges made is = record {
    some = is.graph.some;
    onward = λ k e h. (is.graph.each k e h).onward;
    within = λ k e h. (is.graph.each k e h).within;
    answers = λ k e h.
        let a = atom_stands c made e.atoms (is.graph.each k e h).atoms.0 in
        let o = atom_answer sheet tables distinguish row a.0 in
        (o.0, (a.0, a.1, o.1));
    from_first = is.graph.from_first;
    to_last = is.graph.to_last;
    ordered = is.topological;
  }
