-- The programs on walks, by the sets that the walks have.
use Rattle.std.proofs.Common.{◌↔◌, ℕ, ◌-◌, List, [], ◌∷◌, refl, sym, subst}
use Rattle.fill_tree.specs.Tree.{Atoms, end, more}
use Rattle.fill_arena.specs.Stands.{AtomStands, Walks}
use Rattle.fill_arena.specs.declared.entry.Entry.{Entry}
use Rattle.fill_arena.specs.declared.entry.Edge.{Edge}
use Rattle.fill_trim.specs.Trim.{HasWalk, IsTrimmed}
use Rattle.fill_trim.specs.declared.trim.Trimmed.{Trimmed}

-- each atom stands in its set
abbrev pub Follows : Atoms → List Entry → List ℕ → Type 0
Follows end c [] = Unit {0}
Follows end c (s ∷ rest) = ⊥
Follows (more a q) c [] = ⊥
Follows (more a q) c (s ∷ rest) = AtomStands c s a × Follows q c rest

pub walk_sets : (q : Atoms) (c : List Entry) (edges : List Edge) (last at : ℕ) → Walks q c edges last at → (sets : List ℕ) × HasWalk sets edges at last × Follows q c sets
walk_sets end c edges last at h = ([], h, tt)
walk_sets (more a q) c edges last at h =
    let r = walk_sets q c edges last h.0.to h.2.2 in
    (h.0.atoms ∷ r.0, (h.0, h.1, (h.2.0, refl, r.1)), (h.2.1, r.2))

pub sets_walk : (q : Atoms) (c : List Entry) (edges : List Edge) (last at : ℕ) (sets : List ℕ) → HasWalk sets edges at last → Follows q c sets → Walks q c edges last at
sets_walk end c edges last at [] h f = h
sets_walk end c edges last at (s ∷ rest) h f = absurd f
sets_walk (more a q) c edges last at [] h f = absurd f
sets_walk (more a q) c edges last at (s ∷ rest) h f =
    (h.0, h.1, (h.2.0, subst (λ n. AtomStands c n a) (sym h.2.1) f.0, sets_walk q c edges last h.0.to rest h.2.2 f.1))

pub same_walks : (xs ys : List Edge) (from to at last : ℕ) → ((sets : List ℕ) → HasWalk sets xs from to ↔ HasWalk sets ys at last) → (c : List Entry) (q : Atoms) → Walks q c xs to from ↔ Walks q c ys last at
same_walks xs ys from to at last same c q = (
  λ w. let s = walk_sets q c xs to from w in sets_walk q c ys last at s.0 ((same s.0).0 s.1) s.2,
  λ w. let s = walk_sets q c ys last at w in sets_walk q c xs to from s.0 ((same s.0).1 s.1) s.2,
)

pub trimmed_walks : (nodes : ℕ) (edges : List Edge) (t : Trimmed) → IsTrimmed nodes edges t → (c : List Entry) (q : Atoms) → Walks q c t.edges (t.nodes - 1) 0 ↔ Walks q c edges (nodes - 1) 0
trimmed_walks nodes edges t h c q = same_walks t.edges edges 0 (t.nodes - 1) 0 (nodes - 1) h.same c q
