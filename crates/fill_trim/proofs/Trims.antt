-- What is left where only the nodes on walks stay has the same walks.
use Rattle.std.proofs.Common.{◌≡◌, ◌↔◌, ℕ, suc, ◌-◌, ◌<◌, inl, inr, Bool, List, [], ◌∷◌, length, Some, slice_get, refl, sym, ap, ◌∙◌, subst, arith}
use Rattle.std.proofs.lemmas.Bool.{cases_lt}
use Rattle.std.proofs.lemmas.Option.{slice_get_within}
use Rattle.fill_arena.specs.Contents.{In, EachIn}
use Rattle.fill_arena.specs.WellMade.{Path}
use Rattle.fill_arena.specs.declared.entry.Edge.{Edge}
use Rattle.fill_trim.specs.declared.trim.Trimmed.{Trimmed}
use Rattle.fill_trim.specs.Trim.{HasWalk, AreEdges, IsTrimmed}
use Rattle.fill_trim.specs.Marks.{AreMarks, HasNoWalk, IsMarked, Leads, rank, renumbered, edges_left}
use Rattle.fill_trim.proofs.Paths.{leads_same, leads_first, leads_last, leads_on, walk_leads}
use Rattle.fill_trim.proofs.Ranks.{rank_true, rank_zero, rank_rises, rank_same, rank_onto}
use Rattle.fill_trim.proofs.Left.{place, left_at, left_in, place_rises}

-- a node on a walk from node 0 to the last one
abbrev pub OnWalk : ℕ → List Edge → ℕ → Type 0
OnWalk nodes edges m = Leads edges 0 m × Leads edges m (nodes - 1)

-- the marks that two passes have in common
pub on_walks : (nodes : ℕ) (edges : List Edge) (reached leading marks : List Bool) → AreMarks nodes (Leads edges 0) reached → AreMarks nodes (λ m. Leads edges m (nodes - 1)) leading → length marks ≡ length reached
    → ((m : ℕ) → IsMarked marks m ↔ (IsMarked reached m × IsMarked leading m)) → AreMarks nodes (OnWalk nodes edges) marks
on_walks nodes edges reached leading marks a b long both = record {
  long = long ∙ a.long;
  each = λ m lt. (
    (λ h. let k = (both m).0 h in ((a.each m lt).0 k.0, (b.each m lt).0 k.1)),
    (λ h. (both m).1 ((a.each m lt).1 h.0, (b.each m lt).1 h.1)),
  );
}

pub no_walk : (nodes : ℕ) (edges : List Edge) → ¬ (Leads edges 0 (nodes - 1)) → HasNoWalk nodes edges
no_walk nodes edges none sets h = none (walk_leads edges sets 0 (nodes - 1) h)

module _ (nodes : ℕ) (edges : List Edge) (marks : List Bool) (pos : 0 < nodes) (are : AreEdges nodes edges) (m : AreMarks nodes (OnWalk nodes edges) marks) (whole : Leads edges 0 (nodes - 1)) where
  marked : (n : ℕ) → n < nodes → Leads edges 0 n → Leads edges n (nodes - 1) → IsMarked marks n
  marked n lt a b = (m.each n lt).1 (a, b)

  first_marked : IsMarked marks 0
  first_marked = marked 0 pos (leads_same edges 0 0 refl) whole

  last_marked : IsMarked marks (nodes - 1)
  last_marked = marked (nodes - 1) (omega arith) whole (leads_same edges (nodes - 1) (nodes - 1) refl)

  edge_left : (e : Edge) → In e edges → Leads edges 0 e.from → Leads edges e.to (nodes - 1) → In (renumbered marks e) (edges_left marks edges)
  edge_left e i a b =
      let on = are.onward i.0 e i.1 in
      let lt = on.0 in
      let within = on.1 in
      left_in marks edges i.0 e i.1 (marked e.from (omega arith) a (leads_first edges e (nodes - 1) i b)) (marked e.to within (leads_last edges 0 e i a) b)

  path_left : (p : List Edge) (a b : ℕ) → Path edges a p b → Leads edges 0 a → Leads edges b (nodes - 1) → Leads (edges_left marks edges) (rank marks a) (rank marks b)
  path_left [] a b h x y = leads_same (edges_left marks edges) (rank marks a) (rank marks b) (ap (rank marks) h)
  path_left (e ∷ p) a b h x y =
      let x' = subst (Leads edges 0) (sym h.1) x in
      let k = edge_left e h.0 x' (leads_on edges e.to b (nodes - 1) (p, h.2) y) in
      let q = path_left p e.to b h.2 (leads_last edges 0 e h.0 x') y in
      (renumbered marks e ∷ q.0, (k, ap (rank marks) h.1, q.1))

  path_back : (p : List Edge) (a b n : ℕ) → Path (edges_left marks edges) a p b → IsMarked marks n → rank marks n ≡ a → (last : ℕ) × (old : List Edge) × Path edges n old last × (length old ≡ length p)
  path_back [] a b n h k e = (n, [], refl, refl)
  path_back (x ∷ p) a b n h k e =
      let at = left_at marks edges h.0.0 x h.0.1 in
      let f = at.0 in
      let from : f.from ≡ n = rank_same marks f.from n at.2.from_marked k (sym at.2.from ∙ (h.1 ∙ sym e)) in
      let r = path_back p x.to b f.to h.2 at.2.to_marked (sym at.2.to) in
      (r.0, f ∷ r.1, ((place marks edges h.0.0, at.1), from, r.2), ap suc r.3)

  short : (from to : ℕ) (p : List Edge) → Path (edges_left marks edges) from p to → (first : ℕ) × (last : ℕ) × (old : List Edge) × Path edges first old last × (length old ≡ length p)
  short from to [] h = (0, 0, [], refl, refl)
  short from to (x ∷ p) h =
      let at = left_at marks edges h.0.0 x h.0.1 in
      let r = path_back (x ∷ p) from to at.0.from h at.2.from_marked (sym at.2.from ∙ h.1) in
      (at.0.from, r.0, r.1, r.2, r.3)

  walk_back : (sets : List ℕ) (n : ℕ) → IsMarked marks n → HasWalk sets (edges_left marks edges) (rank marks n) (rank marks (nodes - 1)) → HasWalk sets edges n (nodes - 1)
  walk_back [] n h e = rank_same marks n (nodes - 1) h last_marked e
  walk_back (s ∷ rest) n h e =
      let at = left_at marks edges e.1.0 e.0 e.1.1 in
      let f = at.0 in
      let q = at.2 in
      let from : f.from ≡ n = rank_same marks f.from n q.from_marked h (sym q.from ∙ e.2.0) in
      let set : f.atoms ≡ s = sym q.atoms ∙ e.2.1 in
      let then = subst (λ k. HasWalk rest (edges_left marks edges) k (rank marks (nodes - 1))) q.to e.2.2 in
      (f, (place marks edges e.1.0, at.1), (from, set, walk_back rest f.to q.to_marked then))

  walk_left : (sets : List ℕ) (n : ℕ) → Leads edges 0 n → HasWalk sets edges n (nodes - 1) → HasWalk sets (edges_left marks edges) (rank marks n) (rank marks (nodes - 1))
  walk_left [] n x h = ap (rank marks) h
  walk_left (s ∷ rest) n x h =
      let e = h.0 in
      let x' = subst (Leads edges 0) (sym h.2.0) x in
      let k = edge_left e h.1 x' (walk_leads edges rest e.to (nodes - 1) h.2.2) in
      (renumbered marks e, k, (ap (rank marks) h.2.0, h.2.1, walk_left rest e.to (leads_last edges 0 e h.1 x') h.2.2))

  count_is : rank marks (length marks) ≡ suc (rank marks (nodes - 1))
  count_is =
      let same : length marks ≡ suc (nodes - 1) = (let l = m.long in omega arith) in
      ap (rank marks) same ∙ rank_true marks (nodes - 1) last_marked

  last_is : rank marks (length marks) - 1 ≡ rank marks (nodes - 1)
  last_is = let e = count_is in omega arith

  onward : EachIn (λ e. (e.from < e.to) × (e.to < rank marks (length marks))) (edges_left marks edges)
  onward k e h =
      let at = left_at marks edges k e h in
      let on = are.onward (place marks edges k) at.0 at.1 in
      let a = rank_rises marks at.0.from at.0.to on.0 at.2.from_marked in
      let within : at.0.to < length marks = (let l = m.long in let w = on.1 in omega arith) in
      let b = rank_rises marks at.0.to (length marks) within at.2.to_marked in
      let from = at.2.from in
      let to = at.2.to in
      (omega arith, omega arith)

  ordered : (j k : ℕ) (e f : Edge) → slice_get (edges_left marks edges) j ≡ Some e → slice_get (edges_left marks edges) k ≡ Some f → e.to ≡ f.from → j < k
  ordered j k e f a b same =
      let x = left_at marks edges j e a in
      let y = left_at marks edges k f b in
      let meet : x.0.to ≡ y.0.from = rank_same marks x.0.to y.0.from x.2.to_marked y.2.from_marked (sym x.2.to ∙ (same ∙ y.2.from)) in
      let lt = are.ordered (place marks edges j) (place marks edges k) x.0 y.0 x.1 y.1 meet in
      elim (cases_lt j k) [
        | inl l ↦ l
        | inr l ↦ let le = place_rises marks edges k j l in absurd (omega arith)
      ]

  -- a new node is an old one on a walk
  node_of : (n : ℕ) → n < rank marks (length marks) → (old : ℕ) × OnWalk nodes edges old × (rank marks old ≡ n)
  node_of n h =
      let at = rank_onto marks n h in
      let within = slice_get_within marks at.0 _ at.1 in
      let l = m.long in
      (at.0, (m.each at.0 (omega arith)).0 at.1, at.2)

  from_first : (n : ℕ) → n < rank marks (length marks) → Leads (edges_left marks edges) 0 n
  from_first n h =
      let at = node_of n h in
      let p = path_left at.1.0.0 0 at.0 at.1.0.1 (leads_same edges 0 0 refl) at.1.1 in
      subst (Leads (edges_left marks edges) 0) at.2 (subst (λ k. Leads (edges_left marks edges) k (rank marks at.0)) (rank_zero marks) p)

  to_last : (n : ℕ) → n < rank marks (length marks) → Leads (edges_left marks edges) n (rank marks (length marks) - 1)
  to_last n h =
      let at = node_of n h in
      let p = path_left at.1.1.0 at.0 (nodes - 1) at.1.1.1 at.1.0 (leads_same edges (nodes - 1) (nodes - 1) refl) in
      subst (Leads (edges_left marks edges) n) (sym last_is) (subst (λ k. Leads (edges_left marks edges) k (rank marks (nodes - 1))) at.2 p)

  same : (sets : List ℕ) → HasWalk sets (edges_left marks edges) 0 (rank marks (length marks) - 1) ↔ HasWalk sets edges 0 (nodes - 1)
  same sets =
      let both : HasWalk sets (edges_left marks edges) (rank marks 0) (rank marks (nodes - 1)) ↔ HasWalk sets edges 0 (nodes - 1) =
      ((λ h. walk_back sets 0 first_marked h), (λ h. walk_left sets 0 (leads_same edges 0 0 refl) h)) in
      subst (λ k. HasWalk sets (edges_left marks edges) 0 k ↔ HasWalk sets edges 0 (nodes - 1)) (sym last_is) (subst (λ k. HasWalk sets (edges_left marks edges) k (rank marks (nodes - 1)) ↔ HasWalk sets edges 0 (nodes - 1)) (rank_zero marks) both)

  left_trimmed : (t : Trimmed) → t.nodes ≡ rank marks (length marks) → t.edges ≡ edges_left marks edges → IsTrimmed nodes edges t
  left_trimmed t n e = record {
    some = let c = count_is in omega arith;
    are = record { onward = rw (n, e) onward; ordered = rw e ordered };
    from_first = rw (n, e) from_first;
    to_last = rw (n, e) to_last;
    same = rw (n, e) same;
    origin = rw e (λ k x h. let at = left_at marks edges k x h in (at.0, (place marks edges k, at.1), sym at.2.atoms));
    short = rw e short;
  }

pub trimmed : (nodes : ℕ) (edges : List Edge) (marks : List Bool) → 0 < nodes → AreEdges nodes edges → AreMarks nodes (OnWalk nodes edges) marks → Leads edges 0 (nodes - 1) → (t : Trimmed) → t.nodes ≡ rank marks (length marks) → t.edges ≡ edges_left marks edges → IsTrimmed nodes edges t
trimmed nodes edges marks pos are m whole t n e = left_trimmed nodes edges marks pos are m whole t n e
