-- Sets and edges of the tests.
use Rattle.std.proofs.Common.{◌≡◌, ℕ, ◌+◌, ◌<◌, ◌≤◌, inl, inr, List, [], ◌∷◌, length, Some, slice_get, sym, subst, lit<, arith}
use Rattle.std.proofs.lemmas.Bool.{cases_lt}
use Rattle.std.proofs.lemmas.Option.{slice_get_within}
use Rattle.fill_arena.specs.WellMade.{AreAtoms, IsAtomItem}
use Rattle.fill_arena.specs.declared.entry.Entry.{Entry}
use Rattle.fill_arena.specs.declared.entry.AtomItem.TheVariants.{Const}
use Rattle.fill_arena.specs.declared.entry.Edge.{Edge}
use Rattle.fill_arena.proofs.Samples.{each_nil, each_cons}
use Rattle.fill_trim.specs.Trim.{AreEdges}

pub sample_atoms : (c : List Entry) (t : List ℕ) → length t ≤ 100 → AreAtoms c (length c) (Const t ∷ [])
sample_atoms c t few = record { some = lit< tt; each = each_cons (IsAtomItem c (length c)) (Const t) [] few (each_nil (IsAtomItem c (length c))) }

-- the edges before a place lead on within the nodes, in the order of the nodes that they come from
pub record AreSorted (nodes : ℕ) (edges : List Edge) (i least : ℕ) : Type 0 where
  pub onward : (k : ℕ) (e : Edge) → k < i → slice_get edges k ≡ Some e → (e.from < e.to) × (e.to < nodes) × (e.from ≤ least)
  pub ordered : (j k : ℕ) (e f : Edge) → j < i → k < i → slice_get edges j ≡ Some e → slice_get edges k ≡ Some f → e.to ≡ f.from → j < k

pub sorted_start : (nodes : ℕ) (edges : List Edge) → AreSorted nodes edges 0 0
sorted_start nodes edges = record {
  onward = λ k e lt at. absurd (omega arith);
  ordered = λ j k e f lt less a b same. absurd (omega arith);
}

module _ (nodes : ℕ) (edges : List Edge) (i least : ℕ) (x : Edge) (at : slice_get edges i ≡ Some x) (s : AreSorted nodes edges i least) (sorted : least ≤ x.from) (onward : x.from < x.to) (within : x.to < nodes) where
  here_is : (k : ℕ) (e : Edge) → k < i + 1 → i ≤ k → slice_get edges k ≡ Some e → x ≡ e
  here_is k e lt le there =
      let same : k ≡ i = omega arith in
      let both : slice_get edges i ≡ Some e = subst (λ n. slice_get edges n ≡ Some e) same there in
      cc

  each_more : (k : ℕ) (e : Edge) → k < i + 1 → slice_get edges k ≡ Some e → (e.from < e.to) × (e.to < nodes) × (e.from ≤ x.from)
  each_more k e lt there = elim (cases_lt k i) [
    | inl less ↦ let h = s.onward k e less there in let le = h.2 in (h.0, h.1, omega arith)
    | inr past ↦ subst (λ (y : Edge). (y.from < y.to) × (y.to < nodes) × (y.from ≤ x.from)) (here_is k e lt past there) (onward, within, omega arith)
  ]

  order_more : (j k : ℕ) (e f : Edge) → j < i + 1 → k < i + 1 → slice_get edges j ≡ Some e → slice_get edges k ≡ Some f → e.to ≡ f.from → j < k
  order_more j k e f lt less a b same = elim (cases_lt j i) [
    | inl low ↦ elim (cases_lt k i) [
      | inl l ↦ s.ordered j k e f low l a b same
      | inr l ↦ omega arith
    ]
    | inr high ↦
        let one = here_is j e lt high a in
        let to : x.to ≡ f.from = subst (λ (y : Edge). y.to ≡ f.from) (sym one) same in
        let h = each_more k f less b in
        let le = h.2 in
        absurd (omega arith)
  ]

  pub sorted_more : AreSorted nodes edges (i + 1) x.from
  sorted_more = record { onward = each_more; ordered = order_more }

pub sorted_end : (nodes : ℕ) (edges : List Edge) (i least : ℕ) → length edges ≤ i → AreSorted nodes edges i least → AreEdges nodes edges
sorted_end nodes edges i least past s = record {
  onward = λ k e at. let w = slice_get_within edges k e at in let h = s.onward k e (omega arith) at in (h.0, h.1);
  ordered = λ j k e f a b same.
      let v = slice_get_within edges j e a in
      let w = slice_get_within edges k f b in
      s.ordered j k e f (omega arith) (omega arith) a b same;
}
