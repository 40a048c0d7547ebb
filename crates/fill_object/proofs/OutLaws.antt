-- Edges by the node that they lead from, one edge after the other.
use Rattle.std.proofs.Common.{◌≡◌, inl, inr, ℕ, ◌+◌, ◌<◌, ◌≤◌, List, [], ◌∷◌, ◌++◌, length, length-append, Some, slice_get, sym, ap, subst, ◌∙◌, arith}
use Rattle.std.proofs.Math.ListN.{set}
use Rattle.std.proofs.lemmas.List.{length-set}
use Rattle.std.proofs.lemmas.Option.{slice_get_within}
use Rattle.std.proofs.lemmas.Bool.{cases_lt, cases_eq}
use Rattle.fill_arena.specs.declared.entry.Edge.{Edge}
use Rattle.fill_arena.proofs.Lists.{get_pushed}
use Rattle.fill_arena.proofs.Items.{set_here, set_apart}
use Rattle.fill_object.specs.Outs.{AreOuts, NoneBetween}
use Rattle.fill_object.specs.declared.outs.Outs.{Outs}

-- the places are those after the last ones of the first edges
pub record AreFirstOuts (edges : List Edge) (nodes i : ℕ) (latest before : List ℕ) : Type 0 where
  pub nodes_are : length latest ≡ nodes
  pub long : length before ≡ i
  pub last : (n place : ℕ) → slice_get latest n ≡ Some place → (k : ℕ) (e : Edge) → slice_get edges k ≡ Some e → e.from ≡ n → k < i → k < place
  pub between : (j place : ℕ) → slice_get before j ≡ Some place → NoneBetween edges j place

pub outs_none : (edges : List Edge) (nodes : ℕ) (latest before : List ℕ) → length latest ≡ nodes → before ≡ [] → AreFirstOuts edges nodes 0 latest before
outs_none edges nodes latest before long nil = record {
  nodes_are = long;
  long = ap length nil;
  last = λ n place at k e there from lt. absurd (omega arith);
  between = λ j place at. absurd (nothing j place (subst (λ xs. slice_get xs j ≡ Some place) nil at));
}
  where
    nothing : (j place : ℕ) → ¬ (slice_get {X = ℕ} [] j ≡ Some place)
    nothing j place h = cc

pub outs_more : (edges : List Edge) (nodes i : ℕ) (latest before : List ℕ) (e : Edge) (place : ℕ) → slice_get edges i ≡ Some e → slice_get latest e.from ≡ Some place → AreFirstOuts edges nodes i latest before →
    (new : List ℕ) → new ≡ before ++ place ∷ [] → AreFirstOuts edges nodes (i + 1) (set latest e.from (i + 1)) new
outs_more edges nodes i latest before e place at from are new is = record {
  nodes_are = length-set latest e.from (i + 1) ∙ are.nodes_are;
  long = ap length is ∙ length-append before (place ∷ []) ∙ ap (λ m. m + 1) are.long;
  last = λ n q there k f edge out lt. elim (cases_eq n e.from) [
    | inl same ↦
        let put = set_here latest e.from (i + 1) (slice_get_within latest e.from place from) in
        let moved : slice_get (set latest e.from (i + 1)) e.from ≡ Some q = subst (λ m. slice_get (set latest e.from (i + 1)) m ≡ Some q) same there in
        let one : q ≡ i + 1 = cc in
        omega arith
    | inr apart ↦
        let there_before = sym (set_apart latest e.from (i + 1) n apart) ∙ there in
        elim (cases_lt k i) [
          | inl less ↦ are.last n q there_before k f edge out less
          | inr past ↦
              let same : k ≡ i = omega arith in
              let moved : slice_get edges i ≡ Some f = subst (λ j. slice_get edges j ≡ Some f) same edge in
              let one : f ≡ e = cc in
              absurd (apart (sym out ∙ ap (λ (g : Edge). g.from) one))
        ]
  ];
  between = λ j q there. elim (get_pushed before place j q (subst (λ xs. slice_get xs j ≡ Some q) is there)) [
    | inl a ↦ are.between j q a.1
    | inr b ↦
        let here : j ≡ i = b.0 ∙ are.long in
        subst (NoneBetween edges j) b.1 (λ f edge k g other out lt.
        let moved : slice_get edges i ≡ Some f = subst (λ m. slice_get edges m ≡ Some f) here edge in
        let one : f ≡ e = cc in
        are.last e.from place from k g other (out ∙ ap (λ (x : Edge). x.from) one) (omega arith))
  ];
}

pub outs_done : (edges : List Edge) (nodes i : ℕ) (outs : Outs) → length edges ≤ i → ((k : ℕ) (e : Edge) → slice_get edges k ≡ Some e → e.from < nodes) →
    AreFirstOuts edges nodes i outs.latest.items outs.before.items → AreOuts edges outs
outs_done edges nodes i outs past within are = record {
  nodes = λ k e at. let lt = within k e at in let same = are.nodes_are in omega arith;
  latest = λ n place there k e at from. let inside = slice_get_within edges k e at in are.last n place there k e at from (omega arith);
  before = are.between;
}
