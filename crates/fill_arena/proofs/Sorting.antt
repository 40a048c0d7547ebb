-- When edges are in a topological order: as one pass over them finds, and as a sort makes them.
use Rattle.std.proofs.Common.{◌≡◌, ℕ, ◌+◌, ◌<◌, ◌≤◌, inl, inr, List, length, Bool, true, get_or, Some, slice_get, sym, subst, ◌∙◌, arith, length-set, All, IsPermutation}
use Rattle.std.specs.List.Sorted.{IsNonDecreasingBy}
use Rattle.std.proofs.lemmas.Bool.{cases_lt}
use Rattle.std.proofs.lemmas.List.{get_or_default}
use Rattle.std.proofs.lemmas.List.Sorted.{All-permutation}
use Rattle.std.proofs.lemmas.Option.{get_or_from_slice_get, slice_get_within}
use Rattle.fill_arena.specs.Contents.{In, EachIn}
use Rattle.fill_arena.specs.Copied.{IsMarked, marked}
use Rattle.fill_arena.specs.Order.{IsTopological, LeadsOn}
use Rattle.fill_arena.specs.declared.entry.Edge.{Edge}
use Rattle.fill_arena.proofs.Below.{same_item}
use Rattle.fill_arena.proofs.Marking.{one_here, one_kept, one_only}
use Rattle.fill_arena.proofs.Scan.{here}

-- exactly the first nodes of the edges before a place are marked, and these edges stand before those out of their ends
pub record AreLeft (nodes : ℕ) (edges : List Edge) (i : ℕ) (left : List Bool) : Type 0 where
  pub long : length left ≡ nodes
  pub all : (k : ℕ) (f : Edge) → k < i → slice_get edges k ≡ Some f → IsMarked left f.from
  pub only : (n : ℕ) → IsMarked left n → (k : ℕ) × (f : Edge) × (k < i) × (slice_get edges k ≡ Some f) × (f.from ≡ n)
  pub before : (j k : ℕ) (e f : Edge) → j < i → slice_get edges j ≡ Some e → slice_get edges k ≡ Some f → e.to ≡ f.from → j < k

pub left_start : (nodes : ℕ) (edges : List Edge) (left : List Bool) → length left ≡ nodes → ((n : ℕ) → ¬ (IsMarked left n)) → AreLeft nodes edges 0 left
left_start nodes edges left long none = record {
  long = long;
  all = λ k f lt at. absurd (omega arith);
  only = λ n h. absurd (none n h);
  before = λ j k e f lt at there same. absurd (omega arith);
}

module _ (nodes : ℕ) (edges : List Edge) (i : ℕ) (left : List Bool) (e : Edge) (are : AreLeft nodes edges i left) (at : slice_get edges i ≡ Some e) (on : LeadsOn nodes e) where
  pub left_more : ¬ (IsMarked left e.to) → AreLeft nodes edges (i + 1) (marked left e.from)
  left_more new = record {
    long = length-set left e.from true ∙ are.long;
    all = λ k f lt there. elim (cases_lt k i) [
      | inl less ↦ one_kept left e.from f.from (are.all k f less there)
      | inr past ↦
          let same : k ≡ i = omega arith in
          let onward = on.0 in
          let within = on.1 in
          let long = are.long in
          subst (λ (x : Edge). IsMarked (marked left e.from) x.from) (same_item edges i k e f at there same) (one_here left e.from (omega arith))
    ];
    only = λ n h. elim (one_only left e.from n h) [
      | inl old ↦ let o = are.only n old in let lt = o.2 in (o.0, o.1, omega arith, o.3, o.4)
      | inr is ↦ (i, e, omega arith, at, sym is)
    ];
    before = λ j k d f lt here there same. elim (cases_lt j i) [
      | inl less ↦ are.before j k d f less here there same
      | inr past ↦
          let last : j ≡ i = omega arith in
          let one = same_item edges i j e d at here last in
          let meets : f.from ≡ e.to = subst (λ (x : Edge). f.from ≡ x.to) (sym one) (sym same) in
          elim (cases_lt i k) [
            | inl later ↦ omega arith
            | inr back ↦ elim (cases_lt k i) [
              | inl less ↦ absurd (new (subst (IsMarked left) meets (are.all k f less there)))
              | inr up ↦
                  let this : k ≡ i = omega arith in
                  let own = subst (λ (x : Edge). x.from ≡ e.to) (sym (same_item edges i k e f at there this)) meets in
                  let onward = on.0 in
                  absurd (omega arith)
            ]
          ]
    ];
  }

  pub left_back : IsMarked left e.to → ¬ (IsTopological edges)
  left_back seen all =
      let o = are.only e.to seen in
      let lt = o.2 in
      let later = all i o.0 e o.1 at o.3 (sym o.4) in
      absurd (omega arith)

pub left_end : (nodes : ℕ) (edges : List Edge) (i : ℕ) (left : List Bool) → length edges ≤ i → AreLeft nodes edges i left → IsTopological edges
left_end nodes edges i left past are j k e f at there same =
    let within = slice_get_within edges j e at in
    are.before j k e f (omega arith) at there same

-- what is sorted by first nodes is in such an order
pub rising_topological : (nodes : ℕ) (edges : List Edge) → EachIn (LeadsOn nodes) edges → IsNonDecreasingBy (λ e. e.from) edges → IsTopological edges
rising_topological nodes edges on rising j k e f at there same = elim (cases_lt j k) [
  | inl lt ↦ lt
  | inr back ↦
      let within = slice_get_within edges j e at in
      let le = rising k j e (omega arith) (omega arith) in
      let first = get_or_from_slice_get edges j e e at in
      let second = get_or_from_slice_get edges k f e there in
      let low : f.from ≤ e.from = subst (λ (x : Edge). x.from ≤ e.from) second (subst (λ (x : Edge). (get_or edges k e).from ≤ x.from) first le) in
      let onward = (on j e at).0 in
      absurd (omega arith)
]

-- a list in another order has the same items
pub moved : {A : Type 0} (xs ys : List A) → IsPermutation xs ys → (k : ℕ) (x : A) → slice_get ys k ≡ Some x → In x xs
moved {A} xs ys is k x at =
    let all = All-permutation (λ (y : A). In y xs) xs ys is (λ n d lt. (n, here xs n (get_or xs n d) lt (get_or_default xs n d (get_or xs n d) lt))) in
    subst (λ y. In y xs) (get_or_from_slice_get ys k x x at) (all k x (slice_get_within ys k x at))
