-- The edges of pieces, put one after the other.
use Rattle.std.proofs.Common.{◌≡◌, ℕ, ◌+◌, ◌<◌, ◌≤◌, ◌⊎◌, inl, inr, List, [], ◌∷◌, ◌++◌, length, Option, Some, None, slice_get, slice_range, refl, sym, ap, ◌∙◌, subst, arith}
use Rattle.std.proofs.lemmas.Bool.{cases_lt}
use Rattle.fill_tree.specs.Tree.{AtomTree}
use Rattle.fill_arena.specs.Contents.{SomeIn, Extends}
use Rattle.fill_arena.specs.Stands.{AtomFits}
use Rattle.fill_arena.specs.declared.entry.AtomItem.{AtomItem}
use Rattle.fill_arena.specs.declared.entry.Edge.{Edge}
use Rattle.fill_arena.specs.declared.entry.Entry.{Entry}
use Rattle.fill_arena.specs.declared.entry.Entry.TheVariants as kind
use Rattle.fill_arena.proofs.Lists.{extends_on, extends_same, get_pushed}
use Rattle.fill_sources.specs.declared.row.OnRow.{OnRow}
use Rattle.fill_build.specs.Pieces.{AreItemsOf, PieceAtom}
use Rattle.fill_build.specs.Edges.{AreAtomsOf, EdgesSoFar, IsBetween, IsCovered, IsPieceEdge, IsPut, IsSetOf}
use Rattle.fill_build.proofs.Lists.{each_empty, each_pushed, is_empty, some_empty, some_last, some_more}

one_atoms : (xs ys : List AtomItem) → Some (kind.Atoms xs) ≡ Some (kind.Atoms ys) → xs ≡ ys
one_atoms xs ys e = cc

-- a set of the items that give the piece
pub set_of_items : (on : OnRow) (c d : List Entry) (w : List ℕ) (items : List AtomItem) (s : ℕ) → Extends c d → slice_get d s ≡ Some (kind.Atoms items) → AreItemsOf on c w items → AreAtomsOf on d w s
set_of_items on c d w items s o at is =
    record {
      set = (items, at);
      exact = λ e k a.
          (let there = k s (kind.Atoms items) at in
          let fits = is.exact e (extends_on c d e o k) a in (
            λ f. fits.0 (subst (SomeIn (AtomFits a e)) (one_atoms f.0 items (sym f.1 ∙ there)) f.2),
            λ g. (items, there, fits.1 g),
          ));
    }

-- without items nothing gives the piece
pub no_items : (on : OnRow) (c : List Entry) (w : List ℕ) (items : List AtomItem) → length items ≡ 0 → AreItemsOf on c w items → (a : AtomTree) → PieceAtom on w a → ⊥
no_items on c w items none is a g =
    some_empty (AtomFits a c) (subst (SomeIn (AtomFits a c)) (is_empty items none) ((is.exact c (extends_same c) a).1 g))

module _ (on : OnRow) (out : List ℕ) where
  pub edges_start : (c : List Entry) → EdgesSoFar on out 0 0 c []
  edges_start c =
      record {
        each = each_empty (IsPieceEdge on out c);
        before = each_empty (λ (e : Edge). e.from ≤ 0);
        ordered = λ j k e f h g. absurd (let none = each_empty (λ (x : Edge). ⊥) j e h in none);
        covers = λ from to up in' which. elim which [ inl none ↦ absurd (omega arith) | inr at ↦ let zero' = at.0 in let low = at.1 in absurd (omega arith) ];
      }

  -- the edges of a node are all put
  pub edges_row : (c : List Entry) (i width : ℕ) (edges : List Edge) → length out ≤ i + width → EdgesSoFar on out i width c edges → EdgesSoFar on out (i + 1) 0 c edges
  edges_row c i width edges all s =
      record {
        each = s.each;
        before = λ k e h. (let le = s.before k e h in omega arith);
        ordered = s.ordered;
        covers = λ from to up low which. elim which [
          | inl lt ↦ elim (cases_lt from i) [
            | inl less ↦ s.covers from to up low (inl less)
            | inr le ↦ s.covers from to up low (inr (omega arith, omega arith))
          ]
          | inr at ↦ let here = at.0 in let end = at.1 in absurd (omega arith)
        ];
      }

  module _ (b c : List Entry) (o : Extends b c) where
    edge_stays : (e : Edge) → IsPieceEdge on out b e → IsPieceEdge on out c e
    edge_stays e h =
        record {
          onward = h.onward;
          within = h.within;
          atoms = record {
            set = (h.atoms.set.0, o e.atoms (kind.Atoms h.atoms.set.0) h.atoms.set.1);
            exact = λ d k a. h.atoms.exact d (extends_on b c d o k) a;
          };
        }

    module _ (i width : ℕ) (low : i + (width + 1) ≤ length out) where
      covered_more : (e : Edge) (edges : List Edge) (f t : ℕ) → IsCovered on out edges f t → IsCovered on out (edges ++ e ∷ []) f t
      covered_more e edges f t h = elim h [ inl s ↦ inl (some_more (IsBetween f t) edges e s) | inr none ↦ inr none ]

      -- whether the piece is the one at hand
      which_piece : (f t : ℕ) → (f < i) ⊎ ((f ≡ i) × (t ≤ i + (width + 1))) → ((f < i) ⊎ ((f ≡ i) × (t ≤ i + width))) ⊎ ((f ≡ i) × (t ≡ i + (width + 1)))
      which_piece f t h = elim h [
        | inl lt ↦ inl (inl lt)
        | inr at ↦ let end = at.1 in elim (cases_lt (i + width) t) [ inl past ↦ inr (at.0, omega arith) | inr le ↦ inl (inr (at.0, le)) ]
      ]

      none_put : (edges : List Edge) → EdgesSoFar on out i width b edges → ((a : AtomTree) → PieceAtom on (slice_range out i (i + (width + 1))) a → ⊥) → EdgesSoFar on out i (width + 1) c edges
      none_put edges s none =
          record {
            each = λ k e h. edge_stays e (s.each k e h);
            before = s.before;
            ordered = s.ordered;
            covers = λ f t up le h. elim (which_piece f t h) [
              | inl old ↦ s.covers f t up le old
              | inr at ↦ inr (λ a g. none a (subst (λ w. PieceAtom on w a) (ap (λ m. slice_range out m t) at.0 ∙ ap (slice_range out i) at.1) g))
            ];
          }

      one_put : (old : List Edge) (e : Edge) → EdgesSoFar on out i width b old → e.from ≡ i → e.to ≡ i + (width + 1) → AreAtomsOf on c (slice_range out i (i + (width + 1))) e.atoms
          → EdgesSoFar on out i (width + 1) c (old ++ e ∷ [])
      one_put old e s start end atoms =
          let same : slice_range out i (i + (width + 1)) ≡ slice_range out e.from e.to = ap (λ m. slice_range out m (i + (width + 1))) (sym start) ∙ ap (slice_range out e.from) (sym end) in
          let is : IsPieceEdge on out c e = record {
            onward = omega arith;
            within = omega arith;
            atoms = subst (λ w. AreAtomsOf on c w e.atoms) same atoms;
          } in
          record {
            each = each_pushed (IsPieceEdge on out c) old e (λ k f h. edge_stays f (s.each k f h)) is;
            before = each_pushed (λ (x : Edge). x.from ≤ i) old e s.before (omega arith);
            ordered = λ j k f g hf hg meet. elim (get_pushed old e j f hf) [
              | inl a ↦ elim (get_pushed old e k g hg) [
                | inl q ↦ s.ordered j k f g a.1 q.1 meet
                | inr q ↦ let lt = a.0 in let last = q.0 in omega arith
              ]
              | inr a ↦
                  let to_is : e.to ≡ f.to = ap (λ (x : Edge). x.to) a.1 in
                  let low' : g.from ≤ i = each_pushed (λ (x : Edge). x.from ≤ i) old e s.before (omega arith) k g hg in
                  absurd (omega arith)
            ];
            covers = λ f t up le h. elim (which_piece f t h) [
              | inl o' ↦ covered_more e old f t (s.covers f t up le o')
              | inr at ↦ inl (some_last (IsBetween f t) old e (start ∙ sym at.0, end ∙ sym at.1))
            ];
          }

      -- the next edge of a node is put, with the set of its piece
      pub edges_put : (set : Option ℕ) (old new : List Edge) → EdgesSoFar on out i width b old → IsSetOf on c (slice_range out i (i + (width + 1))) set → IsPut i (i + (width + 1)) set old new
          → EdgesSoFar on out i (width + 1) c new
      edges_put None old new s none put = subst (EdgesSoFar on out i (width + 1) c) (sym put) (none_put old s none)
      edges_put (Some n) old new s atoms put =
          let e : Edge = record { from = i; to = i + (width + 1); atoms = n } in
          subst (EdgesSoFar on out i (width + 1) c) (sym put) (one_put old e s refl refl atoms)
