-- The walks of a product are those of both graphs.
use Rattle.std.proofs.Common.{◌≡◌, ℕ, zero, suc, ◌+◌, ◌-◌, ◌*◌, ◌<◌, ◌≤◌, inl, inr, Bool, List, [], ◌∷◌, length, refl, sym, ap, ◌∙◌, subst, arith}
use Rattle.std.proofs.Math.Nat.{suc-mul}
use Rattle.fill_tree.specs.Tree.{Atoms, end, more}
use Rattle.fill_arena.specs.Contents.{In, EachIn, Extends}
use Rattle.fill_arena.specs.Stands.{AtomStands, Walks}
use Rattle.fill_arena.specs.WellMade.{Path}
use Rattle.fill_arena.specs.declared.entry.Entry.{Entry}
use Rattle.fill_arena.specs.declared.entry.Edge.{Edge}
use Rattle.fill_arena.proofs.Lists.{extends_same, extends_on}
use Rattle.fill_trim.specs.Marks.{IsMarked}
use Rattle.fill_trim.specs.Trim.{AreEdges}
use Rattle.fill_meet.specs.Meet.{AreMet}
use Rattle.fill_meet.specs.Joins.{IsJoined, AreJoined, AreLive}
use Rattle.fill_meet.specs.Product.{IsPairOf, IsProduct}
use Rattle.fill_meet.specs.Ties.{IsTied, IsTie, AreTies, AreOrdered}
use Rattle.fill_meet.specs.declared.ties.Tie.{Tie}
use Rattle.fill_meet.proofs.Products.{same_row}

pub corner : (h w : ℕ) → 0 < h → 0 < w → h * w - 1 ≡ (h - 1) * w + (w - 1)
corner zero w a b = absurd (omega arith)
corner (suc h) w a b = let e : suc h - 1 ≡ h = omega arith in rw (e, suc-mul h w) (omega arith)

module _ (c : List Entry) (w : ℕ) (xs ys edges : List Edge) (ey : AreEdges w ys) (sound : EachIn (IsPairOf c w xs ys) edges) where
  both_within : (y : Edge) → In y ys → (y.from < w) × (y.to < w)
  both_within y h = let o = ey.onward h.0 y h.1 in let a = o.0 in let b = o.1 in (omega arith, omega arith)

  pub product_walks : (q : Atoms) (i j m n at : ℕ) → j < w → n < w → at ≡ i * w + j → Walks q c edges (m * w + n) at → Walks q c xs m i × Walks q c ys n j
  product_walks end i j m n at h k e walk = same_row w i j m n h k (sym e ∙ walk)
  product_walks (more a q) i j m n at h k e walk =
      let s = sound walk.1.0 walk.0 walk.1.1 in
      let x = s.0 in
      let y = s.2.0 in
      let pair = s.2.2 in
      let within = both_within y s.2.1 in
      let same = same_row w x.from y.from i j within.0 h (sym pair.from ∙ (walk.2.0 ∙ e)) in
      let atoms = (pair.met.both c (extends_same c) a).0 walk.2.1 in
      let rest = product_walks q x.to y.to m n walk.0.to within.1 k pair.to walk.2.2 in
      ((x, s.1, (same.0, atoms.0, rest.0)), (y, s.2.1, (same.1, atoms.1, rest.1)))

  -- a path of the product goes along a path of the first graph
  first_path : (path : List Edge) (i j at to : ℕ) → j < w → at ≡ i * w + j → Path edges at path to → (last : ℕ) × (old : List Edge) × Path xs i old last × (length old ≡ length path)
  first_path [] i j at to h e walk = (i, [], refl, refl)
  first_path (f ∷ path) i j at to h e walk =
      let s = sound walk.0.0 f walk.0.1 in
      let x = s.0 in
      let y = s.2.0 in
      let pair = s.2.2 in
      let within = both_within y s.2.1 in
      let same = same_row w x.from y.from i j within.0 h (sym pair.from ∙ (walk.1 ∙ e)) in
      let rest = first_path path x.to y.to f.to to within.1 pair.to walk.2 in
      (rest.0, x ∷ rest.1, (s.1, same.0, rest.2), ap suc rest.3)

  pub product_short : ((from to : ℕ) (path : List Edge) → Path xs from path to → length path ≤ 100) → (from to : ℕ) (path : List Edge) → Path edges from path to → length path ≤ 100
  product_short short from to [] walk = omega arith
  product_short short from to (f ∷ path) walk =
      let s = sound walk.0.0 f walk.0.1 in
      let y = s.2.0 in
      let r = first_path (f ∷ path) s.0.from y.from from to (both_within y s.2.1).0 (sym walk.1 ∙ s.2.2.from) walk in
      subst (λ n. n ≤ 100) r.3 (short s.0.from r.0 r.1 r.2)

-- the ties of an arena, the nodes of theirs that lead to the last one, and their edges in a later arena
module _ (c d : List Entry) (o : Extends c d) (h w : ℕ) (xs ys : List Edge) (ties : List Tie) (t : AreTies c w xs ys ties) (marks : List Bool) (live : AreLive (h * w) ties marks) (edges : List Edge) (j : AreJoined d marks ties edges)
  where
    met_pair : (x y e : Edge) (u : Tie) → IsTie w x y u → IsJoined d u e → AreMet AtomStands d x.atoms y.atoms e.atoms
    met_pair x y e u tie joined =
        subst (λ n. AreMet AtomStands d n y.atoms e.atoms) tie.left (subst (λ n. AreMet AtomStands d u.left n e.atoms) tie.right joined.met)

    joined_sound : EachIn (IsPairOf d w xs ys) edges
    joined_sound k e at =
        let s = j.sound k e at in
        let u = t.sound s.1.0 s.0 s.1.1 in
        let tie = u.2.2 in
        (u.0, u.1, (u.2.0, u.2.1, record { from = s.2.from ∙ tie.from; to = s.2.to ∙ tie.to; met = met_pair u.0 u.2.0 e s.0 tie s.2 }))

    module _ (e : List Entry) (q : Extends d e) (m n : ℕ) (last : h * w - 1 ≡ m * w + n) where
      -- where a program walks on over both, the pair of nodes leads to the last one
      leads_on : (p : Atoms) (a b at : ℕ) → at ≡ a * w + b → IsTied ties at → Walks p e xs m a → Walks p e ys n b → IsMarked marks at
      leads_on end a b at is tied u v = subst (IsMarked marks) (last ∙ ((rw (u, v) refl) ∙ sym is)) live.last
      leads_on (more f p) a b at is tied u v =
          let x = u.0 in
          let y = v.0 in
          let start : x.from * w + y.from ≡ at = rw (u.2.0, v.2.0) (sym is) in
          elim (t.covers x y u.1 v.1 (subst (IsTied ties) (sym start) tied)) [
            | inl s ↦
                let tie = s.2 in
                let rest = leads_on p x.to y.to s.0.to tie.to (inr (s.0, s.1, refl)) u.2.2 v.2.2 in
                subst (IsMarked marks) (tie.from ∙ start) (live.closed s.1.0 s.0 s.1.1 rest)
            | inr apart ↦ absurd (apart e (extends_on c d e o q) f u.2.1 v.2.1)
          ]

      walks_on : (p : Atoms) (a b at : ℕ) → at ≡ a * w + b → IsTied ties at → Walks p e xs m a → Walks p e ys n b → Walks p e edges (m * w + n) at
      walks_on end a b at is tied u v = let same : a * w + b ≡ m * w + n = rw (u, v) refl in is ∙ same
      walks_on (more f p) a b at is tied u v =
          let x = u.0 in
          let y = v.0 in
          let start : x.from * w + y.from ≡ at = rw (u.2.0, v.2.0) (sym is) in
          elim (t.covers x y u.1 v.1 (subst (IsTied ties) (sym start) tied)) [
            | inl s ↦
                let tie = s.2 in
                let on : IsTied ties s.0.to = inr (s.0, s.1, refl) in
                elim (j.covers s.0 s.1 (leads_on p x.to y.to s.0.to tie.to on u.2.2 v.2.2)) [
                  | inl k ↦
                      let both = ((met_pair x y k.0 s.0 tie k.2).both e q f).1 (u.2.1, v.2.1) in
                      let rest = walks_on p x.to y.to k.0.to (k.2.to ∙ tie.to) (inr (s.0, s.1, sym k.2.to)) u.2.2 v.2.2 in
                      (k.0, k.1, (k.2.from ∙ (tie.from ∙ start), both, rest))
                  | inr apart ↦ absurd (apart e q f (subst (λ r. AtomStands e r f) (sym tie.left) u.2.1) (subst (λ r. AtomStands e r f) (sym tie.right) v.2.1))
                ]
            | inr apart ↦ absurd (apart e (extends_on c d e o q) f u.2.1 v.2.1)
          ]

    pub joined_product : 0 < h → 0 < w → IsProduct d h w xs ys edges
    joined_product sh sw =
        record {
          sound = joined_sound;
          whole = λ e q p u v.
              (let at = corner h w sh sw in
              let start : 0 ≡ 0 * w + 0 = omega arith in
              subst (λ n. Walks p e edges n 0) (sym at) (walks_on e q (h - 1) (w - 1) at p 0 0 0 start (inl refl) u v));
        }

-- edges that have their ties' nodes
pub joined_edges : (c : List Entry) (marks : List Bool) (n : ℕ) (ties : List Tie) (edges : List Edge) → AreOrdered n ties → AreJoined c marks ties edges → AreEdges n edges
joined_edges c marks n ties edges r j =
    record {
      onward = λ k e at.
          (let s = j.sound k e at in
          let on = r.onward s.1.0 s.0 s.1.1 in
          let less = on.0 in
          let past = on.1 in
          let from = s.2.from in
          let to = s.2.to in
          (omega arith, omega arith));
      ordered = j.ordered;
    }

-- a product of no node has none on either side
pub both_some : (h w : ℕ) → 0 < h * w → (0 < h) × (0 < w)
both_some zero w some = absurd (omega arith)
both_some (suc h) zero some = absurd (omega arith)
both_some (suc h) (suc w) some = (omega arith, omega arith)
