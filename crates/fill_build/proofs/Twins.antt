-- Twins of nodes: from both on the text has the same pieces, and equal pieces have one set.
use Rattle.std.proofs.Common.{◌≡◌, ℕ, ◌+◌, ◌<◌, ◌≤◌, inl, inr, List, length, drop, Option, Some, None, slice_range, sym, ap, ◌∙◌, subst, arith, length-drop}
use Rattle.std.proofs.lemmas.Slice.{between_to_end}
use Rattle.fill_arena.specs.declared.entry.Edge.{Edge}
use Rattle.fill_arena.specs.declared.entry.Entry.{Entry}
use Rattle.fill_sources.specs.declared.row.OnRow.{OnRow}
use Rattle.fill_build.specs.Pieces.{PieceAtom}
use Rattle.fill_build.specs.Edges.{AreAtomsOf, EdgesSoFar, IsSetBetween, IsSetOf}
use Rattle.fill_build.specs.Hits.{GoTogether}
use Rattle.fill_build.specs.Nodes.{IsTwin}
use Rattle.fill_build.specs.declared.node.Twin.{Twin}
use Rattle.fill_build.proofs.Lists.{piece_range}
use Rattle.fill_build.proofs.Together.{alike_less, alike_start}

pub twin_start : (out : List ℕ) (i : ℕ) → IsTwin out i (record { from = 0; run = 0 })
twin_start out i = record { earlier = λ some. absurd (omega arith); alike = alike_start (drop 0 out) (drop i out) }

pub twin_found : (out : List ℕ) (i k run : ℕ) → k < i → GoTogether (slice_range out k (length out)) (slice_range out i (length out)) run → IsTwin out i (record { from = k; run = run })
twin_found out i k run lt together =
    let here = subst (λ l. GoTogether l (slice_range out i (length out)) run) (between_to_end out k (length out) (omega arith)) together in
    let both = subst (λ l. GoTogether (drop k out) l run) (between_to_end out i (length out) (omega arith)) here in
    record { earlier = λ some. lt; alike = (both run).1 (omega arith) }

module _ (out : List ℕ) (i : ℕ) (t : Twin) (is : IsTwin out i t) (width : ℕ) (some : 1 ≤ width) (le : width ≤ t.run) where
  -- both pieces end within the text
  pub twin_within : t.from + width ≤ length out
  twin_within =
      let low = is.alike.0 in
      let long = length-drop t.from out in
      omega arith

  pub node_within : i + width ≤ length out
  node_within =
      let low = is.alike.1 in
      let long = length-drop i out in
      omega arith

  same_piece : slice_range out t.from (t.from + width) ≡ slice_range out i (i + width)
  same_piece = piece_range out t.from width ∙ ((alike_less (drop t.from out) (drop i out) width t.run le is.alike).2 ∙ sym (piece_range out i width))

  -- the set of the twin's piece is that of the node's piece
  pub set_of_twin : (on : OnRow) (c : List Entry) (done : ℕ) (edges : List Edge) → EdgesSoFar on out i done c edges → (set : Option ℕ)
      → IsSetBetween t.from (t.from + width) edges set → IsSetOf on c (slice_range out i (i + width)) set
  set_of_twin on c done edges s None none =
      let up : t.from < t.from + width = omega arith in
      let earlier = is.earlier (omega arith) in
      elim (s.covers t.from (t.from + width) up twin_within (inl earlier)) [
        | inl found ↦ absurd (none found)
        | inr nothing ↦ λ a g. nothing a (subst (λ w. PieceAtom on w a) (sym same_piece) g)
      ]
  set_of_twin on c done edges s (Some n) found =
      let e = found.0 in
      let atoms = (s.each found.1.0 e found.1.1).atoms in
      let ends = found.2.0 in
      let text : slice_range out e.from e.to ≡ slice_range out i (i + width) = ap (λ m. slice_range out m e.to) ends.0 ∙ (ap (slice_range out t.from) ends.1 ∙ same_piece) in
      subst (AreAtomsOf on c (slice_range out i (i + width))) found.2.1 (subst (λ w. AreAtomsOf on c w e.atoms) text atoms)
