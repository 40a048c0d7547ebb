-- Walks over the edges of pieces spell the rest of the text.
use Rattle.std.proofs.Common.{◌≡◌, ◌≢◌, ◌↔◌, ℕ, ◌+◌, ◌-◌, ◌<◌, ◌≤◌, inl, inr, List, [], ◌∷◌, ◌++◌, length, take, drop, slice_range, refl, sym, ap, ◌∙◌, subst, arith, length-drop, length-append}
use Rattle.std.proofs.lemmas.List.{drop-drop, length-take-le, take-append-drop, take_at, drop_at}
use Rattle.std.proofs.lemmas.List.Elements.{All-nil, All-cons, All-head}
use Rattle.fill_text.specs.Data.{SheetData, TableData}
use Rattle.fill_tokens.proofs.ValueLaws.{value_within}
use Rattle.fill_tree.specs.Tree.{AtomTree, Atoms, constant, whole, sub, end, more}
use Rattle.fill_tree.specs.Chosen.{Explains}
use Rattle.fill_tree.specs.Grammar.{InGrammar}
use Rattle.fill_tree.specs.Value.{AtomIs, ProgramIs}
use Rattle.fill_tree.specs.declared.user.Example.{Example}
use Rattle.fill_arena.specs.Contents.{Extends}
use Rattle.fill_arena.specs.Stands.{Walks}
use Rattle.fill_arena.specs.declared.entry.Edge.{Edge}
use Rattle.fill_arena.specs.declared.entry.Entry.{Entry}
use Rattle.fill_sources.specs.declared.row.OnRow.{OnRow}
use Rattle.fill_build.specs.Build.{example}
use Rattle.fill_build.specs.Pieces.{PieceAtom}
use Rattle.fill_build.specs.Edges.{EdgesSoFar}

-- an atom's value is not empty
pub atom_filled : (sheet : SheetData) (tables : List TableData) (row : ℕ) (a : AtomTree) (v : List ℕ) → AtomIs sheet tables row a v → v ≢ []
atom_filled sheet tables row (constant t) v h = h.1
atom_filled sheet tables row (whole s) v h = h.1
atom_filled sheet tables row (sub s p q) v h = λ e.
    let less = h.6 in
    let inside = value_within q h.0 h.2 h.5 in
    let drops = length-drop h.1 h.0 in
    let takes = length-take-le (h.2 - h.1) (drop h.1 h.0) (omega arith) in
    let none : length (take (h.2 - h.1) (drop h.1 h.0)) ≡ 0 = ap length (sym h.7 ∙ e) in
    absurd (omega arith)

nothing_left : (xs : List ℕ) → drop (length xs) xs ≡ []
nothing_left xs = drop_past xs where
  drop_past : (ys : List ℕ) → drop (length ys) ys ≡ []
  drop_past [] = refl
  drop_past (y ∷ ys) = drop_past ys

positive_length : (xs : List ℕ) → xs ≢ [] → 0 < length xs
positive_length [] h = absurd (h refl)
positive_length (x ∷ xs) h = omega arith

-- the rest of a text is its next piece and what follows that
split : (xs : List ℕ) (i j : ℕ) → i ≤ j → drop i xs ≡ slice_range xs i j ++ drop j xs
split xs i j le =
    let at : i + (j - i) ≡ j = omega arith in
    let rest : drop (j - i) (drop i xs) ≡ drop j xs = drop-drop (j - i) i xs ∙ ap (λ n. drop n xs) at in
    sym (ap (λ l. take (j - i) (drop i xs) ++ l) (sym rest) ∙ take-append-drop (j - i) (drop i xs))

module _ (on : OnRow) (out : List ℕ) (c : List Entry) (edges : List Edge) (s : EdgesSoFar on out (length out) 0 c edges) (d : List Entry) (o : Extends c d) where
  -- what a walk from a node spells is the rest of the text
  spells : (p : Atoms) (i : ℕ) → i ≤ length out → Walks p d edges (length out) i → InGrammar on.settings on.sheet.now on.tables.now p × ProgramIs on.sheet.now on.tables.now on.row p (drop i out)
  spells end i le h = (tt, subst (λ n. drop n out ≡ []) (sym h) (nothing_left out))
  spells (more a rest) i le h =
      let e = h.0 in
      let is = s.each h.1.0 e h.1.1 in
      let gives = (is.atoms.exact d o a).0 h.2.1 in
      let after = spells rest e.to is.within h.2.2 in
      let up = is.onward in
      let parts : drop i out ≡ slice_range out e.from e.to ++ drop e.to out = subst (λ n. drop n out ≡ slice_range out e.from e.to ++ drop e.to out) h.2.0 (split out e.from e.to (omega arith)) in
      ((gives.0, after.0), (slice_range out e.from e.to, drop e.to out, gives.1, after.1, parts))

  -- what spells the rest of the text is on a walk
  walk_there : (p : Atoms) (i : ℕ) → i ≤ length out → InGrammar on.settings on.sheet.now on.tables.now p → ProgramIs on.sheet.now on.tables.now on.row p (drop i out) → Walks p d edges (length out) i
  walk_there end i le g h =
      let long = length-drop i out in
      let none : length (drop i out) ≡ 0 = ap length h in
      omega arith
  walk_there (more a rest) i le g h =
      let x = h.0 in
      let y = h.1 in
      let j = i + length x in
      let some = positive_length x (atom_filled on.sheet.now on.tables.now on.row a x h.2) in
      let long = length-drop i out in
      let both : length (drop i out) ≡ length x + length y = ap length h.4 ∙ length-append x y in
      let low : j ≤ length out = omega arith in
      let up : i < j = omega arith in
      let width : j - i ≡ length x = omega arith in
      let first : slice_range out i j ≡ x = ap (λ n. take n (drop i out)) width ∙ (ap (take (length x)) h.4 ∙ take_at x y (length x) refl) in
      let second : drop j out ≡ y = sym (drop-drop (length x) i out) ∙ (ap (drop (length x)) h.4 ∙ drop_at x y (length x) refl) in
      let piece : PieceAtom on (slice_range out i j) a = (g.0, subst (AtomIs on.sheet.now on.tables.now on.row a) (sym first) h.2) in
      elim (s.covers i j up low (inl (omega arith))) [
        | inl found ↦
            let e = found.0 in
            let is = s.each found.1.0 e found.1.1 in
            let here = subst (λ n. PieceAtom on (slice_range out n e.to) a) (sym found.2.0) (subst (λ n. PieceAtom on (slice_range out i n) a) (sym found.2.1) piece) in
            let after = walk_there rest e.to is.within g.1 (subst (ProgramIs on.sheet.now on.tables.now on.row rest) (sym second ∙ ap (λ n. drop n out) (sym found.2.1)) h.3) in
            (e, found.1, (found.2.0, (is.atoms.exact d o a).1 here, after))
        | inr none ↦ absurd (none a piece)
      ]

  -- a walk from the first node to the last one spells the text
  pub walks_explain : (p : Atoms) → Walks p d edges (length out) 0 ↔ Explains on.settings on.sheet.now on.tables.now (example on.row out ∷ []) p
  walks_explain p =
      let P : Example → Type 0 = λ e. ProgramIs on.sheet.now on.tables.now e.row p e.text in (
        λ w.
            let h = spells p 0 (omega arith) w in
            record { in_grammar = h.0; values = All-cons P (example on.row out) [] h.1 (All-nil P) },
        λ h. walk_there p 0 (omega arith) h.in_grammar (All-head P (example on.row out) [] h.values),
      )
