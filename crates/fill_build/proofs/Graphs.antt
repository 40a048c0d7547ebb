-- The trimmed graph of the edges of pieces.
use Rattle.std.proofs.Common.{◌≡◌, ◌↔◌, ℕ, ◌+◌, ◌-◌, ◌≤◌, List, [], ◌∷◌, length, Option, Some, None, Result, Ok, Err, slice_get, sym, subst, arith}
use Rattle.std.specs.Prelude.{IfOk, MatchOption}
use Rattle.std.proofs.lemmas.Option.{slice_get_within}
use Rattle.fill_text.specs.declared.error.NoMemory.{NoMemory}
use Rattle.fill_tree.specs.Tree.{Atoms}
use Rattle.fill_tree.specs.Chosen.{Explains}
use Rattle.fill_arena.specs.Contents.{Extends}
use Rattle.fill_arena.specs.Stands.{Walks}
use Rattle.fill_arena.specs.WellMade.{IsWellMade, IsGraphOf, OlderAtoms, Path}
use Rattle.fill_arena.specs.declared.entry.Edge.{Edge}
use Rattle.fill_arena.specs.declared.entry.Entry.{Entry}
use Rattle.fill_arena.specs.declared.entry.Entry.TheVariants as kind
use Rattle.fill_arena.proofs.Filled.{program_filled}
use Rattle.fill_arena.proofs.Lists.{extends_same}
use Rattle.fill_arena.proofs.Sets.{program_by_walk}
use Rattle.fill_trim.specs.Marks.{HasNoWalk}
use Rattle.fill_trim.specs.Trim.{AreEdges, IsTrimmed}
use Rattle.fill_trim.specs.declared.trim.Trimmed.{Trimmed}
use Rattle.fill_trim.proofs.Programs.{walk_sets, trimmed_walks}
use Rattle.fill_sources.specs.declared.row.OnRow.{OnRow}
use Rattle.fill_build.specs.Build.{NoneExplains, IsGraphOfExample, example}
use Rattle.fill_build.specs.Edges.{AreWalks, EdgesSoFar}
use Rattle.fill_build.proofs.Walks.{walks_explain}

module _ (on : OnRow) (out : List ℕ) (c : List Entry) (edges : List Edge) (s : EdgesSoFar on out (length out) 0 c edges) where
  pub are_edges : AreEdges (length out + 1) edges
  are_edges = record {
    onward = λ k e h. (let is = s.each k e h in let low = is.within in (is.onward, omega arith));
    ordered = s.ordered;
  }

  last_node : length out + 1 - 1 ≡ length out
  last_node = omega arith

  walks_of : (d : List Entry) → Extends c d → (p : Atoms) → Walks p d edges (length out + 1 - 1) 0 ↔ Explains on.settings on.sheet.now on.tables.now (example on.row out ∷ []) p
  walks_of d o p =
      let both = walks_explain on out c edges s d o p in
      (λ w. both.0 (subst (λ n. Walks p d edges n 0) last_node w), λ h. subst (λ n. Walks p d edges n 0) (sym last_node) (both.1 h))

  none_explains : HasNoWalk (length out + 1) edges → NoneExplains on.settings on.sheet.now on.tables.now on.row out
  none_explains none p h =
      let w = walk_sets p c edges (length out + 1 - 1) 0 ((walks_of c (extends_same c) p).1 h) in
      none w.0 w.1

  -- each edge of a path leads on
  goes_on : (path : List Edge) (from to : ℕ) → Path edges from path to → from + length path ≤ to
  goes_on [] from to h = omega arith
  goes_on (e ∷ path) from to h =
      let up = (s.each h.0.0 e h.0.1).onward in
      let rest = goes_on path e.to to h.2 in
      let at = h.1 in
      omega arith

  ends_within : (path : List Edge) (from to : ℕ) → from ≤ length out → Path edges from path to → to ≤ length out
  ends_within [] from to le h = omega arith
  ends_within (e ∷ path) from to le h = ends_within path e.to to (s.each h.0.0 e h.0.1).within h.2

  few_edges : length out ≤ 100 → (path : List Edge) (from to : ℕ) → Path edges from path to → length path ≤ 100
  few_edges few [] from to h = omega arith
  few_edges few (e ∷ path) from to h =
      let is = s.each h.0.0 e h.0.1 in
      let up = is.onward in
      let low = is.within in
      let end = ends_within path e.to to is.within h.2 in
      let on' = goes_on path e.to to h.2 in
      omega arith

  module _ (few : length out ≤ 100) (t : Trimmed) (trimmed : IsTrimmed (length out + 1) edges t) where
    trimmed_graph : IsGraphOf c (length c) t.nodes t.edges
    trimmed_graph =
        record {
          some = trimmed.some;
          each = λ k e h.
              (let up = trimmed.are.onward k e h in
              let f = trimmed.origin k e h in
              let set = (s.each f.1.0 f.0 f.1.1).atoms.set in
              let older : OlderAtoms c (length c) f.0.atoms = (set, slice_get_within c f.0.atoms (kind.Atoms set.0) set.1) in
              record { onward = up.0; within = up.1; atoms = subst (OlderAtoms c (length c)) f.2 older });
          from_first = trimmed.from_first;
          to_last = trimmed.to_last;
          short = λ from to path walk.
              (let old = trimmed.short from to path walk in
              subst (λ n. n ≤ 100) old.4 (few_edges few old.2 old.0 old.1 old.3));
        }

    are_walks : AreWalks on out c t
    are_walks =
        record {
          graph = trimmed_graph;
          walks = λ d o p.
              (let first = trimmed_walks (length out + 1) edges t trimmed d p in
              let second = walks_of d o p in
              (λ w. second.0 (first.0 w), λ h. first.1 (second.1 h)));
        }

  pub walks_result : length out ≤ 100 → (r : Result (Option Trimmed) NoMemory) → IfOk r (λ made. MatchOption made (HasNoWalk (length out + 1) edges) (IsTrimmed (length out + 1) edges))
      → IfOk r (λ made. MatchOption made (NoneExplains on.settings on.sheet.now on.tables.now on.row out) (AreWalks on out c))
  walks_result few (Ok None) h = none_explains h
  walks_result few (Ok (Some t)) h = are_walks few t h
  walks_result few (Err x) h = h

pub is_graph : (on : OnRow) (out : List ℕ) (c d : List Entry) (t : Trimmed) (g : ℕ) → AreWalks on out c t → Extends c d → IsWellMade d → slice_get d g ≡ Some (kind.Graph t.nodes t.edges)
    → IsGraphOfExample on.settings on.sheet.now on.tables.now on.row out d g
is_graph on out c d t g w o made at =
    let exact = λ (p : Atoms).
    (let now = program_by_walk d g t.nodes t.nodes t.edges t.edges p (Walks p d t.edges (t.nodes - 1) 0) at at (λ x. x, λ x. x) in
    let both = w.walks d o p in
    let two : _ ↔ Explains on.settings on.sheet.now on.tables.now (example on.row out ∷ []) p = (λ s. both.0 (now.1 s), λ s. now.0 (both.1 s)) in
    two) in
    let first = program_filled d made g (t.nodes, t.edges, at) in
    record { graph = (t.nodes, t.edges, at); exact = exact; some = (first.0, (exact first.0).0 first.1) }
