use Rattle.std.proofs.Common.{ℕ, ◌+◌, List, length, sym, subst}
use Rattle.std.specs.Prelude.{IfOk, MatchOption}
use Rattle.fill_arena.specs.declared.entry.Edge.{Edge}
use Rattle.fill_sources.proofs.Finding.{places_stand_on}
use Rattle.fill_trim.specs.Marks.{HasNoWalk}
use Rattle.fill_trim.specs.Trim.{IsTrimmed}
use Rattle.fill_build.specs.Edges.{EdgesSoFar}
use Rattle.fill_build.proofs.Graphs.{walks_result}
use Rattle.fill_build.proofs.uncut.build_walks.Goals as goal

pub piece_edges-requires-clause-row_texts : goal.piece_edges-requires-clause-row_texts
piece_edges-requires-clause-row_texts c = c.in-Ok.ensures c.args.arena.now c.requires.memory

pub returns-in_err-edges-clause-memory : goal.returns-in_err-edges-clause-memory
returns-in_err-edges-clause-memory c = places_stand_on c.args.arena.now c.piece_edges.new.arena c.piece_edges.ensures.extends c.args.memory.now c.requires.memory

pub returns-clause-memory : goal.returns-clause-memory
returns-clause-memory c =
    c.keep_places.ensures c.piece_edges.new.arena c.in_ok-edges.ensures.row_texts (places_stand_on c.args.arena.now c.piece_edges.new.arena c.piece_edges.ensures.extends c.args.memory.now c.requires.memory)

pub returns-clause-walks : goal.returns-clause-walks
returns-clause-walks c =
    let edges = c.as_slice.result.now in
    let out = c.args.text.now in
    let state = subst (λ (l : List Edge). EdgesSoFar c.args.on.now out (length out) 0 c.piece_edges.new.arena l) (sym c.as_slice.ensures) c.in_ok-edges.ensures.edges in
    walks_result c.args.on.now out c.piece_edges.new.arena edges state c.requires.short c.trim.result
    (subst (λ (n : ℕ). IfOk c.trim.result (λ made. MatchOption made (HasNoWalk (n + 1) edges) (IsTrimmed (n + 1) edges))) c.len.ensures.value c.trim.ensures)
