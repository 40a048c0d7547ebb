use Rattle.std.proofs.Common.{◌+◌, ℕ, List, drop, sym, subst, ◌∙◌, arith}
use Rattle.fill_arena.proofs.Lists.{extends_on}
use Rattle.fill_sources.specs.Sets.{texts_of}
use Rattle.fill_build.specs.Edges.{IsSetOf}
use Rattle.fill_build.specs.Hits.{AreHits}
use Rattle.fill_build.specs.declared.hits.Hit.{Hit}
use Rattle.fill_build.proofs.Finds.{narrowed}
use Rattle.fill_build.proofs.PieceEdges.{edges_put, edges_row}
use Rattle.fill_build.proofs.Lists.{piece_range, rest_goes_on, rest_ends}
use Rattle.fill_build.proofs.edges.make_edges.Goals as goal

pub returns-then-rest-run-clause-state : goal.returns-then-rest-run-clause-state
returns-then-rest-run-clause-state c =
    let n = c.args.node.now in
    let all = rest_ends c.as_slice.result.now n.text.now n.from n.twin.run c.as_slice.ensures c.if-rest-run.true in
    edges_row c.args.on.now n.text.now c.args.arena.now n.from n.twin.run c.args.edges.now all c.requires.state

pub piece_set-requires-clause-hits : goal.piece_set-requires-clause-hits
piece_set-requires-clause-hits c =
    let texts = texts_of c.loop-done.row_texts in
    let rest = drop c.args.node.now.from c.args.node.now.text.now in
    let width = c.loop-done.done + 1 in
    let h = c.loop-done.invariant.hits in
    let made = narrowed texts rest h.0 width c.loop-done.hits.items h.1 h.2 in
    subst (λ (l : List Hit). AreHits texts rest width l) (sym (c.as_slice-in-loop-done.ensures.value ∙ c.narrow.ensures)) made

pub loop-done-preserved : goal.loop-done-preserved
loop-done-preserved c =
    let n = c.args.node.now in
    let out = n.text.now in
    let texts = texts_of c.loop-done.row_texts in
    let rest = drop n.from out in
    let width = c.loop-done.done + 1 in
    let h = c.loop-done.invariant.hits in
    let made = narrowed texts rest h.0 width c.loop-done.hits.items h.1 h.2 in
    let now = subst (λ (l : List Hit). AreHits texts rest width l) (sym c.narrow.ensures) made in
    let low = rest_goes_on c.as_slice.result.now out n.from c.loop-done.done c.as_slice.ensures c.loop-done-test.true in
    let set = subst (λ (w : List ℕ). IsSetOf c.args.on.now c.piece_set.new.arena w c.in_ok-atoms.atoms) (sym (piece_range out n.from width)) c.in_ok-atoms.ensures.set in
    record {
      extends = extends_on _ _ _ c.loop-done.invariant.extends c.piece_set.ensures.extends;
      row_texts = c.in_ok-atoms.ensures.row_texts;
      hits = (width, omega arith, subst (λ (ts : List (List ℕ)). AreHits ts rest width c.narrow.new.hits.items) (sym c.piece_set.ensures.texts) now);
      state = edges_put c.args.on.now out c.loop-done.arena c.piece_set.new.arena c.piece_set.ensures.extends n.from c.loop-done.done low c.in_ok-atoms.atoms c.loop-done.edges c.put_edge.new.edges
          c.loop-done.invariant.state set c.in_ok-put_edge.ensures;
    }

pub returns-clause-state : goal.returns-clause-state
returns-clause-state c =
    let n = c.args.node.now in
    let all = rest_ends c.as_slice.result.now n.text.now n.from c.loop-done.done c.as_slice.ensures c.loop-done-test.false in
    edges_row c.args.on.now n.text.now c.loop-done.arena n.from c.loop-done.done c.loop-done.edges all c.loop-done.invariant.state
