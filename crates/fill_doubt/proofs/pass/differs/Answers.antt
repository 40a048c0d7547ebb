use Rattle.std.proofs.Common.{◌≡◌, ◌-◌, ℕ, length, drop, List, Option, refl, sym, ap, subst, ◌∙◌, arith}
use Rattle.std.proofs.lemmas.Bool.{false≢true}
use Rattle.fill_arena.proofs.Scan.{here}
use Rattle.fill_doubt.specs.Memo.{EdgeAnswers}
use Rattle.std.proofs.Common.{◌+◌}
use Rattle.fill_doubt.specs.Walks.{AreLaid, KeepsLengths}
use Rattle.fill_doubt.proofs.Flags.{fine_on, match_false, match_true, written}
use Rattle.fill_doubt.proofs.Laid.{AllAgree, laid_start, all_more, from_is_laid, edge_differs, agree_no_doubt}
use Rattle.fill_doubt.proofs.pass.differs.Goals as goal

pub loop-i-init : goal.loop-i-init
loop-i-init c =
    let h = c.in_ok-lengths.ensures in
    record {
      memo = c.requires.memo;
      long = h.long;
      laid = laid_start (EdgeAnswers c.args.on.now) c.args.edges.now c.args.text.now c.in_ok-lengths.lengths.items h.first h.others;
      all = record { agree = λ k e l g. absurd (omega arith) };
    }

pub follow_edge-requires-clause-atoms : goal.follow_edge-requires-clause-atoms
follow_edge-requires-clause-atoms c =
    let x = c.index-edges-i.result in
    (c.requires.edges.1.graph.each c.loop-i.i x (here c.args.edges.now c.loop-i.i x c.loop-i-test.true c.index-edges-i.is)).atoms.0

pub follow_edge-requires-clause-from : goal.follow_edge-requires-clause-from
follow_edge-requires-clause-from c =
    let G = EdgeAnswers c.args.on.now in
    let x = c.index-edges-i.result in
    let at = here c.args.edges.now c.loop-i.i x c.loop-i-test.true c.index-edges-i.is in
    let fine = fine_on c.args.on.now c.requires.row c.args.nodes c.args.edges.now c.requires.edges in
    rw c.as_mut_slice.ensures.value (from_is_laid G c.args.edges.now c.args.text.now c.loop-i.lengths.items c.args.nodes c.loop-i.i x fine at c.loop-i.invariant.laid.first c.loop-i.invariant.all)

pub follow_edge-requires-clause-to : goal.follow_edge-requires-clause-to
follow_edge-requires-clause-to c =
    let x = c.index-edges-i.result in
    let at = here c.args.edges.now c.loop-i.i x c.loop-i-test.true c.index-edges-i.is in
    let w = (c.requires.edges.1.graph.each c.loop-i.i x at).within in
    let size = ap length c.as_mut_slice.ensures.value in
    let long = c.loop-i.invariant.long in
    omega arith

pub follow_edge-requires-clause-laid : goal.follow_edge-requires-clause-laid
follow_edge-requires-clause-laid c =
    let x = c.index-edges-i.result in
    let at = here c.args.edges.now c.loop-i.i x c.loop-i-test.true c.index-edges-i.is in
    (c.args.edges.now, (c.loop-i.i, at), rw c.as_mut_slice.ensures.value c.loop-i.invariant.laid)

pub returns-then-not-branch-clause-answer : goal.returns-then-not-branch-clause-answer
returns-then-not-branch-clause-answer c =
    let G = EdgeAnswers c.args.on.now in
    let edges = c.args.edges.now in
    let text = c.args.text.now in
    let x = c.index-edges-i.result in
    let at = here edges c.loop-i.i x c.loop-i-test.true c.index-edges-i.is in
    let fine = fine_on c.args.on.now c.requires.row c.args.nodes edges c.requires.edges in
    let clash = match_false _ _ c.in_ok-follow_edge.field-0 c.in_ok-follow_edge.ensures.says c.if-not-branch.true in
    let before = subst (λ (ls : List (Option ℕ)). AreLaid G edges text ls) (sym c.as_mut_slice.ensures.value) c.loop-i.invariant.laid in
    let laid = c.in_ok-follow_edge.ensures.laid edges (c.loop-i.i, at) before in
    ((λ _. edge_differs G edges text c.follow_edge.new.lengths c.args.nodes fine c.requires.one laid x (c.loop-i.i, at) clash), (λ _. refl))

pub loop-i-preserved : goal.loop-i-preserved
loop-i-preserved c =
    let G = EdgeAnswers c.args.on.now in
    let edges = c.args.edges.now in
    let text = c.args.text.now in
    let x = c.index-edges-i.result in
    let old = c.loop-i.lengths.items in
    let new = c.follow_edge.new.lengths in
    let n = c.loop-i.lengths.len in
    let size : n ≡ length new = (let k = c.loop-i.lengths.ok.0 in let v = ap length c.as_mut_slice.ensures.value in let a = c.follow_edge.auto.lengths in omega arith) in
    let is = written new (drop (length new) old) n size in
    let at = here edges c.loop-i.i x c.loop-i-test.true c.index-edges-i.is in
    let agrees = match_true _ _ c.in_ok-follow_edge.field-0 c.in_ok-follow_edge.ensures.says c.if-not-branch.false in
    let before = subst (λ (ls : List (Option ℕ)). AreLaid G edges text ls) (sym c.as_mut_slice.ensures.value) c.loop-i.invariant.laid in
    let laid = c.in_ok-follow_edge.ensures.laid edges (c.loop-i.i, at) before in
    let keeps = subst (λ (ls : List (Option ℕ)). KeepsLengths ls new) c.as_mut_slice.ensures.value c.in_ok-follow_edge.ensures.keeps in
    let all = all_more G edges text old new c.loop-i.i x at keeps c.loop-i.invariant.all agrees in
    record {
      memo = c.in_ok-follow_edge.ensures.memo;
      long = ap length is ∙ (let k = c.loop-i.lengths.ok.0 in let l = c.loop-i.invariant.long in omega arith);
      laid = subst (λ (ls : List (Option ℕ)). AreLaid G edges text ls) (sym is) laid;
      all = subst (λ (ls : List (Option ℕ)). AllAgree G edges text ls (c.loop-i.i + 1)) (sym is) all;
    }

pub returns-clause-answer : goal.returns-clause-answer
returns-clause-answer c =
    let G = EdgeAnswers c.args.on.now in
    let edges = c.args.edges.now in
    let e : c.loop-i.i ≡ length edges = (let a = c.loop-i.auto.i-end in let b = c.loop-i-test.false in omega arith) in
    let all = subst (λ n. AllAgree G edges c.args.text.now c.loop-i.lengths.items n) e c.loop-i.invariant.all in (
      λ t. absurd (false≢true t),
      λ d. absurd (agree_no_doubt G edges c.args.text.now c.loop-i.lengths.items all (c.args.nodes - 1) c.loop-i.invariant.laid.first c.requires.one d),
    )
