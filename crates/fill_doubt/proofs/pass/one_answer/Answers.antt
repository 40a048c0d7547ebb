use Rattle.std.proofs.Common.{ℕ, List, sym, subst}
use Rattle.fill_arena.proofs.Scan.{here}
use Rattle.fill_doubt.specs.Memo.{EdgeAnswers}
use Rattle.fill_doubt.proofs.Flags.{fine_on, lacks_one, match_false, match_true}
use Rattle.std.proofs.Common.{◌+◌}
use Rattle.fill_doubt.proofs.Walked.{IsWalked, walked_start, walked_more, walked_end}
use Rattle.fill_doubt.proofs.pass.one_answer.Goals as goal

pub loop-i-init : goal.loop-i-init
loop-i-init c = record {
  memo = c.requires.memo;
  walked = walked_start (EdgeAnswers c.args.on.now) c.args.edges.now c.args.nodes _ c.requires.edges.1.graph.some c.new-text.ensures;
}

pub append_first-requires-clause-atoms : goal.append_first-requires-clause-atoms
append_first-requires-clause-atoms c =
    let x = c.index-edges-i.result in
    (c.requires.edges.1.graph.each c.loop-i.i x (here c.args.edges.now c.loop-i.i x c.loop-i-test.true c.index-edges-i.is)).atoms.0

pub returns-clause-answer : goal.returns-clause-answer
returns-clause-answer c =
    let fine = fine_on c.args.on.now c.requires.row c.args.nodes c.args.edges.now c.requires.edges in
    walked_end (EdgeAnswers c.args.on.now) c.args.edges.now c.args.nodes c.loop-i.at c.loop-i.text c.loop-i.i fine c.loop-i.invariant.walked c.loop-i-test.false

pub returns-then-not-branch-clause-answer : goal.returns-then-not-branch-clause-answer
returns-then-not-branch-clause-answer c =
    let G = EdgeAnswers c.args.on.now in
    let x = c.index-edges-i.result in
    let at = here c.args.edges.now c.loop-i.i x c.loop-i-test.true c.index-edges-i.is in
    let fine = fine_on c.args.on.now c.requires.row c.args.nodes c.args.edges.now c.requires.edges in
    lacks_one G c.args.nodes c.args.edges.now fine c.loop-i.i x at (match_false _ _ c.in_ok-append_first.field-0 c.in_ok-append_first.ensures.appended c.if-not-branch.true)

pub loop-i-preserved : goal.loop-i-preserved
loop-i-preserved c =
    let G = EdgeAnswers c.args.on.now in
    let edges = c.args.edges.now in
    let x = c.index-edges-i.result in
    let at = here edges c.loop-i.i x c.loop-i-test.true c.index-edges-i.is in
    let fine = fine_on c.args.on.now c.requires.row c.args.nodes edges c.requires.edges in
    let t = match_true _ _ c.in_ok-append_first.field-0 c.in_ok-append_first.ensures.appended c.if-not-branch.false in
    record {
      memo = c.in_ok-append_first.ensures.memo;
      walked = subst (λ (u : List ℕ). IsWalked G edges c.args.nodes x.to u (c.loop-i.i + 1)) (sym t.2) (walked_more G edges c.args.nodes c.loop-i.at c.loop-i.text c.loop-i.i fine c.loop-i.invariant.walked x t.0 at t.1 c.if-e-at.false);
    }
