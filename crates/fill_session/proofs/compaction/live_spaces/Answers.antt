use Rattle.std.proofs.Common.{ℕ, List, ◌++◌, ◌≤◌, ◌∙◌, ap, append_assoc, subst, sym, take}
use Rattle.fill_split.specs.Standing.{kept_of}
use Rattle.fill_session.specs.Renewed.{all_moves, spaces_of}
use Rattle.fill_session.specs.declared.present.Present.{Present}
use Rattle.fill_session.proofs.Renewing.{spaces_all, spaces_more}
use Rattle.fill_session.proofs.compaction.live_spaces.Goals as goal

pub loop-i-preserved : goal.loop-i-preserved
loop-i-preserved c =
    let own = kept_of c.args.present.now.folds in
    let moves = c.args.history.now in
    let s = c.state.result.now in
    let so_far = spaces_of (λ (p : Present). kept_of p.folds) (take c.loop-i.i (all_moves moves)) in
    c.in_ok-append-2.ensures.ok ∙ ap (λ (l : List ℕ). l ++ c.kept-in-loop-i.result.now) c.loop-i.invariant
    ∙ ap (λ (l : List ℕ). (own ++ so_far) ++ l) c.kept-in-loop-i.ensures.kept ∙ append_assoc own so_far (kept_of s.folds)
    ∙ ap (λ (l : List ℕ). own ++ l) (sym (spaces_more (λ (p : Present). kept_of p.folds) moves c.loop-i.i s c.state.ensures))

pub returns : goal.returns
returns c =
    let own = kept_of c.args.present.now.folds in
    let end = subst (λ n. n ≤ c.loop-i.i) c.len-i-end.ensures.count c.loop-i-test.false in
    c.loop-i.invariant ∙ ap (λ (l : List ℕ). own ++ l) (spaces_all (λ (p : Present). kept_of p.folds) c.args.history.now c.loop-i.i end)
