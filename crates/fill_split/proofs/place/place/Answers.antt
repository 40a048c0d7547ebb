use Rattle.std.proofs.Common.{◌≡◌, arith, length}
use Rattle.fill_split.proofs.Coming.{stand_joined, stand_opened, opens_ninth, kept_stand, few_folds, few_steps}
use Rattle.fill_split.proofs.place.place.Goals as goal

pub find-requires-clause-single : goal.find-requires-clause-single
find-requires-clause-single g c = let r = c.requires.single in (_, r.1)

pub find-requires-clause-live : goal.find-requires-clause-live
find-requires-clause-live g c =
    let m = g.M.Maker in
    let r = c.requires.stands in
    let s = r.1 in
    (s.branches, rw c.as_slice.ensures.value (kept_stand (m.stands c.args.maker.now) r.0 _ _ _ s.each))

pub returns-in_err-found-clause-cost : goal.returns-in_err-found-clause-cost
returns-in_err-found-clause-cost g c =
    few_steps _ _ _ _ c.as_slice.ensures.value c.find.ensures.cost (few_folds _ _ _ _ _ _ _ _ c.requires.stands.1)

pub returns-in_err-place-in-Some-clause-cost : goal.returns-in_err-place-in-Some-clause-cost
returns-in_err-place-in-Some-clause-cost g c =
    few_steps _ _ _ _ c.as_slice.ensures.value c.find.ensures.cost (few_folds _ _ _ _ _ _ _ _ c.requires.stands.1)

pub returns-in_err-join_branch-in-Some-clause-cost : goal.returns-in_err-join_branch-in-Some-clause-cost
returns-in_err-join_branch-in-Some-clause-cost g c =
    few_steps _ _ _ _ c.as_slice.ensures.value c.find.ensures.cost (few_folds _ _ _ _ _ _ _ _ c.requires.stands.1)

pub returns-in_err-place-in-None-clause-cost : goal.returns-in_err-place-in-None-clause-cost
returns-in_err-place-in-None-clause-cost g c =
    few_steps _ _ _ _ c.as_slice.ensures.value c.find.ensures.cost (few_folds _ _ _ _ _ _ _ _ c.requires.stands.1)

pub returns-in_err-open_branch-in-None-clause-cost : goal.returns-in_err-open_branch-in-None-clause-cost
returns-in_err-open_branch-in-None-clause-cost g c =
    few_steps _ _ _ _ c.as_slice.ensures.value c.find.ensures.cost (few_folds _ _ _ _ _ _ _ _ c.requires.stands.1)

pub returns-in_ok-join_branch-in-Some-clause-cost : goal.returns-in_ok-join_branch-in-Some-clause-cost
returns-in_ok-join_branch-in-Some-clause-cost g c =
    few_steps _ _ _ _ c.as_slice.ensures.value c.find.ensures.cost (few_folds _ _ _ _ _ _ _ _ c.requires.stands.1)

pub returns-in_ok-open_branch-in-None-clause-cost : goal.returns-in_ok-open_branch-in-None-clause-cost
returns-in_ok-open_branch-in-None-clause-cost g c =
    few_steps _ _ _ _ c.as_slice.ensures.value c.find.ensures.cost (few_folds _ _ _ _ _ _ _ _ c.requires.stands.1)

pub returns-then-count-eq-MOST_BRANCHES-clause-placed : goal.returns-then-count-eq-MOST_BRANCHES-clause-placed
returns-then-count-eq-MOST_BRANCHES-clause-placed g c =
    let m = g.M.Maker in
    let f = c.args.folds.now in
    let none = rw (c.in-None.is, c.as_slice.ensures.value) at c.in_ok-found.ensures.found in
    let count : c.len-count.result ≡ length f.branches.items = (let b = c.len-count.ensures in let d = c.args.folds.now.branches.ok.0 in omega arith) in
    λ seen x s st.
    opens_ninth (m.stands c.args.maker.now) (m.stands c.find.new.maker) f.rule _ _ c.in_ok-found.ensures.older _ seen x _ _ _ s st c.len-count.result count c.if-count-eq-MOST_BRANCHES.true
    (none s.branches x (kept_stand (m.stands c.args.maker.now) seen _ _ _ s.each) st)

pub returns-in_ok-join_branch-in-Some-clause-placed : goal.returns-in_ok-join_branch-in-Some-clause-placed
returns-in_ok-join_branch-in-Some-clause-placed g c =
    let m = g.M.Maker in
    let f = c.args.folds.now in
    let found = rw (c.in-Some.is, c.as_slice.ensures.value) at c.in_ok-found.ensures.found in
    let n = c.in_ok-place-in-Some.ensures in
    let a = c.in_ok-join_branch-in-Some.ensures in
    let long = c.len-item.ensures in
    λ seen x s st.
    rw (n.1, n.2) (stand_joined (m.stands c.args.maker.now) (m.stands c.find.new.maker) f.rule _ _ c.in_ok-found.ensures.older _ seen x _ _ _ s st c.in-Some.found.branch c.in-Some.found.kept _ _ a.0 a.1
    (found s.branches x (kept_stand (m.stands c.args.maker.now) seen _ _ _ s.each) st) n.0 a.2 a.3 a.4 (rw long at a.5) a.6)

pub returns-in_ok-open_branch-in-None-clause-placed : goal.returns-in_ok-open_branch-in-None-clause-placed
returns-in_ok-open_branch-in-None-clause-placed g c =
    let m = g.M.Maker in
    let f = c.args.folds.now in
    let none = rw (c.in-None.is, c.as_slice.ensures.value) at c.in_ok-found.ensures.found in
    let n = c.in_ok-place-in-None.ensures in
    let a = c.in_ok-open_branch-in-None.ensures in
    let long = c.len-item.ensures in
    let count : c.len-count.result ≡ length f.branches.items = (let b = c.len-count.ensures in let d = c.args.folds.now.branches.ok.0 in omega arith) in
    λ seen x s st.
    rw (n.1, n.2) (stand_opened (m.stands c.args.maker.now) (m.stands c.find.new.maker) f.rule _ _ c.in_ok-found.ensures.older _ seen x _ _ _ s st _ _ a.0 c.len-count.result count c.if-count-eq-MOST_BRANCHES.false
    (none s.branches x (kept_stand (m.stands c.args.maker.now) seen _ _ _ s.each) st) n.0 a.1 a.2 (rw long at a.3) a.4)
