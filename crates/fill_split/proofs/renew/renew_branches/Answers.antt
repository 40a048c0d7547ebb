use Rattle.std.proofs.Common.{◌<◌, ◌≤◌, length, arith, ◌∙◌, length-set}
use Rattle.fill_split.proofs.Zips.{here}
use Rattle.fill_split.proofs.Renewing.{renewed_more, renewed_end}
use Rattle.fill_split.proofs.renew.renew_branches.Goals as goal

pub loop-i-preserved : goal.loop-i-preserved
loop-i-preserved g c =
    let i = c.loop-i.invariant in
    let same = i.long in
    let within = c.loop-i-test.true in
    let end = c.len-i-end.ensures in
    let count = c.args.branches.now.ok.0 in
    let lt : c.loop-i.i < length c.loop-i.branches.items = omega arith in
    record {
      long = length-set c.loop-i.branches.items c.loop-i.i _ ∙ i.long;
      to = renewed_more c.args.kept.now c.loop-i.i c.args.branches.now.items c.loop-i.branches.items _ _ i.to (here c.loop-i.branches.items c.loop-i.i c.index_mut-fold.result.now lt c.index_mut-fold.ensures.value) c.renew_branch.ensures;
    }

pub returns : goal.returns
returns g c =
    let i = c.loop-i.invariant in
    let past = c.loop-i-test.false in
    let end = c.len-i-end.ensures in
    let count = c.args.branches.now.ok.0 in
    let all : length c.args.branches.now.items ≤ c.loop-i.i = omega arith in
    renewed_end c.args.kept.now c.loop-i.i c.args.branches.now.items c.loop-i.branches.items all i.to
