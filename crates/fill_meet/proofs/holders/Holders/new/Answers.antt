use Rattle.std.proofs.Common.{◌%◌, subst, arith}
use Rattle.fill_meet.specs.Groups.{AreGroups, AreKeys}
use Rattle.fill_meet.proofs.Chains.{grouped}
use Rattle.fill_meet.proofs.Lists.{here}
use Rattle.fill_meet.proofs.MateLaws.{held_end, held_more}
use Rattle.fill_meet.proofs.holders.Holders.new.Goals as goal

pub loop-n-preserved : goal.loop-n-preserved
loop-n-preserved c = held_more c.args.arena.now c.args.sets.now _ _ c.loop-n.n _ _ (here _ _ _ c.loop-n-test.true c.index-sets-n.is) c.places.ensures c.in_ok-put_places.ensures.grown c.in_ok-put_places.ensures.each c.loop-n.invariant

pub returns : goal.returns
returns c =
    let list = c.loop-n.list.items in
    let keys = c.in_ok-keys.keys.items in
    let count = c.saturating_add-count.result in
    let long = c.in_ok-groups.ensures.count in
    let are = subst (λ l. AreKeys (λ x. x.hash % count) l keys) c.as_slice.ensures.value c.in_ok-keys.ensures.keys in
    let groups = subst (λ l. AreGroups l c.in_ok-groups.groups) c.as_slice-2.ensures.value c.in_ok-groups.ensures.groups in
    record {
      holders = held_end c.args.arena.now c.args.sets.now list c.loop-n.n c.loop-n-test.false c.loop-n.invariant;
      some = (let more = c.saturating_add-count.ensures in omega arith);
      groups = grouped list (λ x. x.hash) count keys c.in_ok-groups.groups are groups long;
    }
