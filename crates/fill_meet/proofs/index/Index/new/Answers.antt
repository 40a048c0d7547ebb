use Rattle.std.proofs.Common.{◌≡◌, ◌%◌, Some, slice_get, sym, subst, arith}
use Rattle.fill_arena.specs.Contents.{EachIn, IsAtomSet, IsPlaceSet}
use Rattle.fill_meet.specs.Groups.{AreGroups, AreKeys}
use Rattle.fill_meet.specs.Mates.{AreHeld}
use Rattle.fill_meet.proofs.Chains.{grouped}
use Rattle.fill_meet.proofs.IndexLaws.{items_end}
use Rattle.fill_meet.proofs.LabelLaws.{labels_sets, labels_within}
use Rattle.fill_meet.proofs.index.Index.new.Goals as goal

pub new-requires-2 : goal.new-requires-2
new-requires-2 c = λ k n at.
    let lt = labels_within c.args.edges.now c.in_ok-labels.labels c.in_ok-labels.ensures k n (subst (λ l. slice_get l k ≡ Some n) c.as_slice.ensures.value at) in
    let long = c.len.ensures in
    omega arith

pub put_set-requires-clause-sets : goal.put_set-requires-clause-sets
put_set-requires-clause-sets c = labels_sets (IsAtomSet c.args.arena.now) c.args.edges.now c.in_ok-labels.labels c.in_ok-labels.ensures c.requires

pub new-requires-4 : goal.new-requires-4
new-requires-4 c = subst (EachIn (IsPlaceSet c.args.arena.now)) (sym c.as_slice-4.ensures.value) c.loop-n.invariant.sets

pub returns : goal.returns
returns c =
    let labels = c.in_ok-labels.labels in
    let items = c.loop-n.items.items in
    let keys = c.in_ok-keys.keys.items in
    let count = c.saturating_add-count.result in
    let long = c.in_ok-groups.ensures.count in
    let are = subst (λ l. AreKeys (λ x. x.hash % count) l keys) c.as_slice-2.ensures.value c.in_ok-keys.ensures.keys in
    let groups = subst (λ l. AreGroups l c.in_ok-groups.groups) c.as_slice-3.ensures.value c.in_ok-groups.ensures.groups in
    record {
      atom_sets = c.requires;
      labels = c.in_ok-labels.ensures;
      by_label = subst (λ l. AreGroups l c.in_ok-by_label.by_label) c.as_slice.ensures.value c.in_ok-by_label.ensures.groups;
      items = items_end c.args.arena.now labels.sets.items c.loop-n.n items c.loop-n.places.sets.items (let end = c.len-n-end.ensures in let at = c.loop-n.auto.n-end in let test = c.loop-n-test.false in omega arith) c.loop-n.invariant;
      some = (let more = c.saturating_add-count.ensures in omega arith);
      groups = grouped items (λ x. x.hash) count keys c.in_ok-groups.groups are groups long;
      sets = c.loop-n.invariant.sets;
      held = subst (λ l. AreHeld c.args.arena.now l c.in_ok-holders.holders) c.as_slice-4.ensures.value c.in_ok-holders.ensures;
    }
