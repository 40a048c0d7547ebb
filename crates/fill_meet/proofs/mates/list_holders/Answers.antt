use Rattle.std.proofs.Common.{◌≡◌, ℕ, ◌+◌, ◌%◌, ◌<◌, ◌≤◌, List, get_or, length, Some, slice_get, sym, subst, arith}
use Rattle.std.proofs.lemmas.Option.{slice_get-get_or}
use Rattle.fill_meet.specs.Groups.{AreGroups, IsFirstFrom}
use Rattle.fill_meet.specs.declared.holders.Holder.{Holder}
use Rattle.fill_meet.proofs.Chains.{next_of, nexts_long}
use Rattle.fill_meet.proofs.Grown.{grows_on, grows_same}
use Rattle.fill_meet.proofs.MateLaws.{put_end, put_more, put_on, put_start}
use Rattle.fill_meet.proofs.mates.list_holders.Goals as goal

pub loop-e-init : goal.loop-e-init
loop-e-init c =
    let groups = c.requires.groups in
    let list = c.args.holders.now.list.items in
    let count = length c.args.holders.now.groups.firsts.items in
    record {
      start = c.requires.start;
      grown = grows_same c.args.lists.now.numbers.items;
      group = λ keys are v at. (c.first_of-e.ensures keys are).here v at;
      put = put_on list c.args.start c.args.hash count groups.keys groups.are c.args.lists.now.numbers.items 0 c.first_of-e.result (c.first_of-e.ensures groups.keys groups.groups) (put_start list c.args.start c.args.hash count groups.keys groups.are c.args.lists.now.numbers.items);
    }

pub loop-e-smaller : goal.loop-e-smaller
loop-e-smaller c =
    let groups = c.requires.groups in
    let list = c.args.holders.now.list.items in
    let g = c.args.holders.now.groups in
    let count = length g.firsts.items in
    let test : c.loop-e.e < length list = subst (λ l. c.loop-e.e < length l) c.as_slice-list.ensures.value c.loop-e-test.true in
    let within : c.loop-e.e < length g.nexts.items = subst (λ n. c.loop-e.e < n) (sym (nexts_long (λ x. x.hash % count) list g groups)) test in
    let past = (next_of groups.keys g (c.args.hash % count) c.loop-e.e c.next-e.result groups.groups within (c.loop-e.invariant.group groups.keys groups.groups) (λ k at. c.next-e.ensures groups.keys k groups.groups at)).past in
    omega arith

pub loop-e-preserved : goal.loop-e-preserved
loop-e-preserved c =
    let inv = c.loop-e.invariant in
    let groups = c.requires.groups in
    let list = c.args.holders.now.list.items in
    let g = c.args.holders.now.groups in
    let count = length g.firsts.items in
    let old = c.loop-e.lists.numbers.items in
    let new = c.put_holder.new.lists.numbers.items in
    let put = c.in_ok-put_holder.ensures in
    let test : c.loop-e.e < length list = subst (λ l. c.loop-e.e < length l) c.as_slice-list.ensures.value c.loop-e-test.true in
    let within : c.loop-e.e < length g.nexts.items = subst (λ n. c.loop-e.e < n) (sym (nexts_long (λ x. x.hash % count) list g groups)) test in
    let next : (keys : List ℕ) → AreGroups keys g → IsFirstFrom keys (c.args.hash % count) (c.loop-e.e + 1) c.next-e.result = λ keys are.
    next_of keys g (c.args.hash % count) c.loop-e.e c.next-e.result are within (inv.group keys are) (λ k at. c.next-e.ensures keys k are at) in
    let slice = c.as_slice-list.result.now in
    let x : Holder = get_or slice c.loop-e.e (record { hash = 0; set = 0 }) in
    let hx = subst (λ l. slice_get l c.loop-e.e ≡ Some x) c.as_slice-list.ensures.value (slice_get-get_or slice c.loop-e.e (record { hash = 0; set = 0 }) c.loop-e-test.true) in
    record {
      start = (let a = inv.start in let b = put.grown.long in omega arith);
      grown = grows_on c.args.lists.now.numbers.items old new inv.grown put.grown;
      group = λ keys are v at. (next keys are).here v at;
      put = put_on list c.args.start c.args.hash count groups.keys groups.are new (c.loop-e.e + 1) c.next-e.result (next groups.keys groups.groups)
          (put_more list c.args.start c.args.hash count groups.keys groups.are old new c.loop-e.e x hx put.grown put.has inv.put);
    }

pub returns-clause-each : goal.returns-clause-each
returns-clause-each c =
    let groups = c.requires.groups in
    put_end c.args.holders.now.list.items c.args.start c.args.hash (length c.args.holders.now.groups.firsts.items) groups.keys groups.are c.loop-e.lists.numbers.items c.loop-e.e (subst (λ l. length l ≤ c.loop-e.e) c.as_slice-list.ensures.value c.loop-e-test.false) c.loop-e.invariant.put
