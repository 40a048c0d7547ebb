use Rattle.std.proofs.Common.{ℕ, ◌+◌, ◌%◌, ◌<◌, ◌≤◌, List, length, sym, subst, arith}
use Rattle.fill_arena.specs.Contents.{IsAtomSet}
use Rattle.fill_arena.proofs.Lists.{extends_on, extends_same}
use Rattle.fill_meet.specs.Groups.{AreGroups, IsFirstFrom}
use Rattle.fill_meet.specs.Guides.{IsSharedOf}
use Rattle.fill_meet.proofs.Chains.{next_of, nexts_long}
use Rattle.fill_meet.proofs.Grown.{grows_on, grows_same}
use Rattle.fill_meet.proofs.GuideLaws.{shared_of_on, task_stays}
use Rattle.fill_meet.proofs.LabelLaws.{labels_sets}
use Rattle.fill_meet.proofs.RowLaws.{entries_end, entries_more, entries_past, entries_start, entries_stay}
use Rattle.fill_meet.proofs.makes.make_alike.Goals as goal

pub loop-e-init : goal.loop-e-init
loop-e-init c =
    let index = c.args.task.now.guide.now.index in
    let groups = c.requires.task.guide.index.1.groups in
    let count = length index.groups.firsts.items in
    let P = IsSharedOf c.args.arena.now c.args.task.now c.args.zs.now in
    record {
      extends = extends_same c.args.arena.now;
      memo = c.requires.memo;
      task = c.requires.task;
      made = c.requires.made;
      grown = grows_same c.args.zs.now;
      group = λ keys are v at. (c.first_of-e.ensures keys are).here v at;
      below = entries_past c.args.arena.now index groups.keys count groups.are P c.args.hash 0 c.first_of-e.result (c.first_of-e.ensures groups.keys groups.groups) (entries_start c.args.arena.now index P c.args.hash);
    }

pub loop-e-smaller : goal.loop-e-smaller
loop-e-smaller c =
    let index = c.args.task.now.guide.now.index in
    let groups = c.requires.task.guide.index.1.groups in
    let count = length index.groups.firsts.items in
    let test : c.loop-e.e < length index.items.items = (let at = c.loop-e-test.true in let len = c.len.ensures in omega arith) in
    let within : c.loop-e.e < length index.groups.nexts.items = subst (λ n. c.loop-e.e < n) (sym (nexts_long (λ x. x.hash % count) index.items.items index.groups groups)) test in
    let past = (next_of groups.keys index.groups (c.args.hash % count) c.loop-e.e c.next-e.result groups.groups within (c.loop-e.invariant.group groups.keys groups.groups) (λ k at. c.next-e.ensures groups.keys k groups.groups at)).past in
    omega arith

pub loop-e-preserved : goal.loop-e-preserved
loop-e-preserved c =
    let inv = c.loop-e.invariant in
    let task = c.args.task.now in
    let index = c.args.task.now.guide.now.index in
    let is = inv.task.guide.index in
    let groups = c.requires.task.guide.index.1.groups in
    let count = length index.groups.firsts.items in
    let old = c.loop-e.arena in
    let new = c.make_one.new.arena in
    let made = c.in_ok-make_one.ensures in
    let o = c.make_one.ensures.extends in
    let test : c.loop-e.e < length index.items.items = (let at = c.loop-e-test.true in let len = c.len.ensures in omega arith) in
    let within : c.loop-e.e < length index.groups.nexts.items = subst (λ n. c.loop-e.e < n) (sym (nexts_long (λ x. x.hash % count) index.items.items index.groups groups)) test in
    let next : (keys : List ℕ) → AreGroups keys index.groups → IsFirstFrom keys (c.args.hash % count) (c.loop-e.e + 1) c.next-e.result = λ keys are.
    next_of keys index.groups (c.args.hash % count) c.loop-e.e c.next-e.result are within (inv.group keys are) (λ k at. c.next-e.ensures keys k are at) in
    let P = IsSharedOf old task c.loop-e.zs in
    let Q = IsSharedOf new task c.make_one.new.zs in
    let atom_sets = labels_sets (IsAtomSet old) is.0 index.labels is.1.labels is.1.atom_sets in
    let before = entries_stay old new o index atom_sets P Q (shared_of_on old new o task c.loop-e.zs c.make_one.new.zs made.grown) c.args.hash c.loop-e.e inv.below in
    record {
      extends = extends_on c.args.arena.now old new inv.extends o;
      memo = made.memo;
      task = task_stays old new o task inv.task;
      made = made.made;
      grown = grows_on c.args.zs.now c.loop-e.zs c.make_one.new.zs inv.grown made.grown;
      group = λ keys are v at. (next keys are).here v at;
      below = entries_past new index groups.keys count groups.are Q c.args.hash (c.loop-e.e + 1) c.next-e.result (next groups.keys groups.groups) (entries_more new index Q Q (λ n j y h. h) c.args.hash c.loop-e.e made.done before);
    }

pub returns-in_err-make_one-clause-extends : goal.returns-in_err-make_one-clause-extends
returns-in_err-make_one-clause-extends c = extends_on c.args.arena.now c.loop-e.arena c.make_one.new.arena c.loop-e.invariant.extends c.make_one.ensures.extends

pub returns-clause-done : goal.returns-clause-done
returns-clause-done c =
    let past : length c.args.task.now.guide.now.index.items.items ≤ c.loop-e.e = (let at = c.loop-e-test.false in let len = c.len.ensures in omega arith) in
    entries_end c.loop-e.arena c.args.task.now.guide.now.index (IsSharedOf c.loop-e.arena c.args.task.now c.loop-e.zs) c.args.hash c.loop-e.e past c.loop-e.invariant.below
