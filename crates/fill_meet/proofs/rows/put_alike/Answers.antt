use Rattle.std.proofs.Common.{ℕ, ◌+◌, ◌%◌, ◌<◌, ◌≤◌, List, length, sym, subst, arith}
use Rattle.fill_meet.specs.Groups.{AreGroups, IsFirstFrom}
use Rattle.fill_meet.specs.Rows.{IsCovered}
use Rattle.fill_meet.proofs.Chains.{next_of, nexts_long}
use Rattle.fill_meet.proofs.Grown.{grows_on, grows_same}
use Rattle.fill_meet.proofs.RowLaws.{covered_on, entries_end, entries_more, entries_past, entries_start}
use Rattle.fill_meet.proofs.rows.put_alike.Goals as goal

pub loop-e-init : goal.loop-e-init
loop-e-init c =
    let index = c.args.ask.index.now in
    let groups = c.requires.index.1.groups in
    let count = length index.groups.firsts.items in
    let P = IsCovered c.args.arena.now c.args.findings.now.rows.numbers.items c.args.ask.start c.args.ask.x.now in
    record {
      start = c.requires.start;
      verdicts = c.requires.verdicts;
      grown = grows_same c.args.findings.now.rows.numbers.items;
      group = λ keys are v at. (c.first_of-e.ensures keys are).here v at;
      below = entries_past c.args.arena.now index groups.keys count groups.are P c.args.hash 0 c.first_of-e.result (c.first_of-e.ensures groups.keys groups.groups) (entries_start c.args.arena.now index P c.args.hash);
    }

pub loop-e-smaller : goal.loop-e-smaller
loop-e-smaller c =
    let index = c.args.ask.index.now in
    let groups = c.requires.index.1.groups in
    let count = length index.groups.firsts.items in
    let test : c.loop-e.e < length index.items.items = (let at = c.loop-e-test.true in let len = c.len.ensures in omega arith) in
    let within : c.loop-e.e < length index.groups.nexts.items = subst (λ n. c.loop-e.e < n) (sym (nexts_long (λ x. x.hash % count) index.items.items index.groups groups)) test in
    let past = (next_of groups.keys index.groups (c.args.hash % count) c.loop-e.e c.next-e.result groups.groups within (c.loop-e.invariant.group groups.keys groups.groups) (λ k at. c.next-e.ensures groups.keys k groups.groups at)).past in
    omega arith

pub loop-e-preserved : goal.loop-e-preserved
loop-e-preserved c =
    let inv = c.loop-e.invariant in
    let arena = c.args.arena.now in
    let index = c.args.ask.index.now in
    let start = c.args.ask.start in
    let x = c.args.ask.x.now in
    let groups = c.requires.index.1.groups in
    let count = length index.groups.firsts.items in
    let old = c.loop-e.findings.rows.numbers.items in
    let new = c.put_entry.new.findings.rows.numbers.items in
    let put = c.in_ok-put_entry.ensures in
    let test : c.loop-e.e < length index.items.items = (let at = c.loop-e-test.true in let len = c.len.ensures in omega arith) in
    let within : c.loop-e.e < length index.groups.nexts.items = subst (λ n. c.loop-e.e < n) (sym (nexts_long (λ x. x.hash % count) index.items.items index.groups groups)) test in
    let next : (keys : List ℕ) → AreGroups keys index.groups → IsFirstFrom keys (c.args.hash % count) (c.loop-e.e + 1) c.next-e.result = λ keys are.
    next_of keys index.groups (c.args.hash % count) c.loop-e.e c.next-e.result are within (inv.group keys are) (λ k at. c.next-e.ensures keys k are at) in
    let P = IsCovered arena old start x in
    let Q = IsCovered arena new start x in
    record {
      start = (let a = inv.start in let b = put.grown.long in omega arith);
      verdicts = put.verdicts;
      grown = grows_on c.args.findings.now.rows.numbers.items old new inv.grown put.grown;
      group = λ keys are v at. (next keys are).here v at;
      below = entries_past arena index groups.keys count groups.are Q c.args.hash (c.loop-e.e + 1) c.next-e.result (next groups.keys groups.groups)
          (entries_more arena index P Q (covered_on arena old new start x put.grown) c.args.hash c.loop-e.e put.done inv.below);
    }

pub returns-clause-done : goal.returns-clause-done
returns-clause-done c =
    let past : length c.args.ask.index.now.items.items ≤ c.loop-e.e = (let at = c.loop-e-test.false in let len = c.len.ensures in omega arith) in
    entries_end c.args.arena.now c.args.ask.index.now (IsCovered c.args.arena.now c.loop-e.findings.rows.numbers.items c.args.ask.start c.args.ask.x.now) c.args.hash c.loop-e.e past c.loop-e.invariant.below
