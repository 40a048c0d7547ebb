use Rattle.std.proofs.Common.{◌≡◌, [], ◌∷◌, ◌++◌}
use Rattle.std.specs.Prelude.{MatchOption}
use Rattle.fill_meet.specs.Guides.{IsMadeTo, IsSharedOf}
use Rattle.fill_meet.specs.Rows.{IsEntryDone}
use Rattle.fill_meet.specs.Runs.{Grows}
use Rattle.fill_meet.proofs.GuideLaws.{entry_of_other, entry_shared, one_step, task_item, task_stays}
use Rattle.fill_meet.proofs.Lists.{here}
use Rattle.fill_meet.proofs.RowLaws.{entry_other}
use Rattle.fill_meet.proofs.Trials.{done_any, done_map}
use Rattle.fill_meet.proofs.makes.make_one.Goals as goal

pub returns-then-item-hash-clause-done : goal.returns-then-item-hash-clause-done
returns-then-item-hash-clause-done c =
    let task = c.args.task.now in
    let index = c.args.task.now.guide.now.index in
    let z = c.index-item.result.now in
    let hz = here index.items.items c.args.e z c.requires.within c.index-item.ensures in
    entry_other c.args.arena.now index c.args.hash c.args.e z hz (IsSharedOf c.args.arena.now task c.args.zs.now) (λ same. c.if-item-hash.true same)

pub returns-then-item-task-clause-done : goal.returns-then-item-task-clause-done
returns-then-item-task-clause-done c =
    let task = c.args.task.now in
    let index = c.args.task.now.guide.now.index in
    let z = c.index-item.result.now in
    let hz = here index.items.items c.args.e z c.requires.within c.index-item.ensures in
    entry_of_other c.args.arena.now task c.args.hash c.args.e z hz c.args.zs.now (λ same. c.if-item-task.true same)

pub meet_atom_items-requires-clause-second : goal.meet_atom_items-requires-clause-second
meet_atom_items-requires-clause-second c =
    let task = c.args.task.now in
    let z = c.index-item.result.now in
    let hz = here task.guide.now.index.items.items c.args.e z c.requires.within c.index-item.ensures in
    let listed = c.requires.task.guide.index.1.items.real c.args.e z hz in
    (listed.0, task_item c.args.arena.now task c.requires.task z listed.0 c.if-item-task.false listed.1)

pub returns-clause-memo : goal.returns-clause-memo
returns-clause-memo c = done_any c.push_some.result _ c.in_ok-made.ensures.memo

pub returns-clause-made : goal.returns-clause-made
returns-clause-made c =
    let task = c.args.task.now in
    let old = c.args.arena.now in
    let new = c.meet_atom_items.new.arena in
    let o = c.meet_atom_items.ensures.extends in
    let zs = c.args.zs.now in
    let more = c.push_some.new.all in
    let z = c.index-item.result.now in
    done_map c.push_some.result (MatchOption c.in_ok-made.made (more ≡ zs) (λ v. more ≡ zs ++ v ∷ [])) (IsMadeTo new task task.place more)
    (λ put. (one_step old new o task zs more z.place c.in_ok-made.made c.requires.made c.in_ok-made.ensures.met put).0) c.push_some.ensures

pub returns-clause-grown : goal.returns-clause-grown
returns-clause-grown c =
    let task = c.args.task.now in
    let old = c.args.arena.now in
    let new = c.meet_atom_items.new.arena in
    let o = c.meet_atom_items.ensures.extends in
    let zs = c.args.zs.now in
    let more = c.push_some.new.all in
    let z = c.index-item.result.now in
    done_map c.push_some.result (MatchOption c.in_ok-made.made (more ≡ zs) (λ v. more ≡ zs ++ v ∷ [])) (Grows zs more)
    (λ put. (one_step old new o task zs more z.place c.in_ok-made.made c.requires.made c.in_ok-made.ensures.met put).1) c.push_some.ensures

pub returns-clause-done : goal.returns-clause-done
returns-clause-done c =
    let task = c.args.task.now in
    let old = c.args.arena.now in
    let new = c.meet_atom_items.new.arena in
    let o = c.meet_atom_items.ensures.extends in
    let zs = c.args.zs.now in
    let more = c.push_some.new.all in
    let z = c.index-item.result.now in
    let index = task.guide.now.index in
    let hz = here index.items.items c.args.e z c.requires.within c.index-item.ensures in
    let later = task_stays old new o task c.requires.task in
    done_map c.push_some.result (MatchOption c.in_ok-made.made (more ≡ zs) (λ v. more ≡ zs ++ v ∷ [])) (IsEntryDone new index (IsSharedOf new task more) c.args.hash c.args.e)
    (λ put. entry_shared new task c.args.hash c.args.e z hz later more (one_step old new o task zs more z.place c.in_ok-made.made c.requires.made c.in_ok-made.ensures.met put).2) c.push_some.ensures
