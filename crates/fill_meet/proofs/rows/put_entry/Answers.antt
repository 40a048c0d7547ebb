use Rattle.fill_arena.specs.declared.entry.Entry.TheVariants as kind
use Rattle.fill_meet.specs.Rows.{IsCovered, IsEntryDone}
use Rattle.fill_meet.specs.Runs.{HasFrom}
use Rattle.fill_meet.proofs.Lists.{here}
use Rattle.fill_meet.proofs.RowLaws.{entry_has}
use Rattle.fill_meet.proofs.Trials.{done_map}
use Rattle.fill_meet.proofs.rows.put_entry.Goals as goal

pub may_meet-requires-clause-second : goal.may_meet-requires-clause-second
may_meet-requires-clause-second c =
    let index = c.args.ask.index.now in
    let z = c.index-item.result.now in
    let hz = here index.items.items c.args.e z c.requires.within c.index-item.ensures in
    let listed = c.item_at-y.ensures z hz in
    (listed.0, (c.keeps_made.ensures listed.0 (kind.Atoms listed.1) listed.3).each z.place c.item_at-y.result.now listed.4)

pub returns-clause-done : goal.returns-clause-done
returns-clause-done c =
    let index = c.args.ask.index.now in
    let arena = c.args.arena.now in
    let z = c.index-item.result.now in
    let new = c.put.new.self.numbers.items in
    let start = c.args.ask.start in
    let x = c.args.ask.x.now in
    let hz = here index.items.items c.args.e z c.requires.within c.index-item.ensures in
    done_map c.put.result (HasFrom new start z.set) (IsEntryDone arena index (IsCovered arena new start x) c.args.hash c.args.e) (λ has. entry_has arena index c.args.hash c.args.e z hz new start x has) c.put.ensures.has
