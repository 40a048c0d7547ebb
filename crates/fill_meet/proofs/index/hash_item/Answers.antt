use Rattle.fill_arena.specs.Contents.{IsPlaceSet}
use Rattle.fill_meet.proofs.LabelLaws.{numbered_each}
use Rattle.fill_meet.proofs.index.hash_item.Goals as goal

pub returns-in_ok-right-in-Sub-clause-sets : goal.returns-in_ok-right-in-Sub-clause-sets
returns-in_ok-right-in-Sub-clause-sets c =
    let item = rw c.in-Sub.is at c.requires.item in
    let old = c.args.places.now.sets.items in
    let more = c.put.new.self.sets.items in
    let P = IsPlaceSet c.args.arena.now in
    numbered_each P more c.put-in-Sub.new.self.sets.items c.in-Sub.rights c.in_ok-right-in-Sub.right c.in_ok-right-in-Sub.ensures item.1.2.0
    (numbered_each P old more c.in-Sub.lefts c.in_ok-left-in-Sub.left c.in_ok-left-in-Sub.ensures item.1.1.0 c.requires.sets)
