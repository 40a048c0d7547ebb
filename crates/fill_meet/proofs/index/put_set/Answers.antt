use Rattle.std.proofs.Common.{refl}
use Rattle.fill_arena.specs.declared.entry.Entry.TheVariants as kind
use Rattle.fill_meet.specs.declared.index.Item.{Item}
use Rattle.fill_meet.proofs.IndexLaws.{items_more, items_next}
use Rattle.fill_meet.proofs.Lists.{here}
use Rattle.fill_meet.proofs.index.put_set.Goals as goal

pub hash_item-requires-clause-item : goal.hash_item-requires-clause-item
hash_item-requires-clause-item c =
    let s = c.index.result.now in
    let listed = c.atoms-listed.result.now in
    (s, (c.keeps_made.ensures s (kind.Atoms listed) c.atoms-listed.ensures).each c.loop-j.j c.index-listed-j.result (here listed c.loop-j.j c.index-listed-j.result c.loop-j-test.true c.index-listed-j.is))

pub loop-j-preserved : goal.loop-j-preserved
loop-j-preserved c =
    let labels = c.args.labels.now.sets.items in
    let s = c.index.result.now in
    let listed = c.atoms-listed.result.now in
    let y = c.index-listed-j.result in
    let label = here labels c.args.n s c.requires.within c.index.ensures in
    let at = here listed c.loop-j.j y c.loop-j-test.true c.index-listed-j.is in
    let x : Item = record { set = c.args.n; place = c.loop-j.j; hash = c.in_ok-hash.hash } in
    items_more c.args.arena.now labels c.args.n c.loop-j.j y x c.loop-j.items.items c.push.new.self.items c.loop-j.places.sets.items c.hash_item.new.places.sets.items (s, listed, label, c.atoms-listed.ensures, at) refl refl c.in_ok-hash.ensures.hash
    c.in_ok-push.ensures.items c.in_ok-hash.ensures.grown c.in_ok-hash.ensures.sets c.loop-j.invariant

pub returns : goal.returns
returns c =
    let labels = c.args.labels.now.sets.items in
    let s = c.index.result.now in
    let label = here labels c.args.n s c.requires.within c.index.ensures in
    record { state = items_next c.args.arena.now labels c.args.n c.loop-j.j s c.atoms-listed.result.now c.loop-j.items.items c.loop-j.places.sets.items label c.atoms-listed.ensures c.loop-j-test.false c.loop-j.invariant }
