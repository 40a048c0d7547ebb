use Rattle.std.proofs.Common.{◌≡◌, length, refl, arith}
use Rattle.fill_arena.specs.Contents.{IsAtomSet}
use Rattle.fill_arena.specs.declared.entry.Entry.TheVariants as kind
use Rattle.fill_meet.specs.Rows.{AreDone, IsCovered}
use Rattle.fill_meet.specs.declared.runs.Run.{Run}
use Rattle.fill_meet.proofs.Grown.{grows_on}
use Rattle.fill_meet.proofs.LabelLaws.{labels_sets}
use Rattle.fill_meet.proofs.Lists.{all_map, all_more, here}
use Rattle.fill_meet.proofs.RowLaws.{done_stays, row_made}
use Rattle.fill_meet.proofs.rows.Search.find_row.Goals as goal

pub put_item-requires-clause-item : goal.put_item-requires-clause-item
put_item-requires-clause-item c =
    let items = c.atoms-items.result.now in
    (c.args.s, (c.keeps_made.ensures c.args.s (kind.Atoms items) c.atoms-items.ensures).each c.loop-i.i c.index-items-i.result (here items c.loop-i.i c.index-items-i.result c.loop-i-test.true c.index-items-i.is))

pub loop-i-preserved : goal.loop-i-preserved
loop-i-preserved c =
    let inv = c.loop-i.invariant in
    let put = c.in_ok-put_item.ensures in
    let old = c.loop-i.self.findings.rows.numbers.items in
    let new = c.put_item.new.search.findings.rows.numbers.items in
    let labels = c.args.index.now.labels.sets.items in
    let items = c.atoms-items.result.now in
    let start = c.len-start.result in
    let arena = c.args.arena.now in
    record {
      start = (let a = inv.start in let b = put.grown.long in omega arith);
      state = put.state;
      grown = grows_on c.args.self.now.findings.rows.numbers.items old new inv.grown put.grown;
      done = all_more (λ x. AreDone arena labels (IsCovered arena new start x)) items c.loop-i.i c.index-items-i.result (here items c.loop-i.i c.index-items-i.result c.loop-i-test.true c.index-items-i.is)
          (all_map (λ x. AreDone arena labels (IsCovered arena old start x)) (λ x. AreDone arena labels (IsCovered arena new start x)) items c.loop-i.i (λ x done. done_stays arena labels start old new x put.grown done) inv.done) put.done;
    }

pub returns-clause-row : goal.returns-clause-row
returns-clause-row c =
    let labels = c.args.index.now.labels.sets.items in
    let start = c.len-start.result in
    let arena = c.args.arena.now in
    let numbers = c.loop-i.self.findings.rows.numbers.items in
    let run : Run = record { start = start; end = c.len.result } in
    let end : c.len.result ≡ length numbers = (let e = c.len.ensures in omega arith) in
    let index = c.requires.index in
    let sets = labels_sets (IsAtomSet arena) index.0 c.args.index.now.labels index.1.labels index.1.atom_sets in
    row_made arena labels start numbers c.args.s c.loop-i.i c.atoms-items.result.now run c.atoms-items.ensures refl c.loop-i.invariant.start end sets c.loop-i-test.false c.loop-i.invariant.done
