use Rattle.std.proofs.Common.{◌+◌, arith}
use Rattle.fill_sources.proofs.Growing.{free_end, free_step}
use Rattle.fill_sources.proofs.found.put_row.Goals as goal

pub loop-column-preserved : goal.loop-column-preserved
loop-column-preserved c = record {
  numbered = c.in_ok-put_free.ensures.numbered;
  grown = free_step c.args.on.now.tables.now c.args.at.now c.loop-column.column c.args.texts.now.named.items c.loop-column.texts.named.items c.put_free.new.texts.named.items c.loop-column.invariant.grown c.in_ok-put_free.ensures.grown;
}

pub returns-clause-grown : goal.returns-clause-grown
returns-clause-grown c =
    free_end c.args.on.now.tables.now c.args.at.now c.loop-column.column c.width-column-end.result c.width-column-end.ensures c.loop-column-test.false c.args.texts.now.named.items c.loop-column.texts.named.items c.loop-column.invariant.grown

pub returns-in_ok-put_free-clause-grown : goal.returns-in_ok-put_free-clause-grown
returns-in_ok-put_free-clause-grown c =
    free_end c.args.on.now.tables.now c.args.at.now (c.loop-column.column + 1) c.width-column-end.result c.width-column-end.ensures (omega arith) c.args.texts.now.named.items c.put_free.new.texts.named.items
    (free_step c.args.on.now.tables.now c.args.at.now c.loop-column.column c.args.texts.now.named.items c.loop-column.texts.named.items c.put_free.new.texts.named.items c.loop-column.invariant.grown c.in_ok-put_free.ensures.grown)
