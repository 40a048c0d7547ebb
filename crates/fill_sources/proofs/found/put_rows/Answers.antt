use Rattle.std.proofs.Common.{◌≡◌, length, subst, get_or, arith}
use Rattle.std.proofs.lemmas.Option.{slice_get-get_or}
use Rattle.fill_reach.specs.declared.rows.ReachedRow.{ReachedRow}
use Rattle.fill_sources.specs.Origins.{Grown, RowsTo}
use Rattle.fill_sources.proofs.Growing.{rows_step}
use Rattle.fill_sources.proofs.found.put_rows.Goals as goal

abbrev none : ReachedRow
none = record { table = 0; key = 0; row = 0; depth = 0 }

pub put_row-requires-clause-key : goal.put_row-requires-clause-key
put_row-requires-clause-key c = c.requires.keys c.loop-i.i (get_or c.args.rows.now c.loop-i.i none) (slice_get-get_or c.args.rows.now c.loop-i.i none c.loop-i-test.true)

pub loop-i-preserved : goal.loop-i-preserved
loop-i-preserved c = record {
  numbered = c.in_ok-put_row.ensures.numbered;
  grown = rows_step c.args.on.now.tables.now c.args.rows.now c.loop-i.i (get_or c.args.rows.now c.loop-i.i none) (slice_get-get_or c.args.rows.now c.loop-i.i none c.loop-i-test.true)
      c.args.texts.now.named.items c.loop-i.texts.named.items c.put_row.new.texts.named.items c.loop-i.invariant.grown c.in_ok-put_row.ensures.grown;
}

pub returns-clause-grown : goal.returns-clause-grown
returns-clause-grown c =
    let le = c.loop-i.auto.i-end in
    let ge = c.loop-i-test.false in
    let e : c.loop-i.i ≡ length c.args.rows.now = omega arith in
    subst (λ n. Grown c.args.texts.now.named.items c.loop-i.texts.named.items (RowsTo c.args.on.now.tables.now c.args.rows.now n)) e c.loop-i.invariant.grown
