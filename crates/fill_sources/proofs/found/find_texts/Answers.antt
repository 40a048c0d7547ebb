use Rattle.std.proofs.Common.{List, sym, subst}
use Rattle.fill_text.specs.Lists.{Lists}
use Rattle.fill_reach.specs.Reach.{FindsEach, IsReached, reached_cmp}
use Rattle.fill_reach.specs.declared.rows.ReachedRow.{ReachedRow}
use Rattle.fill_sources.proofs.Origins.{found_all, least_of, rows_keyed}
use Rattle.fill_sources.proofs.found.find_texts.Goals as goal

pub put_rows-requires-clause-keys : goal.put_rows-requires-clause-keys
put_rows-requires-clause-keys c =
    let on = c.args.on.now in
    rows_keyed on c.as_slice.result.now
    (subst (λ (l : List ReachedRow). Lists reached_cmp (IsReached on.settings on.sheet.now on.tables.now on.row) l) (sym c.as_slice.ensures) c.in_ok-reached.ensures.listed)

pub returns : goal.returns
returns c =
    let on = c.args.on.now in
    let rows = c.as_slice.result.now in
    let listed = subst (λ (l : List ReachedRow). Lists reached_cmp (IsReached on.settings on.sheet.now on.tables.now on.row) l) (sym c.as_slice.ensures) c.in_ok-reached.ensures.listed in
    let finds = subst (λ (l : List ReachedRow). FindsEach on.settings on.sheet.now on.tables.now on.row l) (sym c.as_slice.ensures) c.in_ok-reached.ensures.found in
    record {
      numbered = c.in_ok-put_rows.ensures.numbered;
      exact = found_all on rows listed c.inputs.result.now c.inputs.ensures c.new-texts.result.named.items c.put_inputs.new.texts.named.items c.put_rows.new.texts.named.items c.new-texts.ensures.named
          c.in_ok-put_inputs.ensures.grown c.in_ok-put_rows.ensures.grown;
      least = least_of on rows listed finds;
      tables = c.count-tables.ensures.shape;
    }
