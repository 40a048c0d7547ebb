use Rattle.std.proofs.Common.{◌≡◌, ◌+◌, ◌++◌, ◌∷◌, [], suc, length, length-append, inl, inr, unwrap_or, slice_get, Some, ap, sym, subst, arith}
use Rattle.fill_tables.specs.Tables.{column_count}
use Rattle.fill_keys.specs.Ranks.{AreRanks}
use Rattle.fill_keys.proofs.MetLaws.{last_item}
use Rattle.fill_keys.proofs.ranks.RankedTable.new.Goals as goal

pub loop-column-preserved : goal.loop-column-preserved
loop-column-preserved c =
    let here = c.loop-column.invariant in
    let count = here.count in
    let columns = c.loop-column.columns.items in
    let made = c.in_ok-ranks_of.field-0 in
    let pushed : c.push.new.self.items ≡ columns ++ made ∷ [] = c.in_ok-push.ensures.items in
    record {
      count = (let l = ap length pushed in omega (arith, length-append columns (made ∷ [])));
      each = λ n ranks h. elim (last_item columns made n ranks (subst (λ xs. slice_get xs n ≡ Some ranks) pushed h)) [
        | inl before ↦ here.each n ranks before
        | inr last ↦ (
            let next : c.loop-column.column ≡ suc n = (let e = last.0 in omega arith) in
            subst (λ column. AreRanks c.args.tables.now c.args.table column ranks) next
            (subst (AreRanks c.args.tables.now c.args.table c.loop-column.column) (sym last.1) c.in_ok-ranks_of.ensures))
      ];
    }

pub returns-clause-ranked : goal.returns-clause-ranked
returns-clause-ranked c =
    let here = c.loop-column.invariant in
    let count = here.count in
    let width : column_count c.args.tables.now c.args.table ≡ c.width-column-end.result = ap (λ o. unwrap_or o 0) c.width-column-end.ensures in
    record {
      rows = c.rows.ensures;
      wide = omega arith;
      each = here.each;
    }

pub overflow_add-column-end : goal.overflow_add-column-end
overflow_add-column-end c =
    let width : column_count c.args.tables.now c.args.table ≡ c.width-column-end.result = ap (λ o. unwrap_or o 0) c.width-column-end.ensures in
    let narrow = c.requires.narrow in
    omega arith
