use Rattle.std.proofs.Common.{rules, ◌≡◌, ◌<◌, ◌≤◌, ◌+◌, ◌++◌, [], ◌∷◌, length, take, sym, ap, ◌∙◌, subst, refl, arith, length-append, unwrap_or}
use Rattle.std.proofs.lemmas.List.{take_at}
use Rattle.fill_text.specs.Lists.{Adds}
use Rattle.fill_text.proofs.ListReads.{on_ok}
use Rattle.fill_tables.specs.Tables.{column_count}
use Rattle.fill_keys.specs.Keys.{IsMinimalKey, keys_cmp}
use Rattle.fill_keys.specs.Search.{BeginsMinimalKey, IsNext, IsPrefix}
use Rattle.fill_keys.proofs.SoFar.{GoesOnBefore}
use Rattle.fill_keys.proofs.SearchLaws.{begins_whole, goes_on_none, goes_on_more, goes_on_all, longer_prefix, longer_next, more_smaller}
use Rattle.fill_keys.proofs.keys.+push_keys.Goals as goal

pub returns-then-long_before-size-clause-added : goal.returns-then-long_before-size-clause-added
returns-then-long_before-size-clause-added t c =
    let v = c.deref.ensures.value in
    let long : length c.args.columns.now.items ≡ c.args.size = ap length (sym v) ∙ c.deref.ensures.len ∙ sym c.len-long_before.ensures ∙ c.if-long_before-size.true in
    on_ok c.push_key.result (Adds keys_cmp c.args.keys.now c.push_key.new.keys (λ key. (key ≡ c.deref.result.now) × IsMinimalKey c.args.tables.now c.args.ranked.now.table key))
    (Adds keys_cmp c.args.keys.now c.push_key.new.keys (BeginsMinimalKey c.args.tables.now c.args.ranked.now.table c.args.size c.args.columns.now.items))
    (λ a. begins_whole c.args.tables.now c.args.ranked.now.table c.args.size c.args.columns.now.items c.args.keys.now c.push_key.new.keys long
    (subst (λ d. Adds keys_cmp c.args.keys.now c.push_key.new.keys (λ key. (key ≡ d) × IsMinimalKey c.args.tables.now c.args.ranked.now.table key)) v a))
    c.push_key.ensures

pub loop-column-init : goal.loop-column-init
loop-column-init t c =
    (refl, goes_on_none c.args.tables.now c.args.ranked.now.table c.args.size c.args.columns.now.items c.args.next c.args.keys.now c.requires.next)

pub push_keys-requires : goal.push_keys-requires
push_keys-requires t c =
    let old = c.args.columns.now.items in
    let column = c.loop-column.column in
    let width : column_count c.args.tables.now c.args.ranked.now.table ≡ c.width-column-end.result = ap (λ o. unwrap_or o 0) c.width-column-end.ensures in
    let e : c.push.new.self.items ≡ old ++ column ∷ [] = c.in_ok-push.ensures.items ∙ ap (λ v. v ++ column ∷ []) c.loop-column.invariant.0 in
    let short : length old < c.args.size = omega (arith, c.args.columns.now.ok.0, c.requires.prefix.fits, c.len-long_before.ensures) in
    let longer : length c.push.new.self.items ≡ length old + 1 = ap length e ∙ length-append old (column ∷ []) in
    let from : c.args.next ≤ column = omega arith in
    let to : column ≤ column_count c.args.tables.now c.args.ranked.now.table = omega (arith, width) in (
      search rules,
      (
        c.requires.first,
        (
          c.requires.last,
          (
            c.requires.ranked,
            (
              c.requires.narrow,
              (
                c.requires.some,
                (
                  c.requires.few,
                  (
                    subst (IsPrefix (column_count c.args.tables.now c.args.ranked.now.table) c.args.size) (sym e)
                        (longer_prefix (column_count c.args.tables.now c.args.ranked.now.table) c.args.size column c.args.next old c.requires.prefix c.requires.next from to short),
                    (
                      subst (λ v. IsNext v (column + 1)) (sym e) (longer_next column c.args.next old c.requires.next from),
                      (
                        omega (arith, to, c.requires.narrow),
                        more_smaller c.args.tables.now c.args.ranked.now.table c.args.size c.args.keys.now c.loop-column.keys (GoesOnBefore c.args.tables.now c.args.ranked.now.table c.args.size old column)
                            (λ key g. g.2.minimal) c.loop-column.invariant.1 c.requires.smaller,
                      ),
                    ),
                  ),
                ),
              ),
            ),
          ),
        ),
      ),
    )

pub loop-column-preserved : goal.loop-column-preserved
loop-column-preserved t c =
    let old = c.args.columns.now.items in
    let column = c.loop-column.column in
    let e : c.push.new.self.items ≡ old ++ column ∷ [] = c.in_ok-push.ensures.items ∙ ap (λ v. v ++ column ∷ []) c.loop-column.invariant.0 in
    let long_before : length old ≡ c.len-long_before.result = omega (arith, c.args.columns.now.ok.0, c.len-long_before.ensures) in (
      c.truncate.ensures.items ∙ ap (take c.len-long_before.result) (c.in_ok-push_keys.ensures.same_columns ∙ e) ∙ take_at old (column ∷ []) c.len-long_before.result long_before,
      goes_on_more c.args.tables.now c.args.ranked.now.table c.args.size old column c.args.keys.now c.loop-column.keys c.push_keys.new.keys c.loop-column.invariant.1
          (subst (λ v. Adds keys_cmp c.loop-column.keys c.push_keys.new.keys (BeginsMinimalKey c.args.tables.now c.args.ranked.now.table c.args.size v)) e c.in_ok-push_keys.ensures.added),
    )

pub returns-clause-added : goal.returns-clause-added
returns-clause-added t c =
    let width : column_count c.args.tables.now c.args.ranked.now.table ≡ c.width-column-end.result = ap (λ o. unwrap_or o 0) c.width-column-end.ensures in
    let short : length c.args.columns.now.items < c.args.size = omega (arith, c.args.columns.now.ok.0, c.requires.prefix.fits, c.len-long_before.ensures) in
    goes_on_all c.args.tables.now c.args.ranked.now.table c.args.size c.args.columns.now.items c.loop-column.column c.args.keys.now c.loop-column.keys short (omega (arith, width)) c.loop-column.invariant.1
