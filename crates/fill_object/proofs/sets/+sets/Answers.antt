use Rattle.std.proofs.Common.{rules, ◌≡◌, ◌-◌, ℕ, Vec, Global, List, ◌∷◌, suc, drop, sym, subst, ◌∙◌, ap, arith}
use Rattle.std.specs.Result.{OnOk}
use Rattle.fill_tree.specs.Grammar.{IsPart}
use Rattle.fill_arena.specs.Contents.{EachIn}
use Rattle.fill_arena.specs.Stands.{SourceFits, SourceStands, PartFits, PartStands}
use Rattle.fill_arena.specs.WellMade.{IsConditionItem}
use Rattle.fill_arena.specs.declared.entry.AtomItem.TheVariants as atom
use Rattle.fill_arena.specs.declared.entry.Entry.TheVariants as kind
use Rattle.fill_arena.proofs.Scan.{here}
use Rattle.fill_arena.proofs.Items.{drop_whole, drop_here, ok_on}
use Rattle.fill_arena.proofs.Stand.{atom_items, items_atom, source_items, items_source}
use Rattle.fill_object.specs.Kinds.{atoms_on, sources_on}
use Rattle.fill_object.specs.Leasts.{AreLeasts, Gains}
use Rattle.fill_object.specs.Rows.{AreParts, AreRows}
use Rattle.fill_object.specs.declared.row.OnRow.{OnRow}
use Rattle.fill_object.specs.declared.valued.ValuedSource.{ValuedSource}
use Rattle.fill_object.specs.declared.valued.ValuedAtom.{ValuedAtom}
use Rattle.fill_object.proofs.Gains.{scan_none, scan_more, scan_done, gains_none, gains_same, leasts_from}
use Rattle.fill_object.proofs.KindLaws.{atoms_laws, sources_laws}
use Rattle.fill_object.proofs.Made.{no_part}
use Rattle.fill_object.proofs.RowLaws.{longer_rows, parts_kept, no_parts_kept}
use Rattle.fill_object.proofs.sets.+sets.Goals as goal

pub sources_of-returns-clause-least : goal.sources_of-returns-clause-least
sources_of-returns-clause-least t c =
    subst (λ (v : Vec ValuedSource Global). AreLeasts (sources_on c.args.on.now) (SourceStands c.args.on.now.arena.now c.args.s) v.items) (sym c.in_ok-leasts.ensures.ok) c.in_ok-scan_sources.ensures.least

pub sources_of-returns-clause-memo : goal.sources_of-returns-clause-memo
sources_of-returns-clause-memo t c =
    c.in_ok-keep_sources.ensures c.args.on.now c.in_ok-scan_sources.ensures.memo
    (subst (λ (v : Vec ValuedSource Global). AreLeasts (sources_on c.args.on.now) (SourceStands c.args.on.now.arena.now c.args.s) v.items)
    (sym (c.in_ok-clone-2.ensures.cases ∙ c.in_ok-leasts.ensures.ok)) c.in_ok-scan_sources.ensures.least)

pub parts_of-returns-clause-least : goal.parts_of-returns-clause-least
parts_of-returns-clause-least t c =
    subst (λ (v : Vec ValuedAtom Global). AreLeasts (atoms_on c.args.on.now) (PartStands c.args.on.now.arena.now c.args.s) v.items) (sym c.in_ok-leasts.ensures.ok) c.in_ok-scan_parts.ensures.least

pub parts_of-returns-clause-memo : goal.parts_of-returns-clause-memo
parts_of-returns-clause-memo t c =
    c.in_ok-keep_parts.ensures c.args.on.now c.in_ok-scan_parts.ensures.memo
    (subst (λ (v : Vec ValuedAtom Global). AreLeasts (atoms_on c.args.on.now) (PartStands c.args.on.now.arena.now c.args.s) v.items)
    (sym (c.in_ok-clone-2.ensures.cases ∙ c.in_ok-leasts.ensures.ok)) c.in_ok-scan_parts.ensures.least)

pub scan_sources-loop-item-init : goal.scan_sources-loop-item-init
scan_sources-loop-item-init t c = record {
  memo = c.requires.memo;
  gains = scan_none (sources_on c.args.on.now) (sources_laws c.args.on.now) (λ y x. SourceFits x c.args.on.now.arena.now y) c.sources-items.result.now c.new-rivals.result.items;
}

pub scan_sources-put_source-requires : goal.scan_sources-put_source-requires
scan_sources-put_source-requires t c =
    let items = c.sources-items.result.now in
    let i = c.loop-item.item-index in
    let x = c.item-item.result in
    let item = (c.keeps_made.ensures c.args.s (kind.Sources items) c.sources-items.ensures).each i x (here items i x c.loop-item-test.true c.item-item.is) in
    (search rules, (item, (c.requires.row, c.loop-item.invariant.memo)))

pub scan_sources-loop-item-preserved : goal.scan_sources-loop-item-preserved
scan_sources-loop-item-preserved t c =
    let on = c.args.on.now in
    let items = c.sources-items.result.now in
    let i = c.loop-item.item-index in
    let x = c.item-item.result in
    record {
      memo = c.in_ok-put_source.ensures.memo;
      gains = scan_more (sources_on on) (sources_laws on) (λ y s. SourceFits s on.arena.now y) items i x (here items i x c.loop-item-test.true c.item-item.is) c.new-rivals.result.items c.loop-item.rivals.items
          c.put_source.new.rivals.items c.loop-item.invariant.gains c.in_ok-put_source.ensures.gains;
    }

pub scan_sources-returns-clause-least : goal.scan_sources-returns-clause-least
scan_sources-returns-clause-least t c =
    let on = c.args.on.now in
    let items = c.sources-items.result.now in
    let old = c.new-rivals.result.items in
    let new = c.loop-item.rivals.items in
    leasts_from (sources_on on) (sources_laws on) (SourceStands on.arena.now c.args.s) old new c.new-rivals.ensures.items
    (gains_same (sources_on on) (sources_laws on) _ (SourceStands on.arena.now c.args.s) (items_source on.arena.now c.args.s items c.sources-items.ensures) (source_items on.arena.now c.args.s items c.sources-items.ensures) old new
    (scan_done (sources_on on) (sources_laws on) (λ y s. SourceFits s on.arena.now y) items c.loop-item.item-index c.loop-item-test.false old new c.loop-item.invariant.gains))

pub scan_parts-loop-item-init : goal.scan_parts-loop-item-init
scan_parts-loop-item-init t c = record {
  memo = c.requires.memo;
  gains = scan_none (atoms_on c.args.on.now) (atoms_laws c.args.on.now) (λ y a. PartFits c.args.on.now.arena.now y a) c.atoms-items.result.now c.new-rivals.result.items;
}

pub scan_parts-put_part-requires : goal.scan_parts-put_part-requires
scan_parts-put_part-requires t c =
    let items = c.atoms-items.result.now in
    let i = c.loop-item.item-index in
    let x = c.item-item.result in
    let item = (c.keeps_made.ensures c.args.s (kind.Atoms items) c.atoms-items.ensures).each i x (here items i x c.loop-item-test.true c.item-item.is) in
    (search rules, (item, (c.requires.row, c.loop-item.invariant.memo)))

pub scan_parts-loop-item-preserved : goal.scan_parts-loop-item-preserved
scan_parts-loop-item-preserved t c =
    let on = c.args.on.now in
    let items = c.atoms-items.result.now in
    let i = c.loop-item.item-index in
    let x = c.item-item.result in
    record {
      memo = c.in_ok-put_part.ensures.memo;
      gains = scan_more (atoms_on on) (atoms_laws on) (λ y a. PartFits on.arena.now y a) items i x (here items i x c.loop-item-test.true c.item-item.is) c.new-rivals.result.items c.loop-item.rivals.items
          c.put_part.new.rivals.items c.loop-item.invariant.gains c.in_ok-put_part.ensures.gains;
    }

pub scan_parts-returns-clause-least : goal.scan_parts-returns-clause-least
scan_parts-returns-clause-least t c =
    let on = c.args.on.now in
    let items = c.atoms-items.result.now in
    let old = c.new-rivals.result.items in
    let new = c.loop-item.rivals.items in
    leasts_from (atoms_on on) (atoms_laws on) (PartStands on.arena.now c.args.s) old new c.new-rivals.ensures.items
    (gains_same (atoms_on on) (atoms_laws on) _ (PartStands on.arena.now c.args.s) (items_atom on.arena.now c.args.s items c.atoms-items.ensures IsPart) (atom_items on.arena.now c.args.s items c.atoms-items.ensures IsPart) old new
    (scan_done (atoms_on on) (atoms_laws on) (λ y a. PartFits on.arena.now y a) items c.loop-item.item-index c.loop-item-test.false old new c.loop-item.invariant.gains))

pub put_source-returns-in-Col-clause-gains : goal.put_source-returns-in-Col-clause-gains
put_source-returns-in-Col-clause-gains t c =
    subst (λ it. OnOk c.put_column.result (Gains (sources_on c.args.on.now) (λ x. SourceFits x c.args.on.now.arena.now it) c.args.rivals.now.items c.put_column.new.rivals.items)) (sym c.in-Col.is)
    c.put_column.ensures

pub put_source-returns-in-Select-clause-gains : goal.put_source-returns-in-Select-clause-gains
put_source-returns-in-Select-clause-gains t c =
    subst (λ it. OnOk c.put_lookups.result (Gains (sources_on c.args.on.now) (λ x. SourceFits x c.args.on.now.arena.now it) c.args.rivals.now.items c.put_lookups.new.rivals.items)) (sym c.in-Select.is)
    c.put_lookups.ensures.gains

pub put_lookups-rows_of-requires : goal.put_lookups-rows_of-requires
put_lookups-rows_of-requires t c =
    let older = subst (EachIn (IsConditionItem c.args.on.now.arena.now c.args.set)) (sym c.as_slice.ensures) c.requires.item.older in
    (search rules, (older, (c.requires.row, c.requires.memo)))

pub put_lookups-put_selects-requires-clause-rows : goal.put_lookups-put_selects-requires-clause-rows
put_lookups-put_selects-requires-clause-rows t c =
    subst (AreRows c.args.on.now c.args.item.now.conditions) (sym c.as_slice-2.ensures.value)
    (subst (λ l. AreRows c.args.on.now l c.in_ok-rows.rows.items) c.as_slice.ensures c.in_ok-rows.ensures.least)

pub rows_of-loop-left-init : goal.rows_of-loop-left-init
rows_of-loop-left-init t c = record {
  within = omega arith;
  memo = c.requires.memo;
  least = subst (λ xs. AreRows c.args.on.now xs c.in_ok-rows.rows.items) (sym (drop_whole c.args.items.now)) (c.in_ok-rows.ensures c.args.on.now);
}

pub rows_of-longer_rows-requires : goal.rows_of-longer_rows-requires
rows_of-longer_rows-requires t c =
    let items = c.args.items.now in
    let n = c.loop-left.left - 1 in
    let within = c.loop-left.invariant.within in
    let x = c.index-items-left.result in
    let at = here items n x (omega (arith, c.loop-left-test.true)) c.index-items-left.is in
    (search rules, (c.requires.items n x at, (c.requires.row, c.loop-left.invariant.memo)))

pub rows_of-loop-left-preserved : goal.rows_of-loop-left-preserved
rows_of-loop-left-preserved t c =
    let on = c.args.on.now in
    let items = c.args.items.now in
    let n = c.loop-left.left - 1 in
    let within = c.loop-left.invariant.within in
    let x = c.index-items-left.result in
    let at = here items n x (omega (arith, c.loop-left-test.true)) c.index-items-left.is in
    let next : suc n ≡ c.loop-left.left = omega (arith, c.loop-left-test.true) in
    let rest = drop c.loop-left.left items in
    let cut : drop n items ≡ x ∷ drop c.loop-left.left items = drop_here items n x at ∙ ap (λ m. x ∷ drop m items) next in
    let given = subst (AreRows on rest) (sym c.as_slice.ensures.value) c.loop-left.invariant.least in
    record {
      within = omega arith;
      memo = c.in_ok-rows-2.ensures.memo;
      least = subst (λ xs. AreRows on xs c.in_ok-rows-2.rows.items) (sym cut) (c.in_ok-rows-2.ensures.least rest given);
    }

pub rows_of-returns-clause-least : goal.rows_of-returns-clause-least
rows_of-returns-clause-least t c =
    let none : c.loop-left.left ≡ 0 = omega (arith, c.loop-left-test.false) in
    subst (λ n. AreRows c.args.on.now (drop n c.args.items.now) c.loop-left.rows.items) none c.loop-left.invariant.least

pub longer_rows-returns-clause-least : goal.longer_rows-returns-clause-least
longer_rows-returns-clause-least t c =
    let on = c.args.on.now in
    let i = c.args.item.now in
    let parts = c.as_slice.result.now in
    let first = subst (AreParts on i) (sym c.as_slice.ensures.value) (subst (λ (v : Vec ValuedAtom Global). AreParts on i v.items) (sym c.deref.ensures) c.in_ok-parts.ensures.least) in
    ok_on _ _ c.put_in_front.result c.put_in_front.ensures (λ made h is are. longer_rows on i is parts c.args.rows.now first are made.items (h on))

pub conditions_of-returns-in-Some-clause-least : goal.conditions_of-returns-in-Some-clause-least
conditions_of-returns-in-Some-clause-least t c =
    ok_on _ _ c.parts_of.result c.parts_of.ensures.least (λ leasts h. parts_kept c.args.on.now c.args.item.now c.in-Some.s c.in-Some.is leasts.value.items h)

pub conditions_of-returns-in_ok-new-in-None-clause-least : goal.conditions_of-returns-in_ok-new-in-None-clause-least
conditions_of-returns-in_ok-new-in-None-clause-least t c =
    subst (AreParts c.args.on.now c.args.item.now) (sym (ap (λ (v : Vec ValuedAtom Global). v.items) c.in_ok-new-in-None.ensures.ok ∙ c.new.ensures.items))
    (no_parts_kept c.args.on.now c.args.item.now c.in-None.is)

-- what was found of a set, as a slice
sources_slice : (on : OnRow) (s : ℕ) (list held : Vec ValuedSource Global) (slice : List ValuedSource) → slice ≡ held.items → held ≡ list →
    AreLeasts (sources_on on) (SourceStands on.arena.now s) list.items → AreLeasts (sources_on on) (SourceStands on.arena.now s) slice
sources_slice on s list held slice e f are =
    subst (AreLeasts (sources_on on) (SourceStands on.arena.now s)) (sym e) (subst (λ (v : Vec ValuedSource Global). AreLeasts (sources_on on) (SourceStands on.arena.now s) v.items) (sym f) are)

pub put_part-returns-in-Const-clause-gains : goal.put_part-returns-in-Const-clause-gains
put_part-returns-in-Const-clause-gains t c =
    let on = c.args.on.now in
    subst (λ it. Gains (atoms_on on) (PartFits on.arena.now it) c.args.rivals.now.items c.args.rivals.now.items) (sym c.in-Const.is)
    (gains_none (atoms_on on) (atoms_laws on) (PartFits on.arena.now (atom.Const c.in-Const.field-0)) (no_part on.arena.now c.in-Const.field-0) c.args.rivals.now.items)

pub put_part-returns-in_ok-leasts-in-Whole-clause-gains : goal.put_part-returns-in_ok-leasts-in-Whole-clause-gains
put_part-returns-in_ok-leasts-in-Whole-clause-gains t c =
    let on = c.args.on.now in
    let s = c.in-Whole.sources in
    let are = sources_slice on s c.in_ok-leasts-in-Whole.leasts.value c.deref.result.now c.as_slice.result.now c.as_slice.ensures.value c.deref.ensures c.in_ok-leasts-in-Whole.ensures.least in
    ok_on _ _ c.put_wholes.result c.put_wholes.ensures
    (λ u h. subst (λ it. Gains (atoms_on on) (PartFits on.arena.now it) c.args.rivals.now.items c.put_wholes.new.rivals.items) (sym c.in-Whole.is) (h s are))

pub put_part-put_pieces-requires-clause-sources : goal.put_part-put_pieces-requires-clause-sources
put_part-put_pieces-requires-clause-sources t c =
    let on = c.args.on.now in
    let s = c.in-Sub.sources in
    (s, sources_slice on s c.in_ok-leasts-in-Sub.leasts.value c.deref-in-Sub.result.now c.as_slice-in-Sub.result.now c.as_slice-in-Sub.ensures.value c.deref-in-Sub.ensures c.in_ok-leasts-in-Sub.ensures.least)

pub put_part-returns-in_ok-leasts-in-Sub-clause-gains : goal.put_part-returns-in_ok-leasts-in-Sub-clause-gains
put_part-returns-in_ok-leasts-in-Sub-clause-gains t c =
    let on = c.args.on.now in
    let s = c.in-Sub.sources in
    let are = sources_slice on s c.in_ok-leasts-in-Sub.leasts.value c.deref-in-Sub.result.now c.as_slice-in-Sub.result.now c.as_slice-in-Sub.ensures.value c.deref-in-Sub.ensures c.in_ok-leasts-in-Sub.ensures.least in
    ok_on _ _ c.put_pieces.result c.put_pieces.ensures.gains
    (λ u h. subst (λ it. Gains (atoms_on on) (PartFits on.arena.now it) c.args.rivals.now.items c.put_pieces.new.rivals.items) (sym c.in-Sub.is) (h s are))

pub sources_of-returns-in-Some-clause-least : goal.sources_of-returns-in-Some-clause-least
sources_of-returns-in-Some-clause-least t c =
    subst (λ (v : Vec ValuedSource Global). AreLeasts (sources_on c.args.on.now) (SourceStands c.args.on.now.arena.now c.args.s) v.items) (sym c.in_ok-clone.ensures.cases)
    (c.in-Some.ensures c.args.on.now c.requires.memo)

pub parts_of-returns-in-Some-clause-least : goal.parts_of-returns-in-Some-clause-least
parts_of-returns-in-Some-clause-least t c =
    subst (λ (v : Vec ValuedAtom Global). AreLeasts (atoms_on c.args.on.now) (PartStands c.args.on.now.arena.now c.args.s) v.items) (sym c.in_ok-clone.ensures.cases)
    (c.in-Some.ensures c.args.on.now c.requires.memo)
