use Rattle.std.proofs.Common.{rules, ◌≡◌, ◌⊎◌, ◌≤◌, ◌-◌, ℕ, Vec, Global, List, ◌∷◌, length, length-drop, suc, drop, sym, subst, ◌∙◌, ap, arith}
use Rattle.std.specs.Prelude.{Contains}
use Rattle.std.specs.Result.{OnOk}
use Rattle.fill_tokens.specs.Place.{place_cmp}
use Rattle.fill_tokens.specs.Prices.{place_cost}
use Rattle.fill_tokens.specs.declared.place.Place.{Place}
use Rattle.fill_tokens.specs.declared.prices.Prices.{Prices}
use Rattle.fill_tree.specs.Cost.{source_cost, atom_cost, conditions_cost}
use Rattle.fill_tree.specs.Grammar.{HasPart, IsPart}
use Rattle.fill_tree.specs.Order.{source_cmp, atom_cmp, atoms_cmp}
use Rattle.fill_tree.specs.Tree.{SourceTree, AtomTree, Atoms, more}
use Rattle.fill_tree.proofs.TreeOrder.{source_total, exact_sources, atom_total, exact_atoms}
use Rattle.fill_arena.specs.Contents.{EachIn}
use Rattle.fill_arena.specs.Stands.{ConditionsFit, PlaceStands, SourceFits, SourceStands, PartFits, PartStands}
use Rattle.fill_arena.specs.WellMade.{IsAtomItem, IsConditionItem}
use Rattle.fill_arena.specs.declared.entry.AtomItem.TheVariants as atom
use Rattle.fill_arena.specs.declared.entry.ConditionItem.{ConditionItem}
use Rattle.fill_arena.specs.declared.entry.Entry.{Entry}
use Rattle.fill_arena.specs.declared.entry.Entry.TheVariants as kind
use Rattle.fill_arena.proofs.Scan.{here}
use Rattle.fill_arena.proofs.Items.{each_dropped, drop_whole, drop_here, ok_on}
use Rattle.fill_arena.proofs.Stand.{atom_items, items_atom, source_items, items_source}
use Rattle.fill_best.specs.Cheapest.{AreCheapest, TakesIn}
use Rattle.fill_best.specs.Costs.{by_cost, linked}
use Rattle.fill_best.specs.First.{AreFirst, IsMade}
use Rattle.fill_best.specs.Parts.{BoundsStand, bounds_cmp, bounds_cost}
use Rattle.fill_best.specs.Rows.{AreConstantsOf, AreFirstParts, AreFirstRows}
use Rattle.fill_best.specs.declared.costed.Costed.{Costed}
use Rattle.fill_best.specs.declared.parts.Bounds.{Bounds}
use Rattle.fill_best.proofs.Conditions.{Row, Mixed, constants_cheap, parts_cheap, rows_in_front, part_listed, no_part_listed}
use Rattle.fill_best.proofs.Standing.{column_fits, fits_column, first_lookups, lookups_cheap, first_wholes, wholes_cheap, first_pieces, pieces_cheap, bounds_cheap, no_part}
use Rattle.fill_best.proofs.Takes.{scan_more, scan_done, takes_all, takes_none, takes_one, takes_same}
use Rattle.fill_best.proofs.sets.+sets.Goals as goal

pub sources_of-returns-clause-first : goal.sources_of-returns-clause-first
sources_of-returns-clause-first t c =
    subst (λ (v : Vec (Costed SourceTree) Global). AreCheapest (source_cost c.args.prices.now) source_cmp (SourceStands c.args.arena.now c.args.s) c.args.limit v.items) (sym c.in_ok-shortlist.ensures.ok) c.in_ok-scan_sources.ensures.first

pub sources_of-returns-clause-memo : goal.sources_of-returns-clause-memo
sources_of-returns-clause-memo t c =
    c.in_ok-keep_sources.ensures c.args.prices.now c.args.arena.now c.args.limit c.in_ok-scan_sources.ensures.memo
    (subst (λ (v : Vec (Costed SourceTree) Global). AreCheapest (source_cost c.args.prices.now) source_cmp (SourceStands c.args.arena.now c.args.s) c.args.limit v.items)
    (sym (c.in_ok-clone-2.ensures.cases ∙ c.in_ok-shortlist.ensures.ok)) c.in_ok-scan_sources.ensures.first)

pub parts_of-returns-clause-first : goal.parts_of-returns-clause-first
parts_of-returns-clause-first t c =
    subst (λ (v : Vec (Costed AtomTree) Global). AreCheapest (atom_cost c.args.prices.now) atom_cmp (PartStands c.args.arena.now c.args.s) c.args.limit v.items) (sym c.in_ok-shortlist.ensures.ok) c.in_ok-scan_parts.ensures.first

pub parts_of-returns-clause-memo : goal.parts_of-returns-clause-memo
parts_of-returns-clause-memo t c =
    c.in_ok-keep_parts.ensures c.args.prices.now c.args.arena.now c.args.limit c.in_ok-scan_parts.ensures.memo
    (subst (λ (v : Vec (Costed AtomTree) Global). AreCheapest (atom_cost c.args.prices.now) atom_cmp (PartStands c.args.arena.now c.args.s) c.args.limit v.items)
    (sym (c.in_ok-clone-2.ensures.cases ∙ c.in_ok-shortlist.ensures.ok)) c.in_ok-scan_parts.ensures.first)

pub scan_sources-put_source-requires : goal.scan_sources-put_source-requires
scan_sources-put_source-requires t c =
    let items = c.sources-items.result.now in
    let i = c.loop-item.item-index in
    let x = c.item-item.result in
    let first = c.loop-item.invariant.first in
    let item = (c.keeps_made.ensures c.args.s (kind.Sources items) c.sources-items.ensures).each i x (here items i x c.loop-item-test.true c.item-item.is) in
    (search rules, (item, (c.requires.some, (first.rising, (first.few, c.loop-item.invariant.memo)))))

pub scan_sources-loop-item-preserved : goal.scan_sources-loop-item-preserved
scan_sources-loop-item-preserved t c =
    let items = c.sources-items.result.now in
    let i = c.loop-item.item-index in
    let x = c.item-item.result in
    record {
      memo = c.in_ok-put_source.ensures.memo;
      first = scan_more (source_cost c.args.prices.now) source_cmp source_total exact_sources c.args.limit (λ y s. SourceFits s c.args.arena.now y) items i x c.new-ranking.result.items c.loop-item.ranking.items c.put_source.new.ranking.items
          (here items i x c.loop-item-test.true c.item-item.is) c.loop-item.invariant.first c.in_ok-put_source.ensures.first;
    }

pub scan_sources-returns-clause-first : goal.scan_sources-returns-clause-first
scan_sources-returns-clause-first t c =
    let arena = c.args.arena.now in
    let items = c.sources-items.result.now in
    let old = c.new-ranking.result.items in
    let new = c.loop-item.ranking.items in
    takes_all (source_cost c.args.prices.now) source_cmp source_total exact_sources c.args.limit (SourceStands arena c.args.s) old new c.new-ranking.ensures.items
    (scan_done (source_cost c.args.prices.now) source_cmp source_total exact_sources c.args.limit (λ y s. SourceFits s arena y) items (SourceStands arena c.args.s) c.loop-item.item-index old new
    (source_items arena c.args.s items c.sources-items.ensures) (items_source arena c.args.s items c.sources-items.ensures) c.loop-item-test.false c.loop-item.invariant.first)

pub scan_parts-put_parts-requires : goal.scan_parts-put_parts-requires
scan_parts-put_parts-requires t c =
    let items = c.atoms-items.result.now in
    let i = c.loop-item.item-index in
    let x = c.item-item.result in
    let first = c.loop-item.invariant.first in
    let item = (c.keeps_made.ensures c.args.s (kind.Atoms items) c.atoms-items.ensures).each i x (here items i x c.loop-item-test.true c.item-item.is) in
    (search rules, (item, (c.requires.some, (first.rising, (first.few, c.loop-item.invariant.memo)))))

pub scan_parts-loop-item-preserved : goal.scan_parts-loop-item-preserved
scan_parts-loop-item-preserved t c =
    let items = c.atoms-items.result.now in
    let i = c.loop-item.item-index in
    let x = c.item-item.result in
    record {
      memo = c.in_ok-put_parts.ensures.memo;
      first = scan_more (atom_cost c.args.prices.now) atom_cmp atom_total exact_atoms c.args.limit (λ y a. PartFits c.args.arena.now y a) items i x c.new-ranking.result.items c.loop-item.ranking.items c.put_parts.new.ranking.items
          (here items i x c.loop-item-test.true c.item-item.is) c.loop-item.invariant.first c.in_ok-put_parts.ensures.first;
    }

pub scan_parts-returns-clause-first : goal.scan_parts-returns-clause-first
scan_parts-returns-clause-first t c =
    let arena = c.args.arena.now in
    let items = c.atoms-items.result.now in
    let old = c.new-ranking.result.items in
    let new = c.loop-item.ranking.items in
    takes_all (atom_cost c.args.prices.now) atom_cmp atom_total exact_atoms c.args.limit (PartStands arena c.args.s) old new c.new-ranking.ensures.items
    (scan_done (atom_cost c.args.prices.now) atom_cmp atom_total exact_atoms c.args.limit (λ y a. PartFits arena y a) items (PartStands arena c.args.s) c.loop-item.item-index old new
    (atom_items arena c.args.s items c.atoms-items.ensures IsPart) (items_atom arena c.args.s items c.atoms-items.ensures IsPart) c.loop-item-test.false c.loop-item.invariant.first)

pub rows_of-loop-left-init : goal.rows_of-loop-left-init
rows_of-loop-left-init t c = record {
  within = omega arith;
  memo = c.requires.memo;
  first = subst (λ xs. AreFirstRows c.args.prices.now c.args.arena.now xs c.args.limit c.in_ok-rows.rows) (sym (drop_whole c.args.items.now)) (c.in_ok-rows.ensures c.args.prices.now c.args.arena.now);
}

pub rows_of-longer_rows-requires : goal.rows_of-longer_rows-requires
rows_of-longer_rows-requires t c =
    let items = c.args.items.now in
    let n = c.loop-left.left - 1 in
    let within = c.loop-left.invariant.within in
    let x = c.index-items-left.result in
    let at = here items n x (omega (arith, c.loop-left-test.true)) c.index-items-left.is in
    let next : suc n ≡ c.loop-left.left = omega (arith, c.loop-left-test.true) in
    let cut : drop n items ≡ x ∷ drop c.loop-left.left items = drop_here items n x at ∙ ap (λ m. x ∷ drop m items) next in
    let P = IsConditionItem c.args.arena.now c.args.set in
    let older = subst (EachIn P) cut (each_dropped P items n c.requires.items) in
    let few = c.requires.short in
    let short : length (drop n items) ≤ 3 = omega (arith, length-drop n items) in
    let few_here : length (x ∷ drop c.loop-left.left items) ≤ 3 = subst (λ (l : List ConditionItem). length l ≤ 3) cut short in
    let rows : (is : List ConditionItem) × EachIn P (x ∷ is) × (length (x ∷ is) ≤ 3) × AreFirstRows c.args.prices.now c.args.arena.now is c.args.limit c.loop-left.rows =
    (drop c.loop-left.left items, older, few_here, c.loop-left.invariant.first) in
    (search rules, (c.requires.items n x at, (rows, (c.requires.some, c.loop-left.invariant.memo))))

pub rows_of-loop-left-preserved : goal.rows_of-loop-left-preserved
rows_of-loop-left-preserved t c =
    let arena = c.args.arena.now in
    let items = c.args.items.now in
    let n = c.loop-left.left - 1 in
    let within = c.loop-left.invariant.within in
    let x = c.index-items-left.result in
    let at = here items n x (omega (arith, c.loop-left-test.true)) c.index-items-left.is in
    let next : suc n ≡ c.loop-left.left = omega (arith, c.loop-left-test.true) in
    let cut : drop n items ≡ x ∷ drop c.loop-left.left items = drop_here items n x at ∙ ap (λ m. x ∷ drop m items) next in
    record {
      within = omega arith;
      memo = c.in_ok-rows-2.ensures.memo;
      first = subst (λ xs. AreFirstRows c.args.prices.now arena xs c.args.limit c.in_ok-rows-2.rows) (sym cut) (c.in_ok-rows-2.ensures.first (drop c.loop-left.left items) c.loop-left.invariant.first);
    }

pub rows_of-returns-clause-first : goal.rows_of-returns-clause-first
rows_of-returns-clause-first t c =
    let none : c.loop-left.left ≡ 0 = omega (arith, c.loop-left-test.false) in
    subst (λ n. AreFirstRows c.args.prices.now c.args.arena.now (drop n c.args.items.now) c.args.limit c.loop-left.rows) none c.loop-left.invariant.first

pub put_source-returns-in_ok-put-in-Col-clause-first : goal.put_source-returns-in_ok-put-in-Col-clause-first
put_source-returns-in_ok-put-in-Col-clause-first t c =
    let arena = c.args.arena.now in
    let m = c.in-Col.number in
    let x = c.column.result in
    let is = c.column.ensures in
    let old = c.args.ranking.now.items in
    let new = c.put.new.ranking.items in
    takes_same (source_cost c.args.prices.now) source_cmp source_total exact_sources c.args.limit (λ b. x ≡ b) (λ b. SourceFits b arena c.args.item.now) old new
    (λ b e. subst (SourceFits b arena) (sym c.in-Col.is) (column_fits arena m b (sym is ∙ e)))
    (λ b f. is ∙ fits_column arena m b (subst (SourceFits b arena) c.in-Col.is f))
    (takes_one (source_cost c.args.prices.now) source_cmp source_total exact_sources c.args.limit x c.args.prices.now.column old new (ap (source_cost c.args.prices.now) (sym is)) c.in_ok-put-in-Col.ensures.first)

pub put_source-returns-in-Select-clause-first : goal.put_source-returns-in-Select-clause-first
put_source-returns-in-Select-clause-first t c =
    subst (λ it. OnOk c.put_lookups.result (TakesIn (source_cost c.args.prices.now) source_cmp (λ x. SourceFits x c.args.arena.now it) c.args.limit c.args.ranking.now.items c.put_lookups.new.ranking.items)) (sym c.in-Select.is)
    c.put_lookups.ensures.first

pub put_lookups-rows_of-requires : goal.put_lookups-rows_of-requires
put_lookups-rows_of-requires t c =
    let older = subst (EachIn (IsConditionItem c.args.arena.now c.args.set)) (sym c.as_slice.ensures) c.requires.item.older in
    let few = subst (λ (l : List ConditionItem). length l ≤ 3) (sym c.as_slice.ensures) c.requires.item.few in
    (search rules, (older, (few, (c.requires.some, c.requires.memo))))

mixed_rows : (prices : Prices) (arena : List Entry) (k : ℕ) (given listed : List ConditionItem) (ranking taken : List (Costed Atoms)) → taken ≡ ranking → listed ≡ given →
    AreCheapest (conditions_cost prices) atoms_cmp (λ p. HasPart p × ConditionsFit p arena listed) k ranking → AreCheapest (conditions_cost prices) atoms_cmp (λ p. HasPart p × ConditionsFit p arena given) k taken
mixed_rows prices arena k given listed ranking taken e f first =
    subst (AreCheapest (conditions_cost prices) atoms_cmp (λ p. HasPart p × ConditionsFit p arena given) k) (sym e)
    (subst (λ l. AreCheapest (conditions_cost prices) atoms_cmp (λ p. HasPart p × ConditionsFit p arena l) k ranking) f first)

pub put_lookups-put_products-requires-clause-seconds : goal.put_lookups-put_products-requires-clause-seconds
put_lookups-put_products-requires-clause-seconds t c =
    (mixed_rows c.args.prices.now c.args.arena.now c.args.limit c.args.item.now.conditions c.as_slice.result.now c.in_ok-rows.rows.mixed.items c.as_slice-2.result.now c.as_slice-2.ensures.value c.as_slice.ensures
    c.in_ok-rows.ensures.first.mixed).rising

pub put_lookups-put_products-requires-clause-cheap : goal.put_lookups-put_products-requires-clause-cheap
put_lookups-put_products-requires-clause-cheap t c =
    let arena = c.args.arena.now in
    let i = c.args.item.now in
    let rows = mixed_rows c.args.prices.now arena c.args.limit i.conditions c.as_slice.result.now c.in_ok-rows.rows.mixed.items c.as_slice-2.result.now c.as_slice-2.ensures.value c.as_slice.ensures
    c.in_ok-rows.ensures.first.mixed in
    lookups_cheap c.args.prices.now c.keep_small.ensures arena i c.args.limit c.requires.some c.as_slice-2.result.now rows c.args.set c.keeps_made.ensures c.requires.item

pub put_lookups-returns-clause-first : goal.put_lookups-returns-clause-first
put_lookups-returns-clause-first t c =
    let arena = c.args.arena.now in
    let i = c.args.item.now in
    let rows = mixed_rows c.args.prices.now arena c.args.limit i.conditions c.as_slice.result.now c.in_ok-rows.rows.mixed.items c.as_slice-2.result.now c.as_slice-2.ensures.value c.as_slice.ensures
    c.in_ok-rows.ensures.first.mixed in
    ok_on _ _ c.put_products.result c.put_products.ensures
    (λ u h. first_lookups c.args.prices.now c.keep_small.ensures arena i c.args.limit c.requires.some c.as_slice-2.result.now rows (Contains c.args.ranking.now.items) c.put_products.new.ranking.items h)

pub conditions_of-returns-in-Some-clause-first : goal.conditions_of-returns-in-Some-clause-first
conditions_of-returns-in-Some-clause-first t c =
    ok_on _ _ c.parts_of.result c.parts_of.ensures.first (λ shortlist h. part_listed c.args.prices.now c.args.arena.now c.args.item.now c.in-Some.s c.in-Some.is c.args.limit shortlist.value.items h)

pub conditions_of-returns-in_ok-new-in-None-clause-first : goal.conditions_of-returns-in_ok-new-in-None-clause-first
conditions_of-returns-in_ok-new-in-None-clause-first t c =
    subst (AreFirstParts c.args.prices.now c.args.arena.now c.args.item.now c.args.limit) (sym (ap (λ (v : Vec (Costed AtomTree) Global). v.items) c.in_ok-new-in-None.ensures.ok ∙ c.new.ensures.items))
    (no_part_listed c.args.prices.now c.args.arena.now c.args.item.now c.in-None.is c.args.limit)

-- the constants, the other conditions and the rows, as slices
module _ (prices : Prices) (c : List Entry) (i : ConditionItem) (k : ℕ) where
  fixed_slice : (list slice : List (Costed AtomTree)) → slice ≡ list → AreConstantsOf prices i k list → AreConstantsOf prices i k slice
  fixed_slice list slice e first = subst (AreConstantsOf prices i k) (sym e) first

  others_slice : (list held : Vec (Costed AtomTree) Global) (slice : List (Costed AtomTree)) → slice ≡ held.items → held ≡ list → AreFirstParts prices c i k list.items → AreFirstParts prices c i k slice
  others_slice list held slice e f first =
      subst (AreFirstParts prices c i k) (sym e) (subst (λ (v : Vec (Costed AtomTree) Global). AreFirstParts prices c i k v.items) (sym f) first)

  rows_slice : (P : Atoms → Type 0) (list slice : List (Costed Atoms)) → slice ≡ list → AreCheapest (conditions_cost prices) atoms_cmp P k list → AreCheapest (conditions_cost prices) atoms_cmp P k slice
  rows_slice P list slice e first = subst (AreCheapest (conditions_cost prices) atoms_cmp P k) (sym e) first

pub longer_rows-put_in_front-requires-clause-after_constants : goal.longer_rows-put_in_front-requires-clause-after_constants
longer_rows-put_in_front-requires-clause-after_constants t c =
    (rows_slice c.args.prices.now c.args.arena.now c.args.item.now c.args.limit _ c.args.rows.any.items c.as_slice-any.result.now c.as_slice-any.ensures.value c.requires.rows.3.any).rising

pub longer_rows-put_in_front-requires-clause-after_parts : goal.longer_rows-put_in_front-requires-clause-after_parts
longer_rows-put_in_front-requires-clause-after_parts t c =
    (rows_slice c.args.prices.now c.args.arena.now c.args.item.now c.args.limit _ c.args.rows.any.items c.as_slice-any.result.now c.as_slice-any.ensures.value c.requires.rows.3.any).rising

pub longer_rows-put_in_front-requires-2-clause-after_constants : goal.longer_rows-put_in_front-requires-2-clause-after_constants
longer_rows-put_in_front-requires-2-clause-after_constants t c =
    (rows_slice c.args.prices.now c.args.arena.now c.args.item.now c.args.limit _ c.args.rows.mixed.items c.as_slice.result.now c.as_slice.ensures.value c.requires.rows.3.mixed).rising

pub longer_rows-put_in_front-requires-2-clause-after_parts : goal.longer_rows-put_in_front-requires-2-clause-after_parts
longer_rows-put_in_front-requires-2-clause-after_parts t c =
    (rows_slice c.args.prices.now c.args.arena.now c.args.item.now c.args.limit _ c.args.rows.any.items c.as_slice-any.result.now c.as_slice-any.ensures.value c.requires.rows.3.any).rising

pub longer_rows-put_in_front-requires-clause-constants : goal.longer_rows-put_in_front-requires-clause-constants
longer_rows-put_in_front-requires-clause-constants t c =
    let arena = c.args.arena.now in
    let i = c.args.item.now in
    let k = c.args.limit in
    let h = c.requires.rows in
    let fixed = fixed_slice c.args.prices.now arena i k c.in_ok-constants.constants.items c.as_slice-fixed.result.now c.as_slice-fixed.ensures.value (c.in_ok-constants.ensures k c.requires.some) in
    let others = others_slice c.args.prices.now arena i k c.in_ok-parts.parts.value c.deref.result.now c.as_slice-others.result.now c.as_slice-others.ensures.value c.deref.ensures c.in_ok-parts.ensures.first in
    let any = rows_slice c.args.prices.now arena i k (Row c.args.prices.now c.keep_small.ensures arena i h.0) c.args.rows.any.items c.as_slice-any.result.now c.as_slice-any.ensures.value h.3.any in
    constants_cheap c.args.prices.now c.keep_small.ensures arena i h.0 k (Row c.args.prices.now c.keep_small.ensures arena i h.0) c.as_slice-fixed.result.now c.as_slice-others.result.now c.as_slice-any.result.now c.as_slice-any.result.now fixed any others any
    c.keeps_made.ensures c.args.set h.1 h.2 (λ p row. row)

pub longer_rows-put_in_front-requires-clause-parts : goal.longer_rows-put_in_front-requires-clause-parts
longer_rows-put_in_front-requires-clause-parts t c =
    let arena = c.args.arena.now in
    let i = c.args.item.now in
    let k = c.args.limit in
    let h = c.requires.rows in
    let fixed = fixed_slice c.args.prices.now arena i k c.in_ok-constants.constants.items c.as_slice-fixed.result.now c.as_slice-fixed.ensures.value (c.in_ok-constants.ensures k c.requires.some) in
    let others = others_slice c.args.prices.now arena i k c.in_ok-parts.parts.value c.deref.result.now c.as_slice-others.result.now c.as_slice-others.ensures.value c.deref.ensures c.in_ok-parts.ensures.first in
    let any = rows_slice c.args.prices.now arena i k (Row c.args.prices.now c.keep_small.ensures arena i h.0) c.args.rows.any.items c.as_slice-any.result.now c.as_slice-any.ensures.value h.3.any in
    parts_cheap c.args.prices.now c.keep_small.ensures arena i h.0 k (Row c.args.prices.now c.keep_small.ensures arena i h.0) c.as_slice-fixed.result.now c.as_slice-others.result.now c.as_slice-any.result.now c.as_slice-any.result.now fixed any others any
    c.keeps_made.ensures c.args.set h.1 h.2

pub longer_rows-put_in_front-requires-2-clause-constants : goal.longer_rows-put_in_front-requires-2-clause-constants
longer_rows-put_in_front-requires-2-clause-constants t c =
    let arena = c.args.arena.now in
    let i = c.args.item.now in
    let k = c.args.limit in
    let h = c.requires.rows in
    let fixed = fixed_slice c.args.prices.now arena i k c.in_ok-constants.constants.items c.as_slice-fixed.result.now c.as_slice-fixed.ensures.value (c.in_ok-constants.ensures k c.requires.some) in
    let others = others_slice c.args.prices.now arena i k c.in_ok-parts.parts.value c.deref.result.now c.as_slice-others.result.now c.as_slice-others.ensures.value c.deref.ensures c.in_ok-parts.ensures.first in
    let any = rows_slice c.args.prices.now arena i k (Row c.args.prices.now c.keep_small.ensures arena i h.0) c.args.rows.any.items c.as_slice-any.result.now c.as_slice-any.ensures.value h.3.any in
    let mixed = rows_slice c.args.prices.now arena i k (Mixed c.args.prices.now c.keep_small.ensures arena i h.0) c.args.rows.mixed.items c.as_slice.result.now c.as_slice.ensures.value h.3.mixed in
    constants_cheap c.args.prices.now c.keep_small.ensures arena i h.0 k (Mixed c.args.prices.now c.keep_small.ensures arena i h.0) c.as_slice-fixed.result.now c.as_slice-others.result.now c.as_slice.result.now c.as_slice-any.result.now fixed mixed others any
    c.keeps_made.ensures c.args.set h.1 h.2 (λ p row. row.1)

pub longer_rows-put_in_front-requires-2-clause-parts : goal.longer_rows-put_in_front-requires-2-clause-parts
longer_rows-put_in_front-requires-2-clause-parts t c =
    let arena = c.args.arena.now in
    let i = c.args.item.now in
    let k = c.args.limit in
    let h = c.requires.rows in
    let fixed = fixed_slice c.args.prices.now arena i k c.in_ok-constants.constants.items c.as_slice-fixed.result.now c.as_slice-fixed.ensures.value (c.in_ok-constants.ensures k c.requires.some) in
    let others = others_slice c.args.prices.now arena i k c.in_ok-parts.parts.value c.deref.result.now c.as_slice-others.result.now c.as_slice-others.ensures.value c.deref.ensures c.in_ok-parts.ensures.first in
    let any = rows_slice c.args.prices.now arena i k (Row c.args.prices.now c.keep_small.ensures arena i h.0) c.args.rows.any.items c.as_slice-any.result.now c.as_slice-any.ensures.value h.3.any in
    parts_cheap c.args.prices.now c.keep_small.ensures arena i h.0 k (Row c.args.prices.now c.keep_small.ensures arena i h.0) c.as_slice-fixed.result.now c.as_slice-others.result.now c.as_slice-any.result.now c.as_slice-any.result.now fixed any others any
    c.keeps_made.ensures c.args.set h.1 h.2

pub longer_rows-returns-clause-first : goal.longer_rows-returns-clause-first
longer_rows-returns-clause-first t c is are =
    let arena = c.args.arena.now in
    let i = c.args.item.now in
    let k = c.args.limit in
    let xs = c.as_slice-fixed.result.now in
    let us = c.as_slice-others.result.now in
    let fixed = fixed_slice c.args.prices.now arena i k c.in_ok-constants.constants.items xs c.as_slice-fixed.ensures.value (c.in_ok-constants.ensures k c.requires.some) in
    let others = others_slice c.args.prices.now arena i k c.in_ok-parts.parts.value c.deref.result.now us c.as_slice-others.ensures.value c.deref.ensures c.in_ok-parts.ensures.first in
    let R = by_cost atoms_cmp in
    let longer =
    subst (λ ys. AreFirst R (λ z. IsMade (linked more 0) (Contains xs) (Contains ys) z ⊎ IsMade (linked more c.args.prices.now.condition) (Contains us) (Contains ys) z) k c.in_ok-longer.longer.items)
    c.as_slice-any.ensures.value c.in_ok-longer.ensures in
    let half =
    subst (λ ys. AreFirst R (λ z. IsMade (linked more 0) (Contains xs) (Contains ys) z ⊎ IsMade (linked more c.args.prices.now.condition) (Contains us) (Contains c.as_slice-any.result.now) z) k c.in_ok-mixed.mixed.items)
    c.as_slice.ensures.value c.in_ok-mixed.ensures in
    let mixed =
    subst (λ ys. AreFirst R (λ z. IsMade (linked more 0) (Contains xs) (Contains c.args.rows.mixed.items) z ⊎ IsMade (linked more c.args.prices.now.condition) (Contains us) (Contains ys) z) k c.in_ok-mixed.mixed.items)
    c.as_slice-any.ensures.value half in
    rows_in_front c.args.prices.now c.keep_small.ensures arena i is k xs us c.args.rows (record { any = c.in_ok-longer.longer; mixed = c.in_ok-mixed.mixed }) fixed others are longer mixed

-- what was found of sets, as slices
sources_slice : (prices : Prices) (c : List Entry) (b k : ℕ) (list held : Vec (Costed SourceTree) Global) (slice : List (Costed SourceTree)) → slice ≡ held.items → held ≡ list →
    AreCheapest (source_cost prices) source_cmp (SourceStands c b) k list.items → AreCheapest (source_cost prices) source_cmp (SourceStands c b) k slice
sources_slice prices c b k list held slice e f first =
    subst (AreCheapest (source_cost prices) source_cmp (SourceStands c b) k) (sym e) (subst (λ (v : Vec (Costed SourceTree) Global). AreCheapest (source_cost prices) source_cmp (SourceStands c b) k v.items) (sym f) first)

places_slice : (prices : Prices) (c : List Entry) (b k : ℕ) (list held : Vec (Costed Place) Global) (slice : List (Costed Place)) → slice ≡ held.items → held ≡ list →
    AreCheapest (place_cost prices) place_cmp (PlaceStands c b) k list.items → AreCheapest (place_cost prices) place_cmp (PlaceStands c b) k slice
places_slice prices c b k list held slice e f first =
    subst (AreCheapest (place_cost prices) place_cmp (PlaceStands c b) k) (sym e) (subst (λ (v : Vec (Costed Place) Global). AreCheapest (place_cost prices) place_cmp (PlaceStands c b) k v.items) (sym f) first)

pub put_parts-returns-in-Const-clause-first : goal.put_parts-returns-in-Const-clause-first
put_parts-returns-in-Const-clause-first t c =
    subst (λ it. TakesIn (atom_cost c.args.prices.now) atom_cmp (PartFits c.args.arena.now it) c.args.limit c.args.ranking.now.items c.args.ranking.now.items) (sym c.in-Const.is)
    (takes_none (atom_cost c.args.prices.now) atom_cmp atom_total exact_atoms c.args.limit (PartFits c.args.arena.now (atom.Const c.in-Const.field-0)) c.args.ranking.now.items
    (no_part c.args.arena.now c.in-Const.field-0) c.requires.rising c.requires.few)

pub put_parts-put_products-requires-clause-seconds : goal.put_parts-put_products-requires-clause-seconds
put_parts-put_products-requires-clause-seconds t c = λ i j d lt within. absurd (omega arith)

pub put_parts-put_products-requires-clause-cheap : goal.put_parts-put_products-requires-clause-cheap
put_parts-put_products-requires-clause-cheap t c =
    let arena = c.args.arena.now in
    let b = c.in-Whole.sources in
    let xs = c.as_slice.result.now in
    let sources = sources_slice c.args.prices.now arena b c.args.limit c.in_ok-shortlist-in-Whole.shortlist.value c.deref.result.now xs c.as_slice.ensures.value c.deref.ensures c.in_ok-shortlist-in-Whole.ensures.first in
    wholes_cheap c.args.prices.now c.keep_small.ensures arena b c.args.limit xs sources c.requires.some c.args.set c.keeps_made.ensures (subst (IsAtomItem arena c.args.set) c.in-Whole.is c.requires.item)

pub put_parts-returns-in_ok-shortlist-in-Whole-clause-first : goal.put_parts-returns-in_ok-shortlist-in-Whole-clause-first
put_parts-returns-in_ok-shortlist-in-Whole-clause-first t c =
    let arena = c.args.arena.now in
    let b = c.in-Whole.sources in
    let xs = c.as_slice.result.now in
    let old = c.args.ranking.now.items in
    let new = c.put_products.new.ranking.items in
    let sources = sources_slice c.args.prices.now arena b c.args.limit c.in_ok-shortlist-in-Whole.shortlist.value c.deref.result.now xs c.as_slice.ensures.value c.deref.ensures c.in_ok-shortlist-in-Whole.ensures.first in
    ok_on _ _ c.put_products.result c.put_products.ensures
    (λ u h. subst (λ it. TakesIn (atom_cost c.args.prices.now) atom_cmp (PartFits arena it) c.args.limit old new) (sym c.in-Whole.is) (first_wholes c.args.prices.now c.keep_small.ensures arena b c.args.limit xs sources c.requires.some (Contains old) new h))

pub put_parts-bounds_of-requires-clause-rising : goal.put_parts-bounds_of-requires-clause-rising
put_parts-bounds_of-requires-clause-rising t c =
    let arena = c.args.arena.now in
    let r = c.in-Sub.rights in
    let rights = places_slice c.args.prices.now arena r c.args.limit c.in_ok-right-in-Sub.right.value c.deref-in-Sub-2.result.now c.as_slice-in-Sub-2.result.now c.as_slice-in-Sub-2.ensures.value c.deref-in-Sub-2.ensures
    c.in_ok-right-in-Sub.ensures.first in
    (arena, r, rights)

pub put_parts-bounds_of-requires-clause-cheap : goal.put_parts-bounds_of-requires-clause-cheap
put_parts-bounds_of-requires-clause-cheap t c =
    let arena = c.args.arena.now in
    let l = c.in-Sub.lefts in
    let r = c.in-Sub.rights in
    let lefts = places_slice c.args.prices.now arena l c.args.limit c.in_ok-left-in-Sub.left.value c.deref-in-Sub.result.now c.as_slice-in-Sub.result.now c.as_slice-in-Sub.ensures.value c.deref-in-Sub.ensures
    c.in_ok-left-in-Sub.ensures.first in
    let rights = places_slice c.args.prices.now arena r c.args.limit c.in_ok-right-in-Sub.right.value c.deref-in-Sub-2.result.now c.as_slice-in-Sub-2.result.now c.as_slice-in-Sub-2.ensures.value c.deref-in-Sub-2.ensures
    c.in_ok-right-in-Sub.ensures.first in
    bounds_cheap c.args.prices.now c.keep_small.ensures arena l r c.args.limit c.as_slice-in-Sub.result.now c.as_slice-in-Sub-2.result.now lefts rights c.keeps_made.ensures

bounds_slice : (prices : Prices) (c : List Entry) (l r k : ℕ) (list slice : List (Costed Bounds)) → slice ≡ list → AreCheapest (bounds_cost prices) bounds_cmp (BoundsStand c l r) k list → AreCheapest (bounds_cost prices) bounds_cmp (BoundsStand c l r) k slice
bounds_slice prices c l r k list slice e first = subst (AreCheapest (bounds_cost prices) bounds_cmp (BoundsStand c l r) k) (sym e) first

pub put_parts-put_products-requires-in-Sub-clause-seconds : goal.put_parts-put_products-requires-in-Sub-clause-seconds
put_parts-put_products-requires-in-Sub-clause-seconds t c =
    let arena = c.args.arena.now in
    let l = c.in-Sub.lefts in
    let r = c.in-Sub.rights in
    let lefts = places_slice c.args.prices.now arena l c.args.limit c.in_ok-left-in-Sub.left.value c.deref-in-Sub.result.now c.as_slice-in-Sub.result.now c.as_slice-in-Sub.ensures.value c.deref-in-Sub.ensures
    c.in_ok-left-in-Sub.ensures.first in
    let rights = places_slice c.args.prices.now arena r c.args.limit c.in_ok-right-in-Sub.right.value c.deref-in-Sub-2.result.now c.as_slice-in-Sub-2.result.now c.as_slice-in-Sub-2.ensures.value c.deref-in-Sub-2.ensures
    c.in_ok-right-in-Sub.ensures.first in
    (bounds_slice c.args.prices.now arena l r c.args.limit c.in_ok-bounds-in-Sub.bounds.items c.as_slice-in-Sub-4.result.now c.as_slice-in-Sub-4.ensures.value (c.in_ok-bounds-in-Sub.ensures arena l r lefts rights)).rising

pub put_parts-put_products-requires-in-Sub-clause-cheap : goal.put_parts-put_products-requires-in-Sub-clause-cheap
put_parts-put_products-requires-in-Sub-clause-cheap t c =
    let arena = c.args.arena.now in
    let b = c.in-Sub.sources in
    let l = c.in-Sub.lefts in
    let r = c.in-Sub.rights in
    let xs = c.as_slice-in-Sub-3.result.now in
    let ys = c.as_slice-in-Sub-4.result.now in
    let lefts = places_slice c.args.prices.now arena l c.args.limit c.in_ok-left-in-Sub.left.value c.deref-in-Sub.result.now c.as_slice-in-Sub.result.now c.as_slice-in-Sub.ensures.value c.deref-in-Sub.ensures
    c.in_ok-left-in-Sub.ensures.first in
    let rights = places_slice c.args.prices.now arena r c.args.limit c.in_ok-right-in-Sub.right.value c.deref-in-Sub-2.result.now c.as_slice-in-Sub-2.result.now c.as_slice-in-Sub-2.ensures.value c.deref-in-Sub-2.ensures
    c.in_ok-right-in-Sub.ensures.first in
    let bounds = bounds_slice c.args.prices.now arena l r c.args.limit c.in_ok-bounds-in-Sub.bounds.items ys c.as_slice-in-Sub-4.ensures.value (c.in_ok-bounds-in-Sub.ensures arena l r lefts rights) in
    let sources = sources_slice c.args.prices.now arena b c.args.limit c.in_ok-shortlist-in-Sub.shortlist.value c.deref-in-Sub-3.result.now xs c.as_slice-in-Sub-3.ensures.value c.deref-in-Sub-3.ensures c.in_ok-shortlist-in-Sub.ensures.first in
    pieces_cheap c.args.prices.now c.keep_small.ensures arena b c.args.limit xs sources l r ys bounds c.args.set c.keeps_made.ensures (subst (IsAtomItem arena c.args.set) c.in-Sub.is c.requires.item)

pub put_parts-returns-in_ok-bounds-in-Sub-clause-first : goal.put_parts-returns-in_ok-bounds-in-Sub-clause-first
put_parts-returns-in_ok-bounds-in-Sub-clause-first t c =
    let arena = c.args.arena.now in
    let b = c.in-Sub.sources in
    let l = c.in-Sub.lefts in
    let r = c.in-Sub.rights in
    let xs = c.as_slice-in-Sub-3.result.now in
    let ys = c.as_slice-in-Sub-4.result.now in
    let old = c.args.ranking.now.items in
    let new = c.put_products-in-Sub.new.ranking.items in
    let lefts = places_slice c.args.prices.now arena l c.args.limit c.in_ok-left-in-Sub.left.value c.deref-in-Sub.result.now c.as_slice-in-Sub.result.now c.as_slice-in-Sub.ensures.value c.deref-in-Sub.ensures
    c.in_ok-left-in-Sub.ensures.first in
    let rights = places_slice c.args.prices.now arena r c.args.limit c.in_ok-right-in-Sub.right.value c.deref-in-Sub-2.result.now c.as_slice-in-Sub-2.result.now c.as_slice-in-Sub-2.ensures.value c.deref-in-Sub-2.ensures
    c.in_ok-right-in-Sub.ensures.first in
    let bounds = bounds_slice c.args.prices.now arena l r c.args.limit c.in_ok-bounds-in-Sub.bounds.items ys c.as_slice-in-Sub-4.ensures.value (c.in_ok-bounds-in-Sub.ensures arena l r lefts rights) in
    let sources = sources_slice c.args.prices.now arena b c.args.limit c.in_ok-shortlist-in-Sub.shortlist.value c.deref-in-Sub-3.result.now xs c.as_slice-in-Sub-3.ensures.value c.deref-in-Sub-3.ensures c.in_ok-shortlist-in-Sub.ensures.first in
    ok_on _ _ c.put_products-in-Sub.result c.put_products-in-Sub.ensures
    (λ u h. subst (λ it. TakesIn (atom_cost c.args.prices.now) atom_cmp (PartFits arena it) c.args.limit old new) (sym c.in-Sub.is) (first_pieces c.args.prices.now c.keep_small.ensures arena b c.args.limit xs sources l r ys bounds (Contains old) new h))
