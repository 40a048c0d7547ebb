use Rattle.std.proofs.Common.{rules, ◌≡◌, ◌≤◌, ◌+◌, ◌-◌, List, ◌∷◌, length, length-drop, suc, drop, Some, sym, subst, ◌∙◌, ap, arith}
use Rattle.fill_tree.specs.Cost.{conditions_cost}
use Rattle.fill_tree.specs.Grammar.{HasPart, IsPart}
use Rattle.fill_tree.specs.Meaning.{atom_tree, source_tree, select_tree, program_tree}
use Rattle.fill_tree.specs.Tree.{select}
use Rattle.fill_tree.specs.declared.tree.Atom.TheVariants.{Sub}
use Rattle.fill_tree.specs.declared.tree.Atom.TheFolds.{the_lemmas}
use Rattle.fill_tree.specs.declared.tree.Source.TheVariants as source
use Rattle.fill_arena.specs.Stands.{ConditionsFit, SourceFits, SourceStands, PartFits, PartStands}
use Rattle.fill_arena.specs.declared.entry.AtomItem.TheVariants as item
use Rattle.fill_arena.specs.declared.entry.ConditionItem.{ConditionItem}
use Rattle.fill_arena.specs.declared.entry.Entry.TheVariants.{Sources, Atoms}
use Rattle.fill_arena.proofs.Scan.{here}
use Rattle.fill_arena.specs.Best.{IsBest, IsBestOf}
use Rattle.fill_tree.specs.Order.{atom_rank, source_rank}
use Rattle.fill_rank.specs.Sets.{AreBestRows, IsBestChain, IsBestPart, IsConstantOf}
use Rattle.fill_tree.proofs.Ranked.{atom_rank-total, atom_rank-exact, source_rank-total, source_rank-exact}
use Rattle.fill_rank.proofs.Parts.{best_select, best_sub}
use Rattle.fill_arena.specs.Contents.{EachIn}
use Rattle.fill_arena.specs.WellMade.{IsConditionItem}
use Rattle.fill_rank.proofs.Cheap.{rows_cheap, sources_cheap, source_cheap, atoms_cheap, atom_cheap, part_fits}
use Rattle.fill_arena.proofs.Items.{each_dropped, ok_on, drop_whole, drop_here}
use Rattle.fill_rank.proofs.Pieces.{constant_kept, part_kept, no_part_kept, no_lookup, copied_best}
use Rattle.fill_rank.proofs.Scan.{scan_step, scan_done}
use Rattle.fill_arena.proofs.Filled.{source_filled}
use Rattle.fill_arena.proofs.Stand.{atom_items, items_atom, source_items, items_source}
use Rattle.fill_arena.proofs.Trees.{sub_tree}
use Rattle.std.specs.Option.{IfSome}
use Rattle.fill_tree.specs.Cost.{atom_cost}
use Rattle.fill_tree.specs.declared.tree.Atom.{Atom}
use Rattle.fill_arena.specs.Contents.{SomeBelow}
use Rattle.fill_rank.specs.Memo.{IsMemoOf}
use Rattle.fill_rank.proofs.LowerBounds.{scan_below}
use Rattle.fill_rank.proofs.sets.+sets.Goals as goal
use Rattle.fill_rank.proofs.sets.+sets.Goals.{scan_parts-then-not-is_below+in_ok-next, scan_parts-else-not-is_below, longer_rows-in-Some+in_ok-copy-in-Some, longer_rows-in-None, longer_rows-in-Some-atoms+in_ok-part-in-Some-atoms, longer_rows-in-None-atoms}

pub longer_rows-returns-clause-best : goal.longer_rows-returns-clause-best
longer_rows-returns-clause-best t c =
    let arena = c.args.arena.now in
    let i = c.args.item.now in
    let k : IsConstantOf i c.match-item.constant = elim c.match-item.branch [
      | longer_rows-in-Some+in_ok-copy-in-Some w ↦ subst (IsConstantOf i) (sym w.constant-is) (constant_kept i w.in-Some.text w.in_ok-copy-in-Some.field-0 w.in-Some.is w.in_ok-copy-in-Some.ensures)
      | longer_rows-in-None w ↦ subst (IsConstantOf i) (sym w.constant-is) w.in-None.is
    ] in
    let b : IsBestPart c.args.prices.now arena i c.match-item-2.part = elim c.match-item-2.branch [
      | longer_rows-in-Some-atoms+in_ok-part-in-Some-atoms w ↦
          subst (IsBestPart c.args.prices.now arena i) (sym w.part-is) (part_kept c.args.prices.now arena i w.in-Some-atoms.atoms w.in-Some-atoms.is w.in_ok-part-in-Some-atoms.part w.in_ok-part-in-Some-atoms.ensures.best)
      | longer_rows-in-None-atoms w ↦ subst (IsBestPart c.args.prices.now arena i) (sym w.part-is) (no_part_kept c.args.prices.now arena i w.in-None-atoms.is)
    ] in
    ok_on _ _ c.put_in_front.result c.put_in_front.ensures (λ made h is are. h arena i is k b are)

pub longer_rows-put_in_front-requires : goal.longer_rows-put_in_front-requires
longer_rows-put_in_front-requires t c =
    let arena = c.args.arena.now in
    let i = c.args.item.now in
    let k : IsConstantOf i c.match-item.constant = elim c.match-item.branch [
      | longer_rows-in-Some+in_ok-copy-in-Some w ↦ subst (IsConstantOf i) (sym w.constant-is) (constant_kept i w.in-Some.text w.in_ok-copy-in-Some.field-0 w.in-Some.is w.in_ok-copy-in-Some.ensures)
      | longer_rows-in-None w ↦ subst (IsConstantOf i) (sym w.constant-is) w.in-None.is
    ] in
    let b : IsBestPart c.args.prices.now arena i c.match-item-2.part = elim c.match-item-2.branch [
      | longer_rows-in-Some-atoms+in_ok-part-in-Some-atoms w ↦
          subst (IsBestPart c.args.prices.now arena i) (sym w.part-is) (part_kept c.args.prices.now arena i w.in-Some-atoms.atoms w.in-Some-atoms.is w.in_ok-part-in-Some-atoms.part w.in_ok-part-in-Some-atoms.ensures.best)
      | longer_rows-in-None-atoms w ↦ subst (IsBestPart c.args.prices.now arena i) (sym w.part-is) (no_part_kept c.args.prices.now arena i w.in-None-atoms.is)
    ] in
    let h = c.requires.rows in
    let cheap = rows_cheap c.args.prices.now c.keep_small.ensures arena c.keeps_made.ensures c.args.set i h.0 h.1 h.2 c.match-item.constant c.match-item-2.part c.args.rows k b h.3 in
    record { fixed = cheap.0; part = cheap.1; later = cheap.2 }

pub lookup_in-unreachable-requires : goal.lookup_in-unreachable-requires
lookup_in-unreachable-requires t c =
    let arena = c.args.arena.now in
    let i = c.args.item.now in
    let best = subst (λ xs. IsBestChain (conditions_cost c.args.prices.now) (λ p. HasPart p × ConditionsFit p arena xs) c.in_ok-rows.rows.mixed) c.as_slice.ensures c.in_ok-rows.ensures.best.mixed in
    let none = subst (IsBestChain (conditions_cost c.args.prices.now) (λ p. HasPart p × ConditionsFit p arena i.conditions)) c.in_default.is best in
    no_lookup arena i none c.requires.item.filled

pub lookup_in-returns-clause-best : goal.lookup_in-returns-clause-best
lookup_in-returns-clause-best t c =
    let arena = c.args.arena.now in
    let i = c.args.item.now in
    let best = subst (λ xs. IsBestChain (conditions_cost c.args.prices.now) (λ p. HasPart p × ConditionsFit p arena xs) c.in_ok-rows.rows.mixed) c.as_slice.ensures c.in_ok-rows.ensures.best.mixed in
    let some = subst (IsBestChain (conditions_cost c.args.prices.now) (λ p. HasPart p × ConditionsFit p arena i.conditions)) c.in-Some.is best in
    let boxed = c.in_ok-new.ensures.ok in
    let one : source_tree (source.Select c.in_ok-new.field-0) ≡ select_tree c.in_ok-new.field-0.value = search (rules, the_lemmas) in
    let two : select_tree c.in_ok-new.field-0.value ≡ select i.column i.table i.key (program_tree c.in-Some.row.atoms) = rw boxed (search (rules, the_lemmas)) in
    let tree : source_tree (source.Select c.in_ok-new.field-0) ≡ select i.column i.table i.key (program_tree c.in-Some.row.atoms) = one ∙ two in
    subst (IsBest (source_rank c.args.prices.now) _) (sym tree) (best_select c.args.prices.now arena i (program_tree c.in-Some.row.atoms) some.1)

pub part_in-returns-in_ok-right-in-Sub-clause-best : goal.part_in-returns-in_ok-right-in-Sub-clause-best
part_in-returns-in_ok-right-in-Sub-clause-best t c =
    let arena = c.args.arena.now in
    let x = c.in_ok-source-in-Sub.source in
    let p = c.in_ok-left-in-Sub.left in
    let q = c.in_ok-right-in-Sub.right in
    let best = best_sub c.args.prices.now arena c.in-Sub.sources c.in-Sub.lefts c.in-Sub.rights (source_tree x) p q c.in_ok-source-in-Sub.ensures.best c.in_ok-left-in-Sub.ensures.best c.in_ok-right-in-Sub.ensures.best in
    subst (λ i. IsBest (atom_rank c.args.prices.now) (λ a. PartFits arena i a) (atom_tree (Sub x p q))) (sym c.in-Sub.is)
    (subst (IsBest (atom_rank c.args.prices.now) (λ a. PartFits arena (item.Sub c.in-Sub.sources c.in-Sub.lefts c.in-Sub.rights) a)) (sym (sub_tree x p q)) best)

pub part_of-returns-clause-memo : goal.part_of-returns-clause-memo
part_of-returns-clause-memo t c =
    let arena = c.args.arena.now in
    c.in_ok-keep_part.ensures.kept c.args.prices.now arena c.in_ok-best.ensures.memo (copied_best c.args.prices.now (PartStands arena c.args.s) c.in_ok-best.best c.in_ok-copy_of.field-0 c.in_ok-copy_of.ensures c.in_ok-best.ensures.best)

pub rows_of-loop-left-init : goal.rows_of-loop-left-init
rows_of-loop-left-init t c = record {
  within = omega arith;
  memo = c.requires.memo;
  best = subst (λ xs. AreBestRows c.args.prices.now c.args.arena.now xs c.no_conditions-rows.result) (sym (drop_whole c.args.items.now)) (c.no_conditions-rows.ensures c.args.prices.now c.args.arena.now);
}

pub rows_of-longer_rows-requires : goal.rows_of-longer_rows-requires
rows_of-longer_rows-requires t c =
    let items = c.args.items.now in
    let n = c.loop-left.left - 1 in
    let within = c.loop-left.invariant.within in
    let x = c.index-items-left.result in
    let at = here items n x (omega (arith, c.loop-left-test.true)) c.index-items-left.is in
    let next : suc n ≡ c.loop-left.left = omega (arith, c.loop-left-test.true) in
    let cut : drop n items ≡ x ∷ drop c.loop-left.left items = drop_here items n x at ∙ ap (λ m. x ∷ drop m items) next in
    let P = IsConditionItem c.args.arena.now c.args.set in
    let older = subst (EachIn P) cut (each_dropped P items n c.requires.items) in
    let few = c.requires.few in
    let short : length (drop n items) ≤ 3 = omega (arith, length-drop n items) in
    let few_here : length (x ∷ drop c.loop-left.left items) ≤ 3 = subst (λ (l : List ConditionItem). length l ≤ 3) cut short in
    let rows : (is : List ConditionItem) × EachIn P (x ∷ is) × (length (x ∷ is) ≤ 3) × AreBestRows c.args.prices.now c.args.arena.now is c.loop-left.rows =
    (drop c.loop-left.left items, older, few_here, c.loop-left.invariant.best) in
    (search rules, (c.requires.items n x at, (rows, c.loop-left.invariant.memo)))

pub rows_of-loop-left-preserved : goal.rows_of-loop-left-preserved
rows_of-loop-left-preserved t c =
    let arena = c.args.arena.now in
    let items = c.args.items.now in
    let n = c.loop-left.left - 1 in
    let within = c.loop-left.invariant.within in
    let x = c.index-items-left.result in
    let at = here items n x (omega (arith, c.loop-left-test.true)) c.index-items-left.is in
    let next : suc n ≡ c.loop-left.left = omega (arith, c.loop-left-test.true) in
    let cut : drop n items ≡ x ∷ drop c.loop-left.left items = drop_here items n x at ∙ ap (λ m. x ∷ drop m items) next in
    record {
      within = omega arith;
      memo = c.in_ok-rows.ensures.memo;
      best = subst (λ xs. AreBestRows c.args.prices.now arena xs c.in_ok-rows.rows) (sym cut) (c.in_ok-rows.ensures.best (drop c.loop-left.left items) c.loop-left.invariant.best);
    }

pub rows_of-returns-clause-best : goal.rows_of-returns-clause-best
rows_of-returns-clause-best t c =
    let none : c.loop-left.left ≡ 0 = omega (arith, c.loop-left-test.false) in
    subst (λ n. AreBestRows c.args.prices.now c.args.arena.now (drop n c.args.items.now) c.loop-left.rows) none c.loop-left.invariant.best

pub scan_parts-part_in-requires : goal.scan_parts-part_in-requires
scan_parts-part_in-requires t c =
    let items = c.atoms-items.result.now in
    let i = c.loop-item.item-index in
    let x = c.item-item.result in
    let m = c.loop-item.invariant.memo in
    let old = c.loop-item.memo in
    let memo : IsMemoOf c.args.prices.now c.args.arena.now (record { places = old.places; sources = old.sources; parts = old.parts; atoms = old.atoms; bounds = c.of_item-bound.new.self }) =
    record { places = m.places; sources = m.sources; parts = m.parts; atoms = m.atoms; bounds = c.of_item-bound.ensures.bounds } in
    (search rules, ((c.keeps_made.ensures c.args.s (Atoms items) c.atoms-items.ensures).each i x (here items i x c.loop-item-test.true c.item-item.is), memo))

pub scan_parts-of_item-bound-requires : goal.scan_parts-of_item-bound-requires
scan_parts-of_item-bound-requires t c =
    let items = c.atoms-items.result.now in
    let i = c.loop-item.item-index in
    let x = c.item-item.result in
    record { item = (c.args.s, (c.keeps_made.ensures c.args.s (Atoms items) c.atoms-items.ensures).each i x (here items i x c.loop-item-test.true c.item-item.is)); bounds = c.loop-item.invariant.memo.bounds }

pub scan_parts-loop-item-preserved : goal.scan_parts-loop-item-preserved
scan_parts-loop-item-preserved t c =
    let items = c.atoms-items.result.now in
    let i = c.loop-item.item-index in
    let x = c.item-item.result in
    let at = here items i x c.loop-item-test.true c.item-item.is in
    let prices = c.args.prices.now in
    let arena = c.args.arena.now in
    let inv = c.loop-item.invariant in
    elim c.if-not-is_below.branch [
      | scan_parts-then-not-is_below+in_ok-next w ↦ record {
        memo = subst (IsMemoOf prices arena) (sym w.memo-is) w.in_ok-next.ensures.memo;
        best = subst (IsBestOf atom_tree (atom_rank prices) (λ a. SomeBelow (i + 1) items (λ y. PartFits arena y a))) (sym w.best-is)
            (scan_step (λ y a. PartFits arena y a) items atom_tree (atom_rank prices) (atom_rank-total prices) (atom_rank-exact prices) i x at c.loop-item.best w.in_ok-next.next w.lesser_atom-best.result
            w.lesser_atom-best.ensures inv.best w.in_ok-next.ensures.best);
        cost = subst (λ b. IfSome c.if-not-is_below.cost (λ n. (a : Atom) × (b ≡ Some a) × (n ≡ atom_cost prices (atom_tree a)))) (sym w.best-is)
            (subst (λ o. IfSome o (λ n. (a : Atom) × (w.lesser_atom-best.result ≡ Some a) × (n ≡ atom_cost prices (atom_tree a)))) (sym w.cost-is) w.cost_of-cost.ensures);
      }
      | scan_parts-else-not-is_below w ↦ (
          let m = inv.memo in
          let memo : IsMemoOf prices arena _ = record { places = m.places; sources = m.sources; parts = m.parts; atoms = m.atoms; bounds = c.of_item-bound.ensures.bounds } in
          let below = c.is_below.ensures w.if-not-is_below.false in
          let known = subst (λ o. IfSome o (λ n. (a : Atom) × (c.loop-item.best ≡ Some a) × (n ≡ atom_cost prices (atom_tree a)))) below.1 inv.cost in
          record {
            memo = subst (IsMemoOf prices arena) (sym w.memo-is) memo;
            best = subst (IsBestOf atom_tree (atom_rank prices) (λ a. SomeBelow (i + 1) items (λ y. PartFits arena y a))) (sym w.best-is)
                (scan_below prices (PartFits arena) items i x at c.loop-item.best known.0 known.1 c.of_item-bound.result (omega (arith, known.2, below.2)) (λ a h. c.of_item-bound.ensures.least a h.1) inv.best);
            cost = subst (λ b. IfSome c.if-not-is_below.cost (λ n. (a : Atom) × (b ≡ Some a) × (n ≡ atom_cost prices (atom_tree a)))) (sym w.best-is)
                (subst (λ o. IfSome o (λ n. (a : Atom) × (c.loop-item.best ≡ Some a) × (n ≡ atom_cost prices (atom_tree a)))) (sym w.cost-is) inv.cost);
          }
          )
    ]

pub scan_parts-returns-clause-best : goal.scan_parts-returns-clause-best
scan_parts-returns-clause-best t c =
    let arena = c.args.arena.now in
    let items = c.atoms-items.result.now in
    scan_done (λ x a. PartFits arena x a) items atom_tree (atom_rank c.args.prices.now) (PartStands arena c.args.s)
    (atom_items arena c.args.s items c.atoms-items.ensures IsPart) (items_atom arena c.args.s items c.atoms-items.ensures IsPart)
    c.loop-item.item-index c.loop-item-test.false c.loop-item.best c.loop-item.invariant.best

pub scan_sources-source_in-requires : goal.scan_sources-source_in-requires
scan_sources-source_in-requires t c =
    let items = c.sources-items.result.now in
    let i = c.loop-item.item-index in
    let x = c.item-item.result in
    (search rules, ((c.keeps_made.ensures c.args.s (Sources items) c.sources-items.ensures).each i x (here items i x c.loop-item-test.true c.item-item.is), c.loop-item.invariant.memo))

pub scan_sources-loop-item-preserved : goal.scan_sources-loop-item-preserved
scan_sources-loop-item-preserved t c =
    let items = c.sources-items.result.now in
    let i = c.loop-item.item-index in
    let x = c.item-item.result in
    record {
      memo = c.in_ok-next.ensures.memo;
      best = scan_step (λ y s. SourceFits s c.args.arena.now y) items source_tree (source_rank c.args.prices.now) (source_rank-total c.args.prices.now) (source_rank-exact c.args.prices.now) i x (here items i x c.loop-item-test.true c.item-item.is)
          c.loop-item.best (Some c.in_ok-next.next) c.lesser_source-best.result c.lesser_source-best.ensures c.loop-item.invariant.best c.in_ok-next.ensures.best;
    }

pub scan_sources-unreachable-requires : goal.scan_sources-unreachable-requires
scan_sources-unreachable-requires t c =
    let arena = c.args.arena.now in
    let items = c.sources-items.result.now in
    let done = scan_done (λ y s. SourceFits s arena y) items source_tree (source_rank c.args.prices.now) (SourceStands arena c.args.s)
    (source_items arena c.args.s items c.sources-items.ensures) (items_source arena c.args.s items c.sources-items.ensures)
    c.loop-item.item-index c.loop-item-test.false c.loop-item.best c.loop-item.invariant.best in
    let none = subst (IsBestOf source_tree (source_rank c.args.prices.now) (SourceStands arena c.args.s)) c.in_default.is done in
    let x = source_filled arena c.keeps_made.ensures c.args.s (items, c.sources-items.ensures) in
    none x.0 x.1

pub scan_sources-returns-clause-best : goal.scan_sources-returns-clause-best
scan_sources-returns-clause-best t c =
    let arena = c.args.arena.now in
    let items = c.sources-items.result.now in
    let done = scan_done (λ y s. SourceFits s arena y) items source_tree (source_rank c.args.prices.now) (SourceStands arena c.args.s)
    (source_items arena c.args.s items c.sources-items.ensures) (items_source arena c.args.s items c.sources-items.ensures)
    c.loop-item.item-index c.loop-item-test.false c.loop-item.best c.loop-item.invariant.best in
    subst (IsBestOf source_tree (source_rank c.args.prices.now) (SourceStands arena c.args.s)) c.in-Some.is done

pub scan_sources-lesser_source-best-requires : goal.scan_sources-lesser_source-best-requires
scan_sources-lesser_source-best-requires t c =
    let arena = c.args.arena.now in
    let items = c.sources-items.result.now in
    let i = c.loop-item.item-index in
    let x = c.item-item.result in
    let each = (c.keeps_made.ensures c.args.s (Sources items) c.sources-items.ensures).each in
    record {
      best = sources_cheap c.args.prices.now c.keep_small.ensures arena c.keeps_made.ensures c.args.s items each i c.loop-item.best c.loop-item.invariant.best;
      next = source_cheap c.args.prices.now c.keep_small.ensures arena c.keeps_made.ensures c.args.s x (each i x (here items i x c.loop-item-test.true c.item-item.is)) c.in_ok-next.next c.in_ok-next.ensures.best;
    }

pub scan_parts-lesser_atom-best-requires : goal.scan_parts-lesser_atom-best-requires
scan_parts-lesser_atom-best-requires t c =
    let arena = c.args.arena.now in
    let items = c.atoms-items.result.now in
    let i = c.loop-item.item-index in
    let x = c.item-item.result in
    let each = (c.keeps_made.ensures c.args.s (Atoms items) c.atoms-items.ensures).each in
    record {
      best = atoms_cheap c.args.prices.now c.keep_small.ensures arena c.keeps_made.ensures c.args.s (PartFits arena) (part_fits arena) items each i c.loop-item.best c.loop-item.invariant.best;
      next = atom_cheap c.args.prices.now c.keep_small.ensures arena c.keeps_made.ensures c.args.s (PartFits arena) (part_fits arena) x (each i x (here items i x c.loop-item-test.true c.item-item.is)) c.in_ok-next.next c.in_ok-next.ensures.best;
    }

pub source_of-returns-clause-memo : goal.source_of-returns-clause-memo
source_of-returns-clause-memo t c =
    let prices = c.args.prices.now in
    let arena = c.args.arena.now in
    c.in_ok-keep_source.ensures.kept prices arena c.in_ok-best.ensures.memo (subst (IsBest (source_rank prices) (SourceStands arena c.args.s)) (sym c.in_ok-copy.ensures) c.in_ok-best.ensures.best)
