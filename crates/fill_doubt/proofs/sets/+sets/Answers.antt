use Rattle.std.proofs.Common.{◌+◌, ◌≡◌, ◌↔◌, ℕ, suc, List, Option, refl, sym, subst, arith, rules}
use Rattle.fill_arena.proofs.Scan.{here}
use Rattle.fill_arena.specs.Contents.{EachIn, SomeIn}
use Rattle.fill_arena.specs.declared.entry.ConditionItem.{ConditionItem}
use Rattle.fill_arena.specs.declared.entry.SourceItem.TheVariants as source
use Rattle.fill_arena.specs.declared.entry.Entry.TheVariants.{Sources, Atoms}
use Rattle.fill_eval.specs.Piece.{IsWithin, piece_text}
use Rattle.fill_eval.specs.declared.piece.Piece.{Piece}
use Rattle.fill_doubt.specs.Answers.{PiecesHave, TextsHave}
use Rattle.fill_doubt.specs.Gives.{ArePiecesOf, AreWholes}
use Rattle.fill_doubt.specs.Numbered.{AreNumbered, NumberedHave}
use Rattle.fill_doubt.specs.Memo.{PartAnswers, PartItemAnswers, RowAnswers, SourceAnswers, SourceItemAnswers}
use Rattle.fill_doubt.specs.Rows.{AreFound, RowText, RowsHave}
use Rattle.fill_doubt.specs.declared.conditions.Cells.{Cells}
use Rattle.fill_doubt.proofs.Flags.{if_ok, on_ok}
use Rattle.fill_doubt.proofs.Gains.{below_start, below_more, below_end, gains_all, gains_alike, gains_none, have_same, some_into}
use Rattle.fill_doubt.proofs.Items.{AreJoinedTo, choices_item, joined_end, joined_more, joined_start, lookups_by, no_parts, parts_listed, sources_listed, subs_by, wholes_by}
use Rattle.fill_doubt.proofs.Numbers.{numbered_same}
use Rattle.fill_doubt.proofs.sets.+sets.Goals as goal

pub scan_sources-loop-item-init : goal.scan_sources-loop-item-init
scan_sources-loop-item-init n c = record {
  memo = c.requires.memo;
  gains = below_start (λ i. SourceItemAnswers c.args.on.now i) c.sources-items.result.now (TextsHave c.new-found.result);
}

pub scan_sources-put_source-requires : goal.scan_sources-put_source-requires
scan_sources-put_source-requires n c =
    let items = c.sources-items.result.now in
    let i = c.loop-item.item-index in
    let x = c.item-item.result in
    (search rules, ((c.keeps_made.ensures c.args.s (Sources items) c.sources-items.ensures).each i x (here items i x c.loop-item-test.true c.item-item.is), (c.requires.row, c.loop-item.invariant.memo)))

pub scan_sources-loop-item-preserved : goal.scan_sources-loop-item-preserved
scan_sources-loop-item-preserved n c =
    let items = c.sources-items.result.now in
    let i = c.loop-item.item-index in
    let x = c.item-item.result in
    record {
      memo = c.in_ok-put_source.ensures.memo;
      gains = below_more (λ y. SourceItemAnswers c.args.on.now y) items (TextsHave c.new-found.result) (TextsHave c.loop-item.found) (TextsHave c.put_source.new.found) i x
          (here items i x c.loop-item-test.true c.item-item.is) c.loop-item.invariant.gains c.in_ok-put_source.ensures.gains;
    }

pub scan_sources-returns-clause-exact : goal.scan_sources-returns-clause-exact
scan_sources-returns-clause-exact n c =
    let on = c.args.on.now in
    let items = c.sources-items.result.now in
    let old = TextsHave c.new-found.result in
    let new = TextsHave c.loop-item.found in
    let all = below_end (λ y. SourceItemAnswers on y) items old new c.loop-item.item-index c.loop-item-test.false c.loop-item.invariant.gains in
    gains_all old new (SourceAnswers on c.args.s) c.new-found.ensures
    (gains_alike old new (λ o. SomeIn (λ y. SourceItemAnswers on y o) items) (SourceAnswers on c.args.s) (sources_listed on c.requires.row c.args.s items c.sources-items.ensures) all)

pub scan_parts-loop-item-init : goal.scan_parts-loop-item-init
scan_parts-loop-item-init n c = record {
  memo = c.requires.memo;
  within = c.new-found.ensures.within;
  gains = below_start (λ i. PartItemAnswers c.args.on.now i) c.atoms-items.result.now (PiecesHave c.new-found.result);
}

pub scan_parts-put_part-requires : goal.scan_parts-put_part-requires
scan_parts-put_part-requires n c =
    let items = c.atoms-items.result.now in
    let i = c.loop-item.item-index in
    let x = c.item-item.result in
    (search rules, ((c.keeps_made.ensures c.args.s (Atoms items) c.atoms-items.ensures).each i x (here items i x c.loop-item-test.true c.item-item.is), (c.requires.row, (c.loop-item.invariant.memo, c.loop-item.invariant.within))))

pub scan_parts-loop-item-preserved : goal.scan_parts-loop-item-preserved
scan_parts-loop-item-preserved n c =
    let items = c.atoms-items.result.now in
    let i = c.loop-item.item-index in
    let x = c.item-item.result in
    record {
      memo = c.in_ok-put_part.ensures.memo;
      within = c.in_ok-put_part.ensures.within;
      gains = below_more (λ y. PartItemAnswers c.args.on.now y) items (PiecesHave c.new-found.result) (PiecesHave c.loop-item.found) (PiecesHave c.put_part.new.found) i x
          (here items i x c.loop-item-test.true c.item-item.is) c.loop-item.invariant.gains (c.in_ok-put_part.ensures.all refl);
    }

pub scan_parts-returns-clause-exact : goal.scan_parts-returns-clause-exact
scan_parts-returns-clause-exact n c =
    let on = c.args.on.now in
    let items = c.atoms-items.result.now in
    let old = PiecesHave c.new-found.result in
    let new = PiecesHave c.loop-item.found in
    let all = below_end (λ y. PartItemAnswers on y) items old new c.loop-item.item-index c.loop-item-test.false c.loop-item.invariant.gains in
    gains_all old new (PartAnswers on c.args.s) c.new-found.ensures.none
    (gains_alike old new (λ o. SomeIn (λ y. PartItemAnswers on y o) items) (PartAnswers on c.args.s) (parts_listed on c.requires.row c.args.s items c.atoms-items.ensures) all)

pub conditions_of-loop-i-init : goal.conditions_of-loop-i-init
conditions_of-loop-i-init n c = record { memo = c.requires.memo; joined = joined_start c.args.on.now c.requires.row c.args.items.now c.new-made.result.items c.new-made.ensures.items }

pub conditions_of-condition_of-requires : goal.conditions_of-condition_of-requires
conditions_of-condition_of-requires n c =
    let items = c.args.items.now in
    let i = c.loop-i.i in
    let x = c.index-items-i.result in
    (search rules, (c.requires.items i x (here items i x c.loop-i-test.true c.index-items-i.is), (c.requires.row, c.loop-i.invariant.memo)))

pub conditions_of-loop-i-preserved : goal.conditions_of-loop-i-preserved
conditions_of-loop-i-preserved n c =
    let on = c.args.on.now in
    let items = c.args.items.now in
    let i = c.loop-i.i in
    let x = c.index-items-i.result in
    let next : suc i ≡ i + 1 = omega arith in
    record {
      memo = c.in_ok-cells.ensures.memo;
      joined = subst (λ m. AreJoinedTo on items m c.push.new.self.items) next
          (joined_more on c.requires.row items i x (here items i x c.loop-i-test.true c.index-items-i.is) c.loop-i.made.items c.push.new.self.items c.in_ok-cells.cells c.in_ok-push.ensures.items c.in_ok-cells.ensures.exact c.loop-i.invariant.joined);
    }

pub conditions_of-returns-clause-exact : goal.conditions_of-returns-clause-exact
conditions_of-returns-clause-exact n c = joined_end c.args.on.now c.requires.row c.args.items.now c.loop-i.i c.loop-i.made.items c.loop-i-test.false c.loop-i.invariant.joined

pub condition_of-returns-clause-exact : goal.condition_of-returns-clause-exact
condition_of-returns-clause-exact n c =
    let on = c.args.on.now in
    let i = c.args.item.now in
    let parts = c.in_ok-parts.parts in
    if_ok c.cells_of.result c.cells_of.ensures (λ made h x.
    let by = choices_item on c.requires.row i parts c.in_ok-parts.ensures.exact x in
    ((λ g. by.0 ((h x).0 g)), (λ g. (h x).1 (by.1 g))))

pub put_lookups-returns-clause-gains : goal.put_lookups-returns-clause-gains
put_lookups-returns-clause-gains n c =
    let on = c.args.on.now in
    let i = c.args.item.now in
    let R = RowsHave c.as_slice-2.result.now in
    let made = c.in_ok-conditions.conditions.items in
    let own = subst (λ (xs : List ConditionItem). (o : Option RowText) → RowsHave made o ↔ RowAnswers on xs o) c.as_slice.ensures c.in_ok-conditions.ensures.exact in
    let rows = subst (λ (cs : List Cells). (o : Option RowText) → RowsHave cs o ↔ RowAnswers on i.conditions o) (sym c.as_slice-2.ensures.value) own in
    on_ok c.look_up.result c.look_up.ensures
    (gains_alike _ _ (AreFound on.tables.now i.column i.table i.key R) (SourceItemAnswers on (source.Select i)) (lookups_by on c.requires.row i R rows))

pub put_part-returns-in-Const-clause-all : goal.put_part-returns-in-Const-clause-all
put_part-returns-in-Const-clause-all n c = λ few.
    gains_none _ _ (λ o h. no_parts c.args.on.now c.requires.row c.args.item.now o _ c.in-Const.is h)

pub put_part-returns-in_ok-put_wholes-in-Whole-clause-some : goal.put_part-returns-in_ok-put_wholes-in-Whole-clause-some
put_part-returns-in_ok-put_wholes-in-Whole-clause-some n c =
    let on = c.args.on.now in
    let T = NumberedHave c.in_ok-texts-in-Whole.texts in
    let item : (o : Option (List ℕ)) → AreWholes T o ↔ PartItemAnswers on c.args.item.now o =
    rw c.in-Whole.is (wholes_by on c.requires.row c.in-Whole.sources T c.in_ok-texts-in-Whole.ensures.exact) in
    λ o h. some_into _ _ (AreWholes T) (PartItemAnswers on c.args.item.now) (λ q w. (item q).0 w) (λ q w. (c.in_ok-put_wholes-in-Whole.ensures.gains q).0 w) o h

pub put_part-returns-in_ok-put_wholes-in-Whole-clause-all : goal.put_part-returns-in_ok-put_wholes-in-Whole-clause-all
put_part-returns-in_ok-put_wholes-in-Whole-clause-all n c =
    let on = c.args.on.now in
    let T = NumberedHave c.in_ok-texts-in-Whole.texts in
    let item : (o : Option (List ℕ)) → AreWholes T o ↔ PartItemAnswers on c.args.item.now o =
    rw c.in-Whole.is (wholes_by on c.requires.row c.in-Whole.sources T c.in_ok-texts-in-Whole.ensures.exact) in
    λ few. gains_alike _ _ (AreWholes T) (PartItemAnswers on c.args.item.now) item c.in_ok-put_wholes-in-Whole.ensures.gains

pub put_part-returns-in_ok-put_subs-in-Sub-clause-some : goal.put_part-returns-in_ok-put_subs-in-Sub-clause-some
put_part-returns-in_ok-put_subs-in-Sub-clause-some n c =
    let on = c.args.on.now in
    let T = NumberedHave c.in_ok-texts-in-Sub.texts in
    let l = c.in-Sub.lefts in
    let r = c.in-Sub.rights in
    let older = rw c.in-Sub.is at c.requires.item in
    let item : (o : Option (List ℕ)) → ArePiecesOf on.arena.now l r T o ↔ PartItemAnswers on c.args.item.now o =
    rw c.in-Sub.is (subs_by on c.requires.row c.in-Sub.sources l r T older.1.0 older.2.0 c.in_ok-texts-in-Sub.ensures.exact) in
    some_into _ _ (ArePiecesOf on.arena.now l r T) (PartItemAnswers on c.args.item.now) (λ o h. (item o).0 h) c.in_ok-put_subs-in-Sub.ensures.some

pub put_part-returns-in_ok-put_subs-in-Sub-clause-all : goal.put_part-returns-in_ok-put_subs-in-Sub-clause-all
put_part-returns-in_ok-put_subs-in-Sub-clause-all n c =
    let on = c.args.on.now in
    let T = NumberedHave c.in_ok-texts-in-Sub.texts in
    let l = c.in-Sub.lefts in
    let r = c.in-Sub.rights in
    let older = rw c.in-Sub.is at c.requires.item in
    let item : (o : Option (List ℕ)) → ArePiecesOf on.arena.now l r T o ↔ PartItemAnswers on c.args.item.now o =
    rw c.in-Sub.is (subs_by on c.requires.row c.in-Sub.sources l r T older.1.0 older.2.0 c.in_ok-texts-in-Sub.ensures.exact) in
    λ few. gains_alike _ _ (ArePiecesOf on.arena.now l r T) (PartItemAnswers on c.args.item.now) item (c.in_ok-put_subs-in-Sub.ensures.all few)

pub sources_of-returns-in-Some-clause-exact : goal.sources_of-returns-in-Some-clause-exact
sources_of-returns-in-Some-clause-exact n c = c.in-Some.ensures.answers c.args.on.now c.requires.memo

pub sources_of-returns-in-Some-clause-numbered : goal.sources_of-returns-in-Some-clause-numbered
sources_of-returns-in-Some-clause-numbered n c = subst (λ v. AreNumbered v.items c.in-Some.found) (sym c.in-Some.ensures.texts) (c.in-Some.ensures.numbered c.args.on.now c.requires.memo)

pub sources_of-returns-clause-exact : goal.sources_of-returns-clause-exact
sources_of-returns-clause-exact n c = λ o.
    let same = c.in_ok-numbered.ensures.same o in
    let exact = c.in_ok-found.ensures.exact o in
    ((λ h. exact.0 (same.0 h)), (λ h. same.1 (exact.1 h)))

pub sources_of-returns-clause-numbered : goal.sources_of-returns-clause-numbered
sources_of-returns-clause-numbered n c = subst (λ v. AreNumbered v.items c.in_ok-numbered.numbered) (sym c.keep_source.ensures.texts) c.in_ok-numbered.ensures.numbered

pub sources_of-returns-clause-memo : goal.sources_of-returns-clause-memo
sources_of-returns-clause-memo n c =
    let on = c.args.on.now in
    let made = c.in_ok-numbered.numbered in
    let copied = c.in_ok-copy.field-0 in
    let same = c.in_ok-copy.ensures in
    c.in_ok-keep_source.ensures.memo on (c.in_ok-numbered.ensures.memo on c.in_ok-found.ensures.memo) (numbered_same c.number_all.new.memo.texts.items made copied same.0 c.in_ok-numbered.ensures.numbered)
    (have_same (λ x. x.text.now) copied.texts.items made.texts.items copied.none made.none same.0 same.1 (SourceAnswers on c.args.s)
    (λ o. ((λ h. (c.in_ok-found.ensures.exact o).0 ((c.in_ok-numbered.ensures.same o).0 h)), (λ h. (c.in_ok-numbered.ensures.same o).1 ((c.in_ok-found.ensures.exact o).1 h)))))

pub parts_of-returns-in-Some-clause-exact : goal.parts_of-returns-in-Some-clause-exact
parts_of-returns-in-Some-clause-exact n c =
    let on = c.args.on.now in
    let found = c.in-Some.found.now in
    let exact = c.in-Some.ensures.answers on c.requires.memo in
    if_ok c.copy.result c.copy.ensures (λ f same. have_same piece_text f.pieces.items found.pieces.items f.none found.none same.0 same.1 (PartAnswers on c.args.s) exact)

pub parts_of-returns-in-Some-clause-within : goal.parts_of-returns-in-Some-clause-within
parts_of-returns-in-Some-clause-within n c =
    let on = c.args.on.now in
    if_ok c.copy.result c.copy.ensures (λ f same. subst (λ (xs : List Piece). EachIn IsWithin xs) (sym same.0) (c.in-Some.ensures.within on c.requires.memo))

pub parts_of-returns-clause-memo : goal.parts_of-returns-clause-memo
parts_of-returns-clause-memo n c =
    let on = c.args.on.now in
    let found = c.in_ok-found.found in
    let copied = c.in_ok-copy.field-0 in
    let same = c.in_ok-copy.ensures in
    c.in_ok-keep_part.ensures on c.in_ok-found.ensures.memo (subst (λ (xs : List Piece). EachIn IsWithin xs) (sym same.0) c.in_ok-found.ensures.within)
    (have_same piece_text copied.pieces.items found.pieces.items copied.none found.none same.0 same.1 (PartAnswers on c.args.s) c.in_ok-found.ensures.exact)
