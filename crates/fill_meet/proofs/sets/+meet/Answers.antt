use Rattle.std.proofs.Common.{◌<◌, length, Some, refl, rules, sym, ap, ◌∙◌, subst, arith}
use Rattle.std.proofs.lemmas.Bool.{false≢true}
use Rattle.fill_arena.specs.Contents.{SomeIn, EachIn}
use Rattle.fill_arena.specs.declared.entry.Entry.TheVariants.{Sources, Atoms}
use Rattle.fill_arena.specs.declared.entry.SourceItem.TheVariants.{Col}
use Rattle.fill_arena.specs.declared.entry.SelectItem.{SelectItem}
use Rattle.fill_arena.proofs.Lists.{extends_same, extends_on}
use Rattle.fill_meet.specs.Memory.{IsRight}
use Rattle.fill_meet.specs.Sets.{SourceIn, NamesOlder, AtomSetsMeet, SourceSetsMeet, RowsMeet, IsFilled, NamesAtoms}
use Rattle.fill_meet.proofs.Lists.{here, length_pushed, extends_length}
use Rattle.fill_meet.proofs.Grows.{places_within, sources_within, source_item_stays, conditions_stay, names_older, met_stay}
use Rattle.fill_meet.proofs.States.{state_start, state_step, state_row}
use Rattle.fill_meet.proofs.ItemPairs.{has_item, item_stays, paired_apart, paired_met, paired_row, paired_start, paired_step}
use Rattle.fill_meet.proofs.Listed.{sources_met, sources_apart, are_sources}
use Rattle.fill_meet.proofs.Memories.{right_stays, is_none}
use Rattle.fill_meet.proofs.AtomPairs as atoms
use Rattle.fill_meet.proofs.Parts.{parts_apart, parts_constants, parts_met, met_set, condition_met}
use Rattle.fill_meet.proofs.Conditions.{rows_push}
use Rattle.fill_meet.proofs.Selects as selects
use Rattle.fill_meet.proofs.Selves.{number_same, atoms_self, sources_self, entry_right}
use Rattle.fill_meet.proofs.sets.+meet.Goals as goal

pub make_atoms-loop-i-init : goal.make_atoms-loop-i-init
make_atoms-loop-i-init n c =
    record {
      extends = extends_same c.args.arena.now;
      memo = c.if-are_atoms_within.ensures.memo;
      paired = paired_start c.args.arena.now c.keeps_made.ensures c.args.s c.args.t c.requires.first.0 c.requires.second.0 _ c.requires.first.1 c.requires.second.1 c.in_ok-zs.ensures;
    }

pub make_atoms-meet_atom_row-requires : goal.make_atoms-meet_atom_row-requires
make_atoms-meet_atom_row-requires n c =
    let inv = c.loop-i.invariant in
    let xs = c.atoms-i-end.result.now in
    let memo : IsRight c.loop-i.arena c.loop-i.memo = inv.memo in
    (search rules, (memo, (has_item c.loop-i.arena c.args.s c.loop-i.i xs (inv.extends c.args.s (Atoms xs) c.atoms-i-end.ensures) c.loop-i-test.true, inv.paired)))

pub make_atoms-returns-then-are_atoms_within-clause-met : goal.make_atoms-returns-then-are_atoms_within-clause-met
make_atoms-returns-then-are_atoms_within-clause-met n c = c.if-are_atoms_within.ensures.within refl

pub make_atoms-returns-then-len-eq0-clause-met : goal.make_atoms-returns-then-len-eq0-clause-met
make_atoms-returns-then-len-eq0-clause-met n c =
    let inv = c.loop-i.invariant in
    let xs = c.atoms-i-end.result.now in
    paired_apart c.loop-i.arena c.args.s c.args.t c.loop-i.i xs _ (inv.extends c.args.s (Atoms xs) c.atoms-i-end.ensures) c.loop-i-test.false inv.paired (sym c.len.ensures ∙ c.if-len-eq0.true)

pub make_atoms-returns-clause-memo : goal.make_atoms-returns-clause-memo
make_atoms-returns-clause-memo n c = right_stays _ _ c.in_ok-intern_atoms.ensures.extends _ c.loop-i.invariant.memo

pub make_atoms-returns-clause-met : goal.make_atoms-returns-clause-met
make_atoms-returns-clause-met n c =
    let inv = c.loop-i.invariant in
    let xs = c.atoms-i-end.result.now in
    paired_met c.loop-i.arena c.args.s c.args.t c.loop-i.i xs _ (inv.extends c.args.s (Atoms xs) c.atoms-i-end.ensures) c.loop-i-test.false inv.paired c.intern_atoms.new.self _
    c.in_ok-intern_atoms.ensures.extends c.in_ok-intern_atoms.ensures.ok (λ e. c.if-len-eq0.false (c.len.ensures ∙ e))

pub make_sources-loop-i-init : goal.make_sources-loop-i-init
make_sources-loop-i-init n c =
    let hs = c.sources.ensures ∙ ap (λ l. Some (Sources l)) (sym (c.as_slice-xs.ensures ∙ c.in_ok-first.ensures)) in
    let ht = c.sources-2.ensures ∙ ap (λ l. Some (Sources l)) (sym (c.as_slice-ys.ensures ∙ c.in_ok-second.ensures)) in
    let fs = (c.keeps_made.ensures c.args.s (Sources c.as_slice-xs.result.now) hs).each in
    let ft = (c.keeps_made.ensures c.args.t (Sources c.as_slice-ys.result.now) ht).each in
    record {
      extends = extends_same c.args.arena.now;
      memo = c.requires.memo;
      pairs = state_start SourceIn NamesOlder source_item_stays c.args.arena.now c.args.s c.args.t _ _ _ c.new-zs.ensures (λ k x h. names_older c.args.arena.now c.args.s x (fs k x h))
          (λ k x h. names_older c.args.arena.now c.args.t x (ft k x h));
    }

pub make_sources-returns-then-len-eq0-clause-met : goal.make_sources-returns-then-len-eq0-clause-met
make_sources-returns-then-len-eq0-clause-met n c =
    let hs = c.sources.ensures ∙ ap (λ l. Some (Sources l)) (sym (c.as_slice-xs.ensures ∙ c.in_ok-first.ensures)) in
    let ht = c.sources-2.ensures ∙ ap (λ l. Some (Sources l)) (sym (c.as_slice-ys.ensures ∙ c.in_ok-second.ensures)) in
    sources_apart c.args.arena.now c.loop-i.arena c.loop-i.invariant.extends c.args.s c.args.s c.args.t c.loop-i.i _ _ _ hs ht c.loop-i-test.false c.loop-i.invariant.pairs (sym c.len.ensures ∙ c.if-len-eq0.true)

pub make_sources-intern_sources-requires : goal.make_sources-intern_sources-requires
make_sources-intern_sources-requires n c =
    let hs = c.sources.ensures ∙ ap (λ l. Some (Sources l)) (sym (c.as_slice-xs.ensures ∙ c.in_ok-first.ensures)) in
    let ht = c.sources-2.ensures ∙ ap (λ l. Some (Sources l)) (sym (c.as_slice-ys.ensures ∙ c.in_ok-second.ensures)) in
    are_sources c.args.arena.now c.loop-i.arena c.loop-i.invariant.extends c.args.s c.args.s c.args.t c.loop-i.i _ _ _ hs ht c.loop-i-test.false c.loop-i.invariant.pairs c.keeps_made-2.ensures
    (λ e. c.if-len-eq0.false (c.len.ensures ∙ e))

pub make_sources-returns-clause-memo : goal.make_sources-returns-clause-memo
make_sources-returns-clause-memo n c = right_stays _ _ c.in_ok-intern_sources.ensures.extends _ c.loop-i.invariant.memo

pub make_sources-returns-clause-met : goal.make_sources-returns-clause-met
make_sources-returns-clause-met n c =
    let hs = c.sources.ensures ∙ ap (λ l. Some (Sources l)) (sym (c.as_slice-xs.ensures ∙ c.in_ok-first.ensures)) in
    let ht = c.sources-2.ensures ∙ ap (λ l. Some (Sources l)) (sym (c.as_slice-ys.ensures ∙ c.in_ok-second.ensures)) in
    sources_met c.args.arena.now c.loop-i.arena c.loop-i.invariant.extends c.args.s c.args.s c.args.t c.loop-i.i _ _ _ hs ht c.loop-i-test.false c.loop-i.invariant.pairs c.intern_sources.new.self _
    c.in_ok-intern_sources.ensures.extends c.in_ok-intern_sources.ensures.ok (λ e. c.if-len-eq0.false (c.len.ensures ∙ e))

pub meet_atom_items-returns-in_default-2-clause-met : goal.meet_atom_items-returns-in_default-2-clause-met
meet_atom_items-returns-in_default-2-clause-met n c = (
  c.item_at.result.now,
  c.item_at-2.result.now,
  item_stays c.args.arena.now _ c.meet_sources-in-Sub-Sub.ensures.extends c.args.s c.args.i _ c.item_at.ensures.at,
  item_stays c.args.arena.now _ c.meet_sources-in-Sub-Sub.ensures.extends c.args.t c.args.j _ c.item_at-2.ensures.at,
  rw (c.in-Sub-Sub.is-0, c.in-Sub-Sub.is-1) (atoms.sub_apart_source _ _ _ _ _ _ _ (rw (is_none _ c.in_default-2.not-Some) at c.in_ok-sources-in-Sub-Sub.ensures.met)),
)

pub meet_atom_items-returns-in_default-3-clause-met : goal.meet_atom_items-returns-in_default-3-clause-met
meet_atom_items-returns-in_default-3-clause-met n c = (
  c.item_at.result.now,
  c.item_at-2.result.now,
  item_stays c.args.arena.now _ (extends_on _ _ _ c.meet_sources-in-Sub-Sub.ensures.extends c.meet_places.ensures.extends) c.args.s c.args.i _ c.item_at.ensures.at,
  item_stays c.args.arena.now _ (extends_on _ _ _ c.meet_sources-in-Sub-Sub.ensures.extends c.meet_places.ensures.extends) c.args.t c.args.j _ c.item_at-2.ensures.at,
  rw (c.in-Sub-Sub.is-0, c.in-Sub-Sub.is-1) (atoms.sub_apart_left _ _ _ _ _ _ _ (rw (is_none _ c.in_default-3.not-Some) at c.in_ok-lefts-in-Sub-Sub.ensures.met)),
)

pub meet_atom_items-returns-in_default-4-clause-met : goal.meet_atom_items-returns-in_default-4-clause-met
meet_atom_items-returns-in_default-4-clause-met n c = (
  c.item_at.result.now,
  c.item_at-2.result.now,
  item_stays c.args.arena.now _ (extends_on _ _ _ (extends_on _ _ _ c.meet_sources-in-Sub-Sub.ensures.extends c.meet_places.ensures.extends) c.meet_places-in-Sub-Sub.ensures.extends) c.args.s c.args.i _ c.item_at.ensures.at,
  item_stays c.args.arena.now _ (extends_on _ _ _ (extends_on _ _ _ c.meet_sources-in-Sub-Sub.ensures.extends c.meet_places.ensures.extends) c.meet_places-in-Sub-Sub.ensures.extends) c.args.t c.args.j _ c.item_at-2.ensures.at,
  rw (c.in-Sub-Sub.is-0, c.in-Sub-Sub.is-1) (atoms.sub_apart_right _ _ _ _ _ _ _ (rw (is_none _ c.in_default-4.not-Some) at c.in_ok-rights-in-Sub-Sub.ensures.met)),
)

pub meet_atom_items-returns-in_ok-copy-in-Const-Const-clause-met : goal.meet_atom_items-returns-in_ok-copy-in-Const-Const-clause-met
meet_atom_items-returns-in_ok-copy-in-Const-Const-clause-met n c =
    let same = c.if-same.ensures.0 refl in
    let first = rw c.in-Const-Const.is-0 at c.item_at.ensures.older in (
      c.item_at.result.now,
      c.item_at-2.result.now,
      item_stays c.args.arena.now _ (extends_same _) c.args.s c.args.i _ c.item_at.ensures.at,
      item_stays c.args.arena.now _ (extends_same _) c.args.t c.args.j _ c.item_at-2.ensures.at,
      rw (c.in_ok-copy-in-Const-Const.ensures, c.in-Const-Const.is-0, c.in-Const-Const.is-1) (first, atoms.const_met _ _ _ same),
    )

pub meet_atom_items-returns-else-same-clause-met : goal.meet_atom_items-returns-else-same-clause-met
meet_atom_items-returns-else-same-clause-met n c = (
  c.item_at.result.now,
  c.item_at-2.result.now,
  item_stays c.args.arena.now _ (extends_same _) c.args.s c.args.i _ c.item_at.ensures.at,
  item_stays c.args.arena.now _ (extends_same _) c.args.t c.args.j _ c.item_at-2.ensures.at,
  rw (c.in-Const-Const.is-0, c.in-Const-Const.is-1) (atoms.const_apart _ _ _ (λ e. false≢true (c.if-same.ensures.1 e))),
)

pub meet_atom_items-returns-in-Some-clause-met : goal.meet_atom_items-returns-in-Some-clause-met
meet_atom_items-returns-in-Some-clause-met n c =
    let met = rw c.in-Some.is at c.in_ok-sources-in-Whole-Whole.ensures.met in
    let set = (met.some _ (extends_same _)).1 in (
      c.item_at.result.now,
      c.item_at-2.result.now,
      item_stays c.args.arena.now _ c.meet_sources.ensures.extends c.args.s c.args.i _ c.item_at.ensures.at,
      item_stays c.args.arena.now _ c.meet_sources.ensures.extends c.args.t c.args.j _ c.item_at-2.ensures.at,
      (sources_within _ _ (set.0, set.1), rw (c.in-Whole-Whole.is-0, c.in-Whole-Whole.is-1) (atoms.whole_met _ _ _ _ met)),
    )

pub meet_atom_items-returns-in-None-clause-met : goal.meet_atom_items-returns-in-None-clause-met
meet_atom_items-returns-in-None-clause-met n c = (
  c.item_at.result.now,
  c.item_at-2.result.now,
  item_stays c.args.arena.now _ c.meet_sources.ensures.extends c.args.s c.args.i _ c.item_at.ensures.at,
  item_stays c.args.arena.now _ c.meet_sources.ensures.extends c.args.t c.args.j _ c.item_at-2.ensures.at,
  rw (c.in-Whole-Whole.is-0, c.in-Whole-Whole.is-1) (atoms.whole_apart _ _ _ (rw c.in-None.is at c.in_ok-sources-in-Whole-Whole.ensures.met)),
)

pub meet_atom_items-returns-in-Some-4-clause-met : goal.meet_atom_items-returns-in-Some-4-clause-met
meet_atom_items-returns-in-Some-4-clause-met n c =
    let second = c.meet_places.ensures.extends in
    let third = c.meet_places-in-Sub-Sub.ensures.extends in
    let sources = met_stay _ _ third _ _ _ _ (met_stay _ _ second _ _ _ _ (rw c.in-Some-2.is at c.in_ok-sources-in-Sub-Sub.ensures.met)) in
    let lefts = met_stay _ _ third _ _ _ _ (rw c.in-Some-3.is at c.in_ok-lefts-in-Sub-Sub.ensures.met) in
    let rights = rw c.in-Some-4.is at c.in_ok-rights-in-Sub-Sub.ensures.met in
    let l = (lefts.some _ (extends_same _)).1 in
    let r = (rights.some _ (extends_same _)).1 in
    let s = (sources.some _ (extends_same _)).1 in (
      c.item_at.result.now,
      c.item_at-2.result.now,
      item_stays c.args.arena.now _ (extends_on _ _ _ (extends_on _ _ _ c.meet_sources-in-Sub-Sub.ensures.extends second) third) c.args.s c.args.i _ c.item_at.ensures.at,
      item_stays c.args.arena.now _ (extends_on _ _ _ (extends_on _ _ _ c.meet_sources-in-Sub-Sub.ensures.extends second) third) c.args.t c.args.j _ c.item_at-2.ensures.at,
      (
        (sources_within _ _ (s.0, s.1), places_within _ _ (l.0, l.1), places_within _ _ (r.0, r.1)),
        rw (c.in-Sub-Sub.is-0, c.in-Sub-Sub.is-1) (atoms.sub_met _ _ _ _ _ _ _ _ _ _ sources lefts rights),
      ),
    )

pub meet_atom_items-returns-in_default-clause-met : goal.meet_atom_items-returns-in_default-clause-met
meet_atom_items-returns-in_default-clause-met n c = (
  c.item_at.result.now,
  c.item_at-2.result.now,
  item_stays c.args.arena.now _ (extends_same _) c.args.s c.args.i _ c.item_at.ensures.at,
  item_stays c.args.arena.now _ (extends_same _) c.args.t c.args.j _ c.item_at-2.ensures.at,
  elim c.in_default.branch [
    | goal.meet_atom_items-in_default-via-in-Const+in_default w ↦ atoms.not_const _ _ _ w.in_default.field-0-0 w.in_default.is-0 w.in_default.not-Const-1
    | goal.meet_atom_items-in_default-via-in-Whole+in_default w ↦ atoms.not_whole _ _ _ w.in_default.field-0-0 w.in_default.is-0 w.in_default.not-Whole-1
    | goal.meet_atom_items-in_default-via-in-Sub+in_default w ↦ atoms.not_sub _ _ _ w.in_default.field-0-0 w.in_default.field-1-0 w.in_default.field-2-0 w.in_default.is-0 w.in_default.not-Sub-1
  ],
)

pub meet_atom_row-meet_atom_items-requires : goal.meet_atom_row-meet_atom_items-requires
meet_atom_row-meet_atom_items-requires n c =
    let inv = c.loop-j.invariant in
    let ys = c.atoms-j-end.result.now in
    let memo : IsRight c.loop-j.arena c.loop-j.memo = inv.memo in
    let first = c.requires.within in
    let second = has_item c.loop-j.arena c.args.t c.loop-j.j ys (inv.extends c.args.t (Atoms ys) c.atoms-j-end.ensures) c.loop-j-test.true in
    (search rules, (memo, ((first.0, item_stays c.args.arena.now c.loop-j.arena inv.extends c.args.s c.args.i first.0 first.1), second)))

pub meet_atom_row-loop-j-preserved : goal.meet_atom_row-loop-j-preserved
meet_atom_row-loop-j-preserved n c =
    record {
      extends = extends_on _ _ _ c.loop-j.invariant.extends c.meet_atom_items.ensures.extends;
      memo = c.in_ok-made.ensures.memo;
      paired = paired_step _ _ c.meet_atom_items.ensures.extends _ _ _ _ _ _ _ c.in_ok-made.ensures.met c.in_ok-push_some.ensures c.loop-j.invariant.paired;
    }

pub meet_atom_row-returns-clause-paired : goal.meet_atom_row-returns-clause-paired
meet_atom_row-returns-clause-paired n c =
    let ys = c.atoms-j-end.result.now in
    paired_row _ c.args.s c.args.t c.args.i c.loop-j.j ys _ (c.loop-j.invariant.extends c.args.t (Atoms ys) c.atoms-j-end.ensures) c.loop-j-test.false c.loop-j.invariant.paired

pub meet_atoms-returns-in-Some-clause-met : goal.meet_atoms-returns-in-Some-clause-met
meet_atoms-returns-in-Some-clause-met n c = entry_right (AtomSetsMeet c.args.arena.now) _ c.args.s c.args.t _ c.requires.memo.atoms c.in-Some.ensures

pub meet_atoms-returns-clause-memo : goal.meet_atoms-returns-clause-memo
meet_atoms-returns-clause-memo n c = c.keep_atoms.ensures c.make_atoms.new.arena c.in_ok-made.ensures.memo c.in_ok-made.ensures.met

pub meet_condition-returns-clause-met : goal.meet_condition-returns-clause-met
meet_condition-returns-clause-met n c = condition_met _ _ _ _ c.in_ok-constant.ensures c.in_ok-atoms.ensures.met

pub meet_conditions-meet_condition-requires : goal.meet_conditions-meet_condition-requires
meet_conditions-meet_condition-requires n c =
    let memo : IsRight c.loop-i.arena c.loop-i.memo = c.loop-i.invariant.memo in
    let first = c.loop-i.invariant.first c.loop-i.i c.index-xs-i.result (here _ _ _ c.loop-i-test.true c.index-xs-i.is) in
    let second = c.loop-i.invariant.second c.loop-i.i c.index-ys-i.result (here _ _ _ (subst (λ m. c.loop-i.i < m) c.requires.long c.loop-i-test.true) c.index-ys-i.is) in
    (search rules, (memo, (first, (length c.loop-i.arena, second))))

pub meet_conditions-loop-i-preserved : goal.meet_conditions-loop-i-preserved
meet_conditions-loop-i-preserved n c =
    let o = c.meet_condition.ensures.extends in
    let hx = here _ _ _ c.loop-i-test.true c.index-xs-i.is in
    let hy = here _ _ _ (subst (λ m. c.loop-i.i < m) c.requires.long c.loop-i-test.true) c.index-ys-i.is in
    record {
      extends = extends_on _ _ _ c.loop-i.invariant.extends o;
      memo = c.in_ok-meet_condition.ensures.memo;
      first = conditions_stay _ _ o c.args.of c.args.of (omega arith) _ c.loop-i.invariant.first;
      second = conditions_stay _ _ o _ _ (extends_length _ _ o) _ c.loop-i.invariant.second;
      long = length_pushed _ _ _ _ c.in_ok-push.ensures.ok c.loop-i.invariant.long;
      rows = rows_push _ _ _ _ _ _ _ _ _ _ o c.loop-i.invariant.long hx hy c.in_ok-meet_condition.ensures.met c.in_ok-push.ensures.ok c.loop-i.invariant.rows;
    }

pub meet_parts-returns-in_default-2-clause-met : goal.meet_parts-returns-in_default-2-clause-met
meet_parts-returns-in_default-2-clause-met n c =
    rw (c.in-Some.is, c.in-Some-y.is) (parts_apart _ _ _ (rw (is_none _ c.in_default-2.not-Some) at c.in_ok-made.ensures.met))

pub meet_parts-has_part-requires : goal.meet_parts-has_part-requires
meet_parts-has_part-requires n c = met_set _ _ _ _ (rw c.in-Some-2.is at c.in_ok-made.ensures.met)

pub meet_parts-returns-then-has_part-clause-met : goal.meet_parts-returns-then-has_part-clause-met
meet_parts-returns-then-has_part-clause-met n c =
    rw (c.in-Some.is, c.in-Some-y.is) (parts_met _ _ _ _ (rw c.in-Some-2.is at c.in_ok-made.ensures.met) (c.if-has_part.ensures.0 refl))

pub meet_parts-returns-else-has_part-clause-met : goal.meet_parts-returns-else-has_part-clause-met
meet_parts-returns-else-has_part-clause-met n c =
    rw (c.in-Some.is, c.in-Some-y.is) (parts_constants _ _ _ _ (rw c.in-Some-2.is at c.in_ok-made.ensures.met) (λ h. false≢true (c.if-has_part.ensures.1 h)))

pub meet_selects-returns-then-not-have_same_numbers-clause-met : goal.meet_selects-returns-then-not-have_same_numbers-clause-met
meet_selects-returns-then-not-have_same_numbers-clause-met n c = selects.select_numbers _ _ _ (λ h. false≢true (c.if-not-have_same_numbers.ensures.1 h))

pub meet_selects-returns-then-xs-ys-clause-met : goal.meet_selects-returns-then-xs-ys-clause-met
meet_selects-returns-then-xs-ys-clause-met n c =
    selects.select_lengths _ _ _ (λ e. c.if-xs-ys.true (ap length c.as_slice-xs.ensures ∙ e ∙ sym (ap length c.as_slice-ys.ensures)))

pub meet_selects-returns-then-not-are_filled-clause-met : goal.meet_selects-returns-then-not-are_filled-clause-met
meet_selects-returns-then-not-are_filled-clause-met n c =
    let e = sym (ap length c.as_slice-xs.ensures) ∙ c.if-xs-ys.false ∙ ap length c.as_slice-ys.ensures in
    let f = c.in_ok-conditions.ensures.long ∙ ap length c.as_slice-xs.ensures in
    let r = subst (λ l. RowsMeet c.meet_conditions.new.arena c.args.x.now.conditions l c.in_ok-conditions.conditions) c.as_slice-ys.ensures
    (subst (λ l. RowsMeet c.meet_conditions.new.arena l c.as_slice-ys.result.now c.in_ok-conditions.conditions) c.as_slice-xs.ensures c.in_ok-conditions.ensures.met) in
    selects.select_unfilled _ _ _ c.in_ok-conditions.conditions e f r (λ h. false≢true (c.if-not-are_filled.ensures.1 (subst (EachIn IsFilled) (sym c.as_slice.ensures) h)))

pub meet_selects-returns-then-not-some_names_atoms-clause-met : goal.meet_selects-returns-then-not-some_names_atoms-clause-met
meet_selects-returns-then-not-some_names_atoms-clause-met n c =
    let e = sym (ap length c.as_slice-xs.ensures) ∙ c.if-xs-ys.false ∙ ap length c.as_slice-ys.ensures in
    let f = c.in_ok-conditions.ensures.long ∙ ap length c.as_slice-xs.ensures in
    let r = subst (λ l. RowsMeet c.meet_conditions.new.arena c.args.x.now.conditions l c.in_ok-conditions.conditions) c.as_slice-ys.ensures
    (subst (λ l. RowsMeet c.meet_conditions.new.arena l c.as_slice-ys.result.now c.in_ok-conditions.conditions) c.as_slice-xs.ensures c.in_ok-conditions.ensures.met) in
    selects.select_constants _ _ _ c.in_ok-conditions.conditions e f r (λ h. false≢true (c.if-not-some_names_atoms.ensures.1 (subst (SomeIn NamesAtoms) (sym c.as_slice-2.ensures) h)))

pub meet_selects-returns-clause-met : goal.meet_selects-returns-clause-met
meet_selects-returns-clause-met n c =
    let e = sym (ap length c.as_slice-xs.ensures) ∙ c.if-xs-ys.false ∙ ap length c.as_slice-ys.ensures in
    let f = c.in_ok-conditions.ensures.long ∙ ap length c.as_slice-xs.ensures in
    let r = subst (λ l. RowsMeet c.meet_conditions.new.arena c.args.x.now.conditions l c.in_ok-conditions.conditions) c.as_slice-ys.ensures
    (subst (λ l. RowsMeet c.meet_conditions.new.arena l c.as_slice-ys.result.now c.in_ok-conditions.conditions) c.as_slice-xs.ensures c.in_ok-conditions.ensures.met) in
    let made : SelectItem = record { column = c.args.x.now.column; table = c.args.x.now.table; key = c.args.x.now.key; conditions = c.in_ok-conditions.conditions } in (
      selects.select_conditions _ c.args.x.now c.args.y.now c.in_ok-conditions.conditions e f r c.args.of (record {
        some = c.requires.first.some;
        few = c.requires.first.few;
        older = conditions_stay _ _ c.meet_conditions.ensures.extends c.args.of c.args.of (omega arith) _ c.requires.first.older;
      }),
      selects.select_met _ _ _ c.in_ok-conditions.conditions e f r made (c.if-not-have_same_numbers.ensures.0 refl) (refl, refl, refl) refl (subst (EachIn IsFilled) c.as_slice.ensures (c.if-not-are_filled.ensures.0 refl))
          (subst (SomeIn NamesAtoms) c.as_slice-2.ensures (c.if-not-some_names_atoms.ensures.0 refl)),
    )

pub meet_source_items-returns-then-u-v-clause-met : goal.meet_source_items-returns-then-u-v-clause-met
meet_source_items-returns-then-u-v-clause-met n c = (tt, rw (c.in-Col-Col.is-0, c.in-Col-Col.is-1) (selects.col_met _ _ _ c.if-u-v.true))

pub meet_source_items-returns-else-u-v-clause-met : goal.meet_source_items-returns-else-u-v-clause-met
meet_source_items-returns-else-u-v-clause-met n c = rw (c.in-Col-Col.is-0, c.in-Col-Col.is-1) (selects.kinds_apart _ (Col c.in-Col-Col.u) (Col c.in-Col-Col.v) c.if-u-v.false)

pub meet_source_items-returns-in_default-clause-met : goal.meet_source_items-returns-in_default-clause-met
meet_source_items-returns-in_default-clause-met n c =
    elim c.in_default.branch [
      | goal.meet_source_items-in_default-via-in-Col+in_default w ↦ selects.col_select _ _ _ w.in_default.field-0-0 w.in_default.field-0-1 w.in_default.is-0 w.in_default.is-1
      | goal.meet_source_items-in_default-via-in-Select+in_default w ↦ selects.select_col _ _ _ w.in_default.field-0-0 w.in_default.field-0-1 w.in_default.is-0 w.in_default.is-1
    ]

pub meet_source_row-loop-j-preserved : goal.meet_source_row-loop-j-preserved
meet_source_row-loop-j-preserved n c =
    record {
      extends = extends_on _ _ _ c.loop-j.invariant.extends c.meet_source_items.ensures.extends;
      memo = c.in_ok-made.ensures.memo;
      pairs = state_step SourceIn NamesOlder source_item_stays _ _ _ _ _ _ _ _ _ _ _ _ c.meet_source_items.ensures.extends (here _ _ _ c.requires.within c.index-xs-i.is) (here _ _ _ c.loop-j-test.true c.index-ys-j.is)
          c.in_ok-made.ensures.met c.in_ok-push_some.ensures c.loop-j.invariant.pairs;
    }

pub meet_source_row-returns-clause-pairs : goal.meet_source_row-returns-clause-pairs
meet_source_row-returns-clause-pairs n c = state_row SourceIn NamesOlder source_item_stays _ _ _ _ _ _ _ c.loop-j-test.false c.loop-j.invariant.pairs

pub meet_sources-returns-in-Some-clause-met : goal.meet_sources-returns-in-Some-clause-met
meet_sources-returns-in-Some-clause-met n c = entry_right (SourceSetsMeet c.args.arena.now) _ c.args.s c.args.t _ c.requires.memo.sources c.in-Some.ensures

pub meet_sources-returns-clause-memo : goal.meet_sources-returns-clause-memo
meet_sources-returns-clause-memo n c = c.keep_sources.ensures c.make_sources.new.arena c.in_ok-made.ensures.memo c.in_ok-made.ensures.met

pub meet_atoms-returns-then-eq-clause-met : goal.meet_atoms-returns-then-eq-clause-met
meet_atoms-returns-then-eq-clause-met n c = atoms_self c.args.arena.now c.keeps_made.ensures c.args.s c.args.t (number_same c.args.s c.args.t (sym c.eq.ensures ∙ c.if-eq.true)) c.requires.first

pub meet_sources-returns-then-eq-clause-met : goal.meet_sources-returns-then-eq-clause-met
meet_sources-returns-then-eq-clause-met n c = sources_self c.args.arena.now c.keeps_made.ensures c.args.s c.args.t (number_same c.args.s c.args.t (sym c.eq.ensures ∙ c.if-eq.true)) c.requires.first
