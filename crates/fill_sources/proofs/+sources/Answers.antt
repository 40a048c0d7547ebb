use Rattle.std.proofs.Common.{◌≡◌, ◌≢◌, ℕ, ◌+◌, ◌-◌, ◌≤◌, List, [], ◌∷◌, ◌++◌, length, get_or, Some, slice_get, sym, ap, ◌∙◌, subst, arith, rules}
use Rattle.std.proofs.lemmas.Option.{slice_get-get_or}
use Rattle.std.proofs.lemmas.Result.{on_ok_weaker}
use Rattle.fill_text.specs.Data.{nth}
use Rattle.fill_reach.proofs.CellLaws.{cell_of}
use Rattle.fill_arena.specs.Contents.{In}
use Rattle.fill_arena.specs.Stands.{AtomFits, SourceFits}
use Rattle.fill_arena.specs.declared.entry.ConditionItem.{ConditionItem}
use Rattle.fill_arena.specs.declared.entry.SourceItem.TheVariants as item
use Rattle.fill_arena.proofs.Lists.{extends_on, extends_same, get_there}
use Rattle.fill_sources.specs.Gives.{AreSourcesIn, Gives, at_depth}
use Rattle.fill_sources.specs.Origins.{IsOrigin, texts_in}
use Rattle.fill_sources.specs.Readers.{AddsAtoms, AddsSources, IsOldAtom, IsOldSource, ReadsAny, ReadsBetween, ReadsSpot, ReadsWhole}
use Rattle.fill_sources.specs.Sets.{AreConditions, GivesFirst, IsPartMade, IsSourceMade, Reads}
use Rattle.fill_sources.specs.declared.spots.Spot.{Spot}
use Rattle.fill_sources.specs.declared.texts.Named.{Named}
use Rattle.fill_sources.specs.declared.texts.Origin.{Origin}
use Rattle.fill_sources.specs.declared.texts.Origin.TheVariants as origin
use Rattle.fill_sources.proofs.Lists.{here, mapped_at}
use Rattle.fill_sources.proofs.Lookups.{conditions_more, conditions_stay, depth_few, lookups, lookups_are, lookups_fit, none_so_shallow, reached_some}
use Rattle.fill_sources.proofs.Made.{right_stays}
use Rattle.fill_sources.proofs.Origins.{named_text, origin_is}
use Rattle.fill_sources.proofs.Puts as puts
use Rattle.fill_sources.proofs.Reading.{known_under, parts_are, readers_all, some_text}
use Rattle.fill_sources.proofs.Steps.{cells_more}
use Rattle.fill_sources.proofs.+sources.Goals as goal

abbrev first : Spot
first = record { text = 0; at = 0 }

pub parts::part_items-put_readers-requires : goal.parts::part_items-put_readers-requires
parts::part_items-put_readers-requires n c =
    let spots = c.as_slice-spots.result.now in
    let i = c.loop-i.i in
    let h : Spot = get_or spots i first in
    let there = slice_get-get_or spots i first c.loop-i-test.true in
    let found = subst (λ (l : List Spot). slice_get l i ≡ Some h) c.as_slice-spots.ensures there in
    let stands = (c.in_ok-found.ensures h).0 (i, found) in
    let wide = c.len.ensures.value in
    let le : h.at + length c.args.w.now ≤ length stands.0 = stands.2 in
    (search rules, (c.requires.row, (c.requires.depth, (c.loop-i.invariant.memo, (stands.0, stands.1, subst (λ m. h.at + m ≤ length stands.0) (sym wide) le)))))

pub parts::part_items-loop-i-preserved : goal.parts::part_items-loop-i-preserved
parts::part_items-loop-i-preserved n c =
    let on = at_depth c.args.look.now.on.now c.args.depth in
    let texts = texts_in c.args.look.now.texts.now in
    let spots = c.as_slice-spots.result.now in
    let i = c.loop-i.i in
    let h : Spot = get_or spots i first in
    let there = slice_get-get_or spots i first c.loop-i-test.true in
    let arena = c.put_readers.new.arena in
    let put = subst (λ m. AddsAtoms arena c.loop-i.items c.put_readers.new.items (ReadsSpot on texts h m)) c.len.ensures.value c.in_ok-put_readers.ensures.adds in
    record {
      extends = extends_on _ _ _ c.loop-i.invariant.extends c.put_readers.ensures.extends;
      memo = c.in_ok-put_readers.ensures.memo;
      adds = puts.readers_more on texts spots (length c.args.w.now) i h there c.loop-i.arena arena c.put_readers.ensures.extends [] c.loop-i.items c.put_readers.new.items c.loop-i.invariant.adds put;
    }

pub parts::part_items-returns-clause-items : goal.parts::part_items-returns-clause-items
parts::part_items-returns-clause-items n c =
    let on = at_depth c.args.look.now.on.now c.args.depth in
    let texts = texts_in c.args.look.now.texts.now in
    let w = c.args.w.now in
    readers_all on texts c.as_slice-spots.result.now w c.loop-i.i c.loop-i-test.false
    (λ h. (
      λ i. (c.in_ok-found.ensures h).0 (subst (λ (l : List Spot). In h l) c.as_slice-spots.ensures i),
      λ s. subst (λ (l : List Spot). In h l) (sym c.as_slice-spots.ensures) ((c.in_ok-found.ensures h).1 s),
    ))
    c.loop-i.arena [] c.loop-i.items c.loop-i.invariant.adds

pub parts::parts_at-atom_set-requires : goal.parts::parts_at-atom_set-requires
parts::parts_at-atom_set-requires n c =
    puts.puts_each IsOldAtom AtomFits c.part_items.new.arena c.in_ok-items.items (ReadsAny (at_depth c.args.look.now.on.now c.args.depth) (texts_in c.args.look.now.texts.now) c.args.w.now) c.in_ok-items.ensures.items

part_made : (n : ℕ) (c : goal.parts::parts_at-In_ok-keep_part n) → IsPartMade c.args.look.now.on.now c.atom_set.new.arena (c.args.w.now, c.args.depth) c.in_ok-made.made
part_made n c =
    let on = at_depth c.args.look.now.on.now c.args.depth in
    let t = c.args.look.now.texts.now in
    let w = c.args.w.now in
    let full : w ≢ [] = some_text w (λ e. c.if-len-eq0.false (c.len.ensures.value ∙ e)) in
    let from_source = known_under c.args.look.now.on.now t c.requires.row.texts c.args.depth c.requires.depth in
    c.in_ok-made.ensures.made on w
    (λ d o a.
    let p = puts.puts_all IsOldAtom AtomFits c.part_items.new.arena c.in_ok-items.items (ReadsAny on (texts_in t) w) c.in_ok-items.ensures.items d o a in
    let q = parts_are on (texts_in t) w full from_source a in
    (λ s. q.0 (p.0 s), λ g. p.1 (q.1 g)))

pub parts::parts_at-returns-clause-made : goal.parts::parts_at-returns-clause-made
parts::parts_at-returns-clause-made n c = part_made n c

pub parts::parts_at-returns-clause-memo : goal.parts::parts_at-returns-clause-memo
parts::parts_at-returns-clause-memo n c =
    let on = c.args.look.now.on.now in
    let texts = texts_in c.args.look.now.texts.now in
    c.in_ok-keep_part.ensures on texts c.atom_set.new.arena
    (right_stays on texts c.part_items.new.arena c.atom_set.new.arena c.atom_set.ensures.extends c.part_items.new.memo c.in_ok-items.ensures.memo)
    (part_made n c)

pub parts::put_readers-returns-in_default-clause-adds : goal.parts::put_readers-returns-in_default-clause-adds
parts::put_readers-returns-in_default-clause-adds n c =
    let on = at_depth c.args.look.now.on.now c.args.depth in
    let texts = texts_in c.args.look.now.texts.now in
    let arena = c.sources_at.new.arena in
    let within = c.requires.within in
    let none = subst (AreSourcesIn on arena within.0) c.in_default.is (c.in_ok-sources.ensures.made within.0 within.1 arena (extends_same arena)) in
    puts.puts_none IsOldAtom AtomFits arena c.args.items.now (ReadsSpot on texts c.args.h c.args.width) (puts.no_reader on texts c.args.h c.args.width within.0 within.1 none)

pub parts::put_readers-returns-clause-adds : goal.parts::put_readers-returns-clause-adds
parts::put_readers-returns-clause-adds n c =
    let on = at_depth c.args.look.now.on.now c.args.depth in
    let texts = texts_in c.args.look.now.texts.now in
    let within = c.requires.within in
    let before = c.sources_at.new.arena in
    let whole_reads = ReadsWhole on texts c.args.h c.args.width in
    let between_reads = ReadsBetween on texts c.args.h c.args.width in
    on_ok_weaker c.put_between.result
    (λ adds.
    puts.puts_then IsOldAtom AtomFits before c.put_between.new.arena c.put_between.ensures.extends c.args.items.now c.put_whole.new.items c.put_between.new.items whole_reads between_reads (ReadsSpot on texts c.args.h c.args.width)
    (c.in_ok-put_whole.ensures.adds on before within.0 within.1 (λ d o. subst (AreSourcesIn on d within.0) c.in-Some.is (c.in_ok-sources.ensures.made within.0 within.1 d o)))
    (adds c.args.depth within.0 within.1 (λ d o. subst (AreSourcesIn on d within.0) c.in-Some.is (c.in_ok-sources.ensures.made within.0 within.1 d o)))
    (λ a. (λ r. r, λ r. r)))
    c.put_between.ensures.adds

pub sources::conditions-loop-i-preserved : goal.sources::conditions-loop-i-preserved
sources::conditions-loop-i-preserved n c =
    let on = at_depth c.args.look.now.on.now c.args.depth in
    let inv = c.loop-i.invariant in
    let key = c.key-key.result.now in
    let column = get_or key c.loop-i.i 0 in
    let at = slice_get-get_or key c.loop-i.i 0 c.loop-i-test.true in
    let text = c.in-Some.cell.now in
    let cells = inv.made.0 in
    let rows = inv.made.1 in
    let cell : nth rows column ≡ Some text = sym (cell_of c.args.look.now.on.now.tables.now c.args.at.now.table c.args.at.now.row column rows inv.made.2) ∙ sym c.in-Some.ensures in
    let old = conditions_stay on c.loop-i.arena c.condition.new.arena c.condition.ensures.extends cells c.loop-i.items inv.made.4 in
    let all = conditions_more on c.condition.new.arena cells c.loop-i.items text c.in_ok-condition.field-0 old c.in_ok-condition.ensures.made in
    record {
      extends = extends_on _ _ _ inv.extends c.condition.ensures.extends;
      memo = c.in_ok-condition.ensures.memo;
      made = (cells ++ text ∷ [], rows, inv.made.2, cells_more rows key c.loop-i.i column text cells at cell inv.made.3, subst (λ (l : List ConditionItem). AreConditions on c.condition.new.arena (cells ++ text ∷ []) l) (sym c.in_ok-push.ensures.ok) all);
    }

pub sources::put_lookups-returns-then-at-depth-clause-adds : goal.sources::put_lookups-returns-then-at-depth-clause-adds
sources::put_lookups-returns-then-at-depth-clause-adds n c v cell =
    let on = c.args.look.now.on.now in
    puts.puts_none IsOldSource SourceFits c.args.arena.now c.args.items.now (λ x. Reads on (origin.Cell c.args.at.now c.args.column) x × Gives (at_depth on c.args.depth) v x)
    (λ x q. none_so_shallow on c.args.at.now c.args.column c.args.depth v c.requires.reached c.requires.depth c.if-at-depth.true x q.0 q.1)

pub sources::put_lookups-returns-clause-adds : goal.sources::put_lookups-returns-clause-adds
sources::put_lookups-returns-clause-adds n c =
    let on = c.args.look.now.on.now in
    let r = c.args.at.now in
    let d = c.args.depth in
    let arena = c.conditions.new.arena in
    let tables = c.requires.row.texts.tables in
    let made = c.in_ok-conditions.ensures.made in
    let shallow : r.depth ≤ d = c.if-at-depth.false in
    let deep = reached_some on r c.requires.reached in
    let one_more : d ≡ d - 1 + 1 = omega arith in
    let limit = depth_few on.settings c.requires.row.row.settings in
    let within = c.requires.depth in
    let few : d ≤ 3 = omega arith in
    on_ok_weaker c.push.result
    (λ is v cell.
    puts.puts_one IsOldSource SourceFits arena c.args.items.now c.push.new.self
    (item.Select (lookups on tables r c.args.column v c.requires.free cell d (d - 1) one_more arena made.0 made.1 c.in_ok-conditions.conditions made.2))
    (λ x. Reads on (origin.Cell r c.args.column) x × Gives (at_depth on d) v x) is
    (lookups_are on tables r c.args.column v c.requires.free cell d (d - 1) one_more arena made.0 made.1 c.in_ok-conditions.conditions made.2 c.requires.reached shallow few)
    (lookups_fit on tables r c.args.column v c.requires.free cell d (d - 1) one_more arena made.0 made.1 c.in_ok-conditions.conditions made.2))
    c.push.ensures.ok

pub sources::put_origin-returns-in-Col-clause-adds : goal.sources::put_origin-returns-in-Col-clause-adds
sources::put_origin-returns-in-Col-clause-adds n c =
    let on = c.args.look.now.on.now in
    let d = c.args.depth in
    let arena = c.args.arena.now in
    let items = c.args.items.now in
    on_ok_weaker c.push.result
    (λ is v h.
    subst (λ (o : Origin). AddsSources arena items c.push.new.self (λ x. Reads on o x × Gives (at_depth on d) v x)) (sym c.in-Col.is)
    (puts.puts_column on d v c.in-Col.column (subst (IsOrigin on v) c.in-Col.is h) arena items c.push.new.self is))
    c.push.ensures.ok

pub sources::put_origin-returns-in-Cell-clause-adds : goal.sources::put_origin-returns-in-Cell-clause-adds
sources::put_origin-returns-in-Cell-clause-adds n c =
    let on = c.args.look.now.on.now in
    let d = c.args.depth in
    let arena = c.put_lookups.new.arena in
    on_ok_weaker c.put_lookups.result
    (λ adds v h.
    let there = subst (IsOrigin on v) c.in-Cell.is h in
    subst (λ (o : Origin). AddsSources arena c.args.items.now c.put_lookups.new.items (λ x. Reads on o x × Gives (at_depth on d) v x)) (sym c.in-Cell.is) (adds v there.2))
    c.put_lookups.ensures.adds

pub sources::source_items-put_origin-requires : goal.sources::source_items-put_origin-requires
sources::source_items-put_origin-requires n c =
    let on = c.args.look.now.on.now in
    let t = c.args.look.now.texts.now in
    let m : Named = c.index.result.now in
    let at = here t.named.items c.args.k m c.requires.within c.index.ensures in
    let origins = c.as_slice-origins.result.now in
    let i = c.loop-i.i in
    let o : Origin = get_or origins i (origin.Col 0) in
    let there = subst (λ (l : List Origin). slice_get l i ≡ Some o) c.as_slice-origins.ensures (slice_get-get_or origins i (origin.Col 0) c.loop-i-test.true) in
    (search rules, (c.requires.row, (c.requires.depth, (c.loop-i.invariant.memo, (m.text.now, origin_is on t c.requires.row.texts c.args.k m at o (i, there))))))

pub sources::source_items-loop-i-preserved : goal.sources::source_items-loop-i-preserved
sources::source_items-loop-i-preserved n c =
    let on = c.args.look.now.on.now in
    let deep = at_depth on c.args.depth in
    let t = c.args.look.now.texts.now in
    let m : Named = c.index.result.now in
    let at = here t.named.items c.args.k m c.requires.within c.index.ensures in
    let origins = c.as_slice-origins.result.now in
    let i = c.loop-i.i in
    let o : Origin = get_or origins i (origin.Col 0) in
    let read = slice_get-get_or origins i (origin.Col 0) c.loop-i-test.true in
    let there = subst (λ (l : List Origin). slice_get l i ≡ Some o) c.as_slice-origins.ensures read in
    let is = origin_is on t c.requires.row.texts c.args.k m at o (i, there) in
    record {
      extends = extends_on _ _ _ c.loop-i.invariant.extends c.put_origin.ensures.extends;
      memo = c.in_ok-put_origin.ensures.memo;
      adds = λ v text.
          let same = named_text t.named.items c.args.k m c.index.ensures v text in
          puts.gives_more deep v origins i o read c.loop-i.arena c.put_origin.new.arena c.put_origin.ensures.extends [] c.loop-i.items c.put_origin.new.items (c.loop-i.invariant.adds v text)
          (c.in_ok-put_origin.ensures.adds v (subst (λ (u : List ℕ). IsOrigin on u o) same is));
    }

pub sources::source_items-returns-clause-items : goal.sources::source_items-returns-clause-items
sources::source_items-returns-clause-items n c v text =
    let on = c.args.look.now.on.now in
    let deep = at_depth on c.args.depth in
    let t = c.args.look.now.texts.now in
    let m : Named = c.index.result.now in
    let at = here t.named.items c.args.k m c.requires.within c.index.ensures in
    let own = mapped_at (λ (z : Named). z.text.now) t.named.items c.args.k m at in
    let i = c.loop-i.i in
    let arena = c.loop-i.arena in
    let items = c.loop-i.items in
    let f = subst (λ (l : List Origin). AddsSources arena [] items (GivesFirst deep m.text.now l i)) c.as_slice-origins.ensures (c.loop-i.invariant.adds m.text.now own) in
    let past = c.loop-i-test.false in
    let long = ap (λ (l : List Origin). length l) c.as_slice-origins.ensures in
    let same = named_text t.named.items c.args.k m c.index.ensures v text in
    subst (λ (u : List ℕ). AddsSources arena [] items (Gives deep u)) same
    (puts.gives_all on t c.requires.row.texts c.args.depth c.requires.depth c.args.k m at i (omega arith) arena [] items f)

pub sources::sources_at-source_set-requires : goal.sources::sources_at-source_set-requires
sources::sources_at-source_set-requires n c =
    let t = c.args.look.now.texts.now in
    let m = get_there t.named.items c.args.k c.requires.within in
    let own = mapped_at (λ (z : Named). z.text.now) t.named.items c.args.k m.0 m.1 in
    puts.puts_each IsOldSource SourceFits c.source_items.new.arena c.in_ok-items.items (Gives (at_depth c.args.look.now.on.now c.args.depth) m.0.text.now) (c.in_ok-items.ensures.items m.0.text.now own)

source_made : (n : ℕ) (c : goal.sources::sources_at-In_ok-keep_source n) → IsSourceMade c.args.look.now.on.now (texts_in c.args.look.now.texts.now) c.source_set.new.arena (c.args.k, c.args.depth) c.in_ok-made.made
source_made n c v at =
    let on = at_depth c.args.look.now.on.now c.args.depth in
    c.in_ok-made.ensures.made on v (puts.puts_all IsOldSource SourceFits c.source_items.new.arena c.in_ok-items.items (Gives on v) (c.in_ok-items.ensures.items v at))

pub sources::sources_at-returns-clause-made : goal.sources::sources_at-returns-clause-made
sources::sources_at-returns-clause-made n c = source_made n c

pub sources::sources_at-returns-clause-memo : goal.sources::sources_at-returns-clause-memo
sources::sources_at-returns-clause-memo n c =
    let on = c.args.look.now.on.now in
    let texts = texts_in c.args.look.now.texts.now in
    c.in_ok-keep_source.ensures on texts c.source_set.new.arena
    (right_stays on texts c.source_items.new.arena c.source_set.new.arena c.source_set.ensures.extends c.source_items.new.memo c.in_ok-items.ensures.memo)
    (source_made n c)
