use Rattle.std.proofs.Common.{ℕ, List, refl, sym, subst, ◌∙◌, get_or}
use Rattle.std.proofs.lemmas.Option.{slice_get-get_or}
use Rattle.fill_arena.proofs.Lists.{extends_on, extends_same}
use Rattle.fill_sources.specs.Sets.{texts_of}
use Rattle.fill_sources.specs.Readers.{AddsAtoms, IsReadable, ReadsSpot}
use Rattle.fill_sources.specs.declared.spots.Spot.{Spot}
use Rattle.fill_build.specs.Hits.{spot_of}
use Rattle.fill_build.specs.declared.hits.Hit.{Hit}
use Rattle.fill_build.proofs.Readers.{items_start, items_more, items_end, readable}
use Rattle.fill_build.proofs.atoms.piece_atoms.Goals as goal

pub loop-i-init : goal.loop-i-init
loop-i-init c = record {
  extends = extends_same c.args.arena.now;
  row_texts = c.requires.row_texts;
  texts = refl;
  items = items_start c.args.on.now (texts_of c.args.row_texts.now) c.args.piece.now c.args.hits.now c.args.arena.now c.in_ok-items.items c.in_ok-items.ensures;
}

pub put_readers-requires-clause-within : goal.put_readers-requires-clause-within
put_readers-requires-clause-within c =
    let none : Hit = record { text = 0; at = 0; run = 0 } in
    let hit = get_or c.args.hits.now c.loop-i.i none in
    let at = slice_get-get_or c.args.hits.now c.loop-i.i none c.loop-i-test.true in
    let width = c.args.piece.now.width in
    let there = readable c.args.on.now (texts_of c.args.row_texts.now) c.args.piece.now c.args.hits.now c.requires.piece c.requires.hits c.loop-i.i hit at in
    subst (λ (s : Spot). IsReadable (texts_of c.loop-i.row_texts) s width) (sym c.spot-spot.ensures)
    (subst (λ (ts : List (List ℕ)). IsReadable ts (spot_of hit) width) (sym c.loop-i.invariant.texts) there)

pub loop-i-preserved : goal.loop-i-preserved
loop-i-preserved c =
    let none : Hit = record { text = 0; at = 0; run = 0 } in
    let hit = get_or c.args.hits.now c.loop-i.i none in
    let at = slice_get-get_or c.args.hits.now c.loop-i.i none c.loop-i-test.true in
    let on = c.args.on.now in
    let width = c.args.piece.now.width in
    let arena = c.put_readers.new.arena in
    let old = c.loop-i.items in
    let new = c.put_readers.new.items in
    let spot = subst (λ (s : Spot). AddsAtoms arena old new (ReadsSpot on (texts_of c.loop-i.row_texts) s width)) c.spot-spot.ensures c.in_ok-put_readers.ensures.adds in
    let put = subst (λ (ts : List (List ℕ)). AddsAtoms arena old new (ReadsSpot on ts (spot_of hit) width)) c.loop-i.invariant.texts spot in
    record {
      extends = extends_on _ _ _ c.loop-i.invariant.extends c.put_readers.ensures.extends;
      row_texts = c.in_ok-put_readers.ensures.row_texts;
      texts = c.put_readers.ensures.texts ∙ c.loop-i.invariant.texts;
      items = items_more on (texts_of c.args.row_texts.now) c.args.piece.now c.args.hits.now c.loop-i.arena arena c.put_readers.ensures.extends c.loop-i.i hit at old new c.loop-i.invariant.items put;
    }

pub returns-clause-items : goal.returns-clause-items
returns-clause-items c =
    items_end c.args.on.now (texts_of c.args.row_texts.now) c.args.piece.now c.args.hits.now c.requires.piece c.requires.hits c.requires.row_texts.exact c.loop-i.i c.loop-i.arena c.loop-i.items
    c.loop-i-test.false c.loop-i.invariant.items
