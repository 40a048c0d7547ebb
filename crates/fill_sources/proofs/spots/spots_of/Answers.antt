use Rattle.std.proofs.Common.{◌↔◌, List, map, get_or, subst, arith}
use Rattle.std.proofs.lemmas.List.{length-map}
use Rattle.std.proofs.lemmas.Option.{slice_get-get_or}
use Rattle.fill_arena.specs.Contents.{In}
use Rattle.fill_sources.specs.Readers.{StandsAt}
use Rattle.fill_sources.specs.declared.spots.Spot.{Spot}
use Rattle.fill_sources.specs.declared.texts.Named.{Named}
use Rattle.fill_sources.proofs.Lists.{mapped_at}
use Rattle.fill_sources.proofs.Standing.{text_more, texts_all}
use Rattle.fill_sources.proofs.spots.spots_of.Goals as goal

pub loop-k-preserved : goal.loop-k-preserved
loop-k-preserved c =
    let named = c.as_slice-named.result.now in
    let k = c.loop-k.k in
    let n : Named = get_or named k c.index-named-k.result in
    text_more (map (λ (z : Named). z.text.now) named) c.loop-k.spots c.put_spots.new.spots n.text.now k c.args.w.now
    (mapped_at (λ (z : Named). z.text.now) named k n (slice_get-get_or named k c.index-named-k.result c.loop-k-test.true)) c.loop-k.invariant c.in_ok-put_spots.ensures

pub returns : goal.returns
returns c =
    let named = c.as_slice-named.result.now in
    subst (λ (l : List Named). (h : Spot) → In h c.loop-k.spots ↔ StandsAt (map (λ (z : Named). z.text.now) l) c.args.w.now h) c.as_slice-named.ensures.value
    (texts_all (map (λ (z : Named). z.text.now) named) c.loop-k.spots c.loop-k.k c.args.w.now (let long = length-map named (λ (z : Named). z.text.now) in let past = c.loop-k-test.false in omega arith) c.loop-k.invariant)
