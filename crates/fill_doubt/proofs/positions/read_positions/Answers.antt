use Rattle.std.proofs.Common.{subst}
use Rattle.fill_doubt.specs.Spots.{AreSpotsOf}
use Rattle.fill_doubt.proofs.Flags.{on_ok, on_two}
use Rattle.fill_doubt.proofs.Spotted.{spots_placed, spots_within}
use Rattle.fill_doubt.proofs.positions.read_positions.Goals as goal

pub carry-requires : goal.carry-requires
carry-requires c =
    let arena = c.args.on.now.arena.now in
    let x = c.args.shaped.now in
    let f = c.in-Some.spots.now in
    let are = subst (λ w. AreSpotsOf arena c.args.s w f) c.requires.text (c.in-Some.ensures arena c.requires.read) in
    spots_within c.values_are_stretched.ensures x.shape.text x.text.now x.shape.bounds.items c.requires.shape arena c.args.s f are

pub carry-requires-2 : goal.carry-requires-2
carry-requires-2 c =
    let arena = c.args.on.now.arena.now in
    let x = c.args.shaped.now in
    let f = c.in_ok-spots.spots in
    let are = subst (λ w. AreSpotsOf arena c.args.s w f) c.requires.text c.in_ok-spots.ensures.spots in
    spots_within c.values_are_stretched.ensures x.shape.text x.text.now x.shape.bounds.items c.requires.shape arena c.args.s f are

pub returns-in-Some-clause-found : goal.returns-in-Some-clause-found
returns-in-Some-clause-found c =
    let arena = c.args.on.now.arena.now in
    let x = c.args.shaped.now in
    let f = c.in-Some.spots.now in
    let are = subst (λ w. AreSpotsOf arena c.args.s w f) c.requires.text (c.in-Some.ensures arena c.requires.read) in
    on_two c.carry.result c.carry.ensures.sound c.carry.ensures.all
    (λ sound all. spots_placed c.values_are_stretched.ensures x.shape.text x.text.now x.shape.bounds.items c.requires.shape arena c.args.s f are c.args.few c.carry.new.found sound all)

pub returns-clause-read : goal.returns-clause-read
returns-clause-read c =
    on_ok c.keep.result c.keep.ensures.read (λ kept. kept c.args.on.now.arena.now (record { cuts = c.in_ok-spots.ensures.cuts; spots = c.requires.read.spots }) c.in_ok-spots.ensures.spots)

pub returns-clause-found : goal.returns-clause-found
returns-clause-found c =
    let arena = c.args.on.now.arena.now in
    let x = c.args.shaped.now in
    let f = c.in_ok-spots.spots in
    let are = subst (λ w. AreSpotsOf arena c.args.s w f) c.requires.text c.in_ok-spots.ensures.spots in
    on_ok c.keep.result c.keep.ensures.read
    (λ kept. spots_placed c.values_are_stretched.ensures x.shape.text x.text.now x.shape.bounds.items c.requires.shape arena c.args.s f are c.args.few c.carry-2.new.found c.in_ok-carry.ensures.sound c.in_ok-carry.ensures.all)
