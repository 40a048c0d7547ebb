use Rattle.fill_tree.specs.Meaning.{source_tree}
use Rattle.fill_arena.specs.Contents.{SomeIn}
use Rattle.fill_arena.specs.declared.entry.AtomItem.TheVariants.{Sub}
use Rattle.fill_arena.proofs.Scan.{here}
use Rattle.fill_arena.specs.Stands.{PartFits}
use Rattle.fill_object.specs.Kinds.{atoms_on}
use Rattle.fill_object.specs.Pieces.{IsPieceOf}
use Rattle.fill_object.proofs.Gains.{scan_none, scan_more, scan_done, gains_through}
use Rattle.fill_object.proofs.KindLaws.{atoms_laws}
use Rattle.fill_object.proofs.Made.{piece_fits, fits_piece}
use Rattle.fill_object.proofs.atoms.put_pieces.Goals as goal

pub loop-source-init : goal.loop-source-init
loop-source-init c = record {
  memo = c.requires.memo;
  gains = scan_none (atoms_on c.args.on.now) (atoms_laws c.args.on.now) (λ x a. IsPieceOf c.args.on.now.arena.now (source_tree x.source) c.args.lefts c.args.rights a) c.args.sources.now c.args.rivals.now.items;
}

pub put_pieces_of-requires-clause-source : goal.put_pieces_of-requires-clause-source
put_pieces_of-requires-clause-source c =
    let sources = c.args.sources.now in
    let i = c.loop-source.source-index in
    let x = c.source-item.result in
    (c.requires.sources.1.each i x (here sources i x c.loop-source-test.true c.source-item.is)).1

pub loop-source-preserved : goal.loop-source-preserved
loop-source-preserved c =
    let on = c.args.on.now in
    let sources = c.args.sources.now in
    let i = c.loop-source.source-index in
    let x = c.source-item.result in
    record {
      memo = c.in_ok-put_pieces_of.ensures.memo;
      gains = scan_more (atoms_on on) (atoms_laws on) (λ y a. IsPieceOf on.arena.now (source_tree y.source) c.args.lefts c.args.rights a) sources i x
          (here sources i x c.loop-source-test.true c.source-item.is) c.args.rivals.now.items c.loop-source.rivals.items c.put_pieces_of.new.rivals.items
          c.loop-source.invariant.gains c.in_ok-put_pieces_of.ensures.gains;
    }

pub returns-clause-gains : goal.returns-clause-gains
returns-clause-gains c s are =
    let on = c.args.on.now in
    let sources = c.args.sources.now in
    let l = c.args.lefts in
    let r = c.args.rights in
    let old = c.args.rivals.now.items in
    let new = c.loop-source.rivals.items in
    gains_through (atoms_on on) (atoms_laws on) (λ a. SomeIn (λ x. IsPieceOf on.arena.now (source_tree x.source) l r a) sources) (PartFits on.arena.now (Sub s l r)) (piece_fits on s sources are l r) (fits_piece on s sources are l r)
    old new (scan_done (atoms_on on) (atoms_laws on) (λ x a. IsPieceOf on.arena.now (source_tree x.source) l r a) sources c.loop-source.source-index c.loop-source-test.false old new c.loop-source.invariant.gains)
