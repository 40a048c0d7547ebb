use Rattle.std.proofs.Common.{get_or, map, Contains, refl}
use Rattle.std.proofs.lemmas.List.Elements.{Contains-get_or}
use Rattle.fill_reach.specs.Spots.{IsPieceOfSome, spot_of}
use Rattle.fill_reach.proofs.StepLaws.{hold_more, hold_all}
use Rattle.fill_reach.proofs.texts.touches.Goals as goal

pub returns-then-is_piece_of_some : goal.returns-then-is_piece_of_some
returns-then-is_piece_of_some c =
    let columns = c.key-column-items.result.now in
    let i = c.loop-column.column-index in (
      (λ _. (c.cell-cell.result.now, (columns, get_or columns i 0, c.key-column-items.ensures, Contains-get_or columns i 0 c.loop-column-test.true, c.cell-cell.ensures), c.is_piece_of_some.ensures.0 c.if-is_piece_of_some.true)),
      (λ _. refl),
    )

pub loop-column-preserved : goal.loop-column-preserved
loop-column-preserved c =
    let P = Contains (map (λ text. text.now) c.args.texts.now) in
    hold_more (λ v. ¬ (IsPieceOfSome P v)) c.args.tables.now (spot_of c.args.row) c.key-column-items.result.now c.loop-column.column-index 0 c.cell-cell.result.now c.loop-column-test.true c.cell-cell.ensures
    (λ piece. let is = c.is_piece_of_some.ensures.1 piece in let not' = c.if-is_piece_of_some.false in cc)
    c.loop-column.invariant

pub returns : goal.returns
returns c =
    let P = Contains (map (λ text. text.now) c.args.texts.now) in (
      (λ e. cc),
      (λ h. absurd (hold_all (λ v. ¬ (IsPieceOfSome P v)) c.args.tables.now (spot_of c.args.row) c.key-column-items.result.now c.loop-column.column-index c.key-column-items.ensures
          c.loop-column-test.false c.loop-column.invariant h.0 h.1 h.2)),
    )
