use Rattle.std.proofs.Common.{◌≡◌, take, map, [], ◌∷◌, ◌++◌, sym, ap, ◌∙◌}
use Rattle.fill_arena.proofs.Scan.{here}
use Rattle.std.proofs.Common.{◌+◌}
use Rattle.std.proofs.lemmas.List.{take_more, map-append}
use Rattle.fill_eval.specs.Piece.{piece_text}
use Rattle.fill_doubt.proofs.listing.copies.Goals as goal

pub copy-requires : goal.copy-requires
copy-requires c = record { within = c.requires c.loop-i.i c.index-pieces-i.result (here c.args.pieces.now c.loop-i.i c.index-pieces-i.result c.loop-i-test.true c.index-pieces-i.is) }

pub loop-i-preserved : goal.loop-i-preserved
loop-i-preserved c =
    let xs = c.args.pieces.now in
    let i = c.loop-i.i in
    let x = c.index-pieces-i.result in
    let is = c.index-pieces-i.is in
    let last : take (i + 1) xs ≡ take i xs ++ x ∷ [] = rw is (take_more xs i x c.loop-i-test.true) in
    let both : map piece_text (take (i + 1) xs) ≡ map piece_text (take i xs) ++ piece_text x ∷ [] = rw last (map-append piece_text (take i xs) (x ∷ [])) in
    c.in_ok-push.ensures.ok ∙ ap (λ l. l ++ c.in_ok-copy.field-0 ∷ []) c.loop-i.invariant ∙ ap (λ t. map piece_text (take i xs) ++ t ∷ []) c.in_ok-copy.ensures ∙ sym both
