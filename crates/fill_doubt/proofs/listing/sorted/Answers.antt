use Rattle.std.proofs.Common.{◌≡◌, ◌↔◌, ℕ, map, List, sym, ap, subst, ◌∙◌}
use Rattle.fill_arena.proofs.Scan.{here}
use Rattle.std.specs.List.{AllPairs}
use Rattle.std.specs.declared.cmp.Ordering.TheVariants.{Less}
use Rattle.fill_arena.specs.Contents.{EachIn, In, SomeIn}
use Rattle.fill_eval.specs.Piece.{IsWithin, piece_text}
use Rattle.fill_eval.specs.declared.piece.Piece.{Piece}
use Rattle.fill_doubt.proofs.Flags.{if_ok}
use Rattle.fill_doubt.proofs.Rising.{exact_end, exact_more, exact_nil, map_rising, rising_nil, text_cmp, within_nil}
use Rattle.fill_doubt.proofs.listing.sorted.Goals as goal

pub loop-i-init : goal.loop-i-init
loop-i-init c =
    let nil = c.new-order.ensures.items in
    record { within = within_nil _ nil; rising = rising_nil _ nil; exact = exact_nil _ c.args.pieces.now nil }

pub insert-requires-clause-piece : goal.insert-requires-clause-piece
insert-requires-clause-piece c = c.requires c.loop-i.i c.index-pieces-i.result (here c.args.pieces.now c.loop-i.i c.index-pieces-i.result c.loop-i-test.true c.index-pieces-i.is)

pub loop-i-preserved : goal.loop-i-preserved
loop-i-preserved c =
    let at = here c.args.pieces.now c.loop-i.i c.index-pieces-i.result c.loop-i-test.true c.index-pieces-i.is in
    record {
      within = c.insert.ensures.within;
      rising = c.insert.ensures.rising;
      exact = exact_more c.loop-i.order.items c.insert.new.order.items c.args.pieces.now c.loop-i.i c.index-pieces-i.result at c.loop-i.invariant.exact c.in_ok-insert.ensures.gains;
    }

pub copies-requires : goal.copies-requires
copies-requires c = subst (λ (xs : List Piece). EachIn IsWithin xs) (sym c.as_slice.ensures.value) c.loop-i.invariant.within

pub returns : goal.returns
returns c =
    let order = c.loop-i.order.items in
    let pieces = c.args.pieces.now in
    let same : map piece_text c.as_slice.result.now ≡ map piece_text order = ap (λ (xs : List Piece). map piece_text xs) c.as_slice.ensures.value in
    let exact = exact_end order pieces c.loop-i.i c.loop-i-test.false c.loop-i.invariant.exact in
    record {
      rising = if_ok c.copies.result c.copies.ensures (λ texts e. subst (λ (ts : List (List ℕ)). AllPairs (λ v w. text_cmp v w ≡ Less) ts) (sym (e ∙ same)) (map_rising order c.loop-i.invariant.rising));
      exact = if_ok c.copies.result c.copies.ensures (λ texts e. subst (λ (ts : List (List ℕ)). (v : List ℕ) → In v ts ↔ SomeIn (λ x. piece_text x ≡ v) pieces) (sym (e ∙ same)) exact);
    }
