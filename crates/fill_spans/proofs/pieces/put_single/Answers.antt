use Rattle.std.proofs.Common.{◌≡◌, ◌+◌, ◌++◌, ◌∷◌, [], arith, sym, ◌∙◌}
use Rattle.fill_text.proofs.ListReads.{on_ok}
use Rattle.fill_spans.specs.Pieces.{AreExactly}
use Rattle.fill_spans.specs.Read.{SinglesBelow}
use Rattle.fill_spans.proofs.PieceLaws.{single_more, single_not}
use Rattle.fill_spans.proofs.pieces.put_single.Goals as goal

pub returns-then-at-c : goal.returns-then-at-c
returns-then-at-c c = single_not c.args.c c.args.t.now c.args.i c.args.pieces.now.starts.items c.args.pieces.now.ends.items (λ e. c.if-at-c.true (c.at.ensures ∙ e))

pub overflow_add-i : goal.overflow_add-i
overflow_add-i c = omega (arith, c.len-length.ensures.small, c.len-length.ensures.value, c.requires)

pub returns : goal.returns
returns c =
    let old = c.args.pieces.now in
    let new = c.put.new.pieces in
    on_ok c.put.result ((new.starts.items ≡ old.starts.items ++ c.args.i ∷ []) × (new.ends.items ≡ old.ends.items ++ (c.args.i + 1) ∷ []))
    (AreExactly (SinglesBelow c.args.c c.args.t.now c.args.i) old.starts.items old.ends.items → AreExactly (SinglesBelow c.args.c c.args.t.now (c.args.i + 1)) new.starts.items new.ends.items)
    (λ e. single_more c.args.c c.args.t.now c.args.i old.starts.items old.ends.items new.starts.items new.ends.items c.requires (sym c.at.ensures ∙ c.if-at-c.false) e.0 e.1)
    c.put.ensures
