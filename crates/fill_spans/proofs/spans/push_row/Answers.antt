use Rattle.std.proofs.lemmas.Bool.{iff_false}
use Rattle.fill_spans.proofs.RowLaws.{rows_more}
use Rattle.fill_spans.proofs.spans.push_row.Goals as goal

pub returns-then-not-is_of : goal.returns-then-not-is_of
returns-then-not-is_of c =
    rows_more c.args.token_set c.args.i c.args.t.now c.args.rows.now.items c.push.new.self.items c.no_pieces.result c.token_at-token.result c.token_at-token.ensures
    (λ h. absurd (iff_false c.is_of.ensures c.if-not-is_of.true h)) c.in_ok-push.ensures.items

pub returns : goal.returns
returns c =
    rows_more c.args.token_set c.args.i c.args.t.now c.args.rows.now.items c.push-2.new.self.items c.in_ok-pieces.pieces c.token_at-token.result c.token_at-token.ensures
    (λ _. c.in_ok-pieces.ensures) c.in_ok-push-2.ensures.items
