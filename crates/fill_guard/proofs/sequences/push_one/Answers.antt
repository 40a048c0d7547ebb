use Rattle.std.proofs.Common.{◌≡◌, ◌++◌, ◌∷◌, [], ◌∙◌, ap}
use Rattle.std.proofs.lemmas.Bool.{iff_false}
use Rattle.fill_tokens.specs.Place.{seq_cmp}
use Rattle.fill_text.specs.Lists.{Adds}
use Rattle.fill_text.proofs.ListReads.{on_ok}
use Rattle.fill_guard.specs.Listed.{IsOne}
use Rattle.fill_guard.proofs.SeqLaws.{one_barred, one_added}
use Rattle.fill_guard.proofs.sequences.push_one.Goals as goal

pub returns-then-not-is_of : goal.returns-then-not-is_of
returns-then-not-is_of c = one_barred c.args.token_set c.args.token c.args.out.now.items (iff_false c.is_of.ensures c.if-not-is_of.true)

pub returns : goal.returns
returns c =
    let x = c.args.token in
    let old = c.args.out.now.items in
    on_ok c.put.result (c.put.new.out.items ≡ old ++ c.one.result ∷ []) (Adds seq_cmp old c.put.new.out.items (IsOne c.args.token_set x))
    (λ e. one_added c.args.token_set x old c.put.new.out.items (c.is_of.ensures.0 c.if-not-is_of.false) (e ∙ ap (λ r. old ++ r ∷ []) c.one.ensures))
    c.put.ensures
