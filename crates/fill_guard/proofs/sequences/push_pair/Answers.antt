use Rattle.std.proofs.Common.{◌≡◌, ◌++◌, ◌∷◌, [], ◌∙◌, ap}
use Rattle.std.proofs.lemmas.Bool.{iff_false}
use Rattle.fill_tokens.specs.Place.{seq_cmp}
use Rattle.fill_text.specs.Lists.{Adds}
use Rattle.fill_text.proofs.ListReads.{on_ok}
use Rattle.fill_guard.specs.Listed.{OfPair}
use Rattle.fill_guard.proofs.SeqLaws.{pair_barred, pair_unknown, pair_added}
use Rattle.fill_guard.proofs.sequences.push_pair.Goals as goal

pub returns-then-not-is_of : goal.returns-then-not-is_of
returns-then-not-is_of c = pair_unknown c.args.token_set c.args.first c.args.second c.args.out.now.items (iff_false c.is_of.ensures c.if-not-is_of.true)

pub returns-then-not-may_stand : goal.returns-then-not-may_stand
returns-then-not-may_stand c = pair_barred c.args.token_set c.args.first c.args.second c.args.out.now.items (iff_false c.may_stand.ensures c.if-not-may_stand.true)

pub returns : goal.returns
returns c =
    let x = c.args.first in
    let y = c.args.second in
    let old = c.args.out.now.items in
    on_ok c.put.result (c.put.new.out.items ≡ old ++ c.two.result ∷ []) (Adds seq_cmp old c.put.new.out.items (OfPair c.args.token_set x y))
    (λ e. pair_added c.args.token_set x y old c.put.new.out.items c.requires (c.is_of.ensures.0 c.if-not-is_of.false) (c.may_stand.ensures.0 c.if-not-may_stand.false) (e ∙ ap (λ r. old ++ r ∷ []) c.two.ensures))
    c.put.ensures
