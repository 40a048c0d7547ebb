use Rattle.std.proofs.Common.{arith, ◌-◌, pos, negsuc}
use Rattle.fill_tokens.specs.Place.{place_cmp}
use Rattle.fill_text.specs.Lists.{Adds}
use Rattle.fill_places.specs.Wanted.{FittingPair, PairOf}
use Rattle.fill_text.proofs.ListReads.{on_ok}
use Rattle.fill_places.proofs.PairLaws.{pair_two, pair_two_back}
use Rattle.fill_places.proofs.pair.push_counted.Goals as goal

pub returns-in_ok-push_from_left : goal.returns-in_ok-push_from_left
returns-in_ok-push_from_left c =
    let t = c.args.t.now in
    let k = c.args.k in
    let l = c.args.l.now in
    let r = c.args.r.now in
    let old = c.args.out.now in
    let mid = c.push_from_left.new.out in
    let new = c.push_from_right.new.out in
    on_ok c.push_from_right.result (Adds place_cmp mid new (FittingPair l r (negsuc (c.args.b - 1)))) (Adds place_cmp old new (PairOf c.args.token_set t k l r))
    (λ x. pair_two c.args.token_set t k l r c.args.a c.args.b c.requires.counts c.requires.around c.requires.tokens (omega arith) old mid new c.in_ok-push_from_left.ensures x)
    c.push_from_right.ensures

pub returns-in_ok-push_from_right : goal.returns-in_ok-push_from_right
returns-in_ok-push_from_right c =
    let t = c.args.t.now in
    let k = c.args.k in
    let l = c.args.l.now in
    let r = c.args.r.now in
    let old = c.args.out.now in
    let mid = c.push_from_right-else-a-b.new.out in
    let new = c.push_from_left-else-a-b.new.out in
    on_ok c.push_from_left-else-a-b.result (Adds place_cmp mid new (FittingPair l r (pos c.args.a))) (Adds place_cmp old new (PairOf c.args.token_set t k l r))
    (λ x. pair_two_back c.args.token_set t k l r c.args.a c.args.b c.requires.counts c.requires.around c.requires.tokens (omega arith) old mid new c.in_ok-push_from_right.ensures x)
    c.push_from_left-else-a-b.ensures
