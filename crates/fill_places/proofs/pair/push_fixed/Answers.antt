use Rattle.std.proofs.Common.{arith, ◌≡◌, ◌+◌, ◌-◌, ℕ, length, subst, pos, negsuc}
use Rattle.fill_tokens.specs.Place.{place_cmp}
use Rattle.fill_text.specs.Lists.{Adds}
use Rattle.fill_places.specs.Wanted.{FittingFixed, FixedOf}
use Rattle.fill_text.proofs.ListReads.{on_ok}
use Rattle.fill_places.proofs.PairLaws.{fixed_two, fixed_two_back}
use Rattle.fill_places.proofs.pair.push_fixed.Goals as goal

pub returns-in_ok-push_fixed_left : goal.returns-in_ok-push_fixed_left
returns-in_ok-push_fixed_left c =
    let t = c.args.t.now in
    let k = c.args.k in
    let b : ℕ = length t - k in
    let e : c.len.result - k + 1 - 1 ≡ b = omega arith in
    let back : k + b ≡ length t = omega arith in
    let old = c.args.out.now in
    let mid = c.push_fixed_left.new.out in
    let new = c.push_fixed_right.new.out in
    on_ok c.push_fixed_right.result (Adds place_cmp mid new (FittingFixed (negsuc (c.len.result - k + 1 - 1)))) (Adds place_cmp old new (FixedOf c.args.token_set t k))
    (λ a. fixed_two c.args.token_set t k b back (omega arith) old mid new c.in_ok-push_fixed_left.ensures (subst (λ (m : ℕ). Adds place_cmp mid new (FittingFixed (negsuc m))) e a))
    c.push_fixed_right.ensures

pub returns-in_ok-push_fixed_right : goal.returns-in_ok-push_fixed_right
returns-in_ok-push_fixed_right c =
    let t = c.args.t.now in
    let k = c.args.k in
    let b : ℕ = length t - k in
    let e : c.len.result - k + 1 - 1 ≡ b = omega arith in
    let back : k + b ≡ length t = omega arith in
    let old = c.args.out.now in
    let mid = c.push_fixed_right-else-k-back.new.out in
    let new = c.push_fixed_left-else-k-back.new.out in
    on_ok c.push_fixed_left-else-k-back.result (Adds place_cmp mid new (FittingFixed (pos k))) (Adds place_cmp old new (FixedOf c.args.token_set t k))
    (λ a. fixed_two_back c.args.token_set t k b back (omega arith) old mid new (subst (λ (m : ℕ). Adds place_cmp old mid (FittingFixed (negsuc m))) e c.in_ok-push_fixed_right.ensures) a)
    c.push_fixed_left-else-k-back.ensures
