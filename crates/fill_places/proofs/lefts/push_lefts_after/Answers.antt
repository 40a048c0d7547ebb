use Rattle.std.proofs.Common.{arith, ◌≡◌, ◌+◌, ℕ, length, subst}
use Rattle.fill_tokens.specs.declared.token.TheConstants.{TOKEN_COUNT}
use Rattle.fill_places.specs.Sides.{LeftAt}
use Rattle.fill_places.specs.Entries.{AddsEntries, EndsWithOne}
use Rattle.fill_places.proofs.LayerLaws.{ends_none, ends_more}
use Rattle.fill_places.proofs.lefts.push_lefts_after.Goals as goal

pub loop-i-init : goal.loop-i-init
loop-i-init c = ends_none (LeftAt c.args.token_set c.args.t.now) (length c.args.t.now) c.args.e.now.seq c.args.out.now.items

pub loop-i-preserved : goal.loop-i-preserved
loop-i-preserved c =
    ends_more (LeftAt c.args.token_set c.args.t.now) (length c.args.t.now) c.args.e.now.seq (c.loop-i.i + 1) c.token_at.result
    c.args.out.now.items c.loop-i.out.items c.push_left.new.out.items c.token_at.ensures c.loop-i.invariant c.in_ok-push_left.ensures

pub returns : goal.returns
returns c =
    let e : c.loop-i.i + 1 ≡ TOKEN_COUNT + 1 = omega (arith, c.loop-i-test.false) in
    subst (λ (m : ℕ). AddsEntries (LeftAt c.args.token_set c.args.t.now) (length c.args.t.now) c.args.out.now.items c.loop-i.out.items (EndsWithOne c.args.e.now.seq m)) e c.loop-i.invariant
