use Rattle.std.proofs.Common.{arith, ◌≡◌, ◌+◌, ℕ, length, subst}
use Rattle.fill_tokens.specs.declared.token.TheConstants.{TOKEN_COUNT}
use Rattle.fill_places.specs.Sides.{RightAt}
use Rattle.fill_places.specs.Entries.{AddsEntries, BeginsWithAny}
use Rattle.fill_places.proofs.EntryLaws.{grows_all}
use Rattle.fill_places.proofs.LayerLaws.{begins_more, next_rights}
use Rattle.fill_places.proofs.rights.longer_rights.Goals as goal

pub loop-i-preserved : goal.loop-i-preserved
loop-i-preserved c =
    begins_more (RightAt c.args.token_set c.args.t.now) (length c.args.t.now) c.args.layer.now c.args.j (c.loop-i.i + 1) c.token_at.result
    c.in_ok-out.out.items c.loop-i.out.items c.push_rights_behind.new.out.items c.requires.layer c.token_at.ensures c.loop-i.invariant c.in_ok-push_rights_behind.ensures

pub returns : goal.returns
returns c =
    let e : c.loop-i.i + 1 ≡ TOKEN_COUNT + 1 = omega (arith, c.loop-i-test.false) in
    let all = subst (λ (m : ℕ). AddsEntries (RightAt c.args.token_set c.args.t.now) (length c.args.t.now) c.in_ok-out.out.items c.loop-i.out.items (BeginsWithAny c.args.layer.now m)) e c.loop-i.invariant in
    next_rights c.args.token_set c.args.t.now (length c.args.t.now) c.args.layer.now c.args.j c.loop-i.out.items c.requires.layer
    (grows_all (RightAt c.args.token_set c.args.t.now) (length c.args.t.now) (BeginsWithAny c.args.layer.now (TOKEN_COUNT + 1)) c.in_ok-out.out.items c.loop-i.out.items c.in_ok-out.ensures.items all)
