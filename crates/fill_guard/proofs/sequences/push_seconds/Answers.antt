use Rattle.std.proofs.Common.{◌+◌}
use Rattle.std.proofs.lemmas.Bool.{iff_false}
use Rattle.fill_tokens.specs.declared.token.TheConstants.{TOKEN_COUNT}
use Rattle.fill_guard.proofs.SeqLaws.{seconds_none, seconds_unknown, seconds_more}
use Rattle.fill_guard.proofs.sequences.push_seconds.Goals as goal

pub returns-then-not-is_of : goal.returns-then-not-is_of
returns-then-not-is_of c = seconds_unknown c.args.token_set c.args.first (TOKEN_COUNT + 1) c.args.out.now.items (iff_false c.is_of.ensures c.if-not-is_of.true)

pub loop-i-init : goal.loop-i-init
loop-i-init c = seconds_none c.args.token_set c.args.first c.args.out.now.items

pub loop-i-preserved : goal.loop-i-preserved
loop-i-preserved c =
    seconds_more c.args.token_set c.args.first c.args.out.now.items c.loop-i.out.items c.push_pair.new.out.items (c.loop-i.i + 1) c.token_at.result c.token_at.ensures c.loop-i.invariant
    c.in_ok-push_pair.ensures
