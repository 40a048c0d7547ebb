use Rattle.std.proofs.Common.{arith, subst, sym}
use Rattle.fill_text.specs.Lists.{Adds}
use Rattle.fill_keys.specs.Keys.{keys_cmp}
use Rattle.fill_keys.specs.Search.{AreSmaller, BeginsMinimalKey}
use Rattle.fill_keys.proofs.SearchLaws.{smaller_known, smaller_more, smaller_all}
use Rattle.fill_keys.proofs.keys.minimal_keys.Goals as goal

pub push_keys-requires-clause-smaller : goal.push_keys-requires-clause-smaller
push_keys-requires-clause-smaller c =
    subst (λ table. AreSmaller c.args.tables.now table c.loop-size.size c.loop-size.keys) (sym c.in_ok-ranked.ensures.same)
    (smaller_known c.args.tables.now c.args.table c.loop-size.size c.loop-size.keys c.loop-size.invariant)

pub loop-size-preserved : goal.loop-size-preserved
loop-size-preserved c =
    smaller_more c.args.tables.now c.args.table c.loop-size.size c.loop-size.keys c.push_keys.new.keys c.loop-size.invariant
    (subst (λ columns. Adds keys_cmp c.loop-size.keys c.push_keys.new.keys (BeginsMinimalKey c.args.tables.now c.args.table c.loop-size.size columns)) c.clear.ensures.items
    (subst (λ table. Adds keys_cmp c.loop-size.keys c.push_keys.new.keys (BeginsMinimalKey c.args.tables.now table c.loop-size.size c.clear.new.self.items)) c.in_ok-ranked.ensures.same c.in_ok-push_keys.ensures.added))

pub returns : goal.returns
returns c = smaller_all c.args.tables.now c.args.table c.loop-size.size c.loop-size.keys (omega arith) c.loop-size.invariant
