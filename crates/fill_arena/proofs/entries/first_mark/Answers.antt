use Rattle.std.proofs.Common.{◌≡◌, get_or, sym, subst, arith}
use Rattle.fill_arena.specs.declared.entries.Stored.TheVariants.{Places}
use Rattle.fill_arena.proofs.Pooled.{before_items, before_places, no_places}
use Rattle.fill_arena.proofs.entries.first_mark.Goals as goal

pub returns-in-Places : goal.returns-in-Places
returns-in-Places c = λ n h.
    let stored = c.args.stored.now in let i = c.loop-i.i in
    let s = c.in-Places.field-0 in let m = c.in-Places.before in
    let is : Places s m ≡ get_or stored i (Places s m) = subst (λ k. k ≡ get_or stored i k) c.in-Places.is c.index-stored-i.is in
    c.loop-i.invariant.same m (before_places n stored i s m c.loop-i-test.true (sym is) h)

pub loop-i-preserved : goal.loop-i-preserved
loop-i-preserved c =
    let stored = c.args.stored.now in let i = c.loop-i.i in let k = c.index-stored-i.result in
    let past = c.loop-i.invariant.past in
    record {
      past = omega arith;
      same = λ n h. c.loop-i.invariant.same n (before_items n stored i k c.loop-i-test.true (sym c.index-stored-i.is) (no_places k (λ s m e. c.in_default.not-Places s m e)) h);
    }
