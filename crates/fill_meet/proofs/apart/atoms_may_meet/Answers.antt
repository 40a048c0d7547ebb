use Rattle.fill_arena.specs.Contents.{EachIn}
use Rattle.fill_meet.specs.Meet.{AreApart}
use Rattle.fill_meet.specs.Sets.{AtomIn}
use Rattle.fill_meet.proofs.Lists.{here, all_more, all_end}
use Rattle.fill_meet.proofs.apart.atoms_may_meet.Goals as goal

pub meets_some-requires-clause-first : goal.meets_some-requires-clause-first
meets_some-requires-clause-first c = (c.requires.first.0, c.requires.first.1 c.loop-i.i c.index-xs-i.result (here _ _ _ c.loop-i-test.true c.index-xs-i.is))

pub loop-i-preserved : goal.loop-i-preserved
loop-i-preserved c =
    record {
      verdicts = c.meets_some.ensures.verdicts;
      apart = all_more (λ x. EachIn (AreApart AtomIn c.args.arena.now x) c.args.ys.now) _ _ _ (here _ _ _ c.loop-i-test.true c.index-xs-i.is) c.loop-i.invariant.apart
          (c.meets_some.ensures.apart c.if-meets_some.false);
    }

pub returns-clause-apart : goal.returns-clause-apart
returns-clause-apart c = λ e. all_end (λ x. EachIn (AreApart AtomIn c.args.arena.now x) c.args.ys.now) _ _ c.loop-i-test.false c.loop-i.invariant.apart
