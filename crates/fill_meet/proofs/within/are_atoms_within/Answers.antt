use Rattle.std.proofs.Common.{refl}
use Rattle.fill_arena.specs.Contents.{SomeIn}
use Rattle.fill_arena.specs.declared.entry.Entry.TheVariants.{Atoms}
use Rattle.fill_meet.specs.Sets.{IsItemWithin}
use Rattle.fill_meet.proofs.Lists.{here, all_more, all_end}
use Rattle.fill_meet.proofs.Listed.{atoms_within_met}
use Rattle.fill_meet.proofs.Selves.{atoms_self}
use Rattle.fill_meet.proofs.within.are_atoms_within.Goals as goal

pub is_in_some-requires-clause-first : goal.is_in_some-requires-clause-first
is_in_some-requires-clause-first c = (
  c.args.s,
  (c.keeps_made.ensures c.args.s (Atoms c.atoms-xs.result.now) c.atoms-xs.ensures).each c.loop-i.i c.index-xs-i.result (here _ _ _ c.loop-i-test.true c.index-xs-i.is),
)

pub is_in_some-requires-clause-second : goal.is_in_some-requires-clause-second
is_in_some-requires-clause-second c = (c.args.t, (c.keeps_made.ensures c.args.t (Atoms c.atoms-ys.result.now) c.atoms-ys.ensures).each)

pub loop-i-preserved : goal.loop-i-preserved
loop-i-preserved c =
    record {
      memo = c.is_in_some.ensures.memo;
      within = all_more (λ x. SomeIn (IsItemWithin c.args.arena.now x) c.atoms-ys.result.now) _ _ _ (here _ _ _ c.loop-i-test.true c.index-xs-i.is) c.loop-i.invariant.within
          (c.is_in_some.ensures.within c.if-not-is_in_some.false);
    }

pub returns-clause-within : goal.returns-clause-within
returns-clause-within c = λ e.
    atoms_within_met c.args.arena.now c.args.s c.args.t _ _ c.atoms-xs.ensures c.atoms-ys.ensures (atoms_self c.args.arena.now c.keeps_made.ensures c.args.s c.args.s refl c.requires.first)
    (all_end (λ x. SomeIn (IsItemWithin c.args.arena.now x) c.atoms-ys.result.now) _ _ c.loop-i-test.false c.loop-i.invariant.within)
