use Rattle.std.proofs.Common.{sym, ◌∙◌}
use Rattle.fill_arena.specs.declared.entry.Entry.TheVariants.{Atoms}
use Rattle.fill_arena.proofs.Lists.{extends_on, extends_same}
use Rattle.fill_meet.proofs.GuideLaws.{guide_stays}
use Rattle.fill_meet.proofs.ItemPairs.{has_item, paired_apart, paired_met, paired_start}
use Rattle.fill_meet.proofs.Memories.{right_stays}
use Rattle.fill_meet.proofs.makes.make_guided.Goals as goal

pub loop-place-init : goal.loop-place-init
loop-place-init c =
    record {
      extends = extends_same c.args.arena.now;
      memo = c.requires.memo;
      guide = c.requires.guide;
      paired = paired_start c.args.arena.now c.keeps_made.ensures c.args.s c.args.t c.requires.first.0 c.requires.second.0 _ c.requires.first.1 c.requires.second.1 c.in_ok-zs.ensures;
    }

pub make_row-requires-clause-task : goal.make_row-requires-clause-task
make_row-requires-clause-task c =
    let inv = c.loop-place.invariant in
    let xs = c.atoms-place-end.result.now in
    record {
      guide = inv.guide;
      item = has_item c.loop-place.arena c.args.s c.loop-place.place xs (inv.extends c.args.s (Atoms xs) c.atoms-place-end.ensures) c.loop-place-test.true;
      number = c.in-Some.ensures;
    }

pub loop-place-preserved : goal.loop-place-preserved
loop-place-preserved c =
    let inv = c.loop-place.invariant in
    let o = c.make_row.ensures.extends in
    let made = c.in_ok-make_row.ensures in
    record {
      extends = extends_on _ _ _ inv.extends o;
      memo = made.memo;
      guide = guide_stays c.loop-place.arena c.make_row.new.arena o c.args.guide.now inv.guide;
      paired = made.made;
    }

pub returns-then-len-eq0-clause-met : goal.returns-then-len-eq0-clause-met
returns-then-len-eq0-clause-met c =
    let inv = c.loop-place.invariant in
    let xs = c.atoms-place-end.result.now in
    paired_apart c.loop-place.arena c.args.s c.args.t c.loop-place.place xs _ (inv.extends c.args.s (Atoms xs) c.atoms-place-end.ensures) c.loop-place-test.false inv.paired (sym c.len.ensures ∙ c.if-len-eq0.true)

pub returns-clause-memo : goal.returns-clause-memo
returns-clause-memo c = right_stays _ _ c.in_ok-intern_atoms.ensures.extends _ c.loop-place.invariant.memo

pub returns-clause-met : goal.returns-clause-met
returns-clause-met c =
    let inv = c.loop-place.invariant in
    let xs = c.atoms-place-end.result.now in
    paired_met c.loop-place.arena c.args.s c.args.t c.loop-place.place xs _ (inv.extends c.args.s (Atoms xs) c.atoms-place-end.ensures) c.loop-place-test.false inv.paired c.intern_atoms.new.self _
    c.in_ok-intern_atoms.ensures.extends c.in_ok-intern_atoms.ensures.ok (λ e. c.if-len-eq0.false (c.len.ensures ∙ e))
