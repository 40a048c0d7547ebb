use Rattle.std.proofs.Common.{[], refl, sym, ◌∙◌, inl, inr}
use Rattle.std.proofs.lemmas.Bool.{false≢true}
use Rattle.fill_meet.proofs.Lists.{here, in_empty}
use Rattle.fill_meet.proofs.Merge.{merged_left, merged_right, merged_end, is_after, shared_place}
use Rattle.fill_meet.proofs.apart.share_place.Goals as goal

pub loop-i-preserved-in-Less : goal.loop-i-preserved-in-Less
loop-i-preserved-in-Less c =
    merged_left _ _ _ _ _ _ _ (here _ _ _ c.loop-i-test.true c.index-xs-i.is) (here _ _ _ c.if-j-ys.true c.index-ys-j.is) c.loop-i.invariant c.requires.second.rising (sym c.compare.ensures ∙ c.in-Less.is)

pub loop-i-preserved : goal.loop-i-preserved
loop-i-preserved c =
    merged_right _ _ _ _ _ _ _ (here _ _ _ c.loop-i-test.true c.index-xs-i.is) (here _ _ _ c.if-j-ys.true c.index-ys-j.is) c.loop-i.invariant c.requires.first.rising
    (is_after c.index-xs-i.result c.index-ys-j.result (sym c.compare.ensures ∙ c.in-Greater.is))

pub returns-in-Equal : goal.returns-in-Equal
returns-in-Equal c = (
  λ h. shared_place _ _ _ _ _ _ (here _ _ _ c.loop-i-test.true c.index-xs-i.is) (here _ _ _ c.if-j-ys.true c.index-ys-j.is) (sym c.compare.ensures ∙ c.in-Equal.is),
  λ s. refl,
)

pub returns-else-j-ys : goal.returns-else-j-ys
returns-else-j-ys c = (
  λ h. absurd (false≢true h),
  λ s. absurd (in_empty s.0 ((merged_end c.args.xs.now c.args.ys.now [] c.loop-i.i c.loop-i.j (inr c.if-j-ys.false) c.loop-i.invariant s.0).1 (s.1, s.2))),
)

pub returns-after-loop-i : goal.returns-after-loop-i
returns-after-loop-i c = (
  λ h. absurd (false≢true h),
  λ s. absurd (in_empty s.0 ((merged_end c.args.xs.now c.args.ys.now [] c.loop-i.i c.loop-i.j (inl c.loop-i-test.false) c.loop-i.invariant s.0).1 (s.1, s.2))),
)
