use Rattle.std.proofs.Common.{refl, sym, ◌∙◌, ◌≡◌, ◌≤◌, ◌⊎◌, inl, inr, length, subst, [], ◌∷◌, ◌++◌}
use Rattle.fill_meet.proofs.Lists.{here, same_value}
use Rattle.fill_meet.proofs.Merge.{merged_left, merged_right, merged_both, merged_end, is_after}
use Rattle.fill_meet.proofs.places.common_places.Goals as goal
use Rattle.fill_meet.proofs.places.common_places.Goals.{then-loop-i-test+else-j-ys, else-loop-i-test}

pub loop-i-preserved-in-Less : goal.loop-i-preserved-in-Less
loop-i-preserved-in-Less c =
    merged_left _ _ _ _ _ _ _ (here _ _ _ c.loop-i-test.true c.index-xs-i.is) (here _ _ _ c.if-j-ys.true c.index-ys-j.is) c.loop-i.invariant c.requires.second.rising (sym c.compare.ensures ∙ c.in-Less.is)

pub loop-i-preserved-in-Greater : goal.loop-i-preserved-in-Greater
loop-i-preserved-in-Greater c =
    merged_right _ _ _ _ _ _ _ (here _ _ _ c.loop-i-test.true c.index-xs-i.is) (here _ _ _ c.if-j-ys.true c.index-ys-j.is) c.loop-i.invariant c.requires.first.rising
    (is_after c.index-xs-i.result c.index-ys-j.result (sym c.compare.ensures ∙ c.in-Greater.is))

pub loop-i-preserved : goal.loop-i-preserved
loop-i-preserved c =
    let again = same_value c.args.xs.now c.loop-i.i c.loop-i.i _ _ refl (here _ _ _ c.loop-i-test.true c.index-xs-i-in-Equal.is) (here _ _ _ c.loop-i-test.true c.index-xs-i.is) in
    merged_both _ _ _ _ _ _ _ (here _ _ _ c.loop-i-test.true c.index-xs-i.is) (here _ _ _ c.if-j-ys.true c.index-ys-j.is) c.loop-i.invariant _ c.requires.first.rising (sym c.compare.ensures ∙ c.in-Equal.is)
    (subst (λ p. c.push.new.self ≡ c.loop-i.both ++ p ∷ []) again c.in_ok-push-in-Equal.ensures.ok)

pub returns-clause-both : goal.returns-clause-both
returns-clause-both c =
    let over : (length c.args.xs.now ≤ c.loop-i.i) ⊎ (length c.args.ys.now ≤ c.loop-i.j) = elim c.loop-i-test.branch [
      | then-loop-i-test+else-j-ys w ↦ inr w.if-j-ys.false
      | else-loop-i-test w ↦ inl w.loop-i-test.false
    ] in
    merged_end _ _ _ _ _ over c.loop-i.invariant
