use Rattle.std.proofs.Common.{◌+◌, ◌*◌, ◌<◌, ◌++◌, ◌∷◌, [], length, arith, sym, ◌∙◌, ap}
use Rattle.fill_split.proofs.Zips.{here}
use Rattle.fill_split.proofs.Pairs.{ones_next}
use Rattle.fill_split.proofs.singles.singles.Goals as goal

pub loop-i-preserved : goal.loop-i-preserved
loop-i-preserved g c =
    let paired = c.requires in
    let within = c.loop-i-test.true in
    let one : 2 * c.loop-i.i < length c.args.kept.now = omega arith in
    let two : 2 * c.loop-i.i + 1 < length c.args.kept.now = omega arith in
    let at = here c.args.kept.now (2 * c.loop-i.i) c.index-kept-i.result one c.index-kept-i.is in
    c.in-Ok.ensures.ok ∙ ap (λ l. l ++ c.index-kept-i.result ∷ []) c.loop-i.invariant ∙ sym (ones_next c.args.kept.now c.loop-i.i c.index-kept-i.result two at)
