use Rattle.std.proofs.Common.{List, ℕ, length, ap, sym, subst, ◌∙◌}
use Rattle.fill_spans.specs.Pieces.{Rises}
use Rattle.fill_doubt.specs.Hops.{AreReached}
use Rattle.fill_doubt.proofs.Sought.{more_ends, pieces_at}
use Rattle.fill_doubt.proofs.tokens.Tokens.ends_after.Goals as goal

pub reach-requires-clause-paired : goal.reach-requires-clause-paired
reach-requires-clause-paired c =
    let x = c.index.result.now in
    let pieces = pieces_at c.args.t.now c.place_of.new.self c.args.token c.in_ok-i.i x c.in_ok-i.ensures.kept c.in_ok-i.ensures.there c.index.ensures in
    ap length c.as_slice.ensures.value ∙ pieces.paired ∙ sym (ap length c.as_slice-2.ensures.value)

pub reach-requires-clause-from : goal.reach-requires-clause-from
reach-requires-clause-from c =
    let x = c.index.result.now in
    let pieces = pieces_at c.args.t.now c.place_of.new.self c.args.token c.in_ok-i.i x c.in_ok-i.ensures.kept c.in_ok-i.ensures.there c.index.ensures in
    subst (λ (xs : List ℕ). Rises xs) (sym c.as_slice.ensures.value) pieces.starts_rise

pub reach-requires-clause-to : goal.reach-requires-clause-to
reach-requires-clause-to c =
    let x = c.index.result.now in
    let pieces = pieces_at c.args.t.now c.place_of.new.self c.args.token c.in_ok-i.i x c.in_ok-i.ensures.kept c.in_ok-i.ensures.there c.index.ensures in
    subst (λ (xs : List ℕ). Rises xs) (sym c.as_slice-2.ensures.value) pieces.ends_rise

pub returns-clause-ends : goal.returns-clause-ends
returns-clause-ends c =
    let t = c.args.t.now in
    let x = c.index.result.now in
    let set = c.args.stops.now in
    let out = c.reach.new.out.items in
    let pieces = pieces_at t c.place_of.new.self c.args.token c.in_ok-i.i x c.in_ok-i.ensures.kept c.in_ok-i.ensures.there c.index.ensures in
    let first = subst (λ (xs : List ℕ). AreReached set xs c.as_slice-2.result.now out) c.as_slice.ensures.value c.in_ok-reach.ensures in
    let both = subst (λ (ys : List ℕ). AreReached set x.pieces.starts.items ys out) c.as_slice-2.ensures.value first in
    λ r are. more_ends c.args.token t x.pieces.starts.items x.pieces.ends.items pieces r set out are both
