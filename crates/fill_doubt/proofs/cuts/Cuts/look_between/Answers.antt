use Rattle.std.proofs.Common.{refl, sym, subst}
use Rattle.std.proofs.lemmas.List.Kept.{AllPairs-from_increasing}
use Rattle.fill_tokens.specs.Span.{Begins, Ends}
use Rattle.fill_doubt.specs.Cuts.{HasAt}
use Rattle.fill_doubt.specs.declared.cuts.Pair.{Pair}
use Rattle.fill_doubt.specs.declared.sides.Sides.{Sides}
use Rattle.fill_doubt.proofs.Cut.{are_cuts, cuts_of, positions_at}
use Rattle.fill_doubt.proofs.cuts.Cuts.look_between.Goals as goal

pub returns-then-is_last-clause-cuts : goal.returns-then-is_last-clause-cuts
returns-then-is_last-clause-cuts c = c.requires.last c.args.left.now c.args.right.now (c.is_last.ensures c.if-is_last.true)

pub reach-requires-clause-set : goal.reach-requires-clause-set
reach-requires-clause-set c =
    (positions_at (λ r k. Begins r c.args.t.now k) c.right_of.new.self.rights c.args.right.now c.in_ok-r.r c.index-2.result.now c.as_slice-starts.result.now c.in_ok-r.ensures.kept.rights c.in_ok-r.ensures.there c.index-2.ensures
    c.as_slice-starts.ensures.value).rising

pub reach-requires-clause-from : goal.reach-requires-clause-from
reach-requires-clause-from c =
    let has = subst (λ (s : Sides). HasAt s c.args.left.now c.in_ok-l.l) (sym c.in_ok-r.ensures.lefts) c.in_ok-l.ensures.there in
    AllPairs-from_increasing c.as_slice-stops.result.now
    (positions_at (λ r k. Ends r c.args.t.now k) c.right_of.new.self.lefts c.args.left.now c.in_ok-l.l c.index.result.now c.as_slice-stops.result.now c.in_ok-r.ensures.kept.lefts has c.index.ensures c.as_slice-stops.ensures.value).rising

pub reach-requires-clause-to : goal.reach-requires-clause-to
reach-requires-clause-to c =
    let has = subst (λ (s : Sides). HasAt s c.args.left.now c.in_ok-l.l) (sym c.in_ok-r.ensures.lefts) c.in_ok-l.ensures.there in
    AllPairs-from_increasing c.as_slice-stops.result.now
    (positions_at (λ r k. Ends r c.args.t.now k) c.right_of.new.self.lefts c.args.left.now c.in_ok-l.l c.index.result.now c.as_slice-stops.result.now c.in_ok-r.ensures.kept.lefts has c.index.ensures c.as_slice-stops.ensures.value).rising

pub returns-clause-kept : goal.returns-clause-kept
returns-clause-kept c =
    let t = c.args.t.now in
    let l = c.args.left.now in
    let r = c.args.right.now in
    let stops = c.as_slice-stops.result.now in
    let starts = c.as_slice-starts.result.now in
    let has = subst (λ (s : Sides). HasAt s l c.in_ok-l.l) (sym c.in_ok-r.ensures.lefts) c.in_ok-l.ensures.there in
    let ends = positions_at (λ q k. Ends q t k) c.right_of.new.self.lefts l c.in_ok-l.l c.index.result.now stops c.in_ok-r.ensures.kept.lefts has c.index.ensures c.as_slice-stops.ensures.value in
    let begins = positions_at (λ q k. Begins q t k) c.right_of.new.self.rights r c.in_ok-r.r c.index-2.result.now starts c.in_ok-r.ensures.kept.rights c.in_ok-r.ensures.there c.index-2.ensures c.as_slice-starts.ensures.value in
    let pair : Pair = record { left = l; right = r } in
    record {
      tokens = c.in_ok-r.ensures.kept.tokens;
      lefts = c.in_ok-r.ensures.kept.lefts;
      rights = c.in_ok-r.ensures.kept.rights;
      last = λ a b h. cuts_of l r t c.reach.new.out.items pair h.0 a b (are_cuts l r t stops starts c.reach.new.out.items ends begins c.in_ok-reach.ensures) refl refl h.1 h.2 h.3;
    }

pub returns-clause-cuts : goal.returns-clause-cuts
returns-clause-cuts c =
    let t = c.args.t.now in
    let l = c.args.left.now in
    let r = c.args.right.now in
    let stops = c.as_slice-stops.result.now in
    let starts = c.as_slice-starts.result.now in
    let has = subst (λ (s : Sides). HasAt s l c.in_ok-l.l) (sym c.in_ok-r.ensures.lefts) c.in_ok-l.ensures.there in
    let ends = positions_at (λ q k. Ends q t k) c.right_of.new.self.lefts l c.in_ok-l.l c.index.result.now stops c.in_ok-r.ensures.kept.lefts has c.index.ensures c.as_slice-stops.ensures.value in
    let begins = positions_at (λ q k. Begins q t k) c.right_of.new.self.rights r c.in_ok-r.r c.index-2.result.now starts c.in_ok-r.ensures.kept.rights c.in_ok-r.ensures.there c.index-2.ensures c.as_slice-starts.ensures.value in
    are_cuts l r t stops starts c.reach.new.out.items ends begins c.in_ok-reach.ensures
