use Rattle.std.proofs.Common.{◌≡◌, Some}
use Rattle.fill_arena.proofs.Scan.{here}
use Rattle.fill_tokens.specs.Value.{HasValue}
use Rattle.fill_tree.specs.Value.{IsValue}
use Rattle.fill_arena.specs.Contents.{SomeIn}
use Rattle.fill_doubt.specs.Answers.{PositionsHave}
use Rattle.fill_doubt.specs.Spots.{IsShaped, OthersHave}
use Rattle.fill_doubt.proofs.Gains.{below_start, below_more, below_end, gains_all}
use Rattle.fill_doubt.proofs.Spotted.{shaped_give, others_stand}
use Rattle.fill_doubt.proofs.spots.Spots.of.Goals as goal

pub loop-i-init : goal.loop-i-init
loop-i-init c = record {
  cuts = c.requires.cuts;
  shaped = below_start (λ p o. IsShaped p × IsValue (HasValue p c.args.w.now) o) c.places-places.result.now (PositionsHave c.new-found.result.shaped);
  others = below_start (λ p o. (o ≡ Some p) × ¬ (IsShaped p)) c.places-places.result.now (OthersHave c.new-found.result);
}

pub loop-i-preserved : goal.loop-i-preserved
loop-i-preserved c =
    let xs = c.places-places.result.now in
    let x = c.index-places-i.result in
    let at = here xs c.loop-i.i x c.loop-i-test.true c.index-places-i.is in
    record {
      cuts = c.in_ok-put.ensures.cuts;
      shaped = below_more (λ p o. IsShaped p × IsValue (HasValue p c.args.w.now) o) xs (PositionsHave c.new-found.result.shaped) (PositionsHave c.loop-i.found.shaped) (PositionsHave c.put.new.self.shaped) c.loop-i.i x at
          c.loop-i.invariant.shaped c.in_ok-put.ensures.shaped;
      others = below_more (λ p o. (o ≡ Some p) × ¬ (IsShaped p)) xs (OthersHave c.new-found.result) (OthersHave c.loop-i.found) (OthersHave c.put.new.self) c.loop-i.i x at c.loop-i.invariant.others c.in_ok-put.ensures.others;
    }

pub returns-clause-spots : goal.returns-clause-spots
returns-clause-spots c =
    let xs = c.places-places.result.now in
    let w = c.args.w.now in
    let none = c.new-found.ensures in
    let shaped = below_end (λ p o. IsShaped p × IsValue (HasValue p w) o) xs (PositionsHave c.new-found.result.shaped) (PositionsHave c.loop-i.found.shaped) c.loop-i.i c.loop-i-test.false c.loop-i.invariant.shaped in
    let others = below_end (λ p o. (o ≡ Some p) × ¬ (IsShaped p)) xs (OthersHave c.new-found.result) (OthersHave c.loop-i.found) c.loop-i.i c.loop-i-test.false c.loop-i.invariant.others in
    record {
      shaped = λ o.
          let all = gains_all (PositionsHave c.new-found.result.shaped) (PositionsHave c.loop-i.found.shaped) (λ q. SomeIn (λ p. IsShaped p × IsValue (HasValue p w) q) xs) none.shaped shaped o in
          let give = shaped_give c.args.arena.now c.args.s xs c.places-places.ensures w o in
          ((λ h. give.0 (all.0 h)), (λ h. all.1 (give.1 h)));
      others = λ o.
          let all = gains_all (OthersHave c.new-found.result) (OthersHave c.loop-i.found) (λ q. SomeIn (λ p. (q ≡ Some p) × ¬ (IsShaped p)) xs) none.others others o in
          let stand = others_stand c.args.arena.now c.args.s xs c.places-places.ensures o in
          ((λ h. stand.0 (all.0 h)), (λ h. all.1 (stand.1 h)));
    }
