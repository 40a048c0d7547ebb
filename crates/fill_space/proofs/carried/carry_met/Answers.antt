use Rattle.std.proofs.Common.{◌≡◌, All, Some, subst}
use Rattle.std.specs.HashMap.{get}
use Rattle.std.proofs.lemmas.List.Elements.{All-head, All-tail}
use Rattle.fill_meet.specs.Memory.{pair_eq}
use Rattle.fill_space.proofs.carried.carry_met.Goals as goal

pub loop-pair-preserved : goal.loop-pair-preserved
loop-pair-preserved c =
    let pair = c.in-Some.pair.now in
    let made = c.in-Some.made.now in
    let left = subst (All (λ e. get pair_eq c.args.met.now.table e.0 ≡ Some e.1)) c.in-Some.ensures.steps c.loop-pair.invariant.found in
    record {
      found = All-tail (λ e. get pair_eq c.args.met.now.table e.0 ≡ Some e.1) (pair, made) _ left;
      told = λ before after told renamed.
          c.carry_pair.ensures before after (told.each (pair.0, pair.1) made (All-head (λ e. get pair_eq c.args.met.now.table e.0 ≡ Some e.1) (pair, made) _ left)) renamed
          (c.loop-pair.invariant.told before after told renamed);
    }
