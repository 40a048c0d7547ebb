use Rattle.std.proofs.Common.{◌≡◌, All, Some, nat_eq, subst, rules}
use Rattle.std.specs.HashMap.{get}
use Rattle.std.proofs.lemmas.List.Elements.{All-head, All-tail}
use Rattle.fill_space.proofs.carried.carry_built.Goals as goal

pub loop-row-preserved : goal.loop-row-preserved
loop-row-preserved c =
    let row = c.in-Some.row.now in
    let built = c.in-Some.found.now in
    let left = subst (All (λ e. get nat_eq c.args.built.now.table e.0 ≡ Some e.1)) c.in-Some.ensures.steps c.loop-row.invariant.found in
    record {
      found = All-tail (λ e. get nat_eq c.args.built.now.table e.0 ≡ Some e.1) (row, built) _ left;
      told = λ g before after told renamed.
          c.carry_row.ensures g before after (told.each row built (All-head (λ e. get nat_eq c.args.built.now.table e.0 ≡ Some e.1) (row, built) _ left)) renamed
          (c.loop-row.invariant.told g before after told renamed);
    }

pub loop-row-init : goal.loop-row-init
loop-row-init c = record {
  found = search rules;
  told = λ g before after told renamed. c.new-carried.ensures g after;
}
