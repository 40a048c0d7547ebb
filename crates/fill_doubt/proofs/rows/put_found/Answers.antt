use Rattle.std.proofs.Common.{◌⊎◌, inl, inr, ℕ, List, [], Bool, false, Option, None, Some, refl}
use Rattle.fill_doubt.specs.Answers.{TextsHave}
use Rattle.fill_doubt.specs.Rows.{Find, IsSought, IsText}
use Rattle.fill_doubt.proofs.Covered.{covers_then, gains_covers}
use Rattle.fill_doubt.proofs.Flags.{on_ok}
use Rattle.fill_doubt.proofs.rows.put_found.Goals as goal

pub returns-then-not-look : goal.returns-then-not-look
returns-then-not-look c =
    gains_covers (IsSought c.args.look.now.few) (TextsHave c.args.found.now) (TextsHave c.put_ways.new.found) (Find c.args.look.now [] false c.args.conditions.now) (λ o r. inl c.if-not-look.true) c.in_ok-put_ways.ensures

either_way : (few : Bool) (o : Option (List ℕ)) → IsSought few o ⊎ IsText o
either_way few None = inl (inr refl)
either_way few (Some v) = inr (v, refl)

pub returns : goal.returns
returns c =
    let few = c.args.look.now.few in
    let F = Find c.args.look.now [] false c.args.conditions.now in
    let a = TextsHave c.args.found.now in
    let b = TextsHave c.put_ways.new.found in
    let d = TextsHave c.put_rows.new.found in
    on_ok c.put_rows.result c.put_rows.ensures (λ rows.
    gains_covers (λ o. IsSought few o ⊎ IsText o) a d F (λ o r. either_way few o) (covers_then (IsSought few) IsText a b d F c.in_ok-put_ways.ensures rows))
