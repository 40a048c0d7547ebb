use Rattle.fill_doubt.specs.Answers.{AreBetween, PositionsHave}
use Rattle.fill_doubt.specs.Gives.{SubGives}
use Rattle.fill_doubt.proofs.Flags.{on_ok}
use Rattle.fill_doubt.proofs.Gains.{gains_alike, gains_some, some_into}
use Rattle.fill_doubt.proofs.Items.{between_gives, ends_sound, some_between}
use Rattle.fill_doubt.proofs.sets.put_pieces.Goals as goal

pub put_between-requires-clause-ends : goal.put_between-requires-clause-ends
put_between-requires-clause-ends c =
    ends_sound c.args.on.now.arena.now c.args.rights c.args.text.now.text.now (PositionsHave c.find_positions.new.memo.rights) c.in_ok-find_positions.ensures.rights.sound

pub returns-clause-some : goal.returns-clause-some
returns-clause-some c =
    let arena = c.args.on.now.arena.now in
    let t = c.args.text.now.text.now in
    let L = PositionsHave c.find_positions.new.memo.lefts in
    let R = PositionsHave c.find_positions.new.memo.rights in
    on_ok c.put_between.result c.put_between.ensures.gains
    (λ g. some_into _ _ (AreBetween t L R) (SubGives arena c.args.lefts c.args.rights t) (some_between arena c.args.lefts c.args.rights t L R c.in_ok-find_positions.ensures.lefts.sound c.in_ok-find_positions.ensures.rights.sound) (gains_some _ _ (AreBetween t L R) g))

pub returns-clause-all : goal.returns-clause-all
returns-clause-all c =
    let arena = c.args.on.now.arena.now in
    let t = c.args.text.now.text.now in
    let L = PositionsHave c.find_positions.new.memo.lefts in
    let R = PositionsHave c.find_positions.new.memo.rights in
    on_ok c.put_between.result c.put_between.ensures.gains
    (λ g few. gains_alike _ _ (AreBetween t L R) (SubGives arena c.args.lefts c.args.rights t) (between_gives arena c.args.lefts c.args.rights t L R
    (λ o. (c.in_ok-find_positions.ensures.lefts.sound o, c.in_ok-find_positions.ensures.lefts.all few o)) (λ o. (c.in_ok-find_positions.ensures.rights.sound o, c.in_ok-find_positions.ensures.rights.all few o))) g)
