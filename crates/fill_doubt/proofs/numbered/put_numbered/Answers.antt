use Rattle.std.proofs.Common.{refl}
use Rattle.fill_doubt.specs.declared.numbered.Numbered.{Numbered}
use Rattle.fill_doubt.specs.declared.numbered.NumberedTexts.{NumberedTexts}
use Rattle.fill_doubt.proofs.Gains.{have_pushed}
use Rattle.fill_doubt.proofs.Numbers.{numbered_kept, numbered_pushed}
use Rattle.fill_doubt.proofs.numbered.put_numbered.Goals as goal

pub returns-in-Ok-clause-gains : goal.returns-in-Ok-clause-gains
returns-in-Ok-clause-gains c = have_pushed (λ x. x.text.now) c.args.made.now.texts.items _ c.args.made.now.none _ _ c.in-Ok.ensures.items refl

pub returns-in-Ok-clause-numbered : goal.returns-in-Ok-clause-numbered
returns-in-Ok-clause-numbered c = λ are.
    let old = c.args.memo.now.texts.items in
    let texts = c.number_for.new.self.texts.items in
    let x : Numbered = record { text = c.args.text; number = c.in_ok-number.number } in
    let more : NumberedTexts = record { texts = c.push.new.self; none = c.args.made.now.none } in
    numbered_pushed texts c.args.made.now more x c.in-Ok.ensures.items c.in_ok-number.ensures.there (numbered_kept old texts c.args.made.now c.in_ok-number.ensures.kept are)
