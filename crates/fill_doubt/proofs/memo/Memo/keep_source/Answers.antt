use Rattle.std.proofs.Common.{◌↔◌, ℕ, List, Option, nat_eq}
use Rattle.std.specs.HashMap.{get}
use Rattle.fill_doubt.specs.Memo.{SourceAnswers}
use Rattle.fill_doubt.specs.Numbered.{AreNumbered, NumberedHave}
use Rattle.fill_doubt.specs.declared.numbered.NumberedTexts.{NumberedTexts}
use Rattle.fill_doubt.proofs.Maps.{put_right}
use Rattle.fill_doubt.proofs.memo.Memo.keep_source.Goals as goal

pub returns-in-Ok-clause-memo : goal.returns-in-Ok-clause-memo
returns-in-Ok-clause-memo c on memo numbered exact =
    let u = c.in-Ok.ensures.updates in
    let old : ℕ → Option NumberedTexts = (λ q. get nat_eq c.args.self.now.sources q) in
    let new : ℕ → Option NumberedTexts = (λ q. get nat_eq c.insert.new.self q) in
    record {
      sources = put_right old new (λ q f. (o : Option (List ℕ)) → NumberedHave f o ↔ SourceAnswers on q o) c.args.s c.args.found u.1 u.2 memo.sources exact;
      numbers = put_right old new (λ q f. AreNumbered c.args.self.now.texts.items f) c.args.s c.args.found u.1 u.2 memo.numbers numbered;
      last = memo.last;
      parts = memo.parts;
      texts = memo.texts;
      shapes = memo.shapes;
    }
