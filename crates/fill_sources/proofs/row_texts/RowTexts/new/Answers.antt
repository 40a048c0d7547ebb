use Rattle.fill_sources.specs.Origins.{texts_in}
use Rattle.fill_sources.proofs.Origins.{texts_exact, texts_once}
use Rattle.fill_sources.proofs.row_texts.RowTexts.new.Goals as goal

pub returns : goal.returns
returns c d stand =
    let on = c.args.on.now in
    let t = c.in_ok-texts.texts in
    let are = c.in_ok-texts.ensures in
    record {
      exact = texts_exact on t are;
      once = texts_once on t are;
      texts = are;
      memo = c.new.ensures on (texts_in t) d (c.in_ok-places.ensures d stand);
    }
