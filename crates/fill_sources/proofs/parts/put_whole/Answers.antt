use Rattle.std.proofs.Common.{◌≡◌, length, sym, ◌∙◌, ap}
use Rattle.std.proofs.lemmas.Result.{on_ok_weaker}
use Rattle.fill_sources.specs.Origins.{texts_in}
use Rattle.fill_sources.proofs.Origins.{named_text}
use Rattle.fill_sources.proofs.Puts.{puts_whole}
use Rattle.fill_sources.proofs.parts.put_whole.Goals as goal

pub returns : goal.returns
returns c = record {
  adds = on_ok_weaker c.push.result
      (λ is on d t at sources.
      let same = named_text c.args.texts.now.named.items c.args.h.text c.index.result.now c.index.ensures t at in
      let long : length t ≡ c.args.width = ap length (sym same) ∙ (sym c.len.ensures.value ∙ c.if-len-width.false) in
      puts_whole on (texts_in c.args.texts.now) c.args.h c.args.width t at d c.args.sources sources c.args.items.now c.push.new.self long is)
      c.push.ensures.ok;
}
