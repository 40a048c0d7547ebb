use Rattle.std.proofs.Common.{◌∙◌, sym}
use Rattle.std.proofs.lemmas.Result.{IfOk-weaker}
use Rattle.fillcsv_run.proofs.Nears.{like_none, like_text}
use Rattle.fillcsv_run.proofs.near.like.Goals as goal

pub returns-in-Some : goal.returns-in-Some
returns-in-Some c = IfOk-weaker c.if_close.result _ _ (λ found h. h ∙ sym (like_text c.args.word.now c.args.name.now c.as_text.result c.as_text.ensures c.in-Some.name c.in-Some.is)) c.if_close.ensures

pub returns-in-None : goal.returns-in-None
returns-in-None c = sym (like_none c.args.word.now c.args.name.now c.as_text.result c.as_text.ensures c.in-None.is)
