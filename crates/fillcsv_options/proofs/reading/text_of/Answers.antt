use Rattle.std.proofs.Common.{ap, refl, List, [], ℕ, Option, Some, None, option_map, ◌≡◌, ◌∙◌, unwrap_or}
use Rattle.std.specs.Borrow.{Bor}
use Rattle.std.proofs.lemmas.Result.{IfOk-weaker}
use Rattle.fillcsv_options.proofs.reading.text_of.Goals as goal

now_of : (o : Option (Bor (List ℕ))) (d : Bor (List ℕ)) → d.now ≡ [] → (unwrap_or o d).now ≡ unwrap_or (option_map (λ v. v.now) o) []
now_of None d e = e
now_of (Some v) d e = refl

pub returns : goal.returns
returns c = IfOk-weaker c.from_str.result _ _
    (λ t h. h ∙ (ap (λ v. v.now) c.unwrap_or.ensures ∙ (now_of c.value_of.result _ refl ∙ ap (λ o. unwrap_or o []) c.value_of.ensures))) c.from_str.ensures.ok
