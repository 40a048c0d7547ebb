use Rattle.std.proofs.Common.{◌≡◌, All, rules, subst, sym}
use Rattle.std.specs.Prelude.{IsUtf8}
use Rattle.std.specs.Char.{IsScalar}
use Rattle.std.specs.Str.{chars}
use Rattle.std.proofs.lemmas.Str.{chars_from_encodes}
use Rattle.fill_text.proofs.Scalars.{All-chars}
use Rattle.fill_text.proofs.text.Text.decoded.Goals as goal

pub invariant_of-result : goal.invariant_of-result
invariant_of-result c =
    let e : c.in-Ok-collect.chars.items ≡ chars c.in-Ok.spelled.now = search (rules, chars_from_encodes) in
    subst (All IsScalar) (sym e) (All-chars c.in-Ok.spelled.now (subst IsUtf8 (sym c.in-Ok.ensures.cases.0) c.in-Ok.ensures.cases.1))

pub returns-in-Ok-collect-clause-ok : goal.returns-in-Ok-collect-clause-ok
returns-in-Ok-collect-clause-ok c = search (rules, chars_from_encodes)
