use Rattle.std.proofs.Common.{◌≡◌, ◌<◌, ◌∙◌, ℕ, Some, get_or, length, ap, sym, arith}
use Rattle.std.proofs.lemmas.Bool.{eqb-true}
use Rattle.fill_split.specs.declared.folds.Fold.{Fold}
use Rattle.fill_split.proofs.Zips.{here}
use Rattle.fill_session.specs.declared.branch.Branch.{Branch}
use Rattle.fill_session.proofs.Lasting.{kept_chosen}
use Rattle.fill_session.proofs.before.program_before.Goals as goal

pub returns-then-eq : goal.returns-then-eq
returns-then-eq c = λ s list have stands.
    let folds = c.args.folds.now in
    let stood = c.args.stood.now in
    let k = c.loop-k.k in
    let f : Fold ℕ = get_or folds k c.index-folds-k.result in
    let x : Branch = get_or stood k c.index-stood-k.result in
    let least = c.min-k-end.ensures in
    let lt = c.loop-k-test.true in
    let in_folds : k < length folds = omega (arith, least, lt) in
    let in_stood : k < length stood = omega (arith, least, lt) in
    let same : f.kept ≡ c.args.space = eqb-true f.kept c.args.space (sym c.eq.ensures ∙ c.if-eq.true) in
    kept_chosen s folds stood k c.args.space f x c.in_ok-copy.field-0 have (here folds k c.index-folds-k.result in_folds c.index-folds-k.is ∙ ap Some c.index-folds-k.is)
    (here stood k c.index-stood-k.result in_stood c.index-stood-k.is ∙ ap Some c.index-stood-k.is) same c.in_ok-copy.ensures list stands
