use Rattle.std.proofs.Common.{◌≡◌, ◌++◌, ◌∷◌, [], ℕ, List, sym, ap, ◌∙◌}
use Rattle.fill_tree.specs.declared.user.Example.{Example}
use Rattle.fill_session.proofs.Rising.{rises}
use Rattle.fill_session.proofs.Spliced.{spliced_with}
use Rattle.fill_session.proofs.Applied.{example, assembled}
use Rattle.fill_session.proofs.examples.copied_with.Goals as goal

pub returns : goal.returns
returns c =
    let xs : List Example = c.args.examples.now in
    let b : ℕ = c.before-2.result in
    let t : ℕ = c.through.result in
    let e : Example = example c.args.row c.args.text.now in
    let put : c.push.new.self ≡ c.push_copies.new.to ++ e ∷ [] =
    c.in_ok-push.ensures.ok ∙ ap (λ (text : List ℕ). c.push_copies.new.to ++ example c.args.row text ∷ []) c.in_ok-copy.ensures in
    assembled c.in_ok-made.made c.push_copies.new.to c.push.new.self c.push_copies-2.new.to xs b t e c.in_ok-made.ensures c.in_ok-push_copies.ensures put c.in_ok-push_copies-2.ensures
    ∙ rw (c.before-2.ensures.count, c.through.ensures.count) (sym (spliced_with e xs (rises xs c.requires)))
