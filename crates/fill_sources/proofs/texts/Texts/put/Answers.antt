use Rattle.std.proofs.Common.{◌≡◌, ℕ, List, Some, slice_get, subst, sym}
use Rattle.std.proofs.lemmas.Result.{on_ok_weaker}
use Rattle.fill_sources.specs.Origins.{Grown}
use Rattle.fill_sources.specs.declared.texts.Named.{Named}
use Rattle.fill_sources.proofs.Lists.{both_ok}
use Rattle.fill_sources.proofs.Naming.{grown_new, grown_old, numbered_new, numbered_old}
use Rattle.fill_sources.proofs.texts.Texts.put.Goals as goal

there : (c : goal.After-put_origin) → (n : Named) × (slice_get c.args.self.now.named.items c.in-Some.k ≡ Some n) × (n.text.now ≡ c.args.text.now)
there c = c.requires.there c.args.text.now c.in-Some.k (sym c.in-Some.ensures)

pub returns-in-Some-clause-numbered : goal.returns-in-Some-clause-numbered
returns-in-Some-clause-numbered c =
    let n = there c in
    both_ok c.put_origin.result
    (λ named numbers. numbered_old c.args.self.now c.put_origin.new.self c.in-Some.k n.0 n.1 c.args.origin c.requires (named n.0 n.1) numbers)
    c.put_origin.ensures.named c.put_origin.ensures.numbers

pub returns-in-Some-clause-grown : goal.returns-in-Some-clause-grown
returns-in-Some-clause-grown c =
    let n = there c in
    let old = c.args.self.now.named.items in
    let new = c.put_origin.new.self.named.items in
    on_ok_weaker c.put_origin.result
    (λ named.
    subst (λ (w : List ℕ). Grown old new (λ v o. (v ≡ w) × (o ≡ c.args.origin))) n.2
    (subst (λ (l : List Named). Grown old l (λ v o. (v ≡ n.0.text.now) × (o ≡ c.args.origin))) (sym (named n.0 n.1)) (grown_old old c.in-Some.k n.0 n.1 c.args.origin)))
    c.put_origin.ensures.named

pub returns-clause-numbered : goal.returns-clause-numbered
returns-clause-numbered c =
    both_ok c.put_text.result
    (λ named numbers. numbered_new c.args.self.now c.put_text.new.self named.0 c.args.text.now c.args.origin c.requires named.1 named.2 named.3 (sym c.in_default.ensures) numbers)
    c.put_text.ensures.named c.put_text.ensures.numbers

pub returns-clause-grown : goal.returns-clause-grown
returns-clause-grown c =
    on_ok_weaker c.put_text.result
    (λ named. grown_new c.args.self.now.named.items c.put_text.new.self.named.items named.0 c.args.text.now c.args.origin named.1 named.2 named.3)
    c.put_text.ensures.named
