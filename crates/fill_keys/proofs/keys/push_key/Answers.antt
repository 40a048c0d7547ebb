use Rattle.std.proofs.Common.{◌≡◌, ◌++◌, ◌∷◌, [], sym, subst, ◌∙◌}
use Rattle.std.proofs.lemmas.Bool.{false≢true}
use Rattle.fill_text.proofs.ListReads.{on_ok}
use Rattle.fill_text.specs.Lists.{Adds}
use Rattle.fill_keys.specs.Keys.{IsMinimalKey, keys_cmp}
use Rattle.fill_keys.proofs.SearchLaws.{key_none, key_one}
use Rattle.fill_keys.proofs.keys.push_key.Goals as goal

pub returns-then-not-branch : goal.returns-then-not-branch
returns-then-not-branch c = key_none c.args.tables.now c.args.ranked.now.table c.args.columns.now c.args.keys.now (λ m. false≢true (sym c.if-not-branch.true ∙ c.in_ok-is_minimal_key.ensures.1 m))

pub returns : goal.returns
returns c =
    on_ok c.push.result (c.push.new.self ≡ c.args.keys.now ++ c.in_ok-copied.field-0 ∷ [])
    (Adds keys_cmp c.args.keys.now c.push.new.self (λ key. (key ≡ c.args.columns.now) × IsMinimalKey c.args.tables.now c.args.ranked.now.table key))
    (λ e. key_one c.args.tables.now c.args.ranked.now.table c.args.columns.now c.args.keys.now c.push.new.self
    (subst (λ k. c.push.new.self ≡ c.args.keys.now ++ k ∷ []) c.in_ok-copied.ensures e) (c.in_ok-is_minimal_key.ensures.0 c.if-not-branch.false))
    c.push.ensures.ok
