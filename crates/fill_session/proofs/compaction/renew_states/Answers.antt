use Rattle.std.proofs.Common.{◌≡◌, ◌≤◌, ◌++◌, ◌∙◌, List, ℕ, ap, length, refl, subst, sym, take}
use Rattle.std.proofs.lemmas.List.{take-append-drop}
use Rattle.fill_split.specs.Standing.{kept_of}
use Rattle.fill_session.specs.Renewed.{AreRenewed}
use Rattle.fill_session.specs.declared.present.Present.{Present}
use Rattle.fill_session.proofs.Renewing.{replace_end, replace_one, replace_room}
use Rattle.fill_session.proofs.compaction.renew_states.Goals as goal

abbrev by_renewal : Present → List ℕ → Present → Type 0
by_renewal p own q = AreRenewed p.folds own q.folds × (q.examples ≡ p.examples) × (q.branches ≡ p.branches)

pub split_at-requires : goal.split_at-requires
split_at-requires c =
    let room = replace_room by_renewal (λ (p : Present). kept_of p.folds) c.args.history.now c.loop-i.history c.args.spaces.now c.loop-i.left.now c.loop-i.i
    c.state_mut-state.result.now c.loop-i.invariant c.state_mut-state.ensures.value in
    subst (λ (l : List ℕ). length l ≤ length c.loop-i.left.now) (sym c.kept.ensures.kept) room

pub loop-i-preserved : goal.loop-i-preserved
loop-i-preserved c =
    let s = c.state_mut-state.result.now in
    let own = c.split_at.result.0.now in
    let rest = c.split_at.result.1.now in
    let left = c.loop-i.left.now in
    let n = length c.kept.result.now in
    let long : length own ≡ length (kept_of s.folds) = c.split_at.ensures.front_len ∙ ap length c.kept.ensures.kept in
    let parts : left ≡ own ++ rest = sym (ap (λ l. l ++ rest) c.split_at.ensures.front ∙ ap (λ l. take n left ++ l) c.split_at.ensures.back ∙ take-append-drop n left) in
    replace_one by_renewal (λ (p : Present). kept_of p.folds) c.args.history.now c.loop-i.history c.args.spaces.now left c.loop-i.i
    s (record { examples = s.examples; folds = c.renew.new.self; branches = s.branches }) own rest c.loop-i.invariant c.state_mut-state.ensures.value (
      record {
        long = long;
        renewed = record { rule = c.renew.ensures.rule; kept = c.renew.ensures.kept; places = c.renew.ensures.places; branches = c.renew.ensures.branches };
      },
      refl,
      refl,
    ) parts long

pub returns-clause-replaced : goal.returns-clause-replaced
returns-clause-replaced c =
    let end = subst (λ n. n ≤ c.loop-i.i) c.len-i-end.ensures.count c.loop-i-test.false in
    replace_end by_renewal (λ (p : Present). kept_of p.folds) c.args.history.now c.loop-i.history c.args.spaces.now c.loop-i.left.now c.loop-i.i c.loop-i.invariant end
