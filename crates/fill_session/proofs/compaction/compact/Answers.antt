use Rattle.std.proofs.Common.{◌≡◌, ℕ, List, ◌++◌, length, sym, ap, ◌∙◌, subst, arith}
use Rattle.std.proofs.lemmas.List.Elements.{All-append}
use Rattle.std.specs.Prelude.{All}
use Rattle.fill_split.specs.Renewal.{IsRenewed}
use Rattle.fill_split.specs.Standing.{kept_of}
use Rattle.fill_tree.specs.declared.user.Example.{Example}
use Rattle.fill_space.specs.Spaces.{SpaceStands}
use Rattle.fill_space.proofs.Compacted.{lent_back}
use Rattle.fill_session.specs.Renewed.{all_moves, spaces_of}
use Rattle.fill_session.specs.declared.present.Present.{Present}
use Rattle.fill_session.proofs.Compacting.{compact_held, each_at, same_fits, same_weights}
use Rattle.fill_session.proofs.Replaced.{all_held, folds_live, parted, room_for, seen_stays, states_live}
use Rattle.fill_session.proofs.compaction.compact.Goals as goal

abbrev kept : Present → List ℕ
kept p = kept_of p.folds

pub compact-requires : goal.compact-requires
compact-requires c =
    let p = c.args.present.now in
    let states = all_moves c.args.history.now in
    let a = c.args.spaces.now in
    let same : c.as_mut_slice.result.now ≡ kept p ++ spaces_of kept states = c.as_mut_slice.ensures.value ∙ c.into_vec-live.ensures ∙ c.in_ok-live_spaces.ensures in
    each_at (λ k. (l : List Example) × SpaceStands a k l) c.as_mut_slice.result.now
    (subst (λ (v : List ℕ). All (λ k. (l : List Example) × SpaceStands a k l) v) (sym same)
    (All-append (λ k. (l : List Example) × SpaceStands a k l) (kept p) (spaces_of kept states) (folds_live a p.examples p.folds (c.requires.held).stand)
    (states_live (λ (q : Present). q.folds) (λ (q : Present). q.examples) (λ (q : Present). q.branches) a states c.requires.history)))

pub split_at-requires : goal.split_at-requires
split_at-requires c =
    let p = c.args.present.now in
    let live = c.into_vec-live.result in
    let lent = c.as_mut_slice.result.now in
    let new = c.compact.new.live in
    let same = c.as_mut_slice.ensures.value ∙ c.into_vec-live.ensures ∙ c.in_ok-live_spaces.ensures in
    let put : c.as_slice.result.now ≡ new =
    c.as_slice.ensures.value ∙ lent_back live.items lent new live.len (let len = live.ok.0 in omega arith) c.as_mut_slice.ensures.value c.in_ok-compact.ensures.length in
    room_for (kept p) (spaces_of kept (all_moves c.args.history.now)) lent new c.as_slice.result.now c.kept.result.now same c.in_ok-compact.ensures.length put c.kept.ensures.kept

pub renew-requires : goal.renew-requires
renew-requires c = c.split_at.ensures.front_len ∙ ap length c.kept.ensures.kept

pub renew_states-requires : goal.renew_states-requires
renew_states-requires c =
    let p = c.args.present.now in
    let states = all_moves c.args.history.now in
    let a = c.args.spaces.now in
    let b = c.compact.new.self in
    let live = c.into_vec-live.result in
    let lent = c.as_mut_slice.result.now in
    let new = c.compact.new.live in
    let same = c.as_mut_slice.ensures.value ∙ c.into_vec-live.ensures ∙ c.in_ok-live_spaces.ensures in
    let put : c.as_slice.result.now ≡ new =
    c.as_slice.ensures.value ∙ lent_back live.items lent new live.len (let len = live.ok.0 in omega arith) c.as_mut_slice.ensures.value c.in_ok-compact.ensures.length in
    let parts = parted a b (kept p) (spaces_of kept states) lent new c.as_slice.result.now c.split_at.result.0.now c.split_at.result.1.now (length c.kept.result.now) same c.in_ok-compact.ensures.stand put
    (ap length c.kept.ensures.kept) c.split_at.ensures.front c.split_at.ensures.back c.split_at.ensures.front_len in
    parts.rest

pub returns-clause-held : goal.returns-clause-held
returns-clause-held c =
    let p = c.args.present.now in
    let states = all_moves c.args.history.now in
    let a = c.args.spaces.now in
    let b = c.compact.new.self in
    let live = c.into_vec-live.result in
    let lent = c.as_mut_slice.result.now in
    let new = c.compact.new.live in
    let same = c.as_mut_slice.ensures.value ∙ c.into_vec-live.ensures ∙ c.in_ok-live_spaces.ensures in
    let put : c.as_slice.result.now ≡ new =
    c.as_slice.ensures.value ∙ lent_back live.items lent new live.len (let len = live.ok.0 in omega arith) c.as_mut_slice.ensures.value c.in_ok-compact.ensures.length in
    let parts = parted a b (kept p) (spaces_of kept states) lent new c.as_slice.result.now c.split_at.result.0.now c.split_at.result.1.now (length c.kept.result.now) same c.in_ok-compact.ensures.stand put
    (ap length c.kept.ensures.kept) c.split_at.ensures.front c.split_at.ensures.back c.split_at.ensures.front_len in
    let is : IsRenewed p.folds c.split_at.result.0.now c.renew.new.self = record { rule = c.renew.ensures.rule; kept = c.renew.ensures.kept; places = c.renew.ensures.places; branches = c.renew.ensures.branches } in
    compact_held a b p.examples p.folds c.renew.new.self p.branches c.compact.ensures.ground c.renew.ensures.rule
    (c.renewed_folds_stand.ensures a b p.examples c.split_at.result.0.now p.folds c.renew.new.self
    (record { fits = same_fits a.ground b.ground c.compact.ensures.ground; weight = same_weights a.ground b.ground c.compact.ensures.ground }) parts.mine is (c.requires.held).stand)
    (c.requires.held)

pub returns-clause-history : goal.returns-clause-history
returns-clause-history c =
    let p = c.args.present.now in
    let states = all_moves c.args.history.now in
    let a = c.args.spaces.now in
    let b = c.compact.new.self in
    let live = c.into_vec-live.result in
    let lent = c.as_mut_slice.result.now in
    let new = c.compact.new.live in
    let same = c.as_mut_slice.ensures.value ∙ c.into_vec-live.ensures ∙ c.in_ok-live_spaces.ensures in
    let put : c.as_slice.result.now ≡ new =
    c.as_slice.ensures.value ∙ lent_back live.items lent new live.len (let len = live.ok.0 in omega arith) c.as_mut_slice.ensures.value c.in_ok-compact.ensures.length in
    let parts = parted a b (kept p) (spaces_of kept states) lent new c.as_slice.result.now c.split_at.result.0.now c.split_at.result.1.now (length c.kept.result.now) same c.in_ok-compact.ensures.stand put
    (ap length c.kept.ensures.kept) c.split_at.ensures.front c.split_at.ensures.back c.split_at.ensures.front_len in
    all_held (λ (q : Present). q.folds) (λ (q : Present). q.examples) (λ (q : Present). q.branches) a b c.compact.ensures.ground
    (λ xs ks f g zip is stand. c.renewed_folds_stand.ensures a b xs ks f g
    (record { fits = same_fits a.ground b.ground c.compact.ensures.ground; weight = same_weights a.ground b.ground c.compact.ensures.ground }) zip is stand)
    states c.split_at.result.1.now (all_moves c.renew_states.new.history) c.renew_states.ensures.replaced parts.theirs c.requires.history

pub returns-clause-seen : goal.returns-clause-seen
returns-clause-seen c =
    seen_stays (λ (q : Present). q.folds) (λ (q : Present). q.examples) (λ (q : Present). q.branches) c.args.history.now c.renew_states.new.history c.split_at.result.1.now
    c.renew_states.ensures.past c.renew_states.ensures.replaced
