use Rattle.std.proofs.Common.{◌≡◌, ℕ, map, nat_eq, not, true, false, ap, refl, sym, subst, ◌∙◌, arith}
use Rattle.std.specs.HashSet.{contains}
use Rattle.std.specs.List.{list_any}
use Rattle.std.proofs.lemmas.Bool.{false≢true}
use Rattle.fill_keys.specs.Ranks.{number_of, rank_in}
use Rattle.fill_keys.proofs.MetLaws.{met_more, met_none, not_false, not_true}
use Rattle.fill_keys.proofs.RankLaws.{key_apart, key_clash}
use Rattle.fill_keys.proofs.ranks.RankedTable.is_key.Goals as goal

pub loop-row-init : goal.loop-row-init
loop-row-init c =
    met_none (λ k. number_of (map (rank_in c.args.self.now.columns.items k) c.args.columns.now)) (λ v. contains nat_eq c.in_ok-numbers_so_far.numbers_so_far v) (λ v. ap (list_any (nat_eq v)) c.in_ok-numbers_so_far.ensures.empty)

pub loop-row-preserved : goal.loop-row-preserved
loop-row-preserved c =
    let number : ℕ → ℕ = λ k. number_of (map (rank_in c.args.self.now.columns.items k) c.args.columns.now) in
    let row = c.loop-row.row in
    let numbers_so_far = c.loop-row.numbers_so_far in
    let added : not (contains nat_eq numbers_so_far c.number.result) ≡ true = sym c.in_ok-put.ensures.told ∙ c.if-not-branch.false in
    let new : contains nat_eq numbers_so_far (number row) ≡ false = subst (λ v. contains nat_eq numbers_so_far v ≡ false) c.number.ensures (not_true (contains nat_eq numbers_so_far c.number.result) added) in
    met_more number row (λ v. contains nat_eq numbers_so_far v) (λ v. contains nat_eq c.put.new.numbers_so_far v) c.loop-row.invariant new (λ v. rw c.number.ensures at (c.in_ok-put.ensures.updates.0 v))

pub returns-then-not-branch : goal.returns-then-not-branch
returns-then-not-branch c = λ tables ranked.
    let row = c.loop-row.row in
    let numbers_so_far = c.loop-row.numbers_so_far in
    let old : not (contains nat_eq numbers_so_far c.number.result) ≡ false = sym c.in_ok-put.ensures.told ∙ c.if-not-branch.true in
    let k = c.loop-row.invariant.seen c.number.result (not_false (contains nat_eq numbers_so_far c.number.result) old) in
    let less = k.1 in (
      (λ t. absurd (false≢true t)),
      (λ d. absurd (key_clash tables c.args.self.now ranked c.args.columns.now c.requires.within k.0 row (omega arith) (omega arith) (λ e. let f : ⊥ = omega arith in f) (k.2 ∙ c.number.ensures) d)),
    )

pub returns : goal.returns
returns c = λ tables ranked. (
  (λ t. key_apart tables c.args.self.now ranked c.args.columns.now c.requires.within (λ j k lj lk e. c.loop-row.invariant.apart j k (omega arith) (omega arith) e)),
  (λ d. refl),
)
