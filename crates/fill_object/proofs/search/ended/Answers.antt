use Rattle.std.proofs.Common.{ap, ◌∙◌}
use Rattle.fill_tree.specs.Meaning.{program_tree}
use Rattle.fill_object.specs.Wants.{RestAgrees}
use Rattle.fill_tree.specs.declared.chain.Chain.{Chain}
use Rattle.fill_object.proofs.Others.{end_agrees, end_kept}
use Rattle.fill_object.proofs.search.ended.Goals as goal

pub returns-then-not-is_end : goal.returns-then-not-is_end
returns-then-not-is_end c limit =
    let s = c.args.search.now in
    end_agrees s c.args.node limit (RestAgrees s.on s.answer.now c.args.wanted) (c.is_end.ensures.other s.on c.if-not-is_end.true)

pub returns : goal.returns
returns c limit =
    let s = c.args.search.now in
    let same = c.in_ok-chain.ensures.ok in
    end_kept s c.args.node limit (RestAgrees s.on s.answer.now c.args.wanted) c.in_ok-chain.chain (ap (λ (z : Chain). z.cost) same ∙ c.empty.ensures.cost) (ap (λ (z : Chain). program_tree z.atoms) same ∙ c.empty.ensures.atoms)
    c.if-node-search.false (c.is_end.ensures.wanted s.on c.if-not-is_end.false)
