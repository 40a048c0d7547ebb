use Rattle.std.proofs.Common.{◌<◌, length, subst, arith}
use Rattle.std.proofs.lemmas.Bool.Decides.{nat_tests}
use Rattle.fill_tree.specs.Tree.{end}
use Rattle.fill_object.specs.Wants.{RestAgrees}
use Rattle.fill_object.proofs.Wanting.{end_other, end_value}
use Rattle.fill_object.proofs.wanted.Wanted.is_end.Goals as goal

pub returns-in-Other-clause-wanted : goal.returns-in-Other-clause-wanted
returns-in-Other-clause-wanted c on h k =
    let lt : c.in-Other.from < length c.args.answer.now = grind (arith, nat_tests) in
    end_other on c.args.answer.now c.in-Other.from lt (subst (λ w. RestAgrees on c.args.answer.now w end) c.in-Other.is k)

pub returns-in-Value-clause-wanted : goal.returns-in-Value-clause-wanted
returns-in-Value-clause-wanted c on h k = end_value on c.args.answer.now (subst (λ w. RestAgrees on c.args.answer.now w end) c.in-Value.is k)
