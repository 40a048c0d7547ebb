use Rattle.std.proofs.Common.{◌≤◌, arith, mul-le-mul_right}
use Rattle.fill_tokens.proofs.prices.steps_cost.Goals as goal

pub returns-clause-few : goal.returns-clause-few
returns-clause-few c =
    let most : c.args.step ≤ 65535 = omega arith in
    let steps = mul-le-mul_right c.args.passed most in
    omega arith
