use Rattle.std.proofs.Common.{◌≡◌, length, refl, arith}
use Rattle.fill_doubt.specs.declared.sides.Side.{Side}
use Rattle.fill_doubt.proofs.Cut.{last_at}
use Rattle.fill_doubt.proofs.sides.Sides.put.Goals as goal

pub returns-clause-there : goal.returns-clause-there
returns-clause-there c =
    let x : Side = record { seq = c.args.seq.now; positions = c.args.positions } in
    let xs = c.args.self.now.sides in
    let i : c.len-i.result ≡ length xs.items = (let n = xs.ok.0 in let l = c.len-i.ensures in omega arith) in
    (x, last_at xs.items c.push.new.self.items x c.len-i.result c.in_ok-push.ensures.items i, refl)
