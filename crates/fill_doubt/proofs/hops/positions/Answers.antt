use Rattle.std.proofs.Common.{◌≡◌, arith}
use Rattle.fill_doubt.proofs.Hopped.{positions_all, positions_more, positions_start}
use Rattle.fill_doubt.proofs.hops.positions.Goals as goal

pub loop-k-init : goal.loop-k-init
loop-k-init c = record { within = omega arith; positions = positions_start _ c.new-ks.ensures.items }

pub loop-k-preserved : goal.loop-k-preserved
loop-k-preserved c = record {
  within = (let t = c.loop-k-test.true in omega arith);
  positions = positions_more c.loop-k.k c.loop-k.ks.items c.push_number.new.numbers.items c.in_ok-push_number.ensures c.loop-k.invariant.positions;
}

pub returns : goal.returns
returns c =
    let e : c.loop-k.k ≡ c.args.n = (let a = c.loop-k.invariant.within in let t = c.loop-k-test.false in omega arith) in
    positions_all c.args.n c.loop-k.k c.loop-k.ks.items c.push_number-2.new.numbers.items e c.in_ok-push_number-2.ensures c.loop-k.invariant.positions
