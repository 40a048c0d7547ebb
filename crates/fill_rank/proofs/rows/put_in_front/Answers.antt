use Rattle.fill_rank.proofs.Put.{rows_in_front}
use Rattle.fill_rank.proofs.rows.put_in_front.Goals as goal

pub returns : goal.returns
returns c = λ cs i is k b are.
    rows_in_front c.args.prices.now cs i is c.args.constant c.args.part c.args.rows (record { any = c.lesser.result; mixed = c.lesser-2.result })
    c.in_ok-from_constant.from_constant c.in_ok-from_part.from_part c.in_ok-part_later.part_later c.in_ok-part_now.part_now
    c.in_ok-from_constant.ensures c.in_ok-from_part.ensures c.in_ok-part_later.ensures c.in_ok-part_now.ensures c.lesser.ensures c.lesser-2.ensures k b are
