use Rattle.std.proofs.lemmas.Bool.{iff_false}
use Rattle.fill_places.proofs.RowLaws.{no_left}
use Rattle.fill_places.proofs.list.push_left.Goals as goal

pub returns-then-not-has : goal.returns-then-not-has
returns-then-not-has c =
    no_left c.args.token_set c.args.t.now c.args.k c.args.l.now.seq c.args.l.now.at c.args.out.now c.requires.left
    (iff_false c.has.ensures c.if-not-has.true)

pub push_row-requires-clause-ends : goal.push_row-requires-clause-ends
push_row-requires-clause-ends c = c.has.ensures.0 c.if-not-has.false
