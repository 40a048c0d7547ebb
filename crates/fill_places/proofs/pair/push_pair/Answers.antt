use Rattle.std.proofs.Common.{arith}
use Rattle.fill_places.proofs.PairLaws.{counts_from_marks, around_from}
use Rattle.fill_places.proofs.pair.push_pair.Goals as goal

pub push_counted-requires-clause-around : goal.push_counted-requires-clause-around
push_counted-requires-clause-around c =
    let lm = c.requires.left in
    let rm = c.requires.right in
    around_from c.args.token_set c.args.l.now.seq c.args.r.now.seq (lm.sound c.args.k c.requires.ends).0 (rm.sound c.args.k c.requires.begins).0 c.requires.few.0 c.requires.few.1 (omega arith)

pub push_counted-requires-clause-tokens : goal.push_counted-requires-clause-tokens
push_counted-requires-clause-tokens c = ((c.requires.left.sound c.args.k c.requires.ends).0.tokens, (c.requires.right.sound c.args.k c.requires.begins).0.tokens)

pub push_counted-requires-clause-counts : goal.push_counted-requires-clause-counts
push_counted-requires-clause-counts c =
    counts_from_marks c.args.token_set c.args.t.now c.args.k c.args.l.now.seq c.args.r.now.seq c.args.l.now.at c.args.r.now.at c.count_to-a.result c.count_from-b.result c.len-n.result c.len-n.ensures.value
    c.requires.within c.requires.left c.requires.right c.requires.ends c.requires.begins c.count_to-a.ensures c.count_from-b.ensures
