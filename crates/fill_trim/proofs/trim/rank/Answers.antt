use Rattle.std.proofs.Common.{◌≡◌, ◌<◌, ◌*◌, ◌/◌, get_or, length, Some, sym, ◌∙◌, arith}
use Rattle.std.proofs.lemmas.Option.{slice_get-get_or}
use Rattle.fill_trim.specs.Marks.{rank}
use Rattle.fill_trim.proofs.trim.rank.Goals as goal

pub bounds-ranks-k : goal.bounds-ranks-k
bounds-ranks-k c = let long = c.requires.ranks.long in omega arith

pub count_on-requires-clause-before : goal.count_on-requires-clause-before
count_on-requires-clause-before c =
    let ranks = c.args.ranks.now in
    let node_marks = c.args.node_marks.now in
    let k = c.args.node / 32 in
    let long = c.requires.ranks.long in
    let lt : c.args.node / 32 < length ranks = omega arith in
    let is : Some (get_or ranks k 0) ≡ Some (rank node_marks (k * 32)) = sym (slice_get-get_or ranks k 0 lt) ∙ c.requires.ranks.each k lt in
    cc
