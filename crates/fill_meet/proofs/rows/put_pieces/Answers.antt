use Rattle.std.proofs.Common.{get_or, arith}
use Rattle.std.proofs.lemmas.Option.{slice_get-get_or}
use Rattle.fill_meet.specs.Rows.{IsCovered}
use Rattle.fill_meet.proofs.Grown.{grows_on, grows_same}
use Rattle.fill_meet.proofs.RowLaws.{covered_on, pieces_more, pieces_start}
use Rattle.fill_meet.proofs.rows.put_pieces.Goals as goal

pub loop-k-init : goal.loop-k-init
loop-k-init c =
    record {
      start = c.requires.start;
      verdicts = c.requires.verdicts;
      grown = grows_same c.args.findings.now.rows.numbers.items;
      done = pieces_start c.args.arena.now c.args.ask.index.now (IsCovered c.args.arena.now c.args.findings.now.rows.numbers.items c.args.ask.start c.args.ask.x.now) c.args.numbers.now c.args.begins.start c.args.ends;
    }

pub loop-k-preserved : goal.loop-k-preserved
loop-k-preserved c =
    let inv = c.loop-k.invariant in
    let put = c.in_ok-put_ends.ensures in
    let old = c.loop-k.findings.rows.numbers.items in
    let new = c.put_ends.new.findings.rows.numbers.items in
    let within = c.requires.begins in
    let test = c.loop-k-test.true in
    let at = slice_get-get_or c.args.numbers.now c.loop-k.k 0 (omega arith) in
    let ask = c.args.ask in
    record {
      start = (let a = inv.start in let b = put.grown.long in omega arith);
      verdicts = put.verdicts;
      grown = grows_on c.args.findings.now.rows.numbers.items old new inv.grown put.grown;
      done = pieces_more c.args.arena.now ask.index.now (IsCovered c.args.arena.now old ask.start ask.x.now) (IsCovered c.args.arena.now new ask.start ask.x.now) (covered_on c.args.arena.now old new ask.start ask.x.now put.grown) c.args.numbers.now c.args.begins.start c.loop-k.k
          (get_or c.args.numbers.now c.loop-k.k 0) c.args.ends at put.done inv.done;
    }

pub returns-clause-done : goal.returns-clause-done
returns-clause-done c = let test = c.loop-k-test.false in record { each = λ m n le lt at. c.loop-k.invariant.done.each m n le (omega arith) at }
