use Rattle.std.proofs.Common.{◌≡◌, length, ◌∙◌, arith}
use Rattle.fill_doubt.specs.Read.{IsReadIn}
use Rattle.fill_doubt.proofs.Cut.{last_at}
use Rattle.fill_doubt.proofs.Kept.{pushed_reads}
use Rattle.fill_doubt.proofs.Maps.{pushed_right}
use Rattle.fill_doubt.proofs.shapes.Shapes.add.Goals as goal

pub returns-clause-stand : goal.returns-clause-stand
returns-clause-stand c = λ entries stand. record {
  each = pushed_right (IsReadIn entries) c.args.self.now.reads.items c.put_read.new.reads.items c.in_ok-read.read c.in_ok-put_read.ensures (c.in_ok-read.ensures.right entries) stand.each;
}

pub returns-clause-kept : goal.returns-clause-kept
returns-clause-kept c = pushed_reads c.args.self.now.reads.items c.put_read.new.reads.items c.in_ok-read.read c.in_ok-put_read.ensures

pub returns-clause-there : goal.returns-clause-there
returns-clause-there c =
    let xs = c.args.self.now.reads in
    let n : c.len-n.result ≡ length xs.items = (let l = xs.ok.0 in let e = c.len-n.ensures in omega arith) in
    (c.in_ok-read.read, last_at xs.items c.put_read.new.reads.items c.in_ok-read.read c.len-n.result c.in_ok-put_read.ensures n, c.in_ok-read.ensures.text ∙ c.in_ok-copy.ensures)
