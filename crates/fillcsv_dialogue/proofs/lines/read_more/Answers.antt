use Rattle.std.proofs.Common.{◌≡◌, [], ap, arith, refl, take}
use Rattle.fillcsv_dialogue.proofs.Cutting.{read_none, read_some}
use Rattle.fillcsv_dialogue.proofs.lines.read_more.Goals as goal

pub returns-in-Ok-eq0-clause-reads : goal.returns-in-Ok-eq0-clause-reads
returns-in-Ok-eq0-clause-reads g c =
    let read = c.in-Ok-eq0.ensures.bytes in
    let nothing : take c.in-Ok-eq0.field-0 c.read.new.buf ≡ [] = ap (λ n. take n c.read.new.buf) c.in-Ok-eq0.field-0-test in (
      read_none (g.S.Source.left c.args.source.now) (g.S.Source.left c.read.new.self) c.args.held.now (take c.in-Ok-eq0.field-0 c.read.new.buf) read.0 nothing,
      c.in-Ok-eq0.ensures.given,
      refl,
      read.1 c.in-Ok-eq0.field-0-test (omega arith),
    )

pub returns-in_ok-append-in-Ok-clause-reads : goal.returns-in_ok-append-in-Ok-clause-reads
returns-in_ok-append-in-Ok-clause-reads g c = (
  read_some (g.S.Source.left c.args.source.now) (g.S.Source.left c.read.new.self) c.args.held.now (take c.in-Ok.count c.read.new.buf) c.append.new.self c.in-Ok.ensures.bytes.0 c.in_ok-append-in-Ok.ensures.ok,
  c.in-Ok.ensures.given,
)
