use Rattle.std.proofs.Common.{sym, ◌∙◌, subst}
use Rattle.fill_spans.specs.Read.{AreRead}
use Rattle.fill_spans.proofs.RunLaws.{read_out, read_in, read_on, read_end}
use Rattle.fill_spans.proofs.runs.step.Goals as goal

pub returns-in-None-false : goal.returns-in-None-false
returns-in-None-false c = λ p t lt is r.
    let xs = c.args.pieces.now.starts.items in
    let ys = c.args.pieces.now.ends.items in
    read_out p t c.args.i xs ys (sym is ∙ c.in-None-false.is-1) (subst (AreRead p t c.args.i xs ys) c.in-None-false.is-0 r)

pub returns-in-None-true : goal.returns-in-None-true
returns-in-None-true c = λ p t lt is r.
    let xs = c.args.pieces.now.starts.items in
    let ys = c.args.pieces.now.ends.items in
    read_in p t c.args.i xs ys (sym is ∙ c.in-None-true.is-1) (subst (AreRead p t c.args.i xs ys) c.in-None-true.is-0 r)

pub returns-in-Some-true : goal.returns-in-Some-true
returns-in-Some-true c = λ p t lt is r.
    let xs = c.args.pieces.now.starts.items in
    let ys = c.args.pieces.now.ends.items in
    read_on p t c.args.i c.in-Some-true.start xs ys lt (sym is ∙ c.in-Some-true.is-1) (subst (AreRead p t c.args.i xs ys) c.in-Some-true.is-0 r)

pub returns-in_ok-put-in-Some-false : goal.returns-in_ok-put-in-Some-false
returns-in_ok-put-in-Some-false c = λ p t lt is r.
    let xs = c.args.pieces.now.starts.items in
    let ys = c.args.pieces.now.ends.items in
    let put = c.in_ok-put-in-Some-false.ensures in
    read_end p t c.args.i c.in-Some-false.start xs ys c.put.new.pieces.starts.items c.put.new.pieces.ends.items lt (sym is ∙ c.in-Some-false.is-1) put.0 put.1
    (subst (AreRead p t c.args.i xs ys) c.in-Some-false.is-0 r)
