use Rattle.std.proofs.Common.{◌≡◌, get_or, subst, arith}
use Rattle.std.proofs.lemmas.Option.{slice_get-get_or}
use Rattle.fill_meet.specs.Ties.{IsInRow, SweepState}
use Rattle.fill_meet.proofs.Sweeps.{row_next, row_set, row_start}
use Rattle.fill_meet.proofs.ties.tie_row.Goals as goal

pub loop-p-init : goal.loop-p-init
loop-p-init c =
    record {
      state = λ e state. row_start e c.args.graphs c.requires.first c.requires.second c.args.k c.args.index.now.labels.of.items c.args.numbers.now c.args.row.start (λ b. ⊥) c.args.sweep.now state;
      room = c.requires.room;
    }

pub loop-p-preserved : goal.loop-p-preserved
loop-p-preserved c =
    let g = c.args.graphs in
    let labels = c.args.index.now.labels.of.items in
    let numbers = c.args.numbers.now in
    let inv = c.loop-p.invariant in
    let row = c.requires.row in
    let test = c.loop-p-test.true in
    let at = slice_get-get_or numbers c.loop-p.p 0 (omega arith) in
    record {
      state = λ e state.
          row_next e g c.requires.first c.requires.second c.args.k labels numbers c.args.row.start c.loop-p.p (get_or numbers c.loop-p.p 0) c.tie_set.new.sweep at
          (c.in_ok-tie_set.ensures.state e numbers c.args.row.start c.loop-p.p (row_set e g c.requires.first c.requires.second c.args.k labels numbers c.args.row.start c.loop-p.p (get_or numbers c.loop-p.p 0) c.loop-p.sweep (inv.state e state)));
      room = c.in_ok-tie_set.ensures.room;
    }

pub returns : goal.returns
returns c =
    record {
      state = λ e state.
          (let end = c.loop-p.auto.p-end in
          let test = c.loop-p-test.false in
          let order = c.requires.order in
          let same : c.loop-p.p ≡ c.args.row.end = omega arith in
          subst (λ p. SweepState e c.args.graphs c.args.k (IsInRow c.args.index.now.labels.of.items c.args.numbers.now c.args.row.start p) c.loop-p.sweep) same (c.loop-p.invariant.state e state));
    }
