use Rattle.std.proofs.Common.{◌≡◌, ◌-◌, ◌<◌, length, drop, List, sym, ap, subst, ◌∙◌, arith}
use Rattle.fill_arena.proofs.Scan.{here}
use Rattle.fill_doubt.specs.Memo.{EdgeAnswers}
use Rattle.std.proofs.Common.{◌+◌, Bool}
use Rattle.fill_doubt.specs.Walks.{Follows}
use Rattle.fill_doubt.proofs.Flags.{fine_on, written}
use Rattle.fill_doubt.proofs.Marks.{AreMarks, marked_is, marks_start, marks_more, marks_end}
use Rattle.fill_doubt.proofs.valued.has_value.Goals as goal

pub loop-i-init : goal.loop-i-init
loop-i-init c =
    let h = c.in_ok-marks.ensures in
    record { memo = c.requires.memo; long = h.long; marks = marks_start (EdgeAnswers c.args.on.now) c.args.edges.now c.in_ok-marks.marks.items h.first h.others }

pub follow-requires : goal.follow-requires
follow-requires c =
    let x = c.index-edges-i.result in
    let at = here c.args.edges.now c.loop-i.i x c.loop-i-test.true c.index-edges-i.is in
    let each = c.requires.edges.1.graph.each c.loop-i.i x at in
    let up = each.onward in
    let w = each.within in
    let size = ap length c.as_mut_slice.ensures.value in
    let long = c.loop-i.invariant.long in
    record { atoms = each.atoms.0; from = omega arith; to = omega arith; row = c.requires.row; memo = c.loop-i.invariant.memo }

pub loop-i-preserved : goal.loop-i-preserved
loop-i-preserved c =
    let G = EdgeAnswers c.args.on.now in
    let edges = c.args.edges.now in
    let x = c.index-edges-i.result in
    let old = c.loop-i.marks.items in
    let new = c.follow.new.marks in
    let n = c.loop-i.marks.len in
    let size : n ≡ length new = (let k = c.loop-i.marks.ok.0 in let v = ap length c.as_mut_slice.ensures.value in let a = c.follow.auto.marks in omega arith) in
    let is = written new (drop (length new) old) n size in
    let at = here edges c.loop-i.i x c.loop-i-test.true c.index-edges-i.is in
    let fine = fine_on c.args.on.now c.requires.row c.args.nodes edges c.requires.edges in
    let follows = subst (λ (ms : List Bool). Follows G x ms new) c.as_mut_slice.ensures.value c.in_ok-follow.ensures.follows in
    let more = marks_more G edges c.args.nodes fine old new c.loop-i.i x at c.loop-i.invariant.marks follows in
    record {
      memo = c.in_ok-follow.ensures.memo;
      long = ap length is ∙ (let k = c.loop-i.marks.ok.0 in let l = c.loop-i.invariant.long in omega arith);
      marks = subst (λ (ms : List Bool). AreMarks G edges ms (c.loop-i.i + 1)) (sym is) more;
    }

pub returns-clause-answer : goal.returns-clause-answer
returns-clause-answer c =
    let G = EdgeAnswers c.args.on.now in
    let edges = c.args.edges.now in
    let items = c.loop-i.marks.items in
    let last = c.args.nodes - 1 in
    let e : c.loop-i.i ≡ length edges = (let a = c.loop-i.auto.i-end in let b = c.loop-i-test.false in omega arith) in
    let marks = subst (λ n. AreMarks G edges items n) e c.loop-i.invariant.marks in
    let whole = marks_end G edges items marks last in
    let lt : last < length items = (let some = c.requires.edges.1.graph.some in let long = c.loop-i.invariant.long in omega arith) in
    let is = marked_is items last c.index.result.now (here items last c.index.result.now lt c.index.ensures) in
    ((λ t. whole.0 (is.1 t)), (λ r. is.0 (whole.1 r)))
