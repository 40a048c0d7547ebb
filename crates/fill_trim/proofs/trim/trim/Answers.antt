use Rattle.std.proofs.Common.{◌≡◌, ◌-◌, ◌<◌, length, true, sym, subst, ap, ◌∙◌, arith, Some}
use Rattle.std.proofs.lemmas.List.{take_at}
use Rattle.std.proofs.lemmas.Option.{get_or_from_slice_get, slice_get-get_or}
use Rattle.fill_trim.specs.Marks.{AreMarks}
use Rattle.fill_trim.proofs.Trims.{OnWalk, no_walk, on_walks, trimmed}
use Rattle.fill_trim.proofs.trim.trim.Goals as goal

pub returns-then-not-index : goal.returns-then-not-index
returns-then-not-index c = no_walk c.args.nodes c.args.edges.now (λ r.
    let marked = (c.in_ok-node_marks.ensures.each (c.args.nodes - 1) (omega arith)).1 r in
    let yes = c.index.ensures ∙ get_or_from_slice_get c.in_ok-node_marks.node_marks.items (c.args.nodes - 1) true c.index.result.now marked in
    let off = c.if-not-index.true in
    cc)

pub returns : goal.returns
returns c =
    let nodes = c.args.nodes in
    let edges = c.args.edges.now in
    let reached = c.in_ok-node_marks.ensures in
    let left = c.as_mut_slice.ensures.value in
    let right = c.as_slice.ensures.value in
    let long : length c.keep_common.new.marks ≡ length c.in_ok-node_marks.node_marks.items = c.keep_common.ensures.long ∙ ap length left in
    let both = rw (left, right) at c.keep_common.ensures.both in
    let marks = on_walks nodes edges c.in_ok-node_marks.node_marks.items c.in_ok-leading.leading.items c.keep_common.new.marks reached c.in_ok-leading.ensures long both in
    let full : length c.keep_common.new.marks ≡ c.in_ok-node_marks.node_marks.len = (let l = c.in_ok-node_marks.node_marks.ok.0 in omega arith) in
    let back : c.as_slice-2.result.now ≡ c.keep_common.new.marks = c.as_slice-2.ensures.value ∙ take_at _ _ _ full in
    let within : c.args.nodes - 1 < length c.in_ok-node_marks.node_marks.items = (let l = reached.long in omega arith) in
    let last = slice_get-get_or c.in_ok-node_marks.node_marks.items (nodes - 1) c.index.result.now within ∙ ap Some (sym c.index.ensures ∙ c.if-not-index.false) in
    let whole = (reached.each (nodes - 1) (omega arith)).0 last in
    trimmed nodes edges c.as_slice-2.result.now c.requires.some c.requires.edges (subst (AreMarks nodes (OnWalk nodes edges)) (sym back) marks) whole c.in_ok-renumber.field-0 c.in_ok-renumber.ensures.0 c.in_ok-renumber.ensures.1
