use Rattle.std.proofs.Common.{◌+◌, ◌≤◌, List, get_or, length, refl, sym, subst}
use Rattle.std.proofs.lemmas.Option.{slice_get-get_or}
use Rattle.fill_arena.specs.declared.entry.Entry.{Entry}
use Rattle.fill_meet.specs.Rows.{IsRow}
use Rattle.fill_meet.specs.Ties.{IsInRow, SweepState}
use Rattle.fill_meet.proofs.LabelLaws.{labels_label}
use Rattle.fill_meet.proofs.Sweeps.{edge_skip, row_end, rows_within}
use Rattle.fill_meet.proofs.Trials.{done_any, done_map}
use Rattle.fill_meet.proofs.Words.{whole_row}
use Rattle.fill_meet.proofs.ties.tie_edge.Goals as goal

pub has_some-requires : goal.has_some-requires
has_some-requires c =
    let g = c.args.graphs in
    let x = get_or c.args.graphs.xs.now c.args.k c.index-graphs-k.result in
    let hx = slice_get-get_or c.args.graphs.xs.now c.args.k c.index-graphs-k.result c.requires.within in
    whole_row g.height g.width c.args.net.now.sweep.reached c.requires.state.room x.from (rows_within g.xs.now g.ys.now g.height g.width c.requires.edges.first c.requires.edges.second c.args.k x hx).0

pub returns-then-not-has_some-clause-state : goal.returns-then-not-has_some-clause-state
returns-then-not-has_some-clause-state c =
    let x = get_or c.args.graphs.xs.now c.args.k c.index-graphs-k.result in
    let hx = slice_get-get_or c.args.graphs.xs.now c.args.k c.index-graphs-k.result c.requires.within in
    edge_skip c.args.arena.now c.args.graphs c.requires.edges.first c.requires.edges.second c.args.k x (λ b. ⊥) c.args.net.now.sweep hx (c.if-not-has_some.ensures refl) c.requires.state

pub row_of-requires-clause-set : goal.row_of-requires-clause-set
row_of-requires-clause-set c =
    let xs = c.args.graphs.xs.now in
    c.requires.edges.left c.args.k (get_or xs c.args.k c.index-graphs-k.result) (slice_get-get_or xs c.args.k c.index-graphs-k.result c.requires.within)

pub tie_row-requires-clause-row : goal.tie_row-requires-clause-row
tie_row-requires-clause-row c = subst (λ l. c.in_ok-row.row.end ≤ length l) (sym c.as_slice-numbers.ensures.value) c.in_ok-row.ensures.row.within

pub returns-clause-rows : goal.returns-clause-rows
returns-clause-rows c = done_any c.tie_row.result _ c.in_ok-row.ensures.state

pub returns-clause-state : goal.returns-clause-state
returns-clause-state c =
    let g = c.args.graphs in
    let x = get_or g.xs.now c.args.k c.index-graphs-k.result in
    let index = c.args.index.now in
    let arena = c.args.arena.now in
    let old = c.args.net.now.sweep in
    let numbers = c.as_slice-numbers.result.now in
    let run = c.in_ok-row.row in
    let hx = slice_get-get_or g.xs.now c.args.k c.index-graphs-k.result c.requires.within in
    let row = subst (λ l. IsRow arena index.labels.sets.items l x.atoms run) (sym c.as_slice-numbers.ensures.value) c.in_ok-row.ensures.row in
    done_map c.tie_row.result
    ((e : List Entry) → SweepState e g c.args.k (λ b. ⊥) old → SweepState e g c.args.k (IsInRow index.labels.of.items numbers run.start run.end) c.tie_row.new.sweep) (SweepState arena g (c.args.k + 1) (λ b. ⊥) c.tie_row.new.sweep)
    (λ state. row_end arena g c.requires.edges.first c.requires.edges.second c.args.k index.labels.of.items numbers run.start index.labels.sets.items x run c.tie_row.new.sweep hx refl
    (λ b y hy. labels_label g.ys.now index.labels c.requires.index.labels b y hy) row (state arena c.requires.state)) c.tie_row.ensures.state
