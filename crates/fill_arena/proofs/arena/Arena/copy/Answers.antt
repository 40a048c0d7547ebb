use Rattle.std.proofs.Common.{length, sym, ap, ◌∙◌, subst}
use Rattle.fill_arena.specs.Copied.{AreCopied, AreNamed}
use Rattle.fill_arena.proofs.Copying.{graphs_have, new_graphs, new_named, new_same}
use Rattle.fill_arena.proofs.arena.Arena.copy.Goals as goal

pub renumber_graphs-requires : goal.renumber_graphs-requires
renumber_graphs-requires c =
    let arena = c.args.self.now in
    let marks = c.as_slice.result.now in
    let table = c.as_slice-2.result.now in
    let live = c.args.live.now in
    let copied = subst (AreCopied arena marks c.copy_marked.new.made) (sym c.as_slice-2.ensures.value) c.in_ok-table.ensures.copied in
    let named = subst (AreNamed arena live) (sym c.as_slice.ensures.value) c.in_ok-marks.ensures in
    graphs_have arena marks c.copy_marked.new.made table copied live c.requires named (ap length c.as_slice-2.ensures.value ∙ c.in_ok-table.ensures.long)

pub returns-clause-graphs : goal.returns-clause-graphs
returns-clause-graphs c =
    let arena = c.args.self.now in
    let made = c.copy_marked.new.made in
    let marks = c.as_slice.result.now in
    let copied = subst (AreCopied arena marks made) (sym c.as_slice-2.ensures.value) c.in_ok-table.ensures.copied in
    new_graphs arena marks made c.as_slice-2.result.now copied c.args.live.now c.renumber_graphs.new.live c.renumber_graphs.ensures c.requires

pub returns-clause-same : goal.returns-clause-same
returns-clause-same c =
    let arena = c.args.self.now in
    let made = c.copy_marked.new.made in
    let marks = c.as_slice.result.now in
    let copied = subst (AreCopied arena marks made) (sym c.as_slice-2.ensures.value) c.in_ok-table.ensures.copied in
    new_same arena marks made c.as_slice-2.result.now copied c.args.live.now c.renumber_graphs.new.live c.renumber_graphs.ensures

pub returns-clause-named : goal.returns-clause-named
returns-clause-named c =
    let arena = c.args.self.now in
    let made = c.copy_marked.new.made in
    let marks = c.as_slice.result.now in
    let live = c.args.live.now in
    let copied = subst (AreCopied arena marks made) (sym c.as_slice-2.ensures.value) c.in_ok-table.ensures.copied in
    let named = subst (AreNamed arena live) (sym c.as_slice.ensures.value) c.in_ok-marks.ensures in
    new_named arena marks made c.as_slice-2.result.now copied live c.renumber_graphs.new.live c.renumber_graphs.ensures named
