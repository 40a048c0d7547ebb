use Rattle.std.proofs.Common.{◌∙◌}
use Rattle.fill_arena.proofs.Marking.{are_named}
use Rattle.fill_arena.proofs.marks.mark_named.Goals as goal

pub returns : goal.returns
returns c =
    let long = c.close.auto.marks ∙ c.mark_graphs.auto.marks ∙ c.requires.long in
    are_named c.args.arena.now c.args.live.now c.args.marks.now c.mark_graphs.new.marks c.close.new.marks c.requires.live c.requires.long long c.requires.none c.mark_graphs.ensures c.close.ensures
