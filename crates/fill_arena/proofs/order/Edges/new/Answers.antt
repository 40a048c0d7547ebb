use Rattle.std.proofs.Common.{sym, subst}
use Rattle.fill_arena.specs.Contents.{EachIn}
use Rattle.fill_arena.specs.Order.{LeadsOn}
use Rattle.fill_arena.proofs.order.Edges.new.Goals as goal

pub sorted_by_first-requires : goal.sorted_by_first-requires
sorted_by_first-requires c = (c.args.nodes, subst (EachIn (LeadsOn c.args.nodes)) (sym c.as_slice-2.ensures) c.requires)
