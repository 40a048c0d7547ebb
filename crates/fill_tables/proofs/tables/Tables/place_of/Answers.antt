use Rattle.std.proofs.Common.{◌∙◌}
use Rattle.fill_tables.proofs.Names.{index-place}
use Rattle.fill_tables.proofs.tables.Tables.place_of.Goals as goal

pub returns : goal.returns
returns c =
    c.get_index_of.ensures.index
    ∙ rw c.self.view_is at (index-place c.self.inside.names.keys c.self.inside.tables.items c.args.name.now c.utf8.name c.self.invariant.1)
