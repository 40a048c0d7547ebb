use Rattle.fill_space.proofs.spaces.Spaces.new.Goals as goal

pub invariant_of-result : goal.invariant_of-result
invariant_of-result c = (
  c.requires,
  c.new-2.ensures c.new.result,
  c.new-3.ensures (record { settings = c.args.settings; sheet = c.args.sheet; tables = c.args.tables }) c.new.result,
  c.new-4.ensures c.args.settings.profile.prices c.new.result,
)
