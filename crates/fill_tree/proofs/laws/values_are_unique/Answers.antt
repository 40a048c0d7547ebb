use Rattle.fill_tree.proofs.GuardLaws.{switch_one}
use Rattle.fill_tree.proofs.ValueLaws as laws
use Rattle.fill_tree.proofs.laws.values_are_unique.Goals as goal

pub returns : goal.returns
returns c = record {
  sources = laws.source_one;
  atoms = laws.atom_one;
  conditions = laws.condition_one;
  programs = laws.program_one;
  switches = switch_one;
}
