use Rattle.fill_arena.proofs.Filled.{place_filled, source_filled, atom_filled, program_filled}
use Rattle.fill_arena.proofs.laws.something_stands.Goals as goal

pub returns-clause-places : goal.returns-clause-places
returns-clause-places h = λ c made s live. place_filled c made s live

pub returns-clause-sources : goal.returns-clause-sources
returns-clause-sources h = λ c made s live. source_filled c made s live

pub returns-clause-atoms : goal.returns-clause-atoms
returns-clause-atoms h = λ c made s live. atom_filled c made s live

pub returns-clause-programs : goal.returns-clause-programs
returns-clause-programs h = λ c made g live. program_filled c made g live
