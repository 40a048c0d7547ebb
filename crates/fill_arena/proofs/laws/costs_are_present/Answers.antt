use Rattle.fill_arena.proofs.Costs.{source_present, atom_present, row_present, rest_present, program_present}
use Rattle.fill_arena.proofs.laws.costs_are_present.Goals as goal

pub returns-clause-sources : goal.returns-clause-sources
returns-clause-sources h = λ prices small c made s x stands. source_present prices small c made s x stands

pub returns-clause-atoms : goal.returns-clause-atoms
returns-clause-atoms h = λ prices small c made s a stands. atom_present prices small c made s a stands

pub returns-clause-conditions : goal.returns-clause-conditions
returns-clause-conditions h = λ prices small c made n items row older short fits. row_present prices small c made n items row older short fits

pub returns-clause-programs : goal.returns-clause-programs
returns-clause-programs h = λ prices small c made g p stands. program_present prices small c made g p stands

pub returns-clause-rests : goal.returns-clause-rests
returns-clause-rests h = λ prices small c made g edges last at p has walk. rest_present prices small c made g has.0 edges last at p has.1 walk
