use Rattle.std.proofs.Common.{◌+◌, ◌*◌, map}
use Rattle.fill_tree.specs.Meaning.{atom_tree}
use Rattle.fill_print.specs.Conditions.{Conditions, IsRoom, at_start}
use Rattle.fill_print.proofs.Chains.{Leads}
use Rattle.fill_print.specs.Tokens.{tokens_of}
use Rattle.fill_print.proofs.read.sources.+sources.Given as goal

abbrev pub decreases-lookup : goal.decreases-lookup
decreases-lookup l = 8 * l.depth + 7

abbrev pub decreases-conditions : goal.decreases-conditions
decreases-conditions l = 8 * l.depth + 6

abbrev pub decreases-next_condition : goal.decreases-next_condition
decreases-next_condition l = 8 * l.depth + 5

abbrev pub decreases-first_condition : goal.decreases-first_condition
decreases-first_condition l = 8 * l.depth + 4

abbrev pub decreases-later_condition : goal.decreases-later_condition
decreases-later_condition l = 8 * l.depth + 4

abbrev pub decreases-condition : goal.decreases-condition
decreases-condition l = 8 * l.depth + 3

abbrev pub decreases-part : goal.decreases-part
decreases-part l = 8 * l.depth + 2

abbrev pub decreases-whole : goal.decreases-whole
decreases-whole l = 8 * l.depth + 1

abbrev pub decreases-sub : goal.decreases-sub
decreases-sub l = 8 * l.depth + 1

abbrev pub decreases-source : goal.decreases-source
decreases-source l = 8 * l.depth

abbrev pub invariant-conditions-loop-conditions : goal.invariant-conditions-loop-conditions
invariant-conditions-loop-conditions l = record {
  read : Leads (Conditions (tokens_of l.notation) l.depth at_start) (Conditions (tokens_of l.notation) l.depth (record { room = l.room; seen = l.seen })) (map atom_tree l.conditions) l.bytes l.rest;
  room : IsRoom (record { room = l.room; seen = l.seen });
}

abbrev pub decreases-conditions-loop-conditions : goal.decreases-conditions-loop-conditions
decreases-conditions-loop-conditions l = l.room
