use Rattle.std.proofs.Common.{◌≡◌, ◌∷◌, take}
use Rattle.std.specs.Prelude.{codes}
use Rattle.fillcsv_rules.proofs.save.names_line.Given as goal

abbrev pub invariant-loop-name : goal.invariant-loop-name
invariant-loop-name l = l.fields ≡ codes "names" ∷ take l.name-index l.fn.names.inputs
