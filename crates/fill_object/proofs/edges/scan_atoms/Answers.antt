use Rattle.fill_arena.specs.Contents.{SomeIn}
use Rattle.fill_arena.specs.Stands.{AtomStands, ConstantFits, PartStands}
use Rattle.fill_object.specs.Kinds.{atoms_on}
use Rattle.fill_object.proofs.Gains.{leasts_then}
use Rattle.fill_object.proofs.KindLaws.{atoms_laws}
use Rattle.fill_object.proofs.Made.{part_or_constant, constant_stands}
use Rattle.fill_object.proofs.edges.scan_atoms.Goals as goal

pub returns-clause-least : goal.returns-clause-least
returns-clause-least c =
    let on = c.args.on.now in
    let s = c.args.s in
    let items = c.atoms.result.now in
    leasts_then (atoms_on on) (atoms_laws on) (PartStands on.arena.now s) (λ a. SomeIn (λ i. ConstantFits on.arena.now i a) items) (AtomStands on.arena.now s)
    (part_or_constant on.arena.now s items c.atoms.ensures) (λ a h. h.1) (constant_stands on.arena.now s items c.atoms.ensures) c.in_ok-rivals.rivals.items c.put_constants.new.rivals.items
    c.in_ok-rivals.ensures.least c.in_ok-put_constants.ensures
