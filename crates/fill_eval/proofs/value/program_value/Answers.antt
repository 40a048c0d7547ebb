use Rattle.std.proofs.Common.{◌≡◌, ◌+◌, ◌∷◌, map, drop}
use Rattle.std.proofs.lemmas.List.{drop_more}
use Rattle.fill_tree.specs.Meaning.{atom_tree, program_tree}
use Rattle.fill_tree.specs.Tree.{atoms_of}
use Rattle.fill_tree.specs.Value.{ProgramIs}
use Rattle.fill_eval.proofs.Values.{program_none}
use Rattle.fill_eval.proofs.value.program_value.Goals as goal

pub returns-in_default : goal.returns-in_default
returns-in_default c =
    let W = ProgramIs c.args.sheet.now c.args.tables.now c.args.row (program_tree c.args.p.now) in
    let atoms = c.args.p.now.atoms in
    let a = c.atom-item.result in
    let i = c.loop-atom.atom-index in
    let more = rw (← c.atom-item.is) at (drop_more c.as_slice-atom-items.result.now i a c.loop-atom-test.true) in
    let next : drop i atoms ≡ a ∷ drop (i + 1) atoms = rw c.as_slice-atom-items.ensures at more in
    let after = rw next at c.loop-atom.invariant in
    program_none c.args.sheet.now c.args.tables.now c.args.row c.loop-atom.value W (atom_tree a) (atoms_of (map atom_tree (drop (i + 1) atoms))) after c.in_default.ensures.value
