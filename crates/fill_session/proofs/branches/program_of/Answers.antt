use Rattle.std.proofs.Common.{◌≡◌, Some, Option, subst}
use Rattle.std.specs.Prelude.{IfSome}
use Rattle.fill_tree.specs.Meaning.{program_tree}
use Rattle.fill_tree.specs.declared.tree.Program.{Program}
use Rattle.fill_space.specs.Ground.{ChosenOn}
use Rattle.fill_session.proofs.Stood.{held_chosen}
use Rattle.fill_session.proofs.branches.program_of.Goals as goal

pub returns-in-Ok-Some : goal.returns-in-Ok-Some
returns-in-Ok-Some c = λ list stands.
    let p = c.args.before.now in
    let s = c.args.spaces.now in
    let have = held_chosen s p.examples p.folds p.branches c.requires.before c.branches-folds.result.now c.as_slice.result.now c.branches-folds.ensures c.as_slice.ensures in
    let is : c.in-Ok-Some.field-0 ≡ Some c.in-Ok-Some.program = (let e = c.in-Ok-Some.field-0-is in cc) in
    subst (λ (o : Option Program). IfSome o (λ (made : Program). ChosenOn s.ground list (program_tree made))) is (c.in-Ok-Some.ensures s list have stands)
