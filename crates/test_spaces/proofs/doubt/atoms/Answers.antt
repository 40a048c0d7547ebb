use Rattle.std.proofs.Common.{List, length, sym, subst}
use Rattle.fill_arena.specs.WellMade.{AreAtoms}
use Rattle.fill_arena.specs.declared.entry.AtomItem.{AtomItem}
use Rattle.test_spaces.proofs.Doubted.{sample_pair}
use Rattle.test_spaces.proofs.doubt.atoms.Goals as goal

pub intern_atoms-requires : goal.intern_atoms-requires
intern_atoms-requires c =
    let now = c.args.arena.now in
    let one = c.in_ok-first.ensures now c.requires.column c.requires.months c.requires.start c.requires.stop in
    let other = c.in_ok-second.ensures now c.requires.column c.requires.months c.requires.start c.requires.stop in
    subst (λ (is : List AtomItem). AreAtoms now (length now) is) (sym c.in_ok-items.ensures) (sample_pair now c.in_ok-first.first c.in_ok-second.second one other)
