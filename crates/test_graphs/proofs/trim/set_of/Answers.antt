use Rattle.std.proofs.Common.{[], ap, ◌∙◌, ◌++◌, ◌∷◌}
use Rattle.fill_arena.specs.declared.entry.AtomItem.TheVariants.{Const}
use Rattle.test_graphs.proofs.Trimmed.{sample_atoms}
use Rattle.test_graphs.proofs.trim.set_of.Goals as goal

pub intern_atoms-requires : goal.intern_atoms-requires
intern_atoms-requires c =
    let made = c.in_ok-push.ensures.ok ∙ ap (λ l. l ++ Const c.args.constant ∷ []) c.new-items.ensures in
    rw made (sample_atoms c.args.arena.now c.args.constant c.requires)
