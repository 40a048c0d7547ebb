use Rattle.std.proofs.Common.{◌≡◌, ◌∷◌, [], List, Some, length, slice_get, sym, subst, ap, ◌∙◌}
use Rattle.fill_arena.specs.WellMade.{AreAtoms, AreSources}
use Rattle.fill_arena.specs.declared.entry.AtomItem.{AtomItem}
use Rattle.fill_arena.specs.declared.entry.AtomItem.TheVariants.{Whole}
use Rattle.fill_arena.specs.declared.entry.ConditionItem.{ConditionItem}
use Rattle.fill_arena.specs.declared.entry.Entry.TheVariants.{Atoms}
use Rattle.fill_arena.specs.declared.entry.SelectItem.{SelectItem}
use Rattle.fill_arena.specs.declared.entry.SourceItem.{SourceItem}
use Rattle.fill_arena.specs.declared.entry.SourceItem.TheVariants.{Col, Select}
use Rattle.test_spaces.proofs.Doubted.{sample_lookup, sample_whole}
use Rattle.test_spaces.proofs.doubt.months.Goals as goal

pub intern_atoms-requires : goal.intern_atoms-requires
intern_atoms-requires c =
    let now = c.args.arena.now in
    subst (λ (is : List AtomItem). AreAtoms now (length now) is) (sym c.in_ok-wholes.ensures) (sample_whole now c.args.column (Col 1 ∷ [], c.requires))

pub intern_sources-requires : goal.intern_sources-requires
intern_sources-requires c =
    let now = c.intern_atoms.new.self in
    let set = c.in_ok-whole.whole in
    let lists = c.intern_atoms.ensures.extends _ _ c.requires in
    let wholes : slice_get now set ≡ Some (Atoms (Whole c.args.column ∷ [])) = c.in_ok-whole.ensures.ok ∙ ap (λ (is : List AtomItem). Some (Atoms is)) c.in_ok-wholes.ensures in
    let items = c.in_ok-lookups.ensures ∙ ap (λ (cs : List ConditionItem). let i : SelectItem = record { column = 2; table = 1; key = 1; conditions = cs } in Select i ∷ []) c.in_ok-conditions.ensures in
    subst (λ (is : List SourceItem). AreSources now (length now) is) (sym items) (sample_lookup now c.args.column set lists wholes)
