use Rattle.std.proofs.Common.{rules, ◌≡◌, map, refl, sym, ap, subst, ◌∙◌}
use Rattle.fill_tree.specs.Grammar.{HasPart}
use Rattle.fill_tree.specs.Meaning.{atom_tree, program_tree, select_tree, source_tree}
use Rattle.fill_tree.specs.Tree.{atoms_of, select}
use Rattle.fill_tree.specs.declared.tree.Atom.TheFolds.{the_lemmas}
use Rattle.fill_tree.specs.declared.tree.Source.TheVariants as source
use Rattle.fill_arena.proofs.Items.{ok_on}
use Rattle.fill_object.specs.Kinds.{sources_on}
use Rattle.fill_object.specs.Rows.{IsSelectBy}
use Rattle.fill_object.proofs.Gains.{gains_none, gains_same}
use Rattle.fill_object.proofs.KindLaws.{sources_laws}
use Rattle.fill_object.proofs.sources.put_select.Goals as goal

pub returns : goal.returns
returns c =
    let on = c.args.on.now in
    let i = c.args.item.now in
    let copied = c.in_ok-copied.copied in
    let boxed = c.in_ok-new.ensures.ok in
    let one : source_tree (source.Select c.in_ok-new.field-0) ≡ select_tree c.in_ok-new.field-0.value = search (rules, the_lemmas) in
    let two : select_tree c.in_ok-new.field-0.value ≡ select i.column i.table i.key (program_tree c.in_ok-copied.copied) = rw boxed (search (rules, the_lemmas)) in
    let tree : source_tree (source.Select c.in_ok-new.field-0) ≡ select i.column i.table i.key (program_tree c.args.row.now) = one ∙ two ∙ ap (select i.column i.table i.key) c.in_ok-copied.ensures in
    let part : HasPart (program_tree c.args.row.now) = subst (λ l. HasPart (atoms_of (map atom_tree l))) c.as_slice.ensures (c.if-not-has_part.ensures.0 refl) in
    ok_on _ _ c.put_source.result c.put_source.ensures
    (λ u h. gains_same (sources_on on) (sources_laws on) (λ x. x ≡ source_tree (source.Select c.in_ok-new.field-0)) (IsSelectBy i c.args.row.now) (λ x e. (part, e ∙ tree)) (λ x f. f.1 ∙ sym tree)
    c.args.rivals.now.items c.put_source.new.rivals.items h)

pub returns-then-not-has_part : goal.returns-then-not-has_part
returns-then-not-has_part c =
    let on = c.args.on.now in
    gains_none (sources_on on) (sources_laws on) (IsSelectBy c.args.item.now c.args.row.now)
    (λ x h. let e = c.if-not-has_part.ensures.1 (subst (λ l. HasPart (atoms_of (map atom_tree l))) (sym c.as_slice.ensures) h.0) in cc) c.args.rivals.now.items
