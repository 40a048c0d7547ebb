use Rattle.std.proofs.Common.{rules, ◌≡◌, map, sym, subst}
use Rattle.std.proofs.lemmas.Bool.{iff_false, false≢true}
use Rattle.std.specs.Bool.{IsTrue}
use Rattle.fill_tree.specs.Grammar.{IsSource}
use Rattle.fill_tree.specs.Tree.{atoms_of, select}
use Rattle.fill_tree.specs.Meaning.{select_tree, atom_tree}
use Rattle.fill_tree.specs.declared.tree.Atom.TheFolds.{the_lemmas}
use Rattle.fill_tree.proofs.Lookups.{numbers_from_lookup, lookup_by_conditions}
use Rattle.fill_tree.proofs.grammar.+grammar.Goals as goal

pub is_lookup-returns-then-not-are_numbers_of : goal.is_lookup-returns-then-not-are_numbers_of
is_lookup-returns-then-not-are_numbers_of t c =
    let s = c.args.select.now in
    let l = c.as_slice-conditions.result.now in
    let e : select_tree s ≡ select s.column s.table s.key (atoms_of (map atom_tree l)) = search (rules, the_lemmas) in (
      λ h. absurd (false≢true h),
      λ h. absurd (iff_false c.are_numbers_of.ensures c.if-not-are_numbers_of.true
          (numbers_from_lookup c.args.settings.now c.args.sheet.now c.args.tables.now s.column s.table s.key l (subst (IsSource c.args.settings.now c.args.sheet.now c.args.tables.now) e h))),
    )

pub is_lookup-returns : goal.is_lookup-returns
is_lookup-returns t c =
    let s = c.args.select.now in
    let l = c.as_slice-conditions.result.now in
    let e : select_tree s ≡ select s.column s.table s.key (atoms_of (map atom_tree l)) = search (rules, the_lemmas) in
    let by_conditions = lookup_by_conditions c.args.settings.now c.args.sheet.now c.args.tables.now s.column s.table s.key l
    (c.are_numbers_of.ensures.0 c.if-not-are_numbers_of.false) (c.has_part.ensures.0 c.if-not-has_part.false) in
    subst (λ x. (IsTrue c.are_conditions.result → IsSource c.args.settings.now c.args.sheet.now c.args.tables.now x)
    × (IsSource c.args.settings.now c.args.sheet.now c.args.tables.now x → IsTrue c.are_conditions.result)) (sym e)
    (λ h. by_conditions.1 (c.are_conditions.ensures.0 h), λ h. c.are_conditions.ensures.1 (by_conditions.0 h))
