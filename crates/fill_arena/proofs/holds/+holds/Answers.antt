use Rattle.std.proofs.Common.{rules, ◌<◌, refl, sym, subst}
use Rattle.std.proofs.lemmas.Bool.{false≢true}
use Rattle.fill_tree.specs.Meaning.{atom_tree, source_tree}
use Rattle.fill_tree.specs.declared.tree.Atom.TheFolds.{the_lemmas}
use Rattle.fill_arena.specs.Stands.{AtomFits, SourceFits}
use Rattle.fill_arena.specs.declared.entry.Entry.TheVariants.{Sources, Atoms}
use Rattle.fill_arena.proofs.Scan.{here, scan_more, scan_end, scan_found}
use Rattle.fill_arena.proofs.Sets.{no_atom, no_source, fit_lengths}
use Rattle.fill_arena.proofs.holds.+holds.Goals as goal

pub atom_stands-atom_fits-requires : goal.atom_stands-atom_fits-requires
atom_stands-atom_fits-requires n c =
    let items = c.atoms-items.result.now in
    let i = c.loop-item.item-index in
    let there = here items i c.item-item.result c.loop-item-test.true c.item-item.is in
    (search (rules, the_lemmas), (c.args.s, (c.keeps_made.ensures c.args.s (Atoms items) c.atoms-items.ensures).each i c.item-item.result there))

pub atom_stands-returns-then-atom_fits : goal.atom_stands-returns-then-atom_fits
atom_stands-returns-then-atom_fits n c =
    let items = c.atoms-items.result.now in
    let i = c.loop-item.item-index in
    let there = here items i c.item-item.result c.loop-item-test.true c.item-item.is in
    ((λ _. (items, c.atoms-items.ensures, scan_found (AtomFits (atom_tree c.args.atom.now) c.args.arena.now) items i c.item-item.result there (c.atom_fits.ensures.0 c.if-atom_fits.true))), (λ _. refl))

pub atom_stands-loop-item-preserved : goal.atom_stands-loop-item-preserved
atom_stands-loop-item-preserved n c =
    let items = c.atoms-items.result.now in
    let i = c.loop-item.item-index in
    let there = here items i c.item-item.result c.loop-item-test.true c.item-item.is in
    scan_more (AtomFits (atom_tree c.args.atom.now) c.args.arena.now) items i c.item-item.result there c.loop-item.invariant (λ h. let yes = c.atom_fits.ensures.1 h in let not = c.if-atom_fits.false in cc)

pub atom_stands-returns : goal.atom_stands-returns
atom_stands-returns n c =
    let items = c.atoms-items.result.now in
    let P = AtomFits (atom_tree c.args.atom.now) c.args.arena.now in
    let none = scan_end P items c.loop-item.item-index c.loop-item-test.false c.loop-item.invariant in
    ((λ u. absurd (false≢true u)), (λ h. absurd (no_atom c.args.arena.now c.args.s items P c.atoms-items.ensures none h)))

pub source_stands-source_fits-requires : goal.source_stands-source_fits-requires
source_stands-source_fits-requires n c =
    let items = c.sources-items.result.now in
    let i = c.loop-item.item-index in
    let there = here items i c.item-item.result c.loop-item-test.true c.item-item.is in
    (search (rules, the_lemmas), (c.args.s, (c.keeps_made.ensures c.args.s (Sources items) c.sources-items.ensures).each i c.item-item.result there))

pub source_stands-returns-then-source_fits : goal.source_stands-returns-then-source_fits
source_stands-returns-then-source_fits n c =
    let items = c.sources-items.result.now in
    let i = c.loop-item.item-index in
    let there = here items i c.item-item.result c.loop-item-test.true c.item-item.is in
    ((λ _. (items, c.sources-items.ensures, scan_found (SourceFits (source_tree c.args.source.now) c.args.arena.now) items i c.item-item.result there (c.source_fits.ensures.0 c.if-source_fits.true))), (λ _. refl))

pub source_stands-loop-item-preserved : goal.source_stands-loop-item-preserved
source_stands-loop-item-preserved n c =
    let items = c.sources-items.result.now in
    let i = c.loop-item.item-index in
    let there = here items i c.item-item.result c.loop-item-test.true c.item-item.is in
    scan_more (SourceFits (source_tree c.args.source.now) c.args.arena.now) items i c.item-item.result there c.loop-item.invariant (λ h. let yes = c.source_fits.ensures.1 h in let not = c.if-source_fits.false in cc)

pub source_stands-returns : goal.source_stands-returns
source_stands-returns n c =
    let items = c.sources-items.result.now in
    let P = SourceFits (source_tree c.args.source.now) c.args.arena.now in
    let none = scan_end P items c.loop-item.item-index c.loop-item-test.false c.loop-item.invariant in
    ((λ u. absurd (false≢true u)), (λ h. absurd (no_source c.args.arena.now c.args.s items P c.sources-items.ensures none h)))

pub conditions_fit-returns-then-items-conditions : goal.conditions_fit-returns-then-items-conditions
conditions_fit-returns-then-items-conditions n c =
    ((λ u. absurd (false≢true u)), (λ h. absurd (c.if-items-conditions.true (fit_lengths c.args.conditions.now c.args.arena.now c.args.items.now h))))

pub conditions_fit-condition_fits-requires : goal.conditions_fit-condition_fits-requires
conditions_fit-condition_fits-requires n c =
    let lt = subst (λ m. c.loop-i.i < m) (sym c.if-items-conditions.false) c.loop-i-test.true in
    (search (rules, the_lemmas), (c.requires.0, c.requires.1 c.loop-i.i c.index-items-i.result (here c.args.items.now c.loop-i.i c.index-items-i.result lt c.index-items-i.is)))
