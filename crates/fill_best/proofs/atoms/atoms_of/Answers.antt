use Rattle.std.proofs.Common.{Vec, Global, sym, subst, ◌∙◌}
use Rattle.fill_tree.specs.Cost.{atom_cost}
use Rattle.fill_tree.specs.Order.{atom_cmp}
use Rattle.fill_tree.specs.Tree.{AtomTree}
use Rattle.fill_tree.proofs.TreeOrder.{atom_total, exact_atoms}
use Rattle.fill_arena.specs.Contents.{SomeIn}
use Rattle.fill_arena.specs.Stands.{AtomStands, ConstantFits, PartStands}
use Rattle.fill_arena.specs.declared.entry.Entry.TheVariants.{Atoms}
use Rattle.fill_best.specs.Cheapest.{AreCheapest}
use Rattle.fill_best.specs.declared.costed.Costed.{Costed}
use Rattle.fill_best.proofs.Standing.{part_or_constant, constant_stands}
use Rattle.fill_best.proofs.Takes.{takes_after}
use Rattle.fill_best.proofs.atoms.atoms_of.Goals as goal

pub put_constants-requires-clause-items : goal.put_constants-requires-clause-items
put_constants-requires-clause-items c =
    let each = (c.keeps_made.ensures c.args.s (Atoms c.atoms-2.result.now) c.atoms-2.ensures).each in
    (c.args.arena.now, c.args.s, each)

pub returns-clause-first : goal.returns-clause-first
returns-clause-first c =
    let arena = c.args.arena.now in
    let s = c.args.s in
    let items = c.atoms-2.result.now in
    let first = takes_after (atom_cost c.args.prices.now) atom_cmp atom_total exact_atoms c.args.limit (PartStands arena s) (λ a. SomeIn (λ i. ConstantFits arena i a) items) (AtomStands arena s)
    c.in_ok-ranking.ranking.items c.put_constants.new.ranking.items (λ a h. h.1) (constant_stands arena s items c.atoms-2.ensures) (part_or_constant arena s items c.atoms-2.ensures)
    c.in_ok-ranking.ensures.first (c.in_ok-put_constants.ensures arena) in
    subst (λ (v : Vec (Costed AtomTree) Global). AreCheapest (atom_cost c.args.prices.now) atom_cmp (AtomStands arena s) c.args.limit v.items) (sym c.in_ok-shortlist.ensures.ok) first

pub returns-clause-memo : goal.returns-clause-memo
returns-clause-memo c =
    let arena = c.args.arena.now in
    let s = c.args.s in
    let items = c.atoms-2.result.now in
    let first = takes_after (atom_cost c.args.prices.now) atom_cmp atom_total exact_atoms c.args.limit (PartStands arena s) (λ a. SomeIn (λ i. ConstantFits arena i a) items) (AtomStands arena s)
    c.in_ok-ranking.ranking.items c.put_constants.new.ranking.items (λ a h. h.1) (constant_stands arena s items c.atoms-2.ensures) (part_or_constant arena s items c.atoms-2.ensures)
    c.in_ok-ranking.ensures.first (c.in_ok-put_constants.ensures arena) in
    c.in_ok-keep_atoms.ensures c.args.prices.now arena c.args.limit c.in_ok-ranking.ensures.memo
    (subst (λ (v : Vec (Costed AtomTree) Global). AreCheapest (atom_cost c.args.prices.now) atom_cmp (AtomStands arena s) c.args.limit v.items) (sym (c.in_ok-clone-2.ensures.cases ∙ c.in_ok-shortlist.ensures.ok)) first)
