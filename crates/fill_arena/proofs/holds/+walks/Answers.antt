use Rattle.std.proofs.Common.{length, refl}
use Rattle.std.proofs.lemmas.Bool.{false≢true}
use Rattle.fill_arena.proofs.Lists.{get_there}
use Rattle.fill_arena.proofs.Scan.{scan_more, scan_end, scan_found}
use Rattle.fill_arena.proofs.Steps.{CarriesWalk, walk_on, is_before}
use Rattle.fill_arena.proofs.holds.+walks.Goals as goal

pub walks-returns-then-leads : goal.walks-returns-then-leads
walks-returns-then-leads n c =
    let atom = get_there c.args.atoms.now c.args.next (is_before c.args.next (length c.args.atoms.now) c.requires.within c.if-next-atoms.false) in
    let edge = get_there c.args.edges.now c.loop-i.i c.loop-i-test.true in
    let P = CarriesWalk c.args.arena.now c.args.edges.now c.args.last c.args.atoms.now c.args.next c.args.at atom.0 in
    let leads = (c.leads.ensures edge.0 atom.0 edge.1 atom.1).0 c.if-leads.true in
    let both = walk_on c.args.arena.now c.args.edges.now c.args.last c.args.atoms.now c.args.next c.args.at atom.0 atom.1 in
    ((λ _. both.0 (scan_found P c.args.edges.now c.loop-i.i edge.0 edge.1 leads)), (λ _. refl))

pub walks-loop-i-preserved : goal.walks-loop-i-preserved
walks-loop-i-preserved n c a there =
    let edge = get_there c.args.edges.now c.loop-i.i c.loop-i-test.true in
    let P = CarriesWalk c.args.arena.now c.args.edges.now c.args.last c.args.atoms.now c.args.next c.args.at a in
    scan_more P c.args.edges.now c.loop-i.i edge.0 edge.1 (c.loop-i.invariant a there)
    (λ h. let yes = (c.leads.ensures edge.0 a edge.1 there).1 h in let not = c.if-leads.false in cc)

pub walks-returns : goal.walks-returns
walks-returns n c =
    let atom = get_there c.args.atoms.now c.args.next (is_before c.args.next (length c.args.atoms.now) c.requires.within c.if-next-atoms.false) in
    let P = CarriesWalk c.args.arena.now c.args.edges.now c.args.last c.args.atoms.now c.args.next c.args.at atom.0 in
    let both = walk_on c.args.arena.now c.args.edges.now c.args.last c.args.atoms.now c.args.next c.args.at atom.0 atom.1 in
    let none = scan_end P c.args.edges.now c.loop-i.i c.loop-i-test.false (c.loop-i.invariant atom.0 atom.1) in
    ((λ u. absurd (false≢true u)), (λ h. absurd (none (both.1 h))))
