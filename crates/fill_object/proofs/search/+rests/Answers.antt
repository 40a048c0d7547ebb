use Rattle.std.proofs.Common.{rules, ◌≡◌, ◌+◌, ◌-◌, get_or, Some, ap, subst, ◌∙◌, arith}
use Rattle.fill_tree.specs.Meaning.{atom_tree}
use Rattle.fill_arena.proofs.Lists.{get_there}
use Rattle.fill_arena.proofs.Scan.{here}
use Rattle.fill_arena.specs.declared.entry.Edge.{Edge}
use Rattle.fill_object.specs.Chains.{IsLeastWithin}
use Rattle.fill_object.specs.declared.chain.Least.TheVariants.{Absent}
use Rattle.fill_object.specs.Rests.{IsAlong, IsThen, RestStands}
use Rattle.fill_object.specs.Wants.{RestAgrees}
use Rattle.fill_object.proofs.Others.{Past, along_dear, along_done, memo_rest, leasts_slice, past_done, past_more, past_none, rest_dear}
use Rattle.fill_object.proofs.Within.{copied_within, then_led, upto_done, upto_more}
use Rattle.fill_object.proofs.search.+rests.Goals as goal

pub along_edge-returns-then-along-limit-clause-least : goal.along_edge-returns-then-along-limit-clause-least
along_edge-returns-then-along-limit-clause-least t c f edge =
    let s = c.args.search.now in
    let i = c.args.i in
    let x = c.index-search-i.result in
    let d = get_or s.edges.now i x in
    let at = here s.edges.now i x c.requires.edge c.index-search-i.is ∙ ap Some c.index-search-i.is in
    let own : get_or c.args.search.now.edges.now c.args.i c.index-search-i.result ≡ f = cc in
    subst (λ (e : Edge). IsLeastWithin s.on.prices.now c.args.limit (IsAlong s c.args.node e) (RestAgrees s.on s.answer.now c.args.wanted) Absent) own
    (along_dear s c.requires.search c.args.node i d at c.args.limit c.args.wanted c.along.result c.along.ensures c.if-along-limit.true)

pub along_edge-atoms_of-requires-clause-set : goal.along_edge-atoms_of-requires-clause-set
along_edge-atoms_of-requires-clause-set t c =
    let edges = c.args.search.now.edges.now in
    let i = c.args.i in
    let x = c.index-search-i.result in
    c.requires.search.sets i (get_or edges i x) (here edges i x c.requires.edge c.index-search-i.is ∙ ap Some c.index-search-i.is)

pub along_edge-with_atom-requires : goal.along_edge-with_atom-requires
along_edge-with_atom-requires t c =
    let s = c.args.search.now in
    let i = c.args.i in
    let x = c.index-search-i.result in
    let e = get_or s.edges.now i x in
    let at = here s.edges.now i x c.requires.edge c.index-search-i.is ∙ ap Some c.index-search-i.is in
    let onward = c.requires.search.onward i e at in
    let forth = onward.0 in
    let within = onward.1 in
    let from = c.if-edge-node.false in
    let xs = c.as_slice-atom-items.result.now in
    let are = leasts_slice s.on e.atoms c.in_ok-atoms.atoms.value c.deref.result.now xs c.deref.ensures c.as_slice-atom-items.ensures.value c.in_ok-atoms.ensures.least in
    let j = c.loop-atom.atom-index in
    let z = c.atom-item.result in
    let right = (are.each j z (here xs j z c.loop-atom-test.true c.atom-item.is)).1 in
    (search rules, (c.requires.search, (within, (right, c.loop-atom.invariant.memo))))

pub along_edge-loop-atom-preserved : goal.along_edge-loop-atom-preserved
along_edge-loop-atom-preserved t c =
    let s = c.args.search.now in
    let i = c.args.i in
    let e = get_or s.edges.now i c.index-search-i.result in
    let A = RestAgrees s.on s.answer.now c.args.wanted in
    let xs = c.as_slice-atom-items.result.now in
    let j = c.loop-atom.atom-index in
    let z = c.atom-item.result in
    let next = subst (λ m. IsLeastWithin s.on.prices.now m (IsThen (λ a. a ≡ atom_tree z.atom) (RestStands s e.to)) A c.in_ok-next.next) c.limit-within.ensures c.in_ok-next.ensures.least in
    record {
      memo = c.in_ok-next.ensures.findings;
      least = upto_more s.on.prices.now c.args.limit (λ x p. IsThen (λ a. a ≡ atom_tree x.atom) (RestStands s e.to) p) A xs j z (here xs j z c.loop-atom-test.true c.atom-item.is) c.loop-atom.best c.in_ok-next.next c.or-best.result
          c.or-best.ensures c.loop-atom.invariant.least next;
    }

pub along_edge-returns-clause-least : goal.along_edge-returns-clause-least
along_edge-returns-clause-least t c f edge =
    let s = c.args.search.now in
    let i = c.args.i in
    let x = c.index-search-i.result in
    let e = get_or s.edges.now i x in
    let at = here s.edges.now i x c.requires.edge c.index-search-i.is ∙ ap Some c.index-search-i.is in
    let A = RestAgrees s.on s.answer.now c.args.wanted in
    let xs = c.as_slice-atom-items.result.now in
    let are = leasts_slice s.on e.atoms c.in_ok-atoms.atoms.value c.deref.result.now xs c.deref.ensures c.as_slice-atom-items.ensures.value c.in_ok-atoms.ensures.least in
    let own : get_or c.args.search.now.edges.now c.args.i c.index-search-i.result ≡ f = cc in
    subst (λ (d : Edge). IsLeastWithin s.on.prices.now c.args.limit (IsAlong s c.args.node d) A c.loop-atom.best) own
    (along_done s c.args.node e c.args.limit c.args.wanted c.if-edge-node.false xs are c.loop-atom.best
    (upto_done s.on.prices.now c.args.limit (λ y p. IsThen (λ a. a ≡ atom_tree y.atom) (RestStands s e.to) p) A xs c.loop-atom.atom-index c.loop-atom-test.false c.loop-atom.best c.loop-atom.invariant.least))

pub along_edges-loop-left-init : goal.along_edges-loop-left-init
along_edges-loop-left-init t c =
    let s = c.args.search.now in
    record {
      memo = c.requires.findings;
      within = c.last_out-left.ensures.most;
      least = past_none s c.args.node c.args.limit (RestAgrees s.on s.answer.now c.args.wanted) c.last_out-left.result c.last_out-left.ensures.none c.in_ok-best.best (c.in_ok-best.ensures c.args.limit);
    }

pub along_edges-loop-left-preserved : goal.along_edges-loop-left-preserved
along_edges-loop-left-preserved t c =
    let s = c.args.search.now in
    let n = c.args.node in
    let A = RestAgrees s.on s.answer.now c.args.wanted in
    let edges = s.edges.now in
    let i = c.loop-left.left - 1 in
    let inside = c.loop-left.invariant.within in
    let some = c.loop-left-test.true in
    let less = c.out_before-left.ensures.less in
    let there = get_there edges i (omega arith) in
    let next = subst (λ m. IsLeastWithin s.on.prices.now m (IsAlong s n there.0) A c.in_ok-next.next) c.limit-within.ensures (c.in_ok-next.ensures.least there.0 there.1) in
    let place : c.loop-left.left ≡ c.loop-left.left - 1 + 1 = omega arith in
    let old = subst (λ m. IsLeastWithin s.on.prices.now c.args.limit (Past s n c.args.limit A m) A c.loop-left.best) place c.loop-left.invariant.least in
    record {
      memo = c.in_ok-next.ensures.findings;
      within = omega arith;
      least = past_more s n c.args.limit A i c.out_before-left.result there.0 c.out_before-left.ensures.less there.1 c.out_before-left.ensures.none c.loop-left.best c.in_ok-next.next c.or-best.result c.or-best.ensures old next;
    }

pub along_edges-returns-clause-least : goal.along_edges-returns-clause-least
along_edges-returns-clause-least t c =
    let s = c.args.search.now in
    let n = c.args.node in
    let A = RestAgrees s.on s.answer.now c.args.wanted in
    let none = c.loop-left-test.false in
    let place : c.loop-left.left ≡ 0 = omega arith in
    past_done s n c.args.limit A c.loop-left.best (subst (λ m. IsLeastWithin s.on.prices.now c.args.limit (Past s n c.args.limit A m) A c.loop-left.best) place c.loop-left.invariant.least)

pub least_rest-returns-then-within-limit-clause-least : goal.least_rest-returns-then-within-limit-clause-least
least_rest-returns-then-within-limit-clause-least t c =
    let own = c.rest-within.ensures in
    let dear = c.if-within-limit.true in
    rest_dear c.args.search.now c.requires.search c.args.node c.args.limit c.args.wanted (omega arith)

pub rest_within-returns-in-Some-clause-least : goal.rest_within-returns-in-Some-clause-least
rest_within-returns-in-Some-clause-least t c =
    memo_rest c.args.search.now c.args.findings.now.rests c.args.node c.args.wanted c.args.limit c.in-Some.least.now c.in_ok-copy.field-0 c.within.result c.requires.findings.rests c.in-Some.ensures c.in_ok-copy.ensures c.within.ensures

pub rest_within-returns-clause-findings : goal.rest_within-returns-clause-findings
rest_within-returns-clause-findings t c =
    let s = c.args.search.now in
    record {
      memo = c.in_ok-least.ensures.findings.memo;
      rests = c.in_ok-keep.ensures s c.in_ok-least.ensures.findings.rests
          (copied_within s.on.prices.now c.args.limit (RestStands s c.args.node) (RestAgrees s.on s.answer.now c.args.wanted) c.in_ok-copy-2.field-0 c.in_ok-least.least c.in_ok-copy-2.ensures c.in_ok-least.ensures.least);
    }

pub with_atom-returns-clause-least : goal.with_atom-returns-clause-least
with_atom-returns-clause-least t c =
    let s = c.args.search.now in
    let own = atom_tree c.args.atom.now.atom in
    let A = RestAgrees s.on s.answer.now c.args.wanted in
    let B = RestAgrees s.on s.answer.now c.in-Some.next in
    then_led s.on.prices.now own (RestStands s c.args.to) B A c.args.limit (λ q. c.in-Some.ensures s.on own q c.requires.atom) c.in-Some-left_after.left c.in-Some-left_after.ensures c.ranges.limit.fits c.in_ok-rest.rest c.in_ok-made.made
    c.in_ok-made.ensures c.in_ok-rest.ensures.least
