use Rattle.std.proofs.Common.{sym, ◌∙◌}
use Rattle.fill_meet.proofs.AtomPairs as atoms
use Rattle.fill_meet.proofs.Selves.{number_same, number_not_other, sources_self}
use Rattle.fill_meet.proofs.within.is_item_within.Goals as goal

pub returns-in-Const-Const-clause-within : goal.returns-in-Const-Const-clause-within
returns-in-Const-Const-clause-within c = λ e. rw (c.in-Const-Const.is-0, c.in-Const-Const.is-1) (atoms.const_met _ _ _ (c.same.ensures.0 e))

pub returns-in-Whole-Whole-clause-within : goal.returns-in-Whole-Whole-clause-within
returns-in-Whole-Whole-clause-within c = λ e.
    let first = rw c.in-Whole-Whole.is-0 at c.requires.first in
    let same = number_same c.in-Whole-Whole.s c.in-Whole-Whole.t (sym c.eq.ensures ∙ e) in
    rw (c.in-Whole-Whole.is-0, c.in-Whole-Whole.is-1) (atoms.whole_met _ _ _ _ (sources_self c.args.arena.now c.keeps_made.ensures c.in-Whole-Whole.s c.in-Whole-Whole.t same first.1.0))

pub returns-else-not-are_places_within-clause-within : goal.returns-else-not-are_places_within-clause-within
returns-else-not-are_places_within-clause-within c = λ e.
    let first = rw c.in-Sub-Sub.is-0 at c.requires.first in
    let same = number_not_other c.in-Sub-Sub.s c.in-Sub-Sub.t (sym c.ne.ensures ∙ c.if-ne.false) in
    let sources = sources_self c.args.arena.now c.keeps_made.ensures c.in-Sub-Sub.s c.in-Sub-Sub.t same first.1.0.0 in
    let lefts = c.are_places_within.ensures.within c.if-not-are_places_within.false in
    let rights = c.are_places_within-in-Sub-Sub.ensures.within e in
    rw (c.in-Sub-Sub.is-0, c.in-Sub-Sub.is-1) (atoms.sub_met _ _ _ _ _ _ _ _ _ _ sources lefts rights)
