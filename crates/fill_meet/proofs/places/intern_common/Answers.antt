use Rattle.std.proofs.Common.{sym, ◌∙◌, ap, Some}
use Rattle.fill_arena.specs.declared.entry.Entry.TheVariants.{Places}
use Rattle.fill_arena.proofs.Lists.{extends_same}
use Rattle.fill_meet.proofs.Listed.{places_met, places_apart}
use Rattle.fill_meet.proofs.places.intern_common.Goals as goal

pub common_places-requires-clause-first : goal.common_places-requires-clause-first
common_places-requires-clause-first c = c.keeps_made.ensures c.args.s (Places c.places.result.now) c.places.ensures

pub common_places-requires-clause-second : goal.common_places-requires-clause-second
common_places-requires-clause-second c = c.keeps_made.ensures c.args.t (Places c.places-2.result.now) c.places-2.ensures

pub returns-then-len-eq0-clause-met : goal.returns-then-len-eq0-clause-met
returns-then-len-eq0-clause-met c =
    places_apart c.args.arena.now c.args.arena.now (extends_same c.args.arena.now) c.args.s c.args.t _ _ _ c.places.ensures c.places-2.ensures c.in_ok-both.ensures.both (sym c.len.ensures ∙ c.if-len-eq0.true)

pub returns-clause-met : goal.returns-clause-met
returns-clause-met c =
    places_met c.args.arena.now c.intern_places.new.self c.intern_places.ensures.extends c.args.s c.args.t _ _ _ c.places.ensures c.places-2.ensures c.in_ok-both.ensures.both _
    (c.in_ok-intern_places.ensures.ok ∙ ap (λ l. Some (Places l)) c.as_slice.ensures) (λ e. c.if-len-eq0.false (c.len.ensures ∙ e))
