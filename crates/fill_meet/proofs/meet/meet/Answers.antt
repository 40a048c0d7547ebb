use Rattle.std.proofs.Common.{take, ap, sym, ◌∙◌, subst, arith}
use Rattle.fill_arena.specs.Contents.{Extends}
use Rattle.fill_arena.proofs.Lists.{extends_front, extends_same}
use Rattle.fill_meet.proofs.Lists.{extends_length}
use Rattle.fill_meet.proofs.Selves.{number_same, graph_self, program_in_both}
use Rattle.fill_meet.proofs.meet.meet.Goals as goal

pub cut-requires : goal.cut-requires
cut-requires g c = let long = extends_length _ _ c.meet_uncut.ensures.extends in let at = c.mark-mark.ensures in omega arith

pub cut-requires-in-Err : goal.cut-requires-in-Err
cut-requires-in-Err g c = let long = extends_length _ _ c.meet_uncut.ensures.extends in let at = c.mark-mark.ensures in omega arith

pub returns-in-Ok-None-clause-none : goal.returns-in-Ok-None-clause-none
returns-in-Ok-None-clause-none g c =
    c.cut.ensures.cut ∙ (ap (λ n. take n c.meet_uncut.new.arena) c.mark-mark.ensures ∙ extends_front c.args.arena.now c.meet_uncut.new.arena c.meet_uncut.ensures.extends)

pub returns-in-Ok-None-clause-extends : goal.returns-in-Ok-None-clause-extends
returns-in-Ok-None-clause-extends g c =
    let back = c.cut.ensures.cut ∙ (ap (λ n. take n c.meet_uncut.new.arena) c.mark-mark.ensures ∙ extends_front c.args.arena.now c.meet_uncut.new.arena c.meet_uncut.ensures.extends) in
    subst (λ d. Extends c.args.arena.now d) (sym back) (extends_same c.args.arena.now)

pub returns-in-Err-clause-extends : goal.returns-in-Err-clause-extends
returns-in-Err-clause-extends g c =
    let back = c.cut-in-Err.ensures.cut ∙ (ap (λ n. take n c.meet_uncut.new.arena) c.mark-mark.ensures ∙ extends_front c.args.arena.now c.meet_uncut.new.arena c.meet_uncut.ensures.extends) in
    subst (λ d. Extends c.args.arena.now d) (sym back) (extends_same c.args.arena.now)

pub returns-in-Err-clause-err : goal.returns-in-Err-clause-err
returns-in-Err-clause-err g c =
    c.cut-in-Err.ensures.cut ∙ (ap (λ n. take n c.meet_uncut.new.arena) c.mark-mark.ensures ∙ extends_front c.args.arena.now c.meet_uncut.new.arena c.meet_uncut.ensures.extends)

pub returns-then-eq-clause-met : goal.returns-then-eq-clause-met
returns-then-eq-clause-met g c = graph_self c.args.arena.now c.keeps_made.ensures c.args.a c.args.b (number_same c.args.a c.args.b (sym c.eq.ensures ∙ c.if-eq.true)) c.requires.first

pub returns-then-eq-clause-some : goal.returns-then-eq-clause-some
returns-then-eq-clause-some g c =
    let met = graph_self c.args.arena.now c.keeps_made.ensures c.args.a c.args.b (number_same c.args.a c.args.b (sym c.eq.ensures ∙ c.if-eq.true)) c.requires.first in
    program_in_both c.args.arena.now c.args.a c.args.b c.args.arena.now c.args.a c.keeps_made.ensures met

pub returns-in-Ok-Some-clause-some : goal.returns-in-Ok-Some-clause-some
returns-in-Ok-Some-clause-some g c =
    let met = rw c.in-Ok-Some.field-0-is at c.in-Ok-Some.ensures.met in
    program_in_both c.args.arena.now c.args.a c.args.b c.meet_uncut.new.arena c.in-Ok-Some.made c.keeps_made-in-Ok-Some.ensures met
