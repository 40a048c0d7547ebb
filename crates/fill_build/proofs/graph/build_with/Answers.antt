use Rattle.std.proofs.Common.{take, ap, sym, ◌∙◌, subst, arith}
use Rattle.fill_arena.specs.Contents.{Extends}
use Rattle.fill_arena.proofs.Lists.{extends_front, extends_same}
use Rattle.fill_build.proofs.Lists.{extends_length}
use Rattle.fill_build.proofs.graph.build_with.Goals as goal

pub cut-requires : goal.cut-requires
cut-requires g c = let long = extends_length _ _ c.build_uncut.ensures.extends in let at = c.mark-mark.ensures in omega arith

pub cut-requires-in-Err : goal.cut-requires-in-Err
cut-requires-in-Err g c = let long = extends_length _ _ c.build_uncut.ensures.extends in let at = c.mark-mark.ensures in omega arith

pub returns-in-Ok-None-clause-none : goal.returns-in-Ok-None-clause-none
returns-in-Ok-None-clause-none g c =
    c.cut.ensures.cut ∙ (ap (λ n. take n c.build_uncut.new.arena) c.mark-mark.ensures ∙ extends_front c.args.arena.now c.build_uncut.new.arena c.build_uncut.ensures.extends)

pub returns-in-Ok-None-clause-extends : goal.returns-in-Ok-None-clause-extends
returns-in-Ok-None-clause-extends g c =
    let back = c.cut.ensures.cut ∙ (ap (λ n. take n c.build_uncut.new.arena) c.mark-mark.ensures ∙ extends_front c.args.arena.now c.build_uncut.new.arena c.build_uncut.ensures.extends) in
    subst (λ d. Extends c.args.arena.now d) (sym back) (extends_same c.args.arena.now)

pub returns-in-Err-clause-extends : goal.returns-in-Err-clause-extends
returns-in-Err-clause-extends g c =
    let back = c.cut-in-Err.ensures.cut ∙ (ap (λ n. take n c.build_uncut.new.arena) c.mark-mark.ensures ∙ extends_front c.args.arena.now c.build_uncut.new.arena c.build_uncut.ensures.extends) in
    subst (λ d. Extends c.args.arena.now d) (sym back) (extends_same c.args.arena.now)

pub returns-in-Err-clause-err : goal.returns-in-Err-clause-err
returns-in-Err-clause-err g c =
    c.cut-in-Err.ensures.cut ∙ (ap (λ n. take n c.build_uncut.new.arena) c.mark-mark.ensures ∙ extends_front c.args.arena.now c.build_uncut.new.arena c.build_uncut.ensures.extends)
