use Rattle.fill_space.proofs.Meeting.{all_stay, told_of_meet}
use Rattle.fill_space.proofs.met.meet_once.Goals as goal

pub returns-in-Some-clause-met : goal.returns-in-Some-clause-met
returns-in-Some-clause-met g c = (c.requires.told.each (c.args.a, c.args.b) c.in-Some.made c.in-Some.ensures).met

pub returns-in-Some-clause-some : goal.returns-in-Some-clause-some
returns-in-Some-clause-some g c = (c.requires.told.each (c.args.a, c.args.b) c.in-Some.made c.in-Some.ensures).some

pub returns-in-Ok-clause-told : goal.returns-in-Ok-clause-told
returns-in-Ok-clause-told g c =
    let old = c.args.arena.now in
    let new = c.meet.new.arena in
    c.keep.ensures new (all_stay old new c.keeps_made.ensures c.meet.ensures.extends c.args.met.now c.requires.told)
    (told_of_meet old new c.keeps_made.ensures c.meet.ensures.extends c.args.a c.args.b c.in-Ok.made c.requires.first c.requires.second c.in-Ok.ensures.met c.in-Ok.ensures.some)
