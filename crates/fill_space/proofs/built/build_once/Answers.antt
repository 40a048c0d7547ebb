use Rattle.fill_space.proofs.Building.{build_kept}
use Rattle.fill_space.proofs.Joined.{of_example, of_no_example}
use Rattle.fill_space.proofs.built.build_once.Goals as goal

pub returns-in-Some-clause-one : goal.returns-in-Some-clause-one
returns-in-Some-clause-one g c = c.requires.built.each c.args.example.now.row (record { text = c.args.example.now.text; graph = c.in-Some.graph }) c.in-Some.ensures

pub returns-in-Ok-Some-clause-built : goal.returns-in-Ok-Some-clause-built
returns-in-Ok-Some-clause-built g c =
    let over = c.args.ground.now in
    let old = c.args.arena.now in
    let new = c.build_with.new.arena in
    let made = rw c.in-Ok-Some.field-0-is at c.in-Ok-Some.ensures.built in
    c.keep.ensures over new (build_kept over old new c.keeps_made.ensures c.build_with.ensures.extends c.args.built.now c.build_with.new.memory c.build_with.ensures.memory c.requires.built)
    (of_example over c.args.example.now new c.in-Ok-Some.graph made)

pub returns-in-Ok-Some-clause-one : goal.returns-in-Ok-Some-clause-one
returns-in-Ok-Some-clause-one g c =
    let made = rw c.in-Ok-Some.field-0-is at c.in-Ok-Some.ensures.built in
    of_example c.args.ground.now c.args.example.now c.build_with.new.arena c.in-Ok-Some.graph made

pub returns-in-Ok-None-clause-built : goal.returns-in-Ok-None-clause-built
returns-in-Ok-None-clause-built g c = build_kept c.args.ground.now c.args.arena.now c.build_with.new.arena c.keeps_made.ensures c.build_with.ensures.extends c.args.built.now c.build_with.new.memory c.build_with.ensures.memory c.requires.built

pub returns-in-Ok-None-clause-one : goal.returns-in-Ok-None-clause-one
returns-in-Ok-None-clause-one g c =
    let none = rw c.in-Ok-None.field-0-is at c.in-Ok-None.ensures.built in
    of_no_example c.args.ground.now c.args.example.now none

pub returns-in-Err-clause-built : goal.returns-in-Err-clause-built
returns-in-Err-clause-built g c = build_kept c.args.ground.now c.args.arena.now c.build_with.new.arena c.keeps_made.ensures c.build_with.ensures.extends c.args.built.now c.build_with.new.memory c.build_with.ensures.memory c.requires.built
