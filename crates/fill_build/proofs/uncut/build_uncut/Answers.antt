use Rattle.fill_build.proofs.Graphs.{is_graph}
use Rattle.fill_sources.proofs.Finding.{places_stand_on}
use Rattle.fill_build.proofs.uncut.build_uncut.Goals as goal

pub returns-in-Ok-clause-built : goal.returns-in-Ok-clause-built
returns-in-Ok-clause-built g c =
    let walks = rw c.in-Ok-Some.field-0-is at c.in-Ok-Some.ensures.walks in
    is_graph c.args.on.now c.args.text.now c.build_walks.new.arena c.intern_graph.new.self c.in-Ok-Some.walked c.in-Ok.made walks c.intern_graph.ensures.extends c.keeps_made.ensures c.in-Ok.ensures.ok

pub returns-in-Ok-clause-memory : goal.returns-in-Ok-clause-memory
returns-in-Ok-clause-memory g c = places_stand_on c.build_walks.new.arena c.intern_graph.new.self c.intern_graph.ensures.extends c.build_walks.new.memory c.build_walks.ensures.memory
