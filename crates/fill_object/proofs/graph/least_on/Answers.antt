use Rattle.std.proofs.Common.{◌-◌, arith}
use Rattle.std.specs.Option.{option_copied}
use Rattle.fill_arena.specs.declared.entry.Entry.TheVariants.{Graph}
use Rattle.fill_arena.proofs.Edges.{the_graph}
use Rattle.fill_arena.proofs.Items.{ok_on}
use Rattle.fill_object.proofs.Objections.{of_programs}
use Rattle.fill_object.proofs.graph.least_on.Goals as goal

pub overflow_sub-search : goal.overflow_sub-search
overflow_sub-search c =
    let edges = c.edges-edges.result.now in
    let some = (c.keeps_made.ensures c.args.g (Graph c.nodes.result edges) (the_graph c.args.on.now.arena.now c.args.g c.nodes.result edges c.nodes.ensures c.edges-edges.ensures)).some in
    omega arith

pub least_of-requires : goal.least_of-requires
least_of-requires c =
    let edges = c.edges-edges.result.now in
    let nodes = c.nodes.result in
    let is = the_graph c.args.on.now.arena.now c.args.g nodes edges c.nodes.ensures c.edges-edges.ensures in
    let made = c.keeps_made.ensures c.args.g (Graph nodes edges) is in
    record {
      search = record {
        row = c.requires.row;
        sets = λ k e h. (made.each k e h).atoms.0;
        onward = λ k e h. let own = made.each k e h in let lt = own.within in (own.onward, omega arith);
        guide = c.requires.guide nodes edges is;
      };
    }

pub returns : goal.returns
returns c =
    let on = c.args.on.now in
    let edges = c.edges-edges.result.now in
    let nodes = c.nodes.result in
    let is = the_graph on.arena.now c.args.g nodes edges c.nodes.ensures c.edges-edges.ensures in
    ok_on _ _ c.least_of.result c.least_of.ensures
    (λ o h. of_programs on c.args.g nodes edges (option_copied c.args.answer) c.characters.result.now c.first_wanted.result is c.first_wanted.ensures c.characters.ensures c.args.limit o h)
