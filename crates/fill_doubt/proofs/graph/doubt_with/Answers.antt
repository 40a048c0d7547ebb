use Rattle.std.proofs.Common.{sym, subst}
use Rattle.fill_doubt.specs.Shapes.{ShapesStand}
use Rattle.fill_doubt.specs.declared.row.OnRow.{OnRow}
use Rattle.fill_doubt.specs.declared.shapes.Shapes.{Shapes}
use Rattle.fill_doubt.proofs.graph.doubt_with.Goals as goal

pub differ_on-requires-clause-row : goal.differ_on-requires-clause-row
differ_on-requires-clause-row c = record { first = c.requires.first; last = c.requires.last; distinguish = c.keeps_keys.ensures; made = c.keeps_made.ensures }

pub differ_on-requires-clause-memo : goal.differ_on-requires-clause-memo
differ_on-requires-clause-memo c =
    let on : OnRow = record { alloc = c.args.alloc; arena = c.args.arena; row = c.args.row; sheet = c.args.sheet; tables = c.args.tables } in
    c.new-memo.ensures on (subst (λ (s : Shapes). ShapesStand c.args.arena.now s) (sym c.replace.ensures.value) (c.make_room.ensures c.args.arena.now c.requires.shapes))

pub returns-in_err-flag-clause-shapes : goal.returns-in_err-flag-clause-shapes
returns-in_err-flag-clause-shapes c = subst (λ (s : Shapes). ShapesStand c.args.arena.now s) (sym c.replace.ensures.after) (c.new.ensures c.args.arena.now)

pub returns-clause-shapes : goal.returns-clause-shapes
returns-clause-shapes c = c.in_ok-flag.ensures.memo.shapes
