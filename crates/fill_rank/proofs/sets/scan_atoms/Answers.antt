use Rattle.std.proofs.Common.{subst}
use Rattle.fill_tree.specs.Meaning.{atom_tree}
use Rattle.fill_arena.specs.Stands.{AtomStands}
use Rattle.fill_arena.specs.Best.{IsBestOf}
use Rattle.fill_tree.specs.Order.{atom_rank}
use Rattle.fill_rank.proofs.Cheap.{constant_cheap, part_cheap}
use Rattle.fill_rank.proofs.Pieces.{atom_best}
use Rattle.fill_arena.proofs.Filled.{atom_filled}
use Rattle.fill_rank.proofs.sets.scan_atoms.Goals as goal

pub unreachable-requires : goal.unreachable-requires
unreachable-requires c =
    let arena = c.args.arena.now in
    let s = c.args.s in
    let best = atom_best c.args.prices.now arena s c.in_ok-constant.constant c.in_ok-part.part c.lesser_atom.result c.lesser_atom.ensures c.in_ok-constant.ensures c.in_ok-part.ensures.best in
    let none = subst (IsBestOf atom_tree (atom_rank c.args.prices.now) (AtomStands arena s)) c.in_default.is best in
    let a = atom_filled arena c.keeps_made.ensures s c.requires.set in
    none a.0 a.1

pub returns-clause-best : goal.returns-clause-best
returns-clause-best c =
    let arena = c.args.arena.now in
    let s = c.args.s in
    let best = atom_best c.args.prices.now arena s c.in_ok-constant.constant c.in_ok-part.part c.lesser_atom.result c.lesser_atom.ensures c.in_ok-constant.ensures c.in_ok-part.ensures.best in
    subst (IsBestOf atom_tree (atom_rank c.args.prices.now) (AtomStands arena s)) c.in-Some.is best

pub lesser_atom-requires : goal.lesser_atom-requires
lesser_atom-requires c =
    let arena = c.args.arena.now in
    record {
      best = constant_cheap c.args.prices.now c.keep_small.ensures arena c.keeps_made.ensures c.args.s c.in_ok-constant.constant c.in_ok-constant.ensures;
      next = part_cheap c.args.prices.now c.keep_small.ensures arena c.keeps_made.ensures c.args.s c.in_ok-part.part c.in_ok-part.ensures.best;
    }
