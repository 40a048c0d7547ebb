use Rattle.std.proofs.Common.{sym, ◌∙◌}
use Rattle.fill_sources.proofs.Made.{known_stays}
use Rattle.fill_build.specs.Pieces.{piece_text}
use Rattle.fill_build.proofs.PieceEdges.{no_items, set_of_items}
use Rattle.fill_build.proofs.edges.piece_set.Goals as goal

pub returns-then-len-eq0-clause-set : goal.returns-then-len-eq0-clause-set
returns-then-len-eq0-clause-set c =
    no_items c.args.on.now c.piece_atoms.new.arena (piece_text c.args.piece.now) c.in_ok-items.items (sym c.len.ensures ∙ c.if-len-eq0.true) c.in_ok-items.ensures.items

pub returns-clause-set : goal.returns-clause-set
returns-clause-set c =
    set_of_items c.args.on.now c.piece_atoms.new.arena c.intern_atoms.new.self (piece_text c.args.piece.now) c.in_ok-items.items c.in_ok-atoms.atoms c.intern_atoms.ensures.extends c.in_ok-atoms.ensures.ok
    c.in_ok-items.ensures.items

pub returns-clause-row_texts : goal.returns-clause-row_texts
returns-clause-row_texts c = known_stays c.args.on.now c.piece_atoms.new.arena c.intern_atoms.new.self c.intern_atoms.ensures.extends c.piece_atoms.new.row_texts c.in_ok-items.ensures.row_texts
