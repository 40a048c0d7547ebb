use Rattle.std.proofs.Common.{Some, inr}
use Rattle.fill_eval.specs.Piece.{piece_text}
use Rattle.fill_doubt.proofs.Flags.{match_option}
use Rattle.fill_doubt.proofs.Items.{atoms_listed}
use Rattle.fill_doubt.proofs.some.first_piece.Goals as goal

pub returns-in-Some-clause-first : goal.returns-in-Some-clause-first
returns-in-Some-clause-first c =
    let all = atoms_listed c.args.on.now c.requires.row c.args.s c.atoms.result.now c.atoms.ensures (Some (piece_text c.in-Some.piece)) in
    (c.in-Some.ensures.0, all.0 (inr c.in-Some.ensures.1))

pub returns-clause-first : goal.returns-clause-first
returns-clause-first c =
    let exact = c.in_ok-found.ensures.exact in
    match_option c.first-2.result c.first-2.ensures (λ none t g. none t ((exact (Some t)).1 g)) (λ x h. (h.0, (exact (Some (piece_text x))).0 h.1))
