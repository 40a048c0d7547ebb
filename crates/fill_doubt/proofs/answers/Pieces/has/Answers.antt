use Rattle.std.proofs.Common.{◌≡◌, ◌<◌, ◌≤◌, length, refl, sym, ◌∙◌, arith}
use Rattle.std.proofs.lemmas.Bool.{false≢true}
use Rattle.fill_arena.proofs.Scan.{here}
use Rattle.std.proofs.lemmas.Slice.Eq.{slice_eq-Decides}
use Rattle.std.proofs.lemmas.Bool.Decides.{Decides-eqb}
use Rattle.fill_arena.proofs.Scan.{scan_start, scan_more, scan_end}
use Rattle.fill_eval.specs.Piece.{piece_text}
use Rattle.fill_doubt.proofs.answers.Pieces.has.Goals as goal

pub loop-i-init : goal.loop-i-init
loop-i-init c = scan_start (λ x. piece_text x ≡ piece_text c.args.piece.now) c.args.self.now.pieces.items

pub as_slice-requires : goal.as_slice-requires
as_slice-requires c =
    let xs = c.args.self.now.pieces in
    let lt : c.loop-i.i < length xs.items = (let n = xs.ok.0 in let l = c.len-i-end.ensures in let t = c.loop-i-test.true in omega arith) in
    record { within = c.requires.within c.loop-i.i c.index.result.now (here xs.items c.loop-i.i c.index.result.now lt c.index.ensures) }

pub returns-then-eq : goal.returns-then-eq
returns-then-eq c =
    let xs = c.args.self.now.pieces in
    let lt : c.loop-i.i < length xs.items = (let n = xs.ok.0 in let l = c.len-i-end.ensures in let t = c.loop-i-test.true in omega arith) in
    let same = slice_eq-Decides Decides-eqb c.as_slice.result.now c.as_slice-in-loop-i.result.now c.eq.result c.eq.ensures in
    ((λ _. (c.index.result.now, (c.loop-i.i, here xs.items c.loop-i.i c.index.result.now lt c.index.ensures), sym c.as_slice.ensures ∙ same.0 c.if-eq.true ∙ c.as_slice-in-loop-i.ensures)), (λ _. refl))

pub loop-i-preserved : goal.loop-i-preserved
loop-i-preserved c =
    let xs = c.args.self.now.pieces in
    let lt : c.loop-i.i < length xs.items = (let n = xs.ok.0 in let l = c.len-i-end.ensures in let t = c.loop-i-test.true in omega arith) in
    let same = slice_eq-Decides Decides-eqb c.as_slice.result.now c.as_slice-in-loop-i.result.now c.eq.result c.eq.ensures in
    scan_more (λ x. piece_text x ≡ piece_text c.args.piece.now) xs.items c.loop-i.i c.index.result.now (here xs.items c.loop-i.i c.index.result.now lt c.index.ensures) c.loop-i.invariant
    (λ e. false≢true (sym c.if-eq.false ∙ same.1 (c.as_slice.ensures ∙ e ∙ sym c.as_slice-in-loop-i.ensures)))

pub returns : goal.returns
returns c =
    let xs = c.args.self.now.pieces in
    let past : length xs.items ≤ c.loop-i.i = (let n = xs.ok.0 in let l = c.len-i-end.ensures in let t = c.loop-i-test.false in omega arith) in
    ((λ u. absurd (false≢true u)), (λ h. absurd (scan_end (λ x. piece_text x ≡ piece_text c.args.piece.now) xs.items c.loop-i.i past c.loop-i.invariant h)))
