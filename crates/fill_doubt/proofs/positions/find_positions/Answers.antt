use Rattle.std.proofs.Common.{ℕ, List, subst}
use Rattle.fill_doubt.specs.Placed.{ArePlaced}
use Rattle.fill_doubt.proofs.Flags.{on_ok, on_two}
use Rattle.fill_doubt.proofs.Kept.{lent_text}
use Rattle.fill_doubt.proofs.Numbers.{number_there}
use Rattle.fill_doubt.proofs.positions.find_positions.Goals as goal

pub shape_positions-requires-clause-shape : goal.shape_positions-requires-clause-shape
shape_positions-requires-clause-shape c =
    let at = lent_text c.args.memo.now c.args.text.now.text.now c.in-Some.n c.index-shaped.result.now (number_there c.args.memo.now.texts.items c.args.text.now.text.now c.args.text.now.number c.in-Some.n c.in-Some.is c.requires.number) c.index-shaped.ensures in
    (c.requires.memo.texts c.in-Some.n c.index-shaped.result.now at.0).0

pub shape_positions-requires-clause-there : goal.shape_positions-requires-clause-there
shape_positions-requires-clause-there c =
    let at = lent_text c.args.memo.now c.args.text.now.text.now c.in-Some.n c.index-shaped.result.now (number_there c.args.memo.now.texts.items c.args.text.now.text.now c.args.text.now.number c.in-Some.n c.in-Some.is c.requires.number) c.index-shaped.ensures in
    (c.requires.memo.texts c.in-Some.n c.index-shaped.result.now at.0).1

pub shape_positions-requires-clause-stand : goal.shape_positions-requires-clause-stand
shape_positions-requires-clause-stand c = c.requires.memo.shapes

pub shape_positions-requires-2-clause-shape : goal.shape_positions-requires-2-clause-shape
shape_positions-requires-2-clause-shape c =
    let at = lent_text c.args.memo.now c.args.text.now.text.now c.in-Some.n c.index-shaped.result.now (number_there c.args.memo.now.texts.items c.args.text.now.text.now c.args.text.now.number c.in-Some.n c.in-Some.is c.requires.number) c.index-shaped.ensures in
    (c.requires.memo.texts c.in-Some.n c.index-shaped.result.now at.0).0

pub shape_positions-requires-2-clause-there : goal.shape_positions-requires-2-clause-there
shape_positions-requires-2-clause-there c =
    let x = c.index-shaped.result.now in
    let at = lent_text c.args.memo.now c.args.text.now.text.now c.in-Some.n x (number_there c.args.memo.now.texts.items c.args.text.now.text.now c.args.text.now.number c.in-Some.n c.in-Some.is c.requires.number) c.index-shaped.ensures in
    c.in_ok-shape_positions.ensures.there x.shape.text x.number (c.requires.memo.texts c.in-Some.n x at.0).1

pub returns-clause-memo : goal.returns-clause-memo
returns-clause-memo c =
    let are = c.requires.memo in
    on_two c.shape_positions-2.result c.shape_positions-2.ensures.stand c.shape_positions-2.ensures.there (λ stand there. record {
      sources = are.sources;
      numbers = are.numbers;
      last = are.last;
      parts = are.parts;
      texts = λ i x at. ((are.texts i x at).0, there x.shape.text x.number (c.in_ok-shape_positions.ensures.there x.shape.text x.number (are.texts i x at).1));
      shapes = stand;
    })

pub returns-clause-lefts : goal.returns-clause-lefts
returns-clause-lefts c =
    let e = (lent_text c.args.memo.now c.args.text.now.text.now c.in-Some.n c.index-shaped.result.now (number_there c.args.memo.now.texts.items c.args.text.now.text.now c.args.text.now.number c.in-Some.n c.in-Some.is c.requires.number) c.index-shaped.ensures).1 in
    on_ok c.shape_positions-2.result c.shape_positions-2.ensures.stand
    (λ _. subst (λ (t : List ℕ). ArePlaced c.args.on.now.arena.now c.args.lefts t c.args.few c.shape_positions.new.found) e c.in_ok-shape_positions.ensures.found)

pub returns-clause-rights : goal.returns-clause-rights
returns-clause-rights c =
    let e = (lent_text c.args.memo.now c.args.text.now.text.now c.in-Some.n c.index-shaped.result.now (number_there c.args.memo.now.texts.items c.args.text.now.text.now c.args.text.now.number c.in-Some.n c.in-Some.is c.requires.number) c.index-shaped.ensures).1 in
    on_ok c.shape_positions-2.result c.shape_positions-2.ensures.found
    (subst (λ (t : List ℕ). ArePlaced c.args.on.now.arena.now c.args.rights t c.args.few c.shape_positions-2.new.found) e)
