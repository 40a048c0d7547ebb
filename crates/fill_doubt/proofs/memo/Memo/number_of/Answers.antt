use Rattle.std.proofs.Common.{◌≡◌, length, refl, arith}
use Rattle.fill_doubt.specs.Shapes.{IsReadAt, IsShapeOf}
use Rattle.fill_doubt.specs.declared.shaped.Shaped.{Shaped}
use Rattle.fill_doubt.proofs.Cut.{last_at}
use Rattle.fill_doubt.proofs.Maps.{pushed_right}
use Rattle.fill_doubt.proofs.Numbers.{keeps_pushed, last_kept, numbered_kept}
use Rattle.fill_doubt.proofs.memo.Memo.number_of.Goals as goal

pub returns-clause-memo : goal.returns-clause-memo
returns-clause-memo c = λ on are.
    let x : Shaped = record { text = c.args.text; shape = c.in_ok-shape.shape; number = c.in_ok-number.number } in
    record {
      sources = are.sources;
      numbers = λ s f at. numbered_kept c.args.self.now.texts.items c.put_text.new.texts.items f (keeps_pushed c.args.self.now.texts.items c.put_text.new.texts.items x c.in_ok-put_text.ensures) (are.numbers s f at);
      last = last_kept on c.args.self.now.texts.items c.put_text.new.texts.items c.args.self.now.last (keeps_pushed c.args.self.now.texts.items c.put_text.new.texts.items x c.in_ok-put_text.ensures) are.last;
      parts = are.parts;
      texts = pushed_right (λ (y : Shaped). IsShapeOf y × IsReadAt c.number_of.new.self y.shape.text y.number) c.args.self.now.texts.items c.put_text.new.texts.items x c.in_ok-put_text.ensures
          (c.in_ok-shape.ensures, c.in_ok-number.ensures.there) (λ i y at. ((are.texts i y at).0, c.in_ok-number.ensures.kept y.shape.text y.number (are.texts i y at).1));
      shapes = c.in_ok-number.ensures.stand on.arena.now are.shapes;
    }

pub returns-clause-kept : goal.returns-clause-kept
returns-clause-kept c =
    let x : Shaped = record { text = c.args.text; shape = c.in_ok-shape.shape; number = c.in_ok-number.number } in
    keeps_pushed c.args.self.now.texts.items c.put_text.new.texts.items x c.in_ok-put_text.ensures

pub returns-clause-there : goal.returns-clause-there
returns-clause-there c =
    let xs = c.args.self.now.texts in
    let x : Shaped = record { text = c.args.text; shape = c.in_ok-shape.shape; number = c.in_ok-number.number } in
    let n : c.len-n.result ≡ length xs.items = (let l = xs.ok.0 in let e = c.len-n.ensures in omega arith) in
    (x, last_at xs.items c.put_text.new.texts.items x c.len-n.result c.in_ok-put_text.ensures n, refl)
