use Rattle.std.proofs.Common.{◌≡◌, ◌+◌, ◌++◌, ◌∷◌, [], slice_index, inl, inr, refl, sym, ◌∙◌}
use Rattle.fill_text.proofs.ListReads.{on_ok}
use Rattle.fill_shapes.specs.Stretched.{AreBlocks}
use Rattle.fill_shapes.proofs.ReadLaws.{read_begun, read_on}
use Rattle.fill_shapes.proofs.shape.read_one.Goals as goal

pub returns-in-None : goal.returns-in-None
returns-in-None c =
    let t = c.args.t.now.text in
    let i = c.args.i in
    let old = c.args.shape.now in
    let new = c.begin_block-in-None.new.shape in
    let x = slice_index t i in
    on_ok c.begin_block-in-None.result ((new.text ≡ old.text ++ x ∷ []) × (new.bounds.items ≡ old.bounds.items ++ i ∷ []))
    (AreBlocks i old.text t (old.bounds.items ++ i ∷ []) → AreBlocks (i + 1) new.text t (new.bounds.items ++ (i + 1) ∷ []))
    (λ e. read_begun old.text new.text t old.bounds.items new.bounds.items i x refl refl (inl refl) e.0 e.1)
    c.begin_block-in-None.ensures

pub returns-then-alike : goal.returns-then-alike
returns-then-alike c = read_on c.args.shape.now.text c.args.t.now.text c.args.shape.now.bounds.items c.args.i c.if-i-gt0.true (c.if-alike.ensures.same refl) (c.if-alike.ensures.left refl) (c.if-alike.ensures.right refl)

pub returns-in-Some : goal.returns-in-Some
returns-in-Some c =
    let t = c.args.t.now.text in
    let i = c.args.i in
    let old = c.args.shape.now in
    let new = c.begin_block.new.shape in
    let x = slice_index c.args.marks.now.text c.in-Some.mark in
    let is = c.in-Some.ensures in
    on_ok c.begin_block.result ((new.text ≡ old.text ++ x ∷ []) × (new.bounds.items ≡ old.bounds.items ++ i ∷ []))
    (AreBlocks i old.text t (old.bounds.items ++ i ∷ []) → AreBlocks (i + 1) new.text t (new.bounds.items ++ (i + 1) ∷ []))
    (λ e. read_begun old.text new.text t old.bounds.items new.bounds.items i x is.same (is.mark ∙ sym is.character) (inr is.mark) e.0 e.1)
    c.begin_block.ensures
