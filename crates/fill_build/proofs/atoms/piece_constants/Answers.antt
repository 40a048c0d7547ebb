use Rattle.std.proofs.Common.{◌∷◌, ◌++◌, List, [], sym, ap, subst, ◌∙◌}
use Rattle.fill_arena.specs.declared.entry.AtomItem.{AtomItem}
use Rattle.fill_arena.specs.declared.entry.AtomItem.TheVariants.{Const}
use Rattle.fill_build.specs.Pieces.{AreConstants}
use Rattle.fill_build.proofs.Items.{constant_put, constant_left_out}
use Rattle.fill_build.proofs.Lists.{piece_range}
use Rattle.fill_build.proofs.Readers.{piece_short}
use Rattle.fill_build.proofs.atoms.piece_constants.Goals as goal
use Rattle.fill_build.proofs.atoms.piece_constants.Goals.{then-piece+in_ok-piece+in_ok-push, else-piece}

pub returns : goal.returns
returns c = elim c.if-piece.branch [
  | then-piece+in_ok-piece+in_ok-push w ↦
      let p = c.args.piece.now in
      let u = w.in_ok-piece.field-0 in
      let piece = w.in_ok-piece.ensures ∙ piece_range p.text.now p.from p.width in
      let made = constant_put p c.requires c.keeps_scalars.ensures u piece w.if-piece.true (piece_short p c.requires u piece) in
      let pushed = w.items-is ∙ (w.in_ok-push.ensures.ok ∙ ap (λ (l : List AtomItem). l ++ Const u ∷ []) c.in_ok-items.ensures) in
      subst (λ (l : List AtomItem). AreConstants p l) (sym pushed) made
  | else-piece w ↦
      let p = c.args.piece.now in
      let made = constant_left_out p c.requires c.keeps_scalars.ensures w.if-piece.false in
      subst (λ (l : List AtomItem). AreConstants p l) (sym (w.items-is ∙ c.in_ok-items.ensures)) made
]
