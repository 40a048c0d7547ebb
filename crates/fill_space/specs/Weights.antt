-- Examples have at most one weight.
use Rattle.std.proofs.Common.{◌≡◌, ℕ, List, ap, sym, ◌∙◌}
use Rattle.fill_tree.proofs.ProgramOrder.{least_is_one}
use Rattle.fill_tree.specs.Chosen.{Explains}
use Rattle.fill_tree.specs.Cost.{program_cost}
use Rattle.fill_tree.specs.declared.user.Example.{Example}
use Rattle.fill_space.specs.Ground.{Ground, WeighsOn}

pub one_weight : (g : Ground) (l : List Example) (v w : ℕ) → WeighsOn g l v → WeighsOn g l w → v ≡ w
one_weight g l v w h k =
    sym h.2 ∙ (ap (program_cost g.settings.profile.prices) (least_is_one g.settings.profile.prices (Explains g.settings g.sheet g.tables l) h.0 k.0 h.1 k.1) ∙ k.2)
