-- An example that is accepted stands after those before it.
use Rattle.std.proofs.Common.{◌∙◌, ℕ, List, ap, subst}
use Rattle.fill_tree.specs.declared.user.Edit.TheVariants.{Add}
use Rattle.fill_tree.specs.declared.user.Example.{Example}
use Rattle.fill_session.specs.Edits.{changed}
use Rattle.fillcsv_blocks.specs.Blocks.{StandsFor}
use Rattle.fillcsv_blocks.proofs.block.Block.add_here.Goals as goal

pub returns-in-Ok-clause-learned : goal.returns-in-Ok-clause-learned
returns-in-Ok-clause-learned g c = λ long a s accepted.
    let told = c.in-Ok.ensures.answers long a s in
    let same = told.1.1 ∙ ap (λ (t : List ℕ). changed a (Add c.args.example.now.row t)) c.in_ok-text.ensures in
    subst (λ (l : List Example). StandsFor long c.add.new.self l) same told.2
