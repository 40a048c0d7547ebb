-- The conditional program of the session's branches is that of the branches over the long sheet.
use Rattle.std.proofs.Common.{◌≡◌, List, option_map}
use Rattle.std.proofs.lemmas.Result.{IfOk-weaker}
use Rattle.fill_tree.specs.Switch.{switch_tree}
use Rattle.fill_tree.specs.declared.user.Example.{Example}
use Rattle.fill_space.specs.declared.ground.Ground.{Ground}
use Rattle.fill_session.specs.Answers.{switch_of}
use Rattle.fill_session.specs.Branches.{AreBranches, BranchData}
use Rattle.fillcsv_blocks.specs.Blocks.{StandsFor}
use Rattle.fillcsv_blocks.proofs.Standing.{switched}
use Rattle.fillcsv_blocks.proofs.block.Block.switch.Goals as goal

pub returns : goal.returns
returns c =
    IfOk-weaker c.switch.result
    (λ made. (branches : List BranchData) × AreBranches c.self.inside.session.spaces.ground c.self.inside.session.examples branches × (option_map switch_tree made ≡ switch_of branches))
    (λ made. (g : Ground) (examples : List Example) → StandsFor g c.args.self.now examples → (branches : List BranchData) × AreBranches g examples branches × (option_map switch_tree made ≡ switch_of branches))
    (λ made told g examples s. switched g c.args.self.now examples s c.keeps_rows.ensures _ c.self.view_is (option_map switch_tree made) told) c.switch.ensures
