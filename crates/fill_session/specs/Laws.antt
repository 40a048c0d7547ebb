-- What the laws of branches and answers say of an example.
use Rattle.std.specs.Prelude.{◌≡◌, Contains, Some}
use Rattle.fill_tree.specs.Value.{IsValue, ProgramIs}
use Rattle.fill_tree.specs.declared.user.Example.{Example}
use Rattle.fill_space.specs.declared.ground.Ground.{Ground}
use Rattle.fill_space.specs.Doubt.{IsDoubtful}
use Rattle.fill_session.specs.Branches.{BranchData}
use Rattle.fill_session.specs.declared.answer.Answer.{Answer}
use Rattle.fill_session.specs.declared.answer.State.TheVariants.{Given}

-- the branch reproduces the example: it is one of the branch's, its text is the value of the branch's program on its
-- row, and the programs that explain the branch's examples don't differ there
pub record IsReproducedBy (g : Ground) (e : Example) (b : BranchData) : Type 0 where
  pub held : Contains b.examples e
  pub value : IsValue (ProgramIs g.sheet g.tables e.row b.program) (Some e.text)
  pub sure : ¬ (IsDoubtful g b.examples e.row)

-- the answer is the example's text, which was given
abbrev pub IsGivenAs : Example → Answer → Type 0
IsGivenAs e a = (a.text ≡ Some e.text) × (a.state ≡ Given)
