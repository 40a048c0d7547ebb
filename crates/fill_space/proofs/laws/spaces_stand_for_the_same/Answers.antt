use Rattle.std.proofs.Common.{sym, subst}
use Rattle.fill_space.specs.Ground.{Ground}
use Rattle.fill_space.specs.Spaces.{SpaceStands, spaces_over}
use Rattle.fill_space.proofs.Growing.{grown, cut_back}
use Rattle.fill_space.proofs.laws.spaces_stand_for_the_same.Goals as goal

pub returns-clause-grown : goal.returns-clause-grown
returns-clause-grown c s t same made on k l x =
    subst (λ (g : Ground). SpaceStands (spaces_over g t.arena) k l) (sym same) (grown s.ground s.arena t.arena made on k l x)

pub returns-clause-cut : goal.returns-clause-cut
returns-clause-cut c s t same made on k l live x =
    cut_back s.ground s.arena t.arena made on k l live (subst (λ (g : Ground). SpaceStands (spaces_over g t.arena) k l) same x)
