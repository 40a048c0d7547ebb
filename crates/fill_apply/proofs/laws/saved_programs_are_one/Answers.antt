use Rattle.fill_apply.proofs.Unique.{saved_one}
use Rattle.fill_apply.proofs.laws.saved_programs_are_one.Goals as goal

pub returns : goal.returns
returns c = λ inputs bytes x y h k. saved_one inputs bytes x y h k
