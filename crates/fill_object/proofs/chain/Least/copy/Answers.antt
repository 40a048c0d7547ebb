use Rattle.std.proofs.Common.{sym, subst}
use Rattle.fill_object.specs.Chains.{IsCopy}
use Rattle.fill_object.specs.declared.chain.Least.TheVariants.{Absent, Dearer, Found}
use Rattle.fill_object.proofs.chain.Least.copy.Goals as goal

pub returns-in-Absent : goal.returns-in-Absent
returns-in-Absent c = subst (IsCopy Absent) (sym c.in-Absent.is) tt

pub returns-in-Dearer : goal.returns-in-Dearer
returns-in-Dearer c = subst (IsCopy Dearer) (sym c.in-Dearer.is) tt

pub returns-in_ok-clone-in-Found : goal.returns-in_ok-clone-in-Found
returns-in_ok-clone-in-Found c = subst (IsCopy (Found c.in_ok-clone-in-Found.field-0)) (sym c.in-Found.is) c.in_ok-clone-in-Found.ensures.cases
