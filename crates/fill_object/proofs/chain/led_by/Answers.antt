use Rattle.std.proofs.Common.{refl, sym, subst}
use Rattle.fill_tree.specs.Meaning.{atom_tree}
use Rattle.fill_object.specs.Chains.{IsLed}
use Rattle.fill_object.specs.declared.chain.Least.TheVariants.{Absent, Dearer}
use Rattle.fill_object.proofs.Led.{led_found}
use Rattle.fill_object.proofs.chain.led_by.Goals as goal

pub returns-in-Absent : goal.returns-in-Absent
returns-in-Absent c = subst (λ o. IsLed (atom_tree c.args.atom.now) c.args.own o Absent) (sym c.in-Absent.is) refl

pub returns-in-Dearer : goal.returns-in-Dearer
returns-in-Dearer c = subst (λ o. IsLed (atom_tree c.args.atom.now) c.args.own o Dearer) (sym c.in-Dearer.is) refl

pub returns-in_ok-new-in-Found : goal.returns-in_ok-new-in-Found
returns-in_ok-new-in-Found c =
    led_found (atom_tree c.args.atom.now) c.args.own c.in-Found.chain c.in_ok-new-in-Found.field-0 c.args.rest c.deref.result.now c.in_ok-made-in-Found.made c.in-Found.is c.deref.ensures c.in_ok-new-in-Found.ensures.ok
    c.in_ok-made-in-Found.ensures.atoms c.in_ok-made-in-Found.ensures.cost
