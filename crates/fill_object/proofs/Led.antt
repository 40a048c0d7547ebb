-- A chain with one more atom in front.
use Rattle.std.proofs.Common.{◌≡◌, Global, ℕ, ◌+◌, ◌<◌, ◌^◌, ap, sym, subst, ◌∙◌}
use Rattle.std.specs.declared.rc.Rc.{Rc}
use Rattle.fill_tree.specs.Meaning.{program_tree}
use Rattle.fill_tree.specs.Tree.{AtomTree, more}
use Rattle.fill_object.specs.Chains.{IsLed}
use Rattle.fill_tree.specs.declared.chain.Chain.{Chain}
use Rattle.fill_object.specs.declared.chain.Least.{Least}
use Rattle.fill_object.specs.declared.chain.Least.TheVariants.{Found}

pub led_found : (a : AtomTree) (own : ℕ) (x y : Rc Chain Global) (rest : Least) (held made : Chain) → rest ≡ Found x → held ≡ x.value → y.value ≡ made → program_tree made.atoms ≡ more a (program_tree held.atoms) →
    (own + held.cost < 2 ^ 64 → made.cost ≡ own + held.cost) → IsLed a own rest (Found y)
led_found a own x y rest held made is same put atoms cost =
    let tree : program_tree made.atoms ≡ more a (program_tree x.value.atoms) = subst (λ (z : Chain). program_tree made.atoms ≡ more a (program_tree z.atoms)) same atoms in
    let sum : own + x.value.cost < 2 ^ 64 → made.cost ≡ own + x.value.cost = subst (λ (z : Chain). own + z.cost < 2 ^ 64 → made.cost ≡ own + z.cost) same cost in
    subst (λ o. IsLed a own o (Found y)) (sym is) (ap (λ (z : Chain). program_tree z.atoms) put ∙ tree, λ small. ap (λ (z : Chain). z.cost) put ∙ sum small)
