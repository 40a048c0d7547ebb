-- What the objection in a graph tells of the examples that its space stands for, and that there is one at most.
use Rattle.std.proofs.Common.{◌≡◌, ℕ, List, Option, None, Some, Result, Ok, Err, refl, sym, subst}
use Rattle.std.specs.Prelude.{IfOk, MatchOption, option_map}
use Rattle.fill_text.specs.declared.error.NoMemory.{NoMemory}
use Rattle.fill_tree.specs.Meaning.{program_tree}
use Rattle.fill_tree.specs.Tree.{Atoms}
use Rattle.fill_tree.specs.Value.{IsValue, ProgramIs}
use Rattle.fill_tree.specs.declared.user.Example.{Example}
use Rattle.fill_tree.proofs.ProgramOrder.{least_is_one}
use Rattle.fill_arena.specs.Stands.{ProgramStands}
use Rattle.fill_object.specs.Objector.{AllDearer, Answers, IsObjection}
use Rattle.fill_object.specs.declared.graph.Objection.{Objection}
use Rattle.fill_space.specs.Ground.{Ground}
use Rattle.fill_space.specs.Objector.{ObjectionIs, ObjectionTree, ObjectionWithin, ObjectsOn, objection_tree}
use Rattle.fill_space.specs.Spaces.{SpacesData, SpaceStands}

-- the objection of a space's graph
pub object_told : (s : SpacesData) (space row : ℕ) (said : Option (List ℕ)) (r : Result (Option Objection) NoMemory)
    → IfOk r (λ found. MatchOption found ((p : Atoms) → ProgramStands s.arena space p → Answers s.ground.sheet s.ground.tables row said p)
    (IsObjection s.ground.settings.profile.prices s.arena space s.ground.sheet s.ground.tables row said))
    → IfOk r (λ found. (l : List Example) → SpaceStands s space l → ObjectionIs s.ground l row said (option_map objection_tree found))
object_told s space row said (Ok None) h = λ l x p explains. h p ((x.exact p).1 explains)
object_told s space row said (Ok (Some o)) h = λ l x. record {
  least = record {
    has = record { explains = (x.exact (program_tree o.program)).0 h.least.has.stands; otherwise = h.least.has.otherwise };
    least = λ q a. h.least.least q (record { stands = (x.exact q).1 a.explains; otherwise = a.otherwise });
  };
  value = h.value;
}
object_told s space row said (Err want) h = tt

-- the objection of a space's graph within a limit
pub within_told : (s : SpacesData) (space row : ℕ) (said : Option (List ℕ)) (limit : ℕ) (r : Result (Option Objection) NoMemory)
    → IfOk r (λ found. MatchOption found (AllDearer s.ground.settings.profile.prices s.arena space s.ground.sheet s.ground.tables row said limit)
    (IsObjection s.ground.settings.profile.prices s.arena space s.ground.sheet s.ground.tables row said))
    → IfOk r (λ found. (l : List Example) → SpaceStands s space l → ObjectionWithin s.ground l row said limit (option_map objection_tree found))
within_told s space row said limit (Ok None) h = λ l x p o. h p (record { stands = (x.exact p).1 o.explains; otherwise = o.otherwise })
within_told s space row said limit (Ok (Some o)) h = λ l x. record {
  least = record {
    has = record { explains = (x.exact (program_tree o.program)).0 h.least.has.stands; otherwise = h.least.has.otherwise };
    least = λ q a. h.least.least q (record { stands = (x.exact q).1 a.explains; otherwise = a.otherwise });
  };
  value = h.value;
}
within_told s space row said limit (Err want) h = tt

-- what a property has is one value, or none
value_is_one : {A : Type 0} (P : A → Type 0) (o p : Option A) → IsValue P o → IsValue P p → o ≡ p
value_is_one P None None h k = refl
value_is_one P None (Some v) h k = (h v).0 ((k v).1 refl)
value_is_one P (Some v) p h k = sym ((k v).0 ((h v).1 refl))

-- there is one objection at most
pub objection_is_one : (g : Ground) (l : List Example) (row : ℕ) (said : Option (List ℕ)) (a b : Option ObjectionTree) → ObjectionIs g l row said a → ObjectionIs g l row said b → a ≡ b
objection_is_one g l row said None None h k = refl
objection_is_one g l row said None (Some q) h k = absurd (k.least.has.otherwise (h q.program k.least.has.explains))
objection_is_one g l row said (Some o) None h k = absurd (h.least.has.otherwise (k o.program h.least.has.explains))
objection_is_one g l row said (Some o) (Some q) h k =
    let program : o.program ≡ q.program = least_is_one g.settings.profile.prices (ObjectsOn g l row said) o.program q.program h.least k.least in
    let text : o.text ≡ q.text =
    value_is_one (ProgramIs g.sheet g.tables row q.program) o.text q.text
    (subst (λ (p : Atoms). IsValue (ProgramIs g.sheet g.tables row p) o.text) program h.value) k.value in
    λ i. Some (record { program = program i; text = text i })
