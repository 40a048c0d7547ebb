-- Who objects, over grounds whose rows stand in pairs.
use Rattle.std.proofs.Common.{◌≡◌, ℕ, List, [], ◌∷◌, Option, None, Some, ap}
use Rattle.fill_tree.specs.Tree.{Atoms}
use Rattle.fill_tree.specs.Value.{IsValue}
use Rattle.fill_tree.specs.declared.user.Example.{Example}
use Rattle.fill_local.proofs.Paired.{ArePaired, SaySame}
use Rattle.fill_object.specs.Objector.{Answers}
use Rattle.fill_space.specs.Objector.{ObjectionIs, ObjectionTree, ObjectsOn}
use Rattle.fill_space.specs.declared.ground.Ground.{Ground}
use Rattle.fill_session.specs.Objector.{ObjectorIs}
use Rattle.fill_local.proofs.Answering.{at_to, branches_to, value_alike}
use Rattle.fill_local.proofs.Explaining.{explains_back, explains_to, least_to, paired_back, same_back, value_to}

module _ (g h : Ground) (Pair : ℕ → ℕ → Type 0) (m : ArePaired g h Pair) (es ds : List Example) (z : SaySame Pair es ds) (r q : ℕ) (pair : Pair r q) where
  says_same : (said : Option (List ℕ)) (p : Atoms) → Answers g.sheet g.tables r said p ≡ Answers h.sheet h.tables q said p
  says_same said p = λ i. IsValue (value_to g h Pair m r q pair p i) said

  objects_to : (said : Option (List ℕ)) (p : Atoms) → ObjectsOn g es r said p → ObjectsOn h ds q said p
  objects_to said p o = record {
    explains = explains_to g h Pair m es ds z p o.explains;
    otherwise = λ a. o.otherwise (coe 1 0 (i. says_same said p i) a);
  }

module _ (g h : Ground) (Pair : ℕ → ℕ → Type 0) (m : ArePaired g h Pair) (es ds : List Example) (z : SaySame Pair es ds) (r q : ℕ) (pair : Pair r q) where
  objects_back : (said : Option (List ℕ)) (p : Atoms) → ObjectsOn h ds q said p → ObjectsOn g es r said p
  objects_back = objects_to h g (λ q r. Pair r q) (paired_back g h Pair m) ds es (same_back Pair es ds z) q r pair

  pub objection_to : (said : Option (List ℕ)) (found : Option ObjectionTree) → ObjectionIs g es r said found → ObjectionIs h ds q said found
  objection_to said None w = λ p x. coe 0 1 (i. says_same g h Pair m es ds z r q pair said p i) (w p (explains_back g h Pair m es ds z p x))
  objection_to said (Some o) w = record {
    least = least_to g.settings.profile.prices h.settings.profile.prices (ap (λ s. s.profile.prices) m.same.settings) (ObjectsOn g es r said) (ObjectsOn h ds q said) (objects_to g h Pair m es ds z r q pair said) (objects_back said) o.program w.least;
    value = coe 0 1 (i. IsValue (value_to g h Pair m r q pair o.program i) o.text) w.value;
  }

-- the objection to another answer of an equal text
module _ (g h : Ground) (Pair : ℕ → ℕ → Type 0) (m : ArePaired g h Pair) where
  pub objector_to : (es ds : List Example) → SaySame Pair es ds → (r q : ℕ) → Pair r q → (found : Option ObjectionTree) → ObjectorIs g es r found → ObjectorIs h ds q found
  objector_to [] [] z r q pair found w = w
  objector_to [] (d ∷ ds) z r q pair found w = absurd z
  objector_to (e ∷ es) [] z r q pair found w = absurd z
  objector_to (e ∷ es) (d ∷ ds) z r q pair found w =
      let t = branches_to g h Pair m (e ∷ es) (d ∷ ds) z w.0 w.4 in
      let c = at_to g h Pair m r q pair w.0 t.0 t.2 w.1 w.2 w.5 in
      (t.0, w.1, c.0, w.3, t.1, c.1, value_alike g h Pair m r q pair w.2.program c.0.program c.2.program w.3 w.6, objection_to g h Pair m w.2.examples c.0.examples c.2.examples r q pair w.3 found w.7)
