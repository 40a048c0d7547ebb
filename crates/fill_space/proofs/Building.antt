-- What was found of single examples stays so as the arena grows, is copied or is cut, and with one row more.
use Rattle.std.proofs.Common.{◌≡◌, ℕ, Bool, true, false, cond, List, [], ◌∷◌, Some, nat_eq, refl, sym, ◌∙◌, subst, rules}
use Rattle.std.specs.HashMap.{get, Updates}
use Rattle.fill_arena.specs.Contents.{Extends}
use Rattle.fill_arena.specs.WellMade.{IsWellMade}
use Rattle.fill_arena.specs.declared.entry.Entry.{Entry}
use Rattle.fill_sources.specs.Found.{PlacesStand}
use Rattle.fill_sources.specs.declared.memory.PlaceMemory.{PlaceMemory}
use Rattle.fill_sources.proofs.Finding.{places_stand_on}
use Rattle.fill_space.specs.Built.{AreBuilt, IsBuilt}
use Rattle.fill_space.specs.Ground.{Ground}
use Rattle.fill_space.specs.Met.{AreRenamed, IsRenamed}
use Rattle.fill_space.specs.declared.built.Built.{Built}
use Rattle.fill_space.specs.declared.built.BuiltFor.{BuiltFor}
use Rattle.fill_space.specs.declared.carried.Renaming.{Renaming}
use Rattle.fill_space.proofs.Growing.{grown}

pub built_stays : (g : Ground) (c d : List Entry) → IsWellMade c → Extends c d → (built : Built) → AreBuilt g c built → AreBuilt g d built
built_stays g c d made on built b = record {
  each = λ row f h. grown g c d made on f.graph (record { row = row; text = f.text } ∷ []) (b.each row f h);
  places = places_stand_on c d on built.places b.places;
}

-- .. with what was found of the places of a further row
pub build_kept : (g : Ground) (c d : List Entry) → IsWellMade c → Extends c d → (built : Built) (places : PlaceMemory) → PlacesStand d places → AreBuilt g c built → AreBuilt g d (record built { places = places })
build_kept g c d made on built places stand b = record { each = (built_stays g c d made on built b).each; places = stand }

pub built_carried : (g : Ground) (c d : List Entry) (r : Renaming) → AreRenamed c d r → (row : ℕ) (text : List ℕ) (k n : ℕ) → IsRenamed r k n → IsBuilt g c row text k → IsBuilt g d row text n
built_carried g c d r renamed row text k n h s =
    let now = renamed.each k n s.graph h in
    record {
      graph = now.0;
      exact = λ p. ((λ h. (s.exact p).0 ((now.1 p).0 h)), (λ explains. (now.1 p).1 ((s.exact p).1 explains)));
      some = s.some;
    }

-- what is known with one more row
module _ (g : Ground) (c : List Entry) (old new : Built) (row : ℕ) (made : BuiltFor) where
  put_step : (j : ℕ) (b : BuiltFor) (same : Bool) → nat_eq row j ≡ same → get nat_eq new.table j ≡ cond same (Some made) (get nat_eq old.table j) → get nat_eq new.table j ≡ Some b
      → IsBuilt g c row made.text made.graph → AreBuilt g c old → IsBuilt g c j b.text b.graph
  put_step j b true e u h is r =
      let same : row ≡ j = search rules in
      let q : Some made ≡ Some b = sym u ∙ h in
      let kept : made ≡ b = cc in
      subst (λ v. IsBuilt g c v b.text b.graph) same (subst (λ (f : BuiltFor). IsBuilt g c row f.text f.graph) kept is)
  put_step j b false e u h is r = r.each j b (sym u ∙ h)

  pub built_put : Updates nat_eq old.table new.table row (Some made) → IsBuilt g c row made.text made.graph → PlacesStand c new.places → AreBuilt g c old → AreBuilt g c new
  built_put u is places r = record { each = λ j b h. put_step j b (nat_eq row j) refl (u.0 j) h is r; places = places }
