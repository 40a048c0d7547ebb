-- What was found of the weights of graphs stays so as the arena grows, is copied or is cut, and with one graph more.
use Rattle.std.proofs.Common.{◌≡◌, ℕ, Bool, true, false, cond, List, Some, Result, Ok, Err, nat_eq, refl, sym, ◌∙◌, subst, rules}
use Rattle.std.specs.Prelude.{◌↔◌, IfOk}
use Rattle.std.specs.HashMap.{get, Updates}
use Rattle.fill_text.specs.declared.error.NoMemory.{NoMemory}
use Rattle.fill_tokens.specs.declared.prices.Prices.{Prices}
use Rattle.fill_tree.specs.Tree.{Atoms}
use Rattle.fill_tree.specs.declared.user.Example.{Example}
use Rattle.fill_arena.specs.Contents.{Extends, IsGraph}
use Rattle.fill_arena.specs.Stands.{ProgramStands}
use Rattle.fill_arena.specs.WellMade.{IsWellMade}
use Rattle.fill_arena.specs.declared.entry.Entry.{Entry}
use Rattle.fill_arena.specs.declared.entry.Entry.TheVariants.{Graph}
use Rattle.fill_arena.proofs.Grows.{programs_stay}
use Rattle.fill_space.specs.Ground.{WeighsOn}
use Rattle.fill_space.specs.Met.{AreRenamed, IsRenamed}
use Rattle.fill_space.specs.Spaces.{SpacesData, SpaceStands}
use Rattle.fill_space.specs.Weighed.{AreWeighed, IsWeighed}
use Rattle.fill_space.specs.declared.carried.Renaming.{Renaming}
use Rattle.fill_space.specs.declared.weights.Weights.{Weights}
use Rattle.fill_space.proofs.Joined.{chosen}

module _ (prices : Prices) (c d : List Entry) where
  -- graphs in which the same programs stand weigh the same
  weighs_as : (k n cost : ℕ) → IsGraph d n → ((p : Atoms) → ProgramStands d n p ↔ ProgramStands c k p) → IsWeighed prices c k cost → IsWeighed prices d n cost
  weighs_as k n cost graph same w = record {
    graph = graph;
    program = w.program;
    least = record { has = (same w.program).1 w.least.has; least = λ q h. w.least.least q ((same q).0 h) };
    costs = w.costs;
  }

  pub weights_stay : IsWellMade c → Extends c d → (weights : Weights) → AreWeighed prices c weights → AreWeighed prices d weights
  weights_stay made on weights t = record {
    each = λ k cost h.
        (let w = t.each k cost h in
        weighs_as k k cost (w.graph.0, w.graph.1, on k (Graph w.graph.0 w.graph.1) w.graph.2)
        (λ p. let stay = programs_stay c d made on k p w.graph in (stay.1, stay.0)) w);
  }

  pub weight_carried : (r : Renaming) → AreRenamed c d r → (k n cost : ℕ) → IsRenamed r k n → IsWeighed prices c k cost → IsWeighed prices d n cost
  weight_carried r renamed k n cost h w = let now = renamed.each k n w.graph h in weighs_as k n cost now.0 now.1 w

-- what is known with one graph more
module _ (prices : Prices) (c : List Entry) (old new : Weights) (graph cost : ℕ) where
  put_step : (k w : ℕ) (same : Bool) → nat_eq graph k ≡ same → get nat_eq new.table k ≡ cond same (Some cost) (get nat_eq old.table k) → get nat_eq new.table k ≡ Some w
      → IsWeighed prices c graph cost → AreWeighed prices c old → IsWeighed prices c k w
  put_step k w true e u h is t =
      let same : graph ≡ k = search rules in
      let q : Some cost ≡ Some w = sym u ∙ h in
      let kept : cost ≡ w = cc in
      subst (λ v. IsWeighed prices c v w) same (subst (λ v. IsWeighed prices c graph v) kept is)
  put_step k w false e u h is t = t.each k w (sym u ∙ h)

  pub weight_put : Updates nat_eq old.table new.table graph (Some cost) → IsWeighed prices c graph cost → AreWeighed prices c old → AreWeighed prices c new
  weight_put u is t = record { each = λ k w h. put_step k w (nat_eq graph k) refl (u.0 k) h is t }

-- a space's graph weighs what its examples weigh
pub weight_told : (s : SpacesData) (k : ℕ) (r : Result ℕ NoMemory) → IfOk r (IsWeighed s.ground.settings.profile.prices s.arena k)
    → IfOk r (λ w. (l : List Example) → SpaceStands s k l → WeighsOn s.ground l w)
weight_told s k (Ok w) is = λ l x. (is.program, chosen s k is.program is.least l x, is.costs)
weight_told s k (Err want) is = tt
