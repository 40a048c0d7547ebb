-- the items from a place on come to their branches one after the other
use Rattle.std.proofs.Common.{◌≡◌, ℕ, ◌+◌, ◌≤◌, List, [], ◌∷◌, ◌++◌, length, take, Some, ◌∙◌, subst, arith}
use Rattle.std.specs.Prelude.{slice_get}
use Rattle.std.proofs.lemmas.List.{take_all}
use Rattle.fill_split.specs.declared.folds.Fold.{Fold}
use Rattle.fill_split.specs.declared.folds.Folds.{Folds}
use Rattle.fill_split.specs.declared.rule.Placing.{Placing}
use Rattle.fill_split.specs.Keeping.{Keeps}
use Rattle.fill_split.specs.Placement.{OpensNinth}
use Rattle.fill_split.specs.Refusals.{NotAlone, NinthAt, Unplaceable, IsFirstFrom}
use Rattle.fill_split.specs.Standing.{spots, Stand, StandsBy, SinglesStand, rule_of}
use Rattle.fill_split.proofs.Zips.{zip_lengths, zip_some, zip_from, take_next}
use Rattle.fill_split.proofs.Coming.{came_singles}
use Rattle.fill_split.proofs.Unique.{is_first, all_placed}

-- folds that stand for the items before a place became folds that stand for the first i items
pub record Grows {S I K T B : Type 0} (first now : K → List I → Type 0) (fits : List I → Type 0) (weight : List I → ℕ → Type 0) (singles : List K) (at : ℕ) (before : Folds S I K T B) (i : ℕ) (after : Folds S I K T B) : Type 0 where
  pub rule : rule_of after ≡ rule_of before
  pub stand : (items : List I) → SinglesStand first singles items → StandsBy first fits weight (take at items) before → StandsBy now fits weight (take i items) after

module _ {S I K T B : Type 0} (first now new : K → List I → Type 0) (fits : List I → Type 0) (weight : List I → ℕ → Type 0) (singles : List K) (at : ℕ) (before : Folds S I K T B) (i : ℕ) (after : Folds S I K T B) (g : Grows first now fits weight singles at before i after) (older : Keeps first now) (single : K) (here : slice_get singles i ≡ Some single) where
  -- one more item
  pub grows_more : (next : Folds S I K T B) → rule_of next ≡ rule_of after → ((seen : List I) (x : I) → StandsBy now fits weight seen after → now single (x ∷ []) → StandsBy new fits weight (seen ++ x ∷ []) next) → Grows first new fits weight singles at before (i + 1) next
  grows_more next same placed =
      record {
        rule = same ∙ g.rule;
        stand = λ items z s.
            let q = zip_some (λ k x. first k (x ∷ [])) singles items i single z here in
            rw (take_next items i q.0 q.1) (placed (take i items) q.0 (g.stand items z s) (older single (q.0 ∷ []) q.2));
      }

  -- the next item is the first that can't be placed
  pub grows_no_more : (law : (k : K) (l : List I) → first k l → fits l) → at ≤ i → ((seen : List I) (x : I) → StandsBy now fits weight seen after → now single (x ∷ []) → OpensNinth (rule_of after) fits weight seen x) → (items : List I) → SinglesStand first singles items → StandsBy first fits weight (take at items) before → IsFirstFrom (rule_of before) fits weight items at i × (NotAlone fits items i → ⊥) × NinthAt (rule_of before) fits weight items i
  grows_no_more law from ninth items z s =
      let q = zip_some (λ k x. first k (x ∷ [])) singles items i single z here in
      let t = g.stand items z s in
      let alone : (j : ℕ) (x : I) → slice_get items j ≡ Some x → fits (x ∷ []) = (λ j x e. let w = zip_from (λ k x. first k (x ∷ [])) singles items j x z e in law w.0 (x ∷ []) w.1) in
      subst (λ r. IsFirstFrom r fits weight items at i × (NotAlone fits items i → ⊥) × NinthAt r fits weight items i) g.rule (
        is_first (rule_of after) fits weight items at i t.branches from t.placed t.few alone,
        (λ n. n.2 (alone i n.0 n.1)),
        (q.0, q.1, ninth (take i items) q.0 t (older single (q.0 ∷ []) q.2)),
      )

pub grows_end : {S I K T B : Type 0} (first now : K → List I → Type 0) (fits : List I → Type 0) (weight : List I → ℕ → Type 0) (singles : List K) (at : ℕ) (before : Folds S I K T B) (i : ℕ) (after : Folds S I K T B) → Grows first now fits weight singles at before i after → length singles ≤ i → (items : List I) → SinglesStand first singles items → StandsBy first fits weight (take at items) before → StandsBy now fits weight items after
grows_end first now fits weight singles at before i after g h items z s =
    let l = zip_lengths (λ k x. first k (x ∷ [])) singles items z in
    subst (λ v. StandsBy now fits weight v after) (take_all i items (omega arith)) (g.stand items z s)

-- of items that folds stand for, each can be placed
pub stand_places : {K I : Type 0} (stands : K → List I → Type 0) (rule : Placing) (fits : List I → Type 0) (weight : List I → ℕ → Type 0) (law : (k : K) (l : List I) → stands k l → fits l) (items : List I) (ks : List K) (places : List ℕ) (folds : List (Fold K)) → Stand stands rule fits weight items ks places folds → (j : ℕ) → Unplaceable rule fits weight items j → ⊥
stand_places stands rule fits weight law items ks places folds s =
    let z = came_singles stands rule fits weight [] items (spots ks places) s.branches s.came in
    all_placed rule fits weight items s.branches s.placed s.few (λ j x e. let w = zip_from (λ p x. stands p.one (x ∷ [])) (spots ks places) items j x z e in law w.0.one (x ∷ []) w.1)
