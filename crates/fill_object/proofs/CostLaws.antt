-- What edges and rests of programs cost at least.
use Rattle.std.proofs.Common.{◌≡◌, inl, inr, ℕ, zero, suc, ◌+◌, ◌<◌, ◌≤◌, List, [], ◌∷◌, ◌++◌, length, Some, slice_get, length-append, refl, sym, ap, subst, ◌∙◌, arith}
use Rattle.std.proofs.lemmas.Option.{slice_get_within}
use Rattle.std.proofs.lemmas.Bool.{cases_lt}
use Rattle.fill_tokens.specs.Prices.{place_cost}
use Rattle.fill_tokens.specs.declared.place.Place.{Place}
use Rattle.fill_tokens.specs.declared.prices.Prices.{Prices}
use Rattle.fill_tree.specs.Cost.{atom_cost, source_cost, text_cost, program_cost}
use Rattle.fill_tree.specs.Tree.{SourceTree, AtomTree, Atoms, col, select, constant, whole, sub, end, more}
use Rattle.fill_arena.specs.Contents.{EachIn}
use Rattle.fill_arena.specs.Stands.{AtomFits, AtomStands, SourceFits, SourceStands, Walks}
use Rattle.fill_arena.specs.declared.entry.AtomItem.{AtomItem}
use Rattle.fill_arena.specs.declared.entry.AtomItem.TheVariants.{Const, Whole, Sub}
use Rattle.fill_arena.specs.declared.entry.Edge.{Edge}
use Rattle.fill_arena.specs.declared.entry.Entry.{Entry}
use Rattle.fill_arena.specs.declared.entry.Entry.TheVariants.{Places, Sources, Atoms as Listed}
use Rattle.fill_arena.specs.declared.entry.SourceItem.{SourceItem}
use Rattle.fill_arena.specs.declared.entry.SourceItem.TheVariants.{Col, Select}
use Rattle.fill_object.specs.Bounds.{AreBounds, AreEdgeCosts, IsPlaceLeast, number_at}
use Rattle.fill_object.specs.declared.bounds.Bounds.{Bounds}

-- items of a set
pub places_least : (prices : Prices) (c : List Entry) (s n : ℕ) (places : List Place) → slice_get c s ≡ Some (Places places) → EachIn (λ p. n ≤ place_cost prices p) places → IsPlaceLeast prices c s n
places_least prices c s n places is each p h =
    let there = h.1 in
    let e : h.0 ≡ places = cc in
    each h.2.0 p (subst (λ ps. slice_get ps h.2.0 ≡ Some p) e h.2.1)

sources_least : (prices : Prices) (c : List Entry) (s n : ℕ) (items : List SourceItem) → slice_get c s ≡ Some (Sources items) → EachIn (λ i. (x : SourceTree) → SourceFits x c i → n ≤ source_cost prices x) items →
    (x : SourceTree) → SourceStands c s x → n ≤ source_cost prices x
sources_least prices c s n items is each x h =
    let there = h.1 in
    let e : h.0 ≡ items = cc in
    each h.2.1.0 h.2.0 (subst (λ xs. slice_get xs h.2.1.0 ≡ Some h.2.0) e h.2.1.1) x h.2.2

pub atoms_least : (prices : Prices) (c : List Entry) (s n : ℕ) (items : List AtomItem) → slice_get c s ≡ Some (Listed items) → EachIn (λ i. (a : AtomTree) → AtomFits a c i → n ≤ atom_cost prices a) items →
    (a : AtomTree) → AtomStands c s a → n ≤ atom_cost prices a
atoms_least prices c s n items is each a h =
    let there = h.1 in
    let e : h.0 ≡ items = cc in
    each h.2.1.0 h.2.0 (subst (λ xs. slice_get xs h.2.1.0 ≡ Some h.2.0) e h.2.1.1) a h.2.2

pub source_least : (prices : Prices) (c : List Entry) (i : SourceItem) (n : ℕ) → ((m : ℕ) → i ≡ Col m → n ≤ prices.column) → ((x : _) → i ≡ Select x → n ≤ prices.lookup) →
    (x : SourceTree) → SourceFits x c i → n ≤ source_cost prices x
source_least prices c (Col m) n first second (col k) h = first m refl
source_least prices c (Col m) n first second (select a b d q) h = absurd h
source_least prices c (Select i) n first second (col k) h = absurd h
source_least prices c (Select i) n first second (select a b d q) h = let le = second i refl in omega arith

pub constant_least : (prices : Prices) (c : List Entry) (t : List ℕ) (n : ℕ) → n ≤ text_cost prices t → (a : AtomTree) → AtomFits a c (Const t) → n ≤ atom_cost prices a
constant_least prices c t n le (constant u) h = subst (λ v. n ≤ text_cost prices v) h le
constant_least prices c t n le (whole x) h = absurd h
constant_least prices c t n le (sub x p q) h = absurd h

pub whole_least : (prices : Prices) (c : List Entry) (s m n : ℕ) (items : List SourceItem) → slice_get c s ≡ Some (Sources items) → EachIn (λ i. (x : SourceTree) → SourceFits x c i → m ≤ source_cost prices x) items →
    n ≤ prices.whole + m → (a : AtomTree) → AtomFits a c (Whole s) → n ≤ atom_cost prices a
whole_least prices c s m n items is each le (constant u) h = absurd h
whole_least prices c s m n items is each le (whole x) h = let own = sources_least prices c s m items is each x h in omega arith
whole_least prices c s m n items is each le (sub x p q) h = absurd h

pub sub_least : (prices : Prices) (c : List Entry) (s l r m n j k : ℕ) (items : List SourceItem) → slice_get c s ≡ Some (Sources items) → EachIn (λ i. (x : SourceTree) → SourceFits x c i → m ≤ source_cost prices x) items →
    IsPlaceLeast prices c l j → IsPlaceLeast prices c r k → n ≤ prices.piece + m + j + k → (a : AtomTree) → AtomFits a c (Sub s l r) → n ≤ atom_cost prices a
sub_least prices c s l r m n j k items is each left right le (constant u) h = absurd h
sub_least prices c s l r m n j k items is each left right le (whole x) h = absurd h
sub_least prices c s l r m n j k items is each left right le (sub x p q) h =
    let own = sources_least prices c s m items is each x h.0 in
    let first = left p h.1 in
    let second = right q h.2 in
    omega arith

-- numbers by their places
number_left : (xs : List ℕ) (y k : ℕ) → k < length xs → number_at (xs ++ y ∷ []) k ≡ number_at xs k
number_left [] y k h = absurd (omega arith)
number_left (x ∷ xs) y zero h = refl
number_left (x ∷ xs) y (suc k) h = number_left xs y k (omega arith)

number_last : (xs : List ℕ) (y : ℕ) → number_at (xs ++ y ∷ []) (length xs) ≡ y
number_last [] y = refl
number_last (x ∷ xs) y = number_last xs y

pub number_none : (k : ℕ) → number_at [] k ≡ 0
number_none k = refl

-- the costs of the first edges
pub record AreFirstCosts (prices : Prices) (c : List Entry) (edges : List Edge) (costs : List ℕ) (i : ℕ) : Type 0 where
  pub long : length costs ≡ i
  pub each : (k : ℕ) (e : Edge) → k < i → slice_get edges k ≡ Some e → (a : AtomTree) → AtomStands c e.atoms a → number_at costs k ≤ prices.atom + atom_cost prices a

pub costs_none : (prices : Prices) (c : List Entry) (edges : List Edge) (costs : List ℕ) → costs ≡ [] → AreFirstCosts prices c edges costs 0
costs_none prices c edges costs e = record { long = ap length e; each = λ k x lt at. absurd (omega arith) }

pub costs_more : (prices : Prices) (c : List Entry) (edges : List Edge) (old new : List ℕ) (i n : ℕ) (e : Edge) → slice_get edges i ≡ Some e → new ≡ old ++ n ∷ [] → AreFirstCosts prices c edges old i →
    ((a : AtomTree) → AtomStands c e.atoms a → n ≤ prices.atom + atom_cost prices a) → AreFirstCosts prices c edges new (i + 1)
costs_more prices c edges old new i n e at is are own = record {
  long = ap length is ∙ length-append old (n ∷ []) ∙ ap (λ m. m + 1) are.long;
  each = λ k f lt there a stands. elim (cases_lt k i) [
    | inl less ↦
        let long = are.long in
        let same : number_at new k ≡ number_at old k = ap (λ xs. number_at xs k) is ∙ number_left old n k (omega arith) in
        let le = are.each k f less there a stands in
        omega arith
    | inr past ↦
        let long = are.long in
        let here : k ≡ i = omega arith in
        let place : k ≡ length old = here ∙ sym long in
        let moved : slice_get edges i ≡ Some f = subst (λ j. slice_get edges j ≡ Some f) here there in
        let one : f ≡ e = cc in
        let same : number_at new k ≡ n = ap (λ xs. number_at xs k) is ∙ ap (number_at (old ++ n ∷ [])) place ∙ number_last old n in
        let le = own a (subst (λ (g : Edge). AtomStands c g.atoms a) one stands) in
        omega arith
  ];
}

pub costs_done : (prices : Prices) (c : List Entry) (edges : List Edge) (costs : List ℕ) (i : ℕ) → length edges ≤ i → AreFirstCosts prices c edges costs i → AreEdgeCosts prices c edges costs
costs_done prices c edges costs i past are = record { each = λ k e at a stands. let within = slice_get_within edges k e at in are.each k e (omega arith) at a stands }

-- what walks costs no less than was found for its first node
module _ (prices : Prices) (c : List Entry) (edges : List Edge) (last : ℕ) (bounds : Bounds) (are : AreBounds prices c edges last bounds) where
  pub walk_cost : (p : Atoms) (n : ℕ) → Walks p c edges last n → number_at bounds.rests.items n ≤ program_cost prices p
  walk_cost end n h = subst (λ m. number_at bounds.rests.items m ≤ 0) (sym h) are.rests.ends
  walk_cost (more a q) n h =
      let e = h.0 in
      let k = h.1.0 in
      let rest = walk_cost q e.to h.2.2 in
      let own = are.along.each k e h.1.1 a h.2.1 in
      let along = are.rests.each k e h.1.1 in
      let from : number_at bounds.rests.items e.from ≡ number_at bounds.rests.items n = ap (number_at bounds.rests.items) h.2.0 in
      omega arith
