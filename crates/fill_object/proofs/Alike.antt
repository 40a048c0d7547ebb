-- Trees of the same value: what is made of them has the same value too.
use Rattle.std.proofs.Common.{◌≡◌, ◌↔◌, ℕ, List, [], ◌∷◌, Option, Some, sym, ap, subst}
use Rattle.fill_text.specs.Data.{SheetData, TableData}
use Rattle.fill_text.specs.Orders.{AtMost}
use Rattle.fill_tokens.specs.Value.{HasValue}
use Rattle.fill_tokens.specs.declared.place.Place.{Place}
use Rattle.fill_tree.specs.Grammar.{IsPart}
use Rattle.fill_tree.specs.Tree.{SourceTree, AtomTree, constant, whole, sub}
use Rattle.fill_tree.specs.Value.{IsValue, IsFilled, IsPieceBetween, IsJoined, IsHeadAndTail, LooksUp, SourceIs, AtomIs, ConditionIs}
use Rattle.fill_eval.proofs.Values.{alike}
use Rattle.fill_tree.specs.Order.{source_rank, atom_rank}
use Rattle.fill_arena.proofs.Best.{at_most-trans}
use Rattle.fill_tree.proofs.Ranked.{source_rank-total, source_rank-exact, atom_rank-total, atom_rank-exact}
use Rattle.fill_object.specs.Kinds.{sources_on, atoms_on}
use Rattle.fill_object.specs.Pieces.{text_or_empty}
use Rattle.fill_object.specs.declared.row.OnRow.{OnRow}
use Rattle.fill_object.specs.declared.valued.ValuedSource.{ValuedSource}
use Rattle.fill_object.specs.declared.valued.ValuedAtom.{ValuedAtom}

pub same_value : {A : Type 0} (P Q : A → Type 0) (o : Option A) → IsValue P o → IsValue Q o → (v : A) → P v ↔ Q v
same_value P Q o p q v = ((λ h. (q v).1 ((p v).0 h)), (λ h. (p v).1 ((q v).0 h)))

filled : (P Q : List ℕ → Type 0) → ((v : List ℕ) → P v → Q v) → (v : List ℕ) → IsFilled P v → IsFilled Q v
filled P Q f v h = (f v h.0, h.1)

pub whole_alike : (P Q : List ℕ → Type 0) → ((v : List ℕ) → P v ↔ Q v) → (v : List ℕ) → IsFilled P v ↔ IsFilled Q v
whole_alike P Q same v = (filled P Q (λ u. (same u).0) v, filled Q P (λ u. (same u).1) v)

piece_on : (P Q : List ℕ → Type 0) → ((v : List ℕ) → P v → Q v) → (p q : Place) (v : List ℕ) → IsPieceBetween P p q v → IsPieceBetween Q p q v
piece_on P Q f p q v h = (h.0, h.1, h.2, f h.0 h.3, h.4, h.5, h.6, h.7)

pub piece_alike : (P Q : List ℕ → Type 0) → ((v : List ℕ) → P v ↔ Q v) → (p q : Place) (v : List ℕ) → IsPieceBetween P p q v ↔ IsPieceBetween Q p q v
piece_alike P Q same p q v = (piece_on P Q (λ u. (same u).0) p q v, piece_on Q P (λ u. (same u).1) p q v)

-- places that have the same values in the one text
module _ (P : List ℕ → Type 0) (o : Option (List ℕ)) (is : IsValue P o) where
  moved : (p q r s : Place) → ((k : ℕ) → HasValue p (text_or_empty o) k → HasValue r (text_or_empty o) k) →
      ((k : ℕ) → HasValue q (text_or_empty o) k → HasValue s (text_or_empty o) k) → (v : List ℕ) → IsPieceBetween P p q v → IsPieceBetween P r s v
  moved p q r s f g v h =
      let one : o ≡ Some h.0 = (is h.0).0 h.3 in
      let text : text_or_empty o ≡ h.0 = ap text_or_empty one in
      let left = subst (λ t. HasValue r t h.1) text (f h.1 (subst (λ t. HasValue p t h.1) (sym text) h.4)) in
      let right = subst (λ t. HasValue s t h.2) text (g h.2 (subst (λ t. HasValue q t h.2) (sym text) h.5)) in
      (h.0, h.1, h.2, h.3, left, right, h.6, h.7)

  pub places_alike : (p q r s : Place) → ((k : ℕ) → HasValue p (text_or_empty o) k ↔ HasValue r (text_or_empty o) k) →
      ((k : ℕ) → HasValue q (text_or_empty o) k ↔ HasValue s (text_or_empty o) k) → (v : List ℕ) → IsPieceBetween P p q v ↔ IsPieceBetween P r s v
  places_alike p q r s f g v = (moved p q r s (λ k. (f k).0) (λ k. (g k).0) v, moved r s p q (λ k. (f k).1) (λ k. (g k).1) v)

module _ (tables : List TableData) (column table key : ℕ) where
  lookup_on : (P Q : List (List ℕ) → Type 0) → ((ts : List (List ℕ)) → P ts → Q ts) → (v : List ℕ) → LooksUp P tables column table key v → LooksUp Q tables column table key v
  lookup_on P Q f v h = (h.0, h.1, f h.0 h.2, h.3, h.4)

  pub lookup_alike : (P Q : List (List ℕ) → Type 0) → ((ts : List (List ℕ)) → P ts ↔ Q ts) → (v : List ℕ) → LooksUp P tables column table key v ↔ LooksUp Q tables column table key v
  lookup_alike P Q same v = (lookup_on P Q (λ ts. (same ts).0) v, lookup_on Q P (λ ts. (same ts).1) v)

joined_on : (P Q R : List ℕ → Type 0) → ((v : List ℕ) → P v → Q v) → (v : List ℕ) → IsJoined P R v → IsJoined Q R v
joined_on P Q R f v h = (h.0, h.1, f h.0 h.2, h.3, h.4)

pub joined_alike : (P Q R : List ℕ → Type 0) → ((v : List ℕ) → P v ↔ Q v) → (v : List ℕ) → IsJoined P R v ↔ IsJoined Q R v
joined_alike P Q R same v = (joined_on P Q R (λ u. (same u).0) v, joined_on Q P R (λ u. (same u).1) v)

-- rows of conditions
front_on : (P Q : List ℕ → Type 0) (R S : List (List ℕ) → Type 0) → ((v : List ℕ) → P v → Q v) → ((vs : List (List ℕ)) → R vs → S vs) → (vs : List (List ℕ)) → IsHeadAndTail P R vs → IsHeadAndTail Q S vs
front_on P Q R S f g [] h = absurd h
front_on P Q R S f g (v ∷ vs) h = (f v h.0, g vs h.1)

pub front_alike : (P Q : List ℕ → Type 0) (R S : List (List ℕ) → Type 0) → ((v : List ℕ) → P v ↔ Q v) → ((vs : List (List ℕ)) → R vs ↔ S vs) → (vs : List (List ℕ)) → IsHeadAndTail P R vs ↔ IsHeadAndTail Q S vs
front_alike P Q R S same rest vs = (front_on P Q R S (λ v. (same v).0) (λ ws. (rest ws).0) vs, front_on Q P S R (λ v. (same v).1) (λ ws. (rest ws).1) vs)

-- a part has the same value as a condition and as an atom
pub part_value : (sheet : SheetData) (tables : List TableData) (row : ℕ) (a : AtomTree) → IsPart a → (v : List ℕ) → AtomIs sheet tables row a v ↔ ConditionIs sheet tables row a v
part_value sheet tables row (constant t) h v = absurd h
part_value sheet tables row (whole s) h v = ((λ x. x), (λ x. x))
part_value sheet tables row (sub s p q) h v = ((λ x. x), (λ x. x))

-- what serves for a tree serves for one that is no less and has the same value
pub source_for : (on : OnRow) (a b : SourceTree) → AtMost (source_rank on.prices.now b a) → ((v : List ℕ) → SourceIs on.sheet.now on.tables.now on.row b v ↔ SourceIs on.sheet.now on.tables.now on.row a v) →
    (x : ValuedSource) → (sources_on on).For b x → (sources_on on).For a x
source_for on a b le same x h = (
  at_most-trans (source_rank on.prices.now) (source_rank-total on.prices.now) (source_rank-exact on.prices.now) _ b a h.0 le,
  alike (SourceIs on.sheet.now on.tables.now on.row b) (SourceIs on.sheet.now on.tables.now on.row a) x.text same h.1,
)

pub atom_for : (on : OnRow) (a b : AtomTree) → AtMost (atom_rank on.prices.now b a) → ((v : List ℕ) → AtomIs on.sheet.now on.tables.now on.row b v ↔ AtomIs on.sheet.now on.tables.now on.row a v) →
    (x : ValuedAtom) → (atoms_on on).For b x → (atoms_on on).For a x
atom_for on a b le same x h = (
  at_most-trans (atom_rank on.prices.now) (atom_rank-total on.prices.now) (atom_rank-exact on.prices.now) _ b a h.0 le,
  alike (AtomIs on.sheet.now on.tables.now on.row b) (AtomIs on.sheet.now on.tables.now on.row a) x.text same h.1,
)
