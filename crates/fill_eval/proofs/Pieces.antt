-- Pieces of texts that have a value.
use Rattle.std.proofs.Common.{◌≡◌, ◌≢◌, ℕ, ◌-◌, ◌<◌, ◌≤◌, ◌↔◌, List, [], length, drop, Option, None, Some, slice_range, refl, sym, ap, subst, ◌∙◌, arith}
use Rattle.std.proofs.lemmas.List.{length-take, length-drop}
use Rattle.fill_text.specs.Data.{SheetData, TableData}
use Rattle.fill_tokens.specs.Value.{HasValue}
use Rattle.fill_tokens.specs.declared.place.Place.{Place}
use Rattle.fill_tokens.proofs.ValueLaws.{one_value, value_within}
use Rattle.fill_tree.specs.Tree.{AtomTree, constant, whole, sub}
use Rattle.fill_tree.specs.Value.{IsValue, IsFilled, IsPieceBetween, AtomIs, ConditionIs}
use Rattle.fill_eval.proofs.Values.{none_is, some_is, has, only, never, alike}

-- the piece from one position to a later one has characters
pub piece_some : (t : List ℕ) (a b : ℕ) → a < b → b ≤ length t → slice_range t a b ≢ []
piece_some t a b lt le nil =
    let dropped = length-drop a t in
    let taken = length-take (b - a) (drop a t) in
    let size : length (slice_range t a b) ≡ 0 = ap length nil in
    omega arith

-- a text that is not empty, and the empty one
pub filled_some : (t : List ℕ) → t ≢ [] → IsValue (IsFilled (λ u. u ≡ t)) (Some t)
filled_some t full = some_is (IsFilled (λ u. u ≡ t)) t (refl, full) (λ v h. sym h.0)

pub filled_none : (t : List ℕ) → t ≡ [] → IsValue (IsFilled (λ u. u ≡ t)) None
filled_none t nil = none_is (IsFilled (λ u. u ≡ t)) (λ v h. h.1 (h.0 ∙ nil))

-- the same of the text that has a property
pub filled_of : (P : List ℕ → Type 0) (t : List ℕ) (r : Option (List ℕ)) → IsValue P (Some t) → IsValue (IsFilled (λ u. u ≡ t)) r → IsValue (IsFilled P) r
filled_of P t r is = alike (IsFilled (λ u. u ≡ t)) (IsFilled P) r (λ v. ((λ h. (subst P (sym h.0) (has P t is), h.1)), (λ h. (sym (only P t v is h.0), h.1))))

pub filled_of_none : (P : List ℕ → Type 0) → IsValue P None → IsValue (IsFilled P) None
filled_of_none P is = none_is (IsFilled P) (λ v h. never P v is h.0)

-- the piece between two places of the text
pub between_some : (t : List ℕ) (p q : Place) (a b : ℕ) → HasValue p t a → HasValue q t b → a < b → IsValue (IsPieceBetween (λ u. u ≡ t) p q) (Some (slice_range t a b))
between_some t p q a b left right lt = some_is (IsPieceBetween (λ u. u ≡ t) p q) (slice_range t a b) (t, a, b, refl, left, right, lt, refl) (λ v h.
    let same : h.0 ≡ t = h.3 in
    let lefts : a ≡ h.1 = one_value p t a h.1 left (subst (λ u. HasValue p u h.1) same h.4) in
    let rights : b ≡ h.2 = one_value q t b h.2 right (subst (λ u. HasValue q u h.2) same h.5) in
    let piece : v ≡ slice_range h.0 h.1 h.2 = h.7 in
    cc)

-- none where a place has no value, or the left one does not stand before the right one
pub between_none : (t : List ℕ) (p q : Place) → ((a b : ℕ) → HasValue p t a → HasValue q t b → a < b → ⊥) → IsValue (IsPieceBetween (λ u. u ≡ t) p q) None
between_none t p q none = none_is (IsPieceBetween (λ u. u ≡ t) p q) (λ v h.
    let same : h.0 ≡ t = h.3 in
    none h.1 h.2 (subst (λ u. HasValue p u h.1) same h.4) (subst (λ u. HasValue q u h.2) same h.5) h.6)

pub between_apart : (t : List ℕ) (p q : Place) (a b : ℕ) → HasValue p t a → HasValue q t b → b ≤ a → IsValue (IsPieceBetween (λ u. u ≡ t) p q) None
between_apart t p q a b left right le = between_none t p q (λ c d l r lt.
    let lefts : a ≡ c = one_value p t a c left l in
    let rights : b ≡ d = one_value q t b d right r in
    omega arith)

pub between_of : (P : List ℕ → Type 0) (p q : Place) (t : List ℕ) (r : Option (List ℕ)) → IsValue P (Some t) → IsValue (IsPieceBetween (λ u. u ≡ t) p q) r → IsValue (IsPieceBetween P p q) r
between_of P p q t r is = alike (IsPieceBetween (λ u. u ≡ t) p q) (IsPieceBetween P p q) r (λ v. (
  (λ h. (h.0, h.1, h.2, subst P (sym h.3) (has P t is), h.4, h.5, h.6, h.7)),
  (λ h. (h.0, h.1, h.2, sym (only P t h.0 is h.3), h.4, h.5, h.6, h.7)),
))

pub between_of_none : (P : List ℕ → Type 0) (p q : Place) → IsValue P None → IsValue (IsPieceBetween P p q) None
between_of_none P p q is = none_is (IsPieceBetween P p q) (λ v h. never P h.0 is h.3)

-- a constant's text is the condition's
pub constant_is : (t : List ℕ) → IsValue (λ v. v ≡ t) (Some t)
constant_is t = some_is (λ v. v ≡ t) t refl (λ v h. sym h)

-- an atom's text is the condition's, where it is not empty
pub atom_filled : (sheet : SheetData) (tables : List TableData) (row : ℕ) (a : AtomTree) (v : List ℕ) → IsFilled (ConditionIs sheet tables row a) v ↔ AtomIs sheet tables row a v
atom_filled sheet tables row (constant t) v = ((λ h. h), (λ h. h))
atom_filled sheet tables row (whole s) v = ((λ h. h.0), (λ h. (h, h.1)))
atom_filled sheet tables row (sub s p q) v = (
  (λ h. h.0),
  (λ h.
      let within = value_within q h.0 h.2 h.5 in
      let full = piece_some h.0 h.1 h.2 h.6 within in
      (h, λ nil. full (sym h.7 ∙ nil))),
)

pub atom_of : (sheet : SheetData) (tables : List TableData) (row : ℕ) (a : AtomTree) (t : List ℕ) (r : Option (List ℕ)) → IsValue (ConditionIs sheet tables row a) (Some t)
    → IsValue (IsFilled (λ u. u ≡ t)) r → IsValue (AtomIs sheet tables row a) r
atom_of sheet tables row a t r is filled =
    alike (IsFilled (ConditionIs sheet tables row a)) (AtomIs sheet tables row a) r (atom_filled sheet tables row a) (filled_of (ConditionIs sheet tables row a) t r is filled)

pub atom_of_none : (sheet : SheetData) (tables : List TableData) (row : ℕ) (a : AtomTree) → IsValue (ConditionIs sheet tables row a) None → IsValue (AtomIs sheet tables row a) None
atom_of_none sheet tables row a is =
    alike (IsFilled (ConditionIs sheet tables row a)) (AtomIs sheet tables row a) None (atom_filled sheet tables row a) (filled_of_none (ConditionIs sheet tables row a) is)
