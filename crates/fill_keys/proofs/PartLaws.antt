-- Parts of sets of columns, and when a set is a minimal key.
use Rattle.std.proofs.Common.{◌≡◌, ℕ, zero, suc, ◌+◌, ◌<◌, ◌≤◌, inl, inr, List, length, refl, sym, subst, ◌∙◌, arith, get_or, slice_get, Some}
use Rattle.std.proofs.lemmas.Bool.{cases_order}
use Rattle.std.proofs.lemmas.Option.{same_Some}
use Rattle.std.specs.Prelude.{Any, Contains}
use Rattle.std.proofs.lemmas.List.Elements.{All-weaker, All-contains}
use Rattle.std.proofs.lemmas.Option.{slice_get_read}
use Rattle.fill_text.specs.Data.{TableData}
use Rattle.fill_tables.specs.Keys.{DistinguishRows}
use Rattle.fill_tables.specs.Tables.{column_count}
use Rattle.fill_keys.specs.Keys.{AreColumns, IsProperPart, IsMinimalKey}
use Rattle.fill_keys.specs.Search.{AreSmaller, IsWithin}

-- what no item before a place is, and the one there is not either, no item up to there is
pub none_more : {A : Type 0} (P : A → Type 0) (xs : List A) (i : ℕ) (y : A) → i < length xs → y ≡ get_or xs i y → (P y → ⊥) →
    ((k : ℕ) (x : A) → k < i → get_or xs k x ≡ x → P x → ⊥) → (k : ℕ) (x : A) → k < i + 1 → get_or xs k x ≡ x → P x → ⊥
none_more P xs i y lt is not before k x l at p = elim (cases_order k i) [
  | inl e ↦ (
      let here : slice_get xs i ≡ Some y = slice_get_read xs (length xs) i y refl lt is in
      let there : slice_get xs i ≡ Some x = slice_get_read xs (length xs) i x refl lt (sym (subst (λ j. get_or xs j x ≡ x) e at)) in
      not (subst P (same_Some x y (sym there ∙ here)) p))
  | inr o ↦ elim o [ inl b ↦ before k x b at p | inr g ↦ absurd (omega arith) ]
]

part_of_part : (columns part smaller : List ℕ) → IsProperPart columns part → IsProperPart part smaller → IsProperPart columns smaller
part_of_part columns part smaller p q = record {
  some = q.some;
  fewer = (let a = p.fewer in let b = q.fewer in omega arith);
  among = All-weaker (Contains part) (Contains columns) (λ x. All-contains (Contains columns) part x p.among) smaller q.among;
  rising = q.rising;
}

columns_of_part : (width : ℕ) (columns part : List ℕ) → AreColumns width columns → IsProperPart columns part → AreColumns width part
columns_of_part width columns part set p = record {
  some = p.some;
  few = (let a = p.fewer in let b = set.few in omega arith);
  within = All-weaker (Contains columns) (λ c. (1 ≤ c) × (c ≤ width)) (λ x. All-contains (λ c. (1 ≤ c) × (c ≤ width)) columns x set.within) part p.among;
  rising = p.rising;
}

module _ (tables : List TableData) (table : ℕ) (columns : List ℕ) (keys : List (List ℕ)) (set : AreColumns (column_count tables table) columns)
    (smaller : AreSmaller tables table (length columns) keys) where
  -- where none of the keys is within, no part of up to n columns tells the rows apart
  none_apart : (Any (IsWithin columns) keys → ⊥) → (n : ℕ) (part : List ℕ) → length part ≤ n → IsProperPart columns part → DistinguishRows tables table part → ⊥
  none_apart none zero part few p d = (let a = p.some in omega arith)
  none_apart none (suc n) part few p d =
      let key : IsMinimalKey tables table part = record {
        set = columns_of_part (column_count tables table) columns part set p;
        distinguish = d;
        minimal = λ q r e. none_apart none n q (let a = r.fewer in omega arith) (part_of_part columns part q p r) e;
      } in
      let c : Contains keys part = smaller.full part key p.fewer in
      none (c.0, part, c.1, c.2, (p.fewer, p.among))

  pub is_minimal : (Any (IsWithin columns) keys → ⊥) → DistinguishRows tables table columns → IsMinimalKey tables table columns
  is_minimal none d = record { set = set; distinguish = d; minimal = λ part p. none_apart none (length part) part (omega arith) p }

  pub not_minimal : Any (IsWithin columns) keys → IsMinimalKey tables table columns → ⊥
  not_minimal (k, key, lt, at, w) m =
      let is : IsMinimalKey tables table key = All-contains (IsMinimalKey tables table) keys key smaller.each (k, lt, at) in
      m.minimal key (record { some = is.set.some; fewer = w.0; among = w.1; rising = is.set.rising }) is.distinguish
