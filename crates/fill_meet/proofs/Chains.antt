-- Places by their keys, gone through from the back.
use Rattle.std.proofs.Common.{◌≡◌, ℕ, ◌+◌, ◌%◌, ◌<◌, ◌≤◌, inl, inr, List, length, get_or, set, Some, slice_get, refl, sym, ap, ◌∙◌, subst, arith, length-set}
use Rattle.std.proofs.lemmas.Bool.{cases_eq}
use Rattle.std.proofs.lemmas.List.{get_or-set_same, get_or-set_other}
use Rattle.std.proofs.lemmas.Option.{slice_get_within}
use Rattle.fill_meet.specs.Groups.{AreChainedFrom, AreGroups, AreGroupsOf, AreKeys, IsFirstFrom}
use Rattle.fill_meet.specs.declared.groups.Groups.{Groups}
use Rattle.fill_arena.proofs.Lists.{get_there}
use Rattle.fill_meet.proofs.Lists.{same_value}

pub chained_start : (keys firsts nexts : List ℕ) (i : ℕ) → i ≡ length keys → ((n : ℕ) → n < length firsts → get_or firsts n 0 ≡ length keys) → AreChainedFrom i keys firsts nexts
chained_start keys firsts nexts i e none =
    record {
      out_of = λ n h. subst (λ p. IsFirstFrom keys n i p) (sym (none n h)) (record {
        past = omega arith;
        least = λ k le at. omega arith;
        here = λ v at. (let w = slice_get_within keys (length keys) v at in absurd (omega arith));
      });
      after = λ k v le at. (let w = slice_get_within keys k v at in absurd (omega arith));
    }

first_earlier : (keys : List ℕ) (n p r v : ℕ) → slice_get keys p ≡ Some v → (v ≡ n → ⊥) → IsFirstFrom keys n (p + 1) r → IsFirstFrom keys n p r
first_earlier keys n p r v hp ne h =
    record {
      past = (let a = h.past in omega arith);
      least = λ k le at. elim (cases_eq k p) [
        | inl same ↦ absurd (ne (same_value keys p k v n (sym same) hp at))
        | inr other ↦ h.least k (omega arith) at
      ];
      here = h.here;
    }

first_itself : (keys : List ℕ) (n p v : ℕ) → slice_get keys p ≡ Some v → v ≡ n → IsFirstFrom keys n p p
first_itself keys n p v hp is =
    record {
      past = omega arith;
      least = λ k le at. le;
      here = λ u at. sym (same_value keys p p v u refl hp at) ∙ is;
    }

module _ (keys firsts nexts : List ℕ) (p v : ℕ) (hp : slice_get keys p ≡ Some v) (lf : v < length firsts) (ln : p < length nexts) (h : AreChainedFrom (p + 1) keys firsts nexts) where
  out_now : (n : ℕ) → n < length firsts → IsFirstFrom keys n p (get_or (set firsts v p) n 0)
  out_now n lt = elim (cases_eq n v) [
    | inl same ↦
        let now : get_or (set firsts v p) n 0 ≡ p = ap (λ m. get_or (set firsts v p) m 0) same ∙ get_or-set_same firsts v p 0 lf in
        subst (λ q. IsFirstFrom keys n p q) (sym now) (first_itself keys n p v hp (sym same))
    | inr other ↦
        let now : get_or (set firsts v p) n 0 ≡ get_or firsts n 0 = get_or-set_other firsts v n p 0 other in
        subst (λ q. IsFirstFrom keys n p q) (sym now) (first_earlier keys n p (get_or firsts n 0) v hp (λ f. other (sym f)) (h.out_of n lt))
  ]

  after_now : (k u : ℕ) → p ≤ k → slice_get keys k ≡ Some u → IsFirstFrom keys u (k + 1) (get_or (set nexts p (get_or firsts v 0)) k 0)
  after_now k u le at = elim (cases_eq k p) [
    | inl same ↦
        let w = get_or firsts v 0 in
        let now : get_or (set nexts p w) k 0 ≡ w = ap (λ m. get_or (set nexts p w) m 0) same ∙ get_or-set_same nexts p w 0 ln in
        let of : v ≡ u = same_value keys p k v u (sym same) hp at in
        subst (λ q. IsFirstFrom keys u (k + 1) q) (sym now) (subst (λ q. IsFirstFrom keys u (q + 1) w) (sym same) (subst (λ q. IsFirstFrom keys q (p + 1) w) of (h.out_of v lf)))
    | inr other ↦
        let w = get_or firsts v 0 in
        let now : get_or (set nexts p w) k 0 ≡ get_or nexts k 0 = get_or-set_other nexts p k w 0 other in
        subst (λ q. IsFirstFrom keys u (k + 1) q) (sym now) (h.after k u (omega arith) at)
  ]

  pub chained_step : AreChainedFrom p keys (set firsts v p) (set nexts p (get_or firsts v 0))
  chained_step = record { out_of = λ n lt. out_now n (subst (λ m. n < m) (length-set firsts v p) lt); after = after_now }

-- a key past all known ones has no place
pub first_beyond : (keys : List ℕ) (g : Groups) (key : ℕ) → AreGroups keys g → length g.firsts.items ≤ key → IsFirstFrom keys key 0 (length g.nexts.items)
first_beyond keys g key are le =
    record {
      past = omega arith;
      least = λ k low at. (let lt = are.within k key at in absurd (omega arith));
      here = λ v at. (let w = slice_get_within keys (length g.nexts.items) v at in let long = are.each in absurd (omega arith));
    }

-- what is in groups by hashes
pub grouped : {A : Type 0} (xs : List A) (hash : A → ℕ) (count : ℕ) (keys : List ℕ) (g : Groups) → AreKeys (λ x. hash x % count) xs keys → AreGroups keys g → length g.firsts.items ≡ count → AreGroupsOf (λ x. hash x % length g.firsts.items) xs g
grouped xs hash count keys g are groups long = record { keys = keys; are = subst (λ n. AreKeys (λ x. hash x % n) xs keys) (sym long) are; groups = groups }

pub nexts_long : {A : Type 0} (key : A → ℕ) (xs : List A) (g : Groups) → AreGroupsOf key xs g → length g.nexts.items ≡ length xs
nexts_long key xs g are = are.groups.each ∙ are.are.long

-- on from a place whose key is known
pub next_of : (keys : List ℕ) (g : Groups) (v e f : ℕ) → AreGroups keys g → e < length g.nexts.items → ((k : ℕ) → slice_get keys e ≡ Some k → k ≡ v) → ((k : ℕ) → slice_get keys e ≡ Some k → IsFirstFrom keys k (e + 1) f) → IsFirstFrom keys v (e + 1) f
next_of keys g v e f are lt known on =
    let at = get_there keys e (subst (λ n. e < n) are.each lt) in
    subst (λ k. IsFirstFrom keys k (e + 1) f) (known at.0 at.1) (on at.0 at.1)
