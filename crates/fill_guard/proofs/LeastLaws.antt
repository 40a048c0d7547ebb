-- The first literal, or the first two, that hold on no row outside make the least guard.
use Rattle.std.proofs.Common.{◌≡◌, ℕ, ◌+◌, ◌<◌, ◌≤◌, ◌⊎◌, inl, inr, List, length, get_or, slice_get, Option, Some, None, bit_and, refl, sym, ap, ◌∙◌, subst, arith}
use Rattle.std.specs.Option.{MatchOption}
use Rattle.std.specs.List.{All}
use Rattle.std.specs.Ordering.{ordering_then, ordering_reverse}
use Rattle.std.specs.declared.cmp.Ordering.{Ordering}
use Rattle.std.specs.declared.cmp.Ordering.TheVariants.{Less, Equal, Greater}
use Rattle.std.proofs.lemmas.Bool.{cases_lt, cases_order}
use Rattle.std.proofs.lemmas.Option.{same_Some, slice_get_within, get_or_from_slice_get}
use Rattle.fill_text.specs.Data.{SheetData}
use Rattle.fill_text.proofs.ListReads.{contains_read, read_contains}
use Rattle.fill_tree.specs.Guard.{LiteralHolds}
use Rattle.fill_tree.specs.Separate.{IsLiteral, literal_cmp, guard_cmp, Separates, IsLeastGuard}
use Rattle.fill_tree.specs.declared.guard.Literal.{Literal}
use Rattle.fill_tree.specs.declared.guard.Guard.{Guard}
use Rattle.fill_tree.specs.declared.user.Settings.{Settings}
use Rattle.fill_guard.specs.Read.{HoldsOn}
use Rattle.fill_guard.specs.Candidate.{IsSetOf, StandsFor, NotAfter}
use Rattle.fill_guard.specs.Least.{AreCandidates, NoneAlone, IsFirstAlone, AreApart, NonePartner, NonePair, IsFirstPair}
use Rattle.fill_guard.specs.declared.candidates.Candidate.{Candidate}
use Rattle.fill_guard.proofs.GuardOrder.{literal_total, exact_literals}
use Rattle.fill_guard.proofs.CandidateLaws.{never_less}
use Rattle.fill_guard.proofs.MaskLaws.{mask_zero, zero_mask, mask_apart, apart_mask, common_zero}

abbrev Before : Literal → Literal → Type 0
Before a b = literal_cmp a b ≡ Less

-- which of two comparisons decides
then_cases : (o p : Ordering) → ordering_then o p ≡ Less → (o ≡ Less) ⊎ ((o ≡ Equal) × (p ≡ Less))
then_cases Less p h = inl refl
then_cases Equal p h = inr (refl, h)
then_cases Greater p h = cc

then_only : (o : Ordering) → ordering_then o Equal ≡ Less → o ≡ Less
then_only Less h = refl
then_only Equal h = h
then_only Greater h = h

abbrev one_guard : Literal → Guard
one_guard a = record { first = a; second = None }

abbrev two_guard : Literal → Literal → Guard
two_guard a b = record { first = a; second = Some b }

module _ (settings : Settings) (sheet : SheetData) (inside outside : List ℕ) (ks : List Candidate) (are : AreCandidates settings sheet inside outside ks) where
  -- what is known of the one at a place
  fact_at : (i : ℕ) (k : Candidate) → slice_get ks i ≡ Some k → IsLiteral settings sheet k.literal × HoldsOn sheet inside k.literal × IsSetOf sheet outside k.literal k.outside
  fact_at i k at = are.each k (contains_read ks i k at)

  rises : (i j : ℕ) (a b : Candidate) → i < j → slice_get ks i ≡ Some a → slice_get ks j ≡ Some b → Before a.literal b.literal
  rises i j a b lt at at2 =
      subst (λ (z : Candidate). literal_cmp z.literal b.literal ≡ Less) (get_or_from_slice_get ks i a a at)
      (subst (λ (z : Candidate). literal_cmp (get_or ks i a).literal z.literal ≡ Less) (get_or_from_slice_get ks j b a at2) (are.rising i j a lt (slice_get_within ks j b at2)))

  -- what is before the one at an earlier place is before the one at a later place
  before_later : (i j : ℕ) (a b : Candidate) → i ≤ j → slice_get ks i ≡ Some a → slice_get ks j ≡ Some b → (l : Literal) → Before l a.literal → Before l b.literal
  before_later i j a b le at at2 l before = elim (cases_order i j) [
    | inl e ↦ (let same : a ≡ b = same_Some a b (sym at ∙ ap (slice_get ks) e ∙ at2) in subst (λ (z : Candidate). Before l z.literal) same before)
    | inr o ↦ elim o [
      | inl lt ↦ literal_total.trans l a.literal b.literal before (rises i j a b lt at at2)
      | inr gt ↦ absurd (omega arith)
    ]
  ]

  -- the one that is kept for a literal
  kept_for : (l : Literal) → IsLiteral settings sheet l → HoldsOn sheet inside l → (i : ℕ) × (k : Candidate) × (slice_get ks i ≡ Some k) × StandsFor sheet outside l k × NotAfter k.literal l
  kept_for l is holds =
      let f = are.full l is holds in
      elim f.2 [
        | inl none ↦ absurd (let w = none.1 in omega arith)
        | inr more ↦ (let r = read_contains ks f.0 more.0 in (r.0, f.0, r.2, f.1, more.1))
      ]

  -- .. where none makes a guard alone
  set_for : NoneAlone ks (length ks) → (l : Literal) → IsLiteral settings sheet l → HoldsOn sheet inside l →
      (i : ℕ) × (k : Candidate) × (slice_get ks i ≡ Some k) × IsSetOf sheet outside l k.outside × NotAfter k.literal l
  set_for alone l is holds =
      let f = kept_for l is holds in
      elim f.3 [
        | inl set ↦ (f.0, f.1, f.2, set, f.4)
        | inr empty ↦ absurd (alone f.0 f.1 (slice_get_within ks f.0 f.1 f.2) f.2 empty)
      ]

  -- what a guard of one literal and of two says of them
  module _ (l : Literal) (s : Separates settings sheet inside outside (one_guard l)) where
    one_holds : HoldsOn sheet inside l
    one_holds k d lt = (s.holds k d lt).0

    one_fails : All (λ row. ¬ (LiteralHolds sheet row l)) outside
    one_fails k d lt h = s.fails k d lt (h, tt)

    one_kept : (i : ℕ) × (k : Candidate) × (slice_get ks i ≡ Some k) × (k.outside ≡ 0) × NotAfter k.literal l
    one_kept =
        let f = kept_for l s.is.0 one_holds in
        let empty : f.1.outside ≡ 0 = elim f.3 [ inl is ↦ zero_mask (λ row. LiteralHolds sheet row l) outside f.1.outside is one_fails | inr none ↦ none ] in
        (f.0, f.1, f.2, empty, f.4)

  module _ (l m : Literal) (s : Separates settings sheet inside outside (two_guard l m)) where
    first_holds : HoldsOn sheet inside l
    first_holds k d lt = (s.holds k d lt).0

    second_holds : HoldsOn sheet inside m
    second_holds k d lt = (s.holds k d lt).1

    not_both : All (λ row. ¬ (LiteralHolds sheet row l × LiteralHolds sheet row m)) outside
    not_both k d lt h = s.fails k d lt h

    -- two that are kept and apart: the first one is before the guard's first literal, or neither is after the guard's
    two_kept : NoneAlone ks (length ks) → (i j : ℕ) × (a b : Candidate) × (i < j) × (slice_get ks i ≡ Some a) × (slice_get ks j ≡ Some b) × (bit_and a.outside b.outside ≡ 0)
        × (Before a.literal l ⊎ (NotAfter a.literal l × NotAfter b.literal m))
    two_kept alone =
        let f = set_for alone l s.is.0 first_holds in
        let g = set_for alone m s.is.1.0 second_holds in
        elim (cases_order f.0 g.0) [
          | inl e ↦
              (let same : g.1 ≡ f.1 = same_Some g.1 f.1 (sym g.2 ∙ ap (slice_get ks) (sym e) ∙ f.2) in
              let set : IsSetOf sheet outside m f.1.outside = subst (λ (z : Candidate). IsSetOf sheet outside m z.outside) same g.3 in
              absurd (alone f.0 f.1 (slice_get_within ks f.0 f.1 f.2) f.2
              (common_zero (λ row. LiteralHolds sheet row l) (λ row. LiteralHolds sheet row m) outside f.1.outside f.3 set not_both)))
          | inr o ↦ elim o [
            | inl lt ↦ (
              f.0,
              g.0,
              f.1,
              g.1,
              lt,
              f.2,
              g.2,
              apart_mask (λ row. LiteralHolds sheet row l) (λ row. LiteralHolds sheet row m) outside f.1.outside g.1.outside f.3 g.3 not_both,
              inr (f.4, g.4),
            )
            | inr gt ↦ (
              g.0,
              f.0,
              g.1,
              f.1,
              gt,
              g.2,
              f.2,
              apart_mask (λ row. LiteralHolds sheet row m) (λ row. LiteralHolds sheet row l) outside g.1.outside f.1.outside g.3 f.3 (λ k d lt h. not_both k d lt (h.1, h.0)),
              inl (earlier g.1.literal f.1.literal l (rises g.0 f.0 g.1 f.1 gt g.2 f.2) f.4),
            )
          ]
        ]
      where
        by_order : (a c : Literal) (o : Ordering) → literal_cmp a c ≡ o → NotAfter a c → (Before a c) ⊎ (a ≡ c)
        by_order a c Less e not = inl e
        by_order a c Equal e not = inr (exact_literals a c e)
        by_order a c Greater e not = absurd (not (literal_total.antisymm c a ∙ ap ordering_reverse e))

        earlier : (a b c : Literal) → Before a b → NotAfter b c → Before a c
        earlier a b c before not = elim (by_order b c (literal_cmp b c) refl not) [
          | inl less ↦ literal_total.trans a b c before less
          | inr same ↦ subst (Before a) same before
        ]

  none_alone : NoneAlone ks (length ks) → (l : Literal) → Separates settings sheet inside outside (one_guard l) → ⊥
  none_alone alone l s = let f = one_kept l s in alone f.0 f.1 (slice_get_within ks f.0 f.1 f.2) f.2 f.3

  -- the first one that holds on no row outside
  pub alone_least : (l : Literal) → IsFirstAlone ks l → IsLeastGuard settings sheet inside outside (one_guard l)
  alone_least l first = subst (λ z. IsLeastGuard settings sheet inside outside (one_guard z)) first.4 (record { separates = separates; least = λ h s less. least h.first h.second s less })
    where
      k : Candidate
      k = first.1

      facts : IsLiteral settings sheet k.literal × HoldsOn sheet inside k.literal × IsSetOf sheet outside k.literal k.outside
      facts = fact_at first.0 k first.2

      nowhere : All (λ row. ¬ (LiteralHolds sheet row k.literal)) outside
      nowhere = mask_zero (λ row. LiteralHolds sheet row k.literal) outside (subst (IsSetOf sheet outside k.literal) first.3 facts.2)

      separates : Separates settings sheet inside outside (one_guard k.literal)
      separates = record { is = (facts.0, tt); holds = λ i d lt. (facts.1 i d lt, tt); fails = λ i d lt h. nowhere i d lt h.0 }

      one : (f : Literal) → Separates settings sheet inside outside (one_guard f) → Before f k.literal → ⊥
      one f s before =
          let g = one_kept f s in
          elim (cases_lt g.0 first.0) [
            | inl lt ↦ first.5 g.0 g.1 lt g.2 g.3
            | inr ge ↦ g.4 (before_later first.0 g.0 k g.1 ge first.2 g.2 f before)
          ]

      least : (f : Literal) (second : Option Literal) → Separates settings sheet inside outside (record { first = f; second = second }) → guard_cmp (record { first = f; second = second }) (one_guard k.literal) ≡ Less → ⊥
      least f None s less = one f s (then_only (literal_cmp f k.literal) less)
      least f (Some m) s less = cc

  -- the first two that hold together on no row outside
  module _ (alone : NoneAlone ks (length ks)) where
    module _ (i j : ℕ) (a b : Candidate) (lt : i < j) (at : slice_get ks i ≡ Some a) (at2 : slice_get ks j ≡ Some b) (apart : bit_and a.outside b.outside ≡ 0) (none : NonePair ks i)
        (partner : NonePartner ks i j) where
      first : IsLiteral settings sheet a.literal × HoldsOn sheet inside a.literal × IsSetOf sheet outside a.literal a.outside
      first = fact_at i a at

      second : IsLiteral settings sheet b.literal × HoldsOn sheet inside b.literal × IsSetOf sheet outside b.literal b.outside
      second = fact_at j b at2

      separates : Separates settings sheet inside outside (two_guard a.literal b.literal)
      separates = record {
        is = (first.0, (second.0, rises i j a b lt at at2));
        holds = λ k d l. (first.1 k d l, second.1 k d l);
        fails = mask_apart (λ row. LiteralHolds sheet row a.literal) (λ row. LiteralHolds sheet row b.literal) outside a.outside b.outside first.2 second.2 apart;
      }

      -- a guard's first literal is not before one that is before it or not after it
      crossed : (c f : Literal) (X : Type 0) → Before f c → Before c f ⊎ (NotAfter c f × X) → ⊥
      crossed c f X before (inl less) = never_less c (literal_total.trans c f c less before)
      crossed c f X before (inr not) = not.0 before

      module _ (f m : Literal) (s : Separates settings sheet inside outside (two_guard f m)) where
        p : (u v : ℕ) × (c d : Candidate) × (u < v) × (slice_get ks u ≡ Some c) × (slice_get ks v ≡ Some d) × (bit_and c.outside d.outside ≡ 0)
            × (Before c.literal f ⊎ (NotAfter c.literal f × NotAfter d.literal m))
        p = two_kept f m s alone

        are_apart : AreApart ks p.0 p.1
        are_apart = record { first = p.2; second = p.3; at_first = p.5; at_second = p.6; apart = p.7 }

        within : p.1 < length ks
        within = slice_get_within ks p.1 p.3 p.6

        first_earlier : i ≤ p.0 → Before f a.literal → ⊥
        first_earlier le before = crossed p.2.literal f (NotAfter p.3.literal m) (before_later i p.0 a p.2 le at p.5 f before) p.8

        second_earlier : p.0 ≡ i → f ≡ a.literal → Before m b.literal → ⊥
        second_earlier e same before =
            let here : p.2 ≡ a = same_Some p.2 a (sym p.5 ∙ ap (slice_get ks) e ∙ at) in
            let equal : p.2.literal ≡ f = ap (λ (z : Candidate). z.literal) here ∙ sym same in
            elim (cases_lt p.1 j) [
              | inl less ↦ partner p.1 (let w = p.4 in omega arith) less (subst (λ z. AreApart ks z p.1) e are_apart)
              | inr ge ↦ elim p.8 [
                | inl first_less ↦ never_less f (subst (λ z. Before z f) equal first_less)
                | inr not ↦ not.1 (before_later j p.1 b p.3 ge at2 p.6 m before)
              ]
            ]

        two : ordering_then (literal_cmp f a.literal) (ordering_then (literal_cmp m b.literal) Equal) ≡ Less → ⊥
        two less = elim (cases_order p.0 i) [
          | inl e ↦ elim (then_cases (literal_cmp f a.literal) (ordering_then (literal_cmp m b.literal) Equal) less) [
            | inl before ↦ first_earlier (omega arith) before
            | inr rest ↦ second_earlier e (exact_literals f a.literal rest.0) (then_only (literal_cmp m b.literal) rest.1)
          ]
          | inr o ↦ elim o [
            | inl lower ↦ none p.0 lower p.1 p.4 within are_apart
            | inr higher ↦ elim (then_cases (literal_cmp f a.literal) (ordering_then (literal_cmp m b.literal) Equal) less) [
              | inl before ↦ first_earlier (omega arith) before
              | inr rest ↦
                  crossed p.2.literal f (NotAfter p.3.literal m)
                  (subst (λ z. Before z p.2.literal) (sym (exact_literals f a.literal rest.0)) (rises i p.0 a p.2 higher at p.5)) p.8
            ]
          ]
        ]

      least : (f : Literal) (more : Option Literal) → Separates settings sheet inside outside (record { first = f; second = more }) →
          guard_cmp (record { first = f; second = more }) (two_guard a.literal b.literal) ≡ Less → ⊥
      least f None s less = none_alone alone f s
      least f (Some m) s less = two f m s less

      pair_least : IsLeastGuard settings sheet inside outside (two_guard a.literal b.literal)
      pair_least = record { separates = separates; least = λ h s less. least h.first h.second s less }

    first_pair_least : (g : Guard) → IsFirstPair ks g → IsLeastGuard settings sheet inside outside g
    first_pair_least g h = subst (IsLeastGuard settings sheet inside outside) (sym h.8) (pair_least h.0 h.1 h.2 h.3 h.4 h.5 h.6 h.7 h.9 h.10)

    -- where no two are, there is no guard
    no_guard : NonePair ks (length ks) → (g : Guard) → Separates settings sheet inside outside g → ⊥
    no_guard none g s = by_second g.first g.second s
      where
        by_second : (f : Literal) (second : Option Literal) → Separates settings sheet inside outside (record { first = f; second = second }) → ⊥
        by_second f None s = none_alone alone f s
        by_second f (Some m) s =
            let p = two_kept f m s alone in
            none p.0 (slice_get_within ks p.0 p.2 p.5) p.1 p.4 (slice_get_within ks p.1 p.3 p.6) (record { first = p.2; second = p.3; at_first = p.5; at_second = p.6; apart = p.7 })

    pub least_of_pair : (made : Option Guard) → MatchOption made (NonePair ks (length ks)) (IsFirstPair ks) → MatchOption made ((g : Guard) → ¬ (Separates settings sheet inside outside g)) (IsLeastGuard settings sheet inside outside)
    least_of_pair None h = no_guard h
    least_of_pair (Some g) h = first_pair_least g h

-- none of the first i has a partner, nor has the next one
pub pair_more : (ks : List Candidate) (i : ℕ) → NonePair ks i → NonePartner ks i (length ks) → NonePair ks (i + 1)
pair_more ks i none here j lt = elim (cases_order j i) [
  | inl e ↦ subst (λ z. NonePartner ks z (length ks)) (sym e) here
  | inr o ↦ elim o [ inl less ↦ none j less | inr more ↦ absurd (omega arith) ]
]
