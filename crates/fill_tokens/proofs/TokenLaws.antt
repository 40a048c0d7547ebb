-- The numbers and the names of tokens tell them apart, and the list of all tokens has each at its number.
use Rattle.std.proofs.Common.{◌≡◌, ◌<◌, ◌≤◌, ℕ, zero, suc, ◌+◌, ◌-◌, ◌==◌, ◌&&◌, Bool, true, false, List, [], ◌∷◌, length, get_or, Some, slice_get, refl, ap, sym, ◌∙◌, inl, inr, arith, subst, eqb-true, add-zero, leb}
use Rattle.std.specs.Prelude.{◌≢◌, ◌↔◌, find, nat_eq, Option}
use Rattle.std.specs.Cmp.Lexicographic.{pointwise}
use Rattle.std.specs.Ordering.{nat_cmp, on}
use Rattle.std.proofs.lemmas.Bool.{cases_order, and_parts, leb-true, le-leb}
use Rattle.std.proofs.lemmas.Option.{same_Some, get_or_from_slice_get, slice_get-get_or}
use Rattle.std.proofs.lemmas.Cmp.{nat_list_eq_equiv}
use Rattle.std.proofs.lemmas.Map.Lookups.{CmpEqualImpliesEq, exact_unsigned}
use Rattle.fill_tokens.specs.Token.{token_number, token_name}
use Rattle.fill_tokens.specs.TokenSet.{IsTokenOf, has_token}
use Rattle.fill_tokens.specs.declared.token_set.TheConstants.TokenSet as set
use Rattle.fill_tokens.specs.declared.token.Token.{Token}
use Rattle.fill_tokens.specs.declared.token.Token.TheVariants.{Start, Dollar, NonDigit, NonAlpha}
use Rattle.fill_tokens.specs.declared.token.TheConstants.Token.{ALL}

pub listed : (t : Token) → slice_get ALL (token_number t - 1) ≡ Some t
listed Start = refl
listed _ = refl

pub number_within : (t : Token) → token_number t ≤ length ALL
number_within Start = omega arith
number_within _ = omega arith

-- the tokens of a list have the numbers from n on, in order
abbrev numbered : ℕ → List Token → Bool
numbered n [] = true
numbered n (t ∷ ts) = token_number t == n && numbered (n + 1) ts

numbered_at : (n : ℕ) (ts : List Token) (i : ℕ) (t : Token) → numbered n ts ≡ true → slice_get ts i ≡ Some t → token_number t ≡ n + i
numbered_at n [] i t h e = cc
numbered_at n (u ∷ ts) zero t h e =
    let here : token_number u ≡ n = eqb-true (token_number u) n (and_parts (token_number u == n) (numbered (n + 1) ts) h).0 in
    ap token_number (sym (same_Some u t e)) ∙ here ∙ sym (add-zero n)
numbered_at n (u ∷ ts) (suc i) t h e =
    let rest : token_number t ≡ (n + 1) + i = numbered_at (n + 1) ts i t (and_parts (token_number u == n) (numbered (n + 1) ts) h).1 e in
    omega arith

pub number_at : (i : ℕ) (d : Token) → i < length ALL → token_number (get_or ALL i d) ≡ 1 + i
number_at i d within = numbered_at 1 ALL i (get_or ALL i d) refl (slice_get-get_or ALL i d within)

pub number_exact : (a b : Token) → token_number a ≡ token_number b → a ≡ b
number_exact a b e = same_Some a b (sym (listed a) ∙ ap (λ n. slice_get ALL (n - 1)) e ∙ listed b)

pub exact_tokens : CmpEqualImpliesEq (on token_number nat_cmp)
exact_tokens a b h = number_exact a b (exact_unsigned (token_number a) (token_number b) h)

-- the first token of a name
abbrev named : List ℕ → Option Token
named name = find (λ t. pointwise nat_eq (token_name t) name) ALL

named_back : (t : Token) → named (token_name t) ≡ Some t
named_back Start = refl
named_back _ = refl

pub name_exact : (a b : Token) → token_name a ≡ token_name b → a ≡ b
name_exact a b e = same_Some a b (sym (named_back a) ∙ ap named e ∙ named_back b)

pub unlike : (xs ys : List ℕ) (r : Bool) → r ≡ pointwise nat_eq xs ys → r ≡ false → xs ≢ ys
unlike xs ys r e differ same =
    let alike : pointwise nat_eq xs xs ≡ true = nat_list_eq_equiv.refl xs in
    cc

-- of the first tokens of the list none has the name, nor has the next one
pub next_unnamed : (name : List ℕ) (i : ℕ) (d : Token) → i < length ALL → token_name (get_or ALL i d) ≢ name →
    ((j : ℕ) (t : Token) → j < i → slice_get ALL j ≡ Some t → token_name t ≢ name) →
    (j : ℕ) (t : Token) → j < i + 1 → slice_get ALL j ≡ Some t → token_name t ≢ name
next_unnamed name i d within this below j t h e n = elim (cases_order j i) [
  | inl same ↦ this (ap token_name (get_or_from_slice_get ALL i t d (subst (λ k. slice_get ALL k ≡ Some t) same e)) ∙ n)
  | inr o ↦ elim o [ inl l ↦ below j t l e n | inr g ↦ absurd (omega arith) ]
]

-- what each of the sets has, as a test on numbers
first_tells : (x : Token) → has_token set.FIRST x ≡ leb (token_number x) 26
first_tells Start = refl
first_tells _ = refl

second_tells : (x : Token) → has_token set.SECOND x ≡ leb (token_number x) 29
second_tells Start = refl
second_tells _ = refl

pub in_all : (x : Token) → IsTokenOf set.ALL x
in_all Start = refl
in_all _ = refl

pub in_first : (x : Token) → IsTokenOf set.FIRST x ↔ (token_number x ≤ token_number Dollar)
in_first x = ((λ h. leb-true (token_number x) 26 (sym (first_tells x) ∙ h)), (λ h. first_tells x ∙ le-leb (token_number x) 26 h))

pub in_second : (x : Token) → IsTokenOf set.SECOND x ↔ (token_number x ≤ token_number NonAlpha)
in_second x = ((λ h. leb-true (token_number x) 29 (sym (second_tells x) ∙ h)), (λ h. second_tells x ∙ le-leb (token_number x) 29 h))

-- a token is not one that the set lacks
unlike_of : (x y : Token) → IsTokenOf set.THIRD x → has_token set.THIRD y ≡ false → x ≢ y
unlike_of x y h without e = let same : has_token set.THIRD x ≡ has_token set.THIRD y = ap (has_token set.THIRD) e in cc

in_third_back : (x : Token) → x ≢ NonDigit → x ≢ NonAlpha → IsTokenOf set.THIRD x
in_third_back Start a b = refl
in_third_back NonDigit a b = absurd (a refl)
in_third_back NonAlpha a b = absurd (b refl)
in_third_back _ a b = refl

pub in_third : (x : Token) → IsTokenOf set.THIRD x ↔ ((x ≢ NonDigit) × (x ≢ NonAlpha))
in_third x = ((λ h. (unlike_of x NonDigit h refl, unlike_of x NonAlpha h refl)), (λ h. in_third_back x h.0 h.1))
