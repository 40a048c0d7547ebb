-- Reading one of several words.
use Rattle.std.proofs.Common.{◌≡◌, ℕ, zero, suc, ◌+◌, ◌-◌, ◌<◌, ◌≤◌, ◌⊎◌, inl, inr, Bool, true, false, List, [], ◌∷◌, ◌++◌, length, min, take, get_or, slice_get, Some, refl, sym, ap, subst, ◌∙◌, arith, codes, length-append}
use Rattle.std.proofs.lemmas.List.{append_assoc, take_more}
use Rattle.std.proofs.lemmas.Grind.{common_steps}
use Rattle.std.proofs.lemmas.Bool.{and_from, cases_lt}
use Rattle.std.proofs.lemmas.Option.{same_Some}
use Rattle.fill_print.specs.Reading.{SameHead, Takes, Halts, Plain}
use Rattle.fill_tokens.specs.Token.{token_name, token_number}
use Rattle.fill_tokens.specs.TokenSet.{IsTokenOf, has_token}
use Rattle.fill_tokens.specs.declared.token.Token.{Token}
use Rattle.fill_tokens.specs.declared.token.Token.TheVariants.{Digits}
use Rattle.fill_tokens.specs.declared.token.TheConstants.Token.{ALL}
use Rattle.fill_tokens.specs.declared.token_set.TokenSet.{TokenSet}
use Rattle.fill_tokens.proofs.TokenLaws.{listed}
use Rattle.fill_print.specs.declared.notation.Notation.{Notation}
use Rattle.fill_print.specs.declared.notation.Notation.TheVariants as notation
use Rattle.fill_print.specs.Tokens.{may_come, tokens_of, TokenFront, IsIn, TokenOf}
use Rattle.fill_print.proofs.Chains.{same_head}

-- of two ways to cut a list, the one with the shorter rest has the longer front
cut_twice : (f g x y : List ℕ) → f ++ x ≡ g ++ y → length x ≤ length y → (z : List ℕ) × (f ≡ g ++ z) × (y ≡ z ++ x)
cut_twice f [] x y e h = (f, refl, sym e)
cut_twice [] (c ∷ g) x y e h = absurd (omega (arith, ap length e, length-append (c ∷ g) y))
cut_twice (b ∷ f) (c ∷ g) x y e h =
    let tails : f ++ x ≡ g ++ y = cc in
    let heads : b ≡ c = cc in
    let r = cut_twice f g x y tails h in
    (r.0, ap (λ t. b ∷ t) r.1 ∙ ap (λ d. d ∷ (g ++ r.0)) heads, r.2)

-- what is wrong at a byte is wrong at each later one
wrong_later : {A : Type 0} (R : A → List ℕ → List ℕ → Type 0) (bytes : List ℕ) (left : ℕ) (f x : List ℕ) → Halts R bytes left → bytes ≡ f ++ x → length x ≤ left → (a : A) (r k : List ℕ) → SameHead x r → R a (f ++ r) k → ⊥
wrong_later R bytes left f x h e short a r k same found =
    let z = cut_twice f h.front x h.rest (sym e ∙ h.is) (omega (arith, h.size)) in
    let text : f ++ r ≡ h.front ++ (z.0 ++ r) = ap (λ t. t ++ r) z.1 ∙ append_assoc h.front z.0 r in
    h.wrong a (z.0 ++ r) k (subst (λ t. SameHead t (z.0 ++ r)) (sym z.2) (same_head z.0 x r same)) (subst (λ t. R a t k) text found)

-- of two halts the later one is that of either
module _ {A B : Type 0} (U : A → List ℕ → List ℕ → Type 0) (R : A → List ℕ → List ℕ → Type 0) (Q : B → List ℕ → List ℕ → Type 0) where
  pub either_halts : (bytes : List ℕ) (left other : ℕ) → (b : B → A) → ((a : A) (s k : List ℕ) → R a s k → U a s k) → ((c : B) (s k : List ℕ) → Q c s k → U (b c) s k)
      → ((a : A) (s k : List ℕ) → U a s k → R a s k ⊎ ((c : B) × Q c s k)) → Halts R bytes left → Halts Q bytes other → Halts U bytes (min left other)
  either_halts bytes left other b from_r from_q split h g = elim (cases_lt left other) [
    | inl lt ↦ record {
      front = h.front;
      rest = h.rest;
      is = h.is;
      size = omega (arith, h.size);
      some = h.some;
      next = h.next;
      more = h.more;
      viable = λ k. from_r h.some _ k (h.viable k);
      wrong = λ a r k same found. elim (split a (h.front ++ r) k found) [
        | inl p ↦ h.wrong a r k same p
        | inr p ↦ wrong_later Q bytes other h.front h.rest g h.is (omega (arith, h.size)) p.0 r k same p.1
      ];
    }
    | inr ge ↦ record {
      front = g.front;
      rest = g.rest;
      is = g.is;
      size = omega (arith, g.size);
      some = b g.some;
      next = g.next;
      more = g.more;
      viable = λ k. from_q g.some _ k (g.viable k);
      wrong = λ a r k same found. elim (split a (g.front ++ r) k found) [
        | inl p ↦ wrong_later R bytes left g.front g.rest h g.is (omega (arith, g.size)) a r k same p
        | inr p ↦ g.wrong p.0 r k same p.1
      ];
    }
  ]

is_in_append : (t : Token) (ts us : List Token) → IsIn t (ts ++ us) → IsIn t ts ⊎ IsIn t us
is_in_append t [] us h = inr h
is_in_append t (u ∷ ts) us (inl h) = inl (inl h)
is_in_append t (u ∷ ts) us (inr h) = elim (is_in_append t ts us h) [ inl g ↦ inl (inr g) | inr g ↦ inr g ]

is_in_left : (t : Token) (ts us : List Token) → IsIn t ts → IsIn t (ts ++ us)
is_in_left t [] us h = absurd h
is_in_left t (u ∷ ts) us (inl h) = inl h
is_in_left t (u ∷ ts) us (inr h) = inr (is_in_left t ts us h)

is_in_right : (t : Token) (ts us : List Token) → IsIn t us → IsIn t (ts ++ us)
is_in_right t [] us h = h
is_in_right t (u ∷ ts) us h = inr (is_in_right t ts us h)

is_at : (ts : List Token) (i : ℕ) (t : Token) → slice_get ts i ≡ Some t → IsIn t ts
is_at [] i t e = let no_such : ⊥ = cc in absurd no_such
is_at (u ∷ ts) zero t e = inl (sym (same_Some u t e))
is_at (u ∷ ts) (suc i) t e = inr (is_at ts i t e)

pub is_one : (t : Token) → IsIn t ALL
is_one t = is_at ALL (token_number t - 1) t (listed t)

token_step : (xs : List Token) (i : ℕ) (d : Token) → i < length xs → take (i + 1) xs ≡ take i xs ++ get_or xs i d ∷ []
token_step xs i d h = take_more xs i d h

pub digits_of : (n : Notation) → IsTokenOf (tokens_of n) Digits
digits_of notation.Second = refl
digits_of notation.Third = refl
digits_of notation.All = refl

module _ (token_set : TokenSet) where
  -- one token more was looked for
  pub token_more : (first last : Bool) (ts : List Token) (t : Token) (bytes : List ℕ) (left other : ℕ) → may_come token_set first last t ≡ true → Halts (TokenOf token_set first last ts) bytes left → Halts (Plain (token_name t)) bytes other
      → Halts (TokenOf token_set first last (ts ++ t ∷ [])) bytes (min left other)
  token_more first last ts t bytes left other may h g =
      either_halts (TokenOf token_set first last (ts ++ t ∷ [])) (TokenOf token_set first last ts) (Plain (token_name t)) bytes left other (λ u. t)
      (λ a s k p. (is_in_left a ts (t ∷ []) p.0, p.1))
      (λ u s k p. (is_in_right t ts (t ∷ []) (inl refl), (may, p)))
      (λ a s k p. elim (is_in_append a ts (t ∷ []) p.0) [
        | inl q ↦ inl (q, p.1)
        | inr q ↦ elim q [ inl same ↦ inr (tt, p.1.1 ∙ ap (λ x. token_name x ++ k) same) | inr no_such ↦ absurd no_such ]
      ]) h g

  -- a token that may not stand here is none
  pub token_passed : (first last : Bool) (ts : List Token) (t : Token) (bytes : List ℕ) (left : ℕ) → may_come token_set first last t ≡ false → Halts (TokenOf token_set first last ts) bytes left → Halts (TokenOf token_set first last (ts ++ t ∷ [])) bytes left
  token_passed first last ts t bytes left barred h = record {
    front = h.front;
    rest = h.rest;
    is = h.is;
    size = h.size;
    some = h.some;
    next = h.next;
    more = h.more;
    viable = λ k. let v = h.viable k in (is_in_left h.some ts (t ∷ []) v.0, v.1);
    wrong = λ a r k same found. elim (is_in_append a ts (t ∷ []) found.0) [
      | inl q ↦ h.wrong a r k same (q, found.1)
      | inr q ↦ elim q [
        | inl e ↦ let bad : true ≡ false = sym found.1.0 ∙ ap (may_come token_set first last) e ∙ barred in let no_such : ⊥ = cc in no_such
        | inr no_such ↦ no_such
      ]
    ];
  }

  pub digits_come : (first last : Bool) → IsTokenOf token_set Digits → may_come token_set first last Digits ≡ true
  digits_come first last digits = and_from (has_token token_set Digits) true digits refl

  pub token_takes : (first last : Bool) (t : Token) (bytes rest : List ℕ) → may_come token_set first last t ≡ true → Takes (Plain (token_name t)) bytes tt rest → Takes (TokenFront token_set first last) bytes t rest
  token_takes first last t bytes rest may h = record { front = h.front; is = h.is; spelled = λ k. (may, h.spelled k) }

  pub token_start : IsTokenOf token_set Digits → (first last : Bool) (bytes : List ℕ) (left : ℕ) → Halts (Plain (codes "Digits")) bytes left → Halts (TokenOf token_set first last (Digits ∷ [])) bytes left
  token_start digits first last bytes left h = record {
    front = h.front;
    rest = h.rest;
    is = h.is;
    size = h.size;
    some = Digits;
    next = h.next;
    more = h.more;
    viable = λ k. (inl refl, (digits_come first last digits, h.viable k));
    wrong = λ a r k same found. elim found.0 [ inl e ↦ h.wrong tt r k same (found.1.1 ∙ ap (λ x. token_name x ++ k) e) | inr no_such ↦ no_such ];
  }

  pub token_all : (first last : Bool) (bytes : List ℕ) (left : ℕ) → Halts (TokenOf token_set first last (Digits ∷ ALL)) bytes left → Halts (TokenFront token_set first last) bytes left
  token_all first last bytes left h = record {
    front = h.front;
    rest = h.rest;
    is = h.is;
    size = h.size;
    some = h.some;
    next = h.next;
    more = h.more;
    viable = λ k. (h.viable k).1;
    wrong = λ a r k same found. h.wrong a r k same (inr (is_one a), found);
  }

  pub next_more : (first last : Bool) (xs : List Token) (d : Token) (i : ℕ) (bytes : List ℕ) (left other : ℕ) → i < length xs → may_come token_set first last (get_or xs i d) ≡ true → Halts (TokenOf token_set first last (Digits ∷ take i xs)) bytes left
      → Halts (Plain (token_name (get_or xs i d))) bytes other → Halts (TokenOf token_set first last (Digits ∷ take (i + 1) xs)) bytes (min left other)
  next_more first last xs d i bytes left other lt may h g =
      subst (λ ts. Halts (TokenOf token_set first last (Digits ∷ ts)) bytes (min left other)) (sym (token_step xs i d lt)) (token_more first last (Digits ∷ take i xs) (get_or xs i d) bytes left other may h g)

  pub next_passed : (first last : Bool) (xs : List Token) (d : Token) (i : ℕ) (bytes : List ℕ) (left : ℕ) → i < length xs → may_come token_set first last (get_or xs i d) ≡ false → Halts (TokenOf token_set first last (Digits ∷ take i xs)) bytes left
      → Halts (TokenOf token_set first last (Digits ∷ take (i + 1) xs)) bytes left
  next_passed first last xs d i bytes left lt barred h =
      subst (λ ts. Halts (TokenOf token_set first last (Digits ∷ ts)) bytes left) (sym (token_step xs i d lt)) (token_passed first last (Digits ∷ take i xs) (get_or xs i d) bytes left barred h)

  pub token_end : (first last : Bool) (i : ℕ) (bytes : List ℕ) (left : ℕ) → length ALL ≤ i → Halts (TokenOf token_set first last (Digits ∷ take i ALL)) bytes left → Halts (TokenFront token_set first last) bytes left
  token_end first last i bytes left le h = token_all first last bytes left (subst (λ ts. Halts (TokenOf token_set first last (Digits ∷ ts)) bytes left) (every ALL i le) h)
    where
      every : (xs : List Token) (i : ℕ) → length xs ≤ i → take i xs ≡ xs
      every xs i le = grind (arith, common_steps)
