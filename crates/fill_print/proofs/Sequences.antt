-- Names of which none begins another.
use Rattle.std.proofs.Common.{◌≡◌, ◌≢◌, ℕ, ◌<◌, inl, inr, Bool, true, false, ◌&&◌, not, List, [], ◌∷◌, ◌++◌, Option, None, Some, length, refl, sym, ap, subst, ◌∙◌, arith, codes}
use Rattle.std.specs.Prelude.{◌==◌, nat_lt}
use Rattle.std.proofs.lemmas.Bool.{and_parts, and_from, eq-eqb, eqb-true, ltb-true}
use Rattle.fill_print.specs.Reading.{Takes, Halts, Then, Plain, Gives}
use Rattle.fill_tokens.specs.Token.{token_name}
use Rattle.fill_tokens.specs.TokenSet.{IsTokenOf}
use Rattle.fill_tokens.specs.declared.token.Token.{Token}
use Rattle.fill_tokens.specs.declared.token.Token.TheVariants.{Start, Digits}
use Rattle.fill_tokens.specs.declared.token.TheConstants.Token.{ALL}
use Rattle.fill_tokens.specs.declared.token_set.TokenSet.{TokenSet}
use Rattle.fill_print.specs.Tokens.{TokenFront, IsIn}
use Rattle.fill_print.specs.Seqs.{Spot, after_token, gap, TokenStep, AtStart, Later, TokenSeq}
use Rattle.fill_print.proofs.Chains.{OneForm, IsSpelled, many_one, IsAt, HasText, Completes, link, halts_first, halts_empty}
use Rattle.fill_print.proofs.TokenNames.{digits_come, is_one}

-- one begins with the other
abbrev related : List ℕ → List ℕ → Bool
related [] ys = true
related (x ∷ xs) [] = true
related (x ∷ xs) (y ∷ ys) = (x == y) && related xs ys

related_from : (x y k l : List ℕ) → x ++ k ≡ y ++ l → related x y ≡ true
related_from [] y k l e = refl
related_from (b ∷ x) [] k l e = refl
related_from (b ∷ x) (c ∷ y) k l e =
    let heads : b ≡ c = cc in
    let tails : x ++ k ≡ y ++ l = cc in
    and_from (b == c) (related x y) (eq-eqb b c heads) (related_from x y k l tails)

abbrev none_related : Token → List Token → Bool
none_related t [] = true
none_related t (u ∷ us) = not (related (token_name t) (token_name u)) && none_related t us

abbrev apart : List Token → Bool
apart [] = true
apart (t ∷ ts) = none_related t ts && apart ts

not_both : (b : Bool) → not b ≡ true → b ≡ true → ⊥
not_both true p q = let no_such : ⊥ = cc in no_such
not_both false p q = let no_such : ⊥ = cc in no_such

not_related : (t u : Token) (us : List Token) → none_related t us ≡ true → IsIn u us → related (token_name t) (token_name u) ≡ true → ⊥
not_related t u [] e h r = h
not_related t u (v ∷ us) e (inl same) r = not_both (related (token_name t) (token_name v)) (and_parts _ _ e).0 (ap (λ x. related (token_name t) (token_name x)) (sym same) ∙ r)
not_related t u (v ∷ us) e (inr h) r = not_related t u us (and_parts _ _ e).1 h r

flip : (x y : List ℕ) → related x y ≡ true → related y x ≡ true
flip [] [] e = refl
flip [] (c ∷ y) e = refl
flip (b ∷ x) [] e = refl
flip (b ∷ x) (c ∷ y) e =
    let p = and_parts (b == c) (related x y) e in
    and_from (c == b) (related y x) (eq-eqb c b (sym (same b c p.0))) (flip x y p.1)
  where
    same : (b c : ℕ) → (b == c) ≡ true → b ≡ c
    same b c e = grind (arith, eqb-true)

same_token : (t u : Token) (ts : List Token) → apart ts ≡ true → IsIn t ts → IsIn u ts → related (token_name t) (token_name u) ≡ true → t ≡ u
same_token t u [] e p q r = absurd p
same_token t u (v ∷ ts) e (inl p) (inl q) r = p ∙ sym q
same_token t u (v ∷ ts) e (inl p) (inr q) r = absurd (not_related v u ts (and_parts _ _ e).0 q (ap (λ x. related (token_name x) (token_name u)) (sym p) ∙ r))
same_token t u (v ∷ ts) e (inr p) (inl q) r = absurd (not_related v t ts (and_parts _ _ e).0 p (ap (λ x. related (token_name x) (token_name t)) (sym q) ∙ flip (token_name t) (token_name u) r))
same_token t u (v ∷ ts) e (inr p) (inr q) r = same_token t u ts (and_parts _ _ e).1 p q r

cancel_name : (w x y : List ℕ) → w ++ x ≡ w ++ y → x ≡ y
cancel_name [] x y e = e
cancel_name (c ∷ w) x y e = let tails : w ++ x ≡ w ++ y = cc in cancel_name w x y tails

-- a name begins with a letter
abbrev is_letter_first : List ℕ → Bool
is_letter_first [] = false
is_letter_first (c ∷ x) = nat_lt c 91 && nat_lt 32 c

letter_first : (t : Token) → is_letter_first (token_name t) ≡ true
letter_first Start = refl
letter_first _ = refl

pub name_first : (t : Token) → (c : ℕ) × (x : List ℕ) × (token_name t ≡ c ∷ x) × (c < 91) × (32 < c)
name_first t = go (token_name t) refl (letter_first t)
  where
    go : (n : List ℕ) → token_name t ≡ n → is_letter_first n ≡ true → (c : ℕ) × (x : List ℕ) × (token_name t ≡ c ∷ x) × (c < 91) × (32 < c)
    go [] e h = let no_such : ⊥ = cc in absurd no_such
    go (c ∷ x) e h = let p = and_parts (nat_lt c 91) (nat_lt 32 c) h in (c, x, e, ltb-true c 91 p.0, ltb-true 32 c p.1)

no_name : (t : Token) (b : ℕ) (s k : List ℕ) → 90 < b → b ∷ s ≡ token_name t ++ k → ⊥
no_name t b s k h e =
    let n = name_first t in
    let f : b ∷ s ≡ n.0 ∷ (n.1 ++ k) = e ∙ ap (λ x. x ++ k) n.2 in
    let g : b ≡ n.0 = cc in
    omega (arith, n.3)

gap_cancel : (start : Bool) (x y : List ℕ) → gap start ++ x ≡ gap start ++ y → x ≡ y
gap_cancel true x y e = e
gap_cancel false x y e = cc

module _ (token_set : TokenSet) where
  pub token_one : (first last : Bool) → OneForm (TokenFront token_set first last)
  token_one first last = record {
    law = λ t u s k l p q.
        let e : token_name t ++ k ≡ token_name u ++ l = sym p.1 ∙ q.1 in
        let same = same_token t u ALL refl (is_one t) (is_one u) (related_from (token_name t) (token_name u) k l e) in
        (same, cancel_name (token_name u) k l (ap (λ x. token_name x ++ k) (sym same) ∙ e));
  }

  pub seq_step_one : (starts ends : Bool) (p : Spot) → OneForm (TokenStep token_set starts ends p)
  seq_step_one starts ends p = record { law = go }
    where
      no_end : (start : Bool) (t : Token) (s m k l : List ℕ) → s ≡ 93 ∷ l → s ≡ gap start ++ m → m ≡ token_name t ++ k → ⊥
      no_end true t s m k l e f g = no_name t 93 l k (omega arith) (sym e ∙ f ∙ g)
      no_end false t s m k l e f g = let h : ◌≡◌ {A = ℕ} 93 32 = (let i : 93 ∷ l ≡ 32 ∷ m = sym e ∙ f in cc) in omega arith

      go : (o q : Option Token) (s k l : List ℕ) → TokenStep token_set starts ends p o s k → TokenStep token_set starts ends p q s l → (o ≡ q) × (k ≡ l)
      go None None s k l h g = (refl, let e : 93 ∷ k ≡ 93 ∷ l = sym h.1 ∙ g.1 in cc)
      go None (Some t) s k l h g = absurd (no_end p.start t s g.1 l k h.1 g.2 g.3.1)
      go (Some t) None s k l h g = absurd (no_end p.start t s h.1 k l g.1 h.2 h.3.1)
      go (Some t) (Some u) s k l h g =
          let m : h.1 ≡ g.1 = gap_cancel p.start h.1 g.1 (sym h.2 ∙ g.2) in
          let e = (token_one (p.start && starts) ends).law t u g.1 k l (subst (λ x. TokenFront token_set (p.start && starts) ends t x k) m h.3) g.3 in
          (ap Some e.0, e.1)

  pub seq_completes : (starts ends : Bool) (p : Spot) → Completes (TokenStep token_set starts ends) after_token p
  seq_completes starts ends p t text h = record { some = []; text = 93 ∷ []; spelled = λ k. (refl, refl) }

  -- at the start
  pub start_token : (starts ends : Bool) (room b : ℕ) (may_end : Bool) → 0 < room → b ≢ 93 → IsAt (TokenStep token_set starts ends (AtStart room may_end)) (Then (TokenFront token_set starts ends) (λ t. Gives (Some t))) b
  start_token starts ends room b may_end some ne = record {
    forth = λ o s k h. subst (λ x. TokenStep token_set starts ends (AtStart room may_end) x s k) (sym h.later.0) (some, s, refl, subst (λ x. TokenFront token_set starts ends h.item s x) h.later.1 h.here);
    back = λ o s k h. go o s k h;
  }
    where
      go : (o : Option Token) (s k : List ℕ) → TokenStep token_set starts ends (AtStart room may_end) o (b ∷ s) k → Then (TokenFront token_set starts ends) (λ t. Gives (Some t)) o (b ∷ s) k
      go None s k h = absurd (ne (let e : b ∷ s ≡ 93 ∷ k = h.1 in cc))
      go (Some t) s k h = link t k (subst (λ x. TokenFront token_set starts ends t x k) (sym h.2) h.3) (refl, refl)

  start_text : IsTokenOf token_set Digits → (starts ends : Bool) (room : ℕ) (may_end : Bool) → 0 < room → HasText (TokenStep token_set starts ends (AtStart room may_end))
  start_text digits starts ends room may_end some = (Some Digits, 68, codes "igits", λ k. (some, codes "Digits" ++ k, refl, (digits_come token_set starts ends digits, refl)))

  pub start_empty : IsTokenOf token_set Digits → (starts ends : Bool) (room : ℕ) (may_end : Bool) (bytes : List ℕ) → 0 < room → bytes ≡ [] → Halts (TokenStep token_set starts ends (AtStart room may_end)) bytes 0
  start_empty digits starts ends room may_end bytes some e = halts_empty (TokenStep token_set starts ends (AtStart room may_end)) (start_text digits starts ends room may_end some) bytes e (λ o k h. go o k h)
    where
      go : (o : Option Token) (k : List ℕ) → TokenStep token_set starts ends (AtStart room may_end) o [] k → ⊥
      go None k h = let f : ◌≡◌ {A = List ℕ} [] (93 ∷ k) = h.1 in let no_such : ⊥ = cc in no_such
      go (Some t) k h =
          let n = name_first t in
          let f : ◌≡◌ {A = List ℕ} [] (n.0 ∷ (n.1 ++ k)) = h.2 ∙ h.3.1 ∙ ap (λ x. x ++ k) n.2 in
          let no_such : ⊥ = cc in no_such

  pub start_closed : IsTokenOf token_set Digits → (starts ends : Bool) (room : ℕ) (may_end : Bool) (bytes after : List ℕ) → 0 < room → may_end ≡ false → bytes ≡ 93 ∷ after → Halts (TokenStep token_set starts ends (AtStart room may_end)) bytes (length bytes)
  start_closed digits starts ends room may_end bytes after some shut e = halts_first (TokenStep token_set starts ends (AtStart room may_end)) (start_text digits starts ends room may_end some) 93 bytes after e (λ o s k h. go o s k h)
    where
      go : (o : Option Token) (s k : List ℕ) → TokenStep token_set starts ends (AtStart room may_end) o (93 ∷ s) k → ⊥
      go None s k h = let bad : true ≡ false = sym h.0 ∙ shut in let no_such : ⊥ = cc in no_such
      go (Some t) s k h = no_name t 93 s k (omega arith) (h.2 ∙ h.3.1)

  pub bracket : (starts ends : Bool) (p : Spot) (bytes after : List ℕ) → p.may_end ≡ true → bytes ≡ 93 ∷ after → Takes (TokenStep token_set starts ends p) bytes None after
  bracket starts ends p bytes after may e = record { front = 93 ∷ []; is = e; spelled = λ k. (may, refl) }

  -- later
  pub later_at : (starts ends : Bool) (room : ℕ) → 0 < room → IsAt (TokenStep token_set starts ends (Later room)) (Then (Plain (codes " ")) (λ u. Then (TokenFront token_set false ends) (λ t. Gives (Some t)))) 32
  later_at starts ends room some = record {
    forth = λ o s k h. subst (λ x. TokenStep token_set starts ends (Later room) x s k) (sym h.later.later.0) (some, h.middle, h.here, subst (λ x. TokenFront token_set false ends h.later.item h.middle x) h.later.later.1 h.later.here);
    back = λ o s k h. go o s k h;
  }
    where
      go : (o : Option Token) (s k : List ℕ) → TokenStep token_set starts ends (Later room) o (32 ∷ s) k → Then (Plain (codes " ")) (λ u. Then (TokenFront token_set false ends) (λ t. Gives (Some t))) o (32 ∷ s) k
      go None s k h = let bad : ◌≡◌ {A = ℕ} 32 93 = (let e : 32 ∷ s ≡ 93 ∷ k = h.1 in cc) in absurd (omega arith)
      go (Some t) s k h = link tt h.1 h.2 (link t k h.3 (refl, refl))

  later_text : (starts ends : Bool) (room : ℕ) → HasText (TokenStep token_set starts ends (Later room))
  later_text starts ends room = (None, 93, [], λ k. (refl, refl))

  pub later_empty : (starts ends : Bool) (room : ℕ) (bytes : List ℕ) → bytes ≡ [] → Halts (TokenStep token_set starts ends (Later room)) bytes 0
  later_empty starts ends room bytes e = halts_empty (TokenStep token_set starts ends (Later room)) (later_text starts ends room) bytes e (λ o k h. go o k h)
    where
      go : (o : Option Token) (k : List ℕ) → TokenStep token_set starts ends (Later room) o [] k → ⊥
      go None k h = let f : ◌≡◌ {A = List ℕ} [] (93 ∷ k) = h.1 in let no_such : ⊥ = cc in no_such
      go (Some t) k h = let f : ◌≡◌ {A = List ℕ} [] (32 ∷ h.1) = h.2 in let no_such : ⊥ = cc in no_such

  pub later_halts : (starts ends : Bool) (room b : ℕ) (bytes after : List ℕ) → bytes ≡ b ∷ after → b ≢ 93 → (b ≡ 32 → room ≡ 0) → Halts (TokenStep token_set starts ends (Later room)) bytes (length bytes)
  later_halts starts ends room b bytes after e no_end no_more = halts_first (TokenStep token_set starts ends (Later room)) (later_text starts ends room) b bytes after e (λ o s k h. go o s k h)
    where
      go : (o : Option Token) (s k : List ℕ) → TokenStep token_set starts ends (Later room) o (b ∷ s) k → ⊥
      go None s k h = no_end (let f : b ∷ s ≡ 93 ∷ k = h.1 in cc)
      go (Some t) s k h = let f : b ≡ 32 = (let g : b ∷ s ≡ 32 ∷ h.1 = h.2 in cc) in let z = no_more f in omega (arith, h.0)

  pub token_seq_one : (starts ends : Bool) (p : Spot) → OneForm (TokenSeq token_set starts ends p)
  token_seq_one starts ends p = many_one (TokenStep token_set starts ends) after_token (seq_step_one starts ends) p

  pub token_seq_spelled : IsTokenOf token_set Digits → (starts ends may_end : Bool) (room : ℕ) → 0 < room → IsSpelled (TokenSeq token_set starts ends (AtStart room may_end))
  token_seq_spelled digits starts ends true room some = record { some = []; text = 93 ∷ []; spelled = λ k. (refl, refl) }
  token_seq_spelled digits starts ends false room some = record { some = Digits ∷ []; text = codes "Digits]"; spelled = λ k. (93 ∷ k, (some, codes "Digits]" ++ k, refl, (digits_come token_set starts ends digits, refl)), (refl, refl)) }
