-- Which tokens stand in a sequence, token by token and by their places.
use Rattle.std.proofs.Common.{◌≡◌, ◌≢◌, ℕ, zero, suc, ◌+◌, ◌<◌, ◌≤◌, Bool, true, false, ◌&&◌, List, [], ◌∷◌, ◌++◌, length, Option, Some, slice_get, refl, sym, ap, ◌∙◌, arith}
use Rattle.std.proofs.lemmas.List.{append_assoc}
use Rattle.std.proofs.lemmas.Bool.{and_from, and_parts}
use Rattle.std.proofs.lemmas.List.Elements.{All-nil, All-cons, All-head, All-tail}
use Rattle.std.proofs.lemmas.Option.{same_Some}
use Rattle.fill_tokens.specs.Token.{token_name}
use Rattle.fill_tokens.specs.TokenSet.{AreTokensOf, IsTokenOf, has_token}
use Rattle.fill_tokens.specs.PlaceGrammar.{OnlyFirst, OnlyLast, Nowhere}
use Rattle.fill_tokens.specs.declared.token.Token.{Token}
use Rattle.fill_tokens.specs.declared.token.Token.TheVariants.{Start, End}
use Rattle.fill_tokens.specs.declared.token_set.TokenSet.{TokenSet}
use Rattle.fill_print.specs.Notation.{names, more_names}
use Rattle.fill_print.specs.Seqs.{Spot, room_after, after_token, gap, TokenSeq}
use Rattle.fill_print.specs.Tokens.{may_stand}

-- each token may stand where it does
abbrev pub IsSide : Bool → Bool → Bool → List Token → Type 0
IsSide starts ends start [] = Unit {0}
IsSide starts ends start (t ∷ ts) = (may_stand (start && starts) ends t ≡ true) × (t ≡ End → ts ≡ []) × IsSide starts ends false ts

abbrev pub StartIn : Bool → List Token → Type 0
StartIn true ts = OnlyFirst Start ts
StartIn false ts = Nowhere Start ts

abbrev pub EndIn : Bool → List Token → Type 0
EndIn true ts = OnlyLast End ts
EndIn false ts = Nowhere End ts

empty_list : (ts : List Token) → length ts ≤ 0 → ts ≡ []
empty_list [] h = refl
empty_list (t ∷ ts) h = absurd (omega arith)

only_at : (t : Token) (ts : List Token) → Nowhere Start ts → (i : ℕ) → slice_get (t ∷ ts) i ≡ Some Start → i ≡ 0
only_at t ts later zero e = refl
only_at t ts later (suc i) e = absurd (later i e)

none_at : (ends : Bool) (t : Token) (ts : List Token) → may_stand false ends t ≡ true → Nowhere Start ts → (i : ℕ) → slice_get (t ∷ ts) i ≡ Some Start → ⊥
none_at ends t ts h later zero e = let bad : false ≡ true = ap (may_stand false ends) (sym (same_Some t Start e)) ∙ h in let no_such : ⊥ = cc in no_such
none_at ends t ts h later (suc i) e = later i e

start_from : (b ends : Bool) (t : Token) (ts : List Token) → may_stand b ends t ≡ true → Nowhere Start ts → StartIn b (t ∷ ts)
start_from true ends t ts h later = only_at t ts later
start_from false ends t ts h later = none_at ends t ts h later

last_at : (t : Token) (ts : List Token) → (t ≡ End → ts ≡ []) → OnlyLast End ts → (i : ℕ) → slice_get (t ∷ ts) i ≡ Some End → i + 1 ≡ length (t ∷ ts)
last_at t ts alone later zero e = let n = ap length (alone (same_Some t End e)) in omega (arith, n)
last_at t ts alone later (suc i) e = let n = later i e in omega (arith, n)

no_end_at : (b : Bool) (t : Token) (ts : List Token) → may_stand b false t ≡ true → Nowhere End ts → (i : ℕ) → slice_get (t ∷ ts) i ≡ Some End → ⊥
no_end_at b t ts h later zero e = let bad : false ≡ true = ap (may_stand b false) (sym (same_Some t End e)) ∙ h in let no_such : ⊥ = cc in no_such
no_end_at b t ts h later (suc i) e = later i e

end_from : (b ends : Bool) (t : Token) (ts : List Token) → may_stand b ends t ≡ true → (t ≡ End → ts ≡ []) → EndIn ends ts → EndIn ends (t ∷ ts)
end_from b true t ts h alone later = last_at t ts alone later
end_from b false t ts h alone later = no_end_at b t ts h later

nothing_at : (i : ℕ) (t : Token) → ◌≡◌ {A = Option Token} (slice_get [] i) (Some t) → ⊥
nothing_at i t e = let no_such : ⊥ = cc in no_such

no_start : (b : Bool) → StartIn b []
no_start true = λ i e. absurd (nothing_at i Start e)
no_start false = λ i e. nothing_at i Start e

no_finish : (b : Bool) → EndIn b []
no_finish true = λ i e. absurd (nothing_at i End e)
no_finish false = λ i e. nothing_at i End e

pub side_start : (starts ends start : Bool) (ts : List Token) → IsSide starts ends start ts → StartIn (start && starts) ts
side_start starts ends start [] h = no_start (start && starts)
side_start starts ends start (t ∷ ts) h = start_from (start && starts) ends t ts h.0 (side_start starts ends false ts h.2)

pub side_end : (starts ends start : Bool) (ts : List Token) → IsSide starts ends start ts → EndIn ends ts
side_end starts ends start [] h = no_finish ends
side_end starts ends start (t ∷ ts) h = end_from (start && starts) ends t ts h.0 h.1 (side_end starts ends false ts h.2)

stands : (b ends : Bool) (t : Token) → (b ≡ false → t ≢ Start) → (ends ≡ false → t ≢ End) → may_stand b ends t ≡ true
stands true ends Start p q = refl
stands false ends Start p q = absurd (p refl refl)
stands b true End p q = refl
stands b false End p q = absurd (q refl refl)
stands b ends _ p q = refl

start_at : (b : Bool) (t : Token) (ts : List Token) → StartIn b (t ∷ ts) → b ≡ false → t ≢ Start
start_at true t ts h e s = let no_such : ⊥ = cc in no_such
start_at false t ts h e s = h 0 (ap Some s)

end_at : (b : Bool) (t : Token) (ts : List Token) → EndIn b (t ∷ ts) → b ≡ false → t ≢ End
end_at true t ts h e s = let no_such : ⊥ = cc in no_such
end_at false t ts h e s = h 0 (ap Some s)

end_alone : (b : Bool) (t : Token) (ts : List Token) → EndIn b (t ∷ ts) → t ≡ End → ts ≡ []
end_alone true t ts h e = let n = h 0 (ap Some e) in empty_list ts (omega (arith, n))
end_alone false t ts h e = absurd (h 0 (ap Some e))

start_later : (b : Bool) (t : Token) (ts : List Token) → StartIn b (t ∷ ts) → Nowhere Start ts
start_later true t ts h i e = absurd (let n = h (suc i) e in omega (arith, n))
start_later false t ts h i e = h (suc i) e

last_later : (t : Token) (ts : List Token) → OnlyLast End (t ∷ ts) → (i : ℕ) → slice_get ts i ≡ Some End → i + 1 ≡ length ts
last_later t ts h i e = let n = h (suc i) e in omega (arith, n)

end_later : (b : Bool) (t : Token) (ts : List Token) → EndIn b (t ∷ ts) → EndIn b ts
end_later true t ts h = last_later t ts h
end_later false t ts h = λ i e. h (suc i) e

pub side_from : (starts ends start : Bool) (ts : List Token) → StartIn (start && starts) ts → EndIn ends ts → IsSide starts ends start ts
side_from starts ends start [] p q = tt
side_from starts ends start (t ∷ ts) p q = (
  stands (start && starts) ends t (start_at (start && starts) t ts p) (end_at ends t ts q),
  end_alone ends t ts q,
  side_from starts ends false ts (start_later (start && starts) t ts p) (end_later ends t ts q),
)

abbrev pub text_of : Bool → List Token → List ℕ
text_of true ts = names ts
text_of false ts = more_names ts

-- a token leaves less room, and End none
pub room_less : (room : ℕ) (t : Token) → 0 < room → room_after room t + 1 ≤ room
room_less room End h = omega arith
room_less room _ h = omega arith

room_enough : (room : ℕ) (t : Token) (ts : List Token) → length ts + 1 ≤ room → (t ≡ End → ts ≡ []) → length ts ≤ room_after room t
room_enough room End ts h e = omega (arith, ap length (e refl))
room_enough room _ ts h e = omega arith

first_text : (start : Bool) (t : Token) (ts : List Token) (k : List ℕ) → gap start ++ (token_name t ++ (more_names ts ++ k)) ≡ text_of start (t ∷ ts) ++ k
first_text true t ts k = sym (append_assoc (token_name t) (more_names ts) k)
first_text false t ts k = ap (λ x. 32 ∷ x) (sym (append_assoc (token_name t) (more_names ts) k))

no_text : (start : Bool) (k : List ℕ) → text_of start [] ++ k ≡ k
no_text true k = refl
no_text false k = refl

pub record IsSpelledSeq (token_set : TokenSet) (starts ends : Bool) (p : Spot) (ts : List Token) (s k : List ℕ) : Type 0 where
  pub side : IsSide starts ends p.start ts
  pub own : AreTokensOf token_set ts
  pub few : length ts ≤ p.room
  pub filled : ts ≡ [] → p.may_end ≡ true
  pub text : s ≡ text_of p.start ts ++ 93 ∷ k

module _ (token_set : TokenSet) where
  pub seq_forth : (starts ends : Bool) (ts : List Token) (p : Spot) (s k : List ℕ) → TokenSeq token_set starts ends p ts s k → IsSpelledSeq token_set starts ends p ts s k
  seq_forth starts ends [] p s k h = record { side = tt; own = All-nil (IsTokenOf token_set); few = omega arith; filled = λ e. h.0; text = h.1 ∙ sym (no_text p.start (93 ∷ k)) }
  seq_forth starts ends (t ∷ ts) p s k h =
      let step = h.1 in
      let rest = seq_forth starts ends ts (after_token p t) h.0 k h.2 in
      let less = room_less p.room t step.0 in
      let comes = and_parts (has_token token_set t) (may_stand (p.start && starts) ends t) step.3.0 in
      record {
        side = (comes.1, (λ e. empty_list ts (let f = rest.few in let g : room_after p.room t ≡ 0 = ap (room_after p.room) e in omega (arith, f, g))), rest.side);
        own = All-cons (IsTokenOf token_set) t ts comes.0 rest.own;
        few = (let f = rest.few in omega (arith, f, less));
        filled = λ e. (let no_such : ⊥ = cc in absurd no_such);
        text = step.2 ∙ ap (λ x. gap p.start ++ x) (step.3.1 ∙ ap (λ x. token_name t ++ x) (later rest.text)) ∙ first_text p.start t ts (93 ∷ k);
      }
    where
      later : {m : List ℕ} → m ≡ text_of false ts ++ 93 ∷ k → m ≡ more_names ts ++ 93 ∷ k
      later e = e

  pub seq_back : (starts ends : Bool) (ts : List Token) (p : Spot) (s k : List ℕ) → IsSpelledSeq token_set starts ends p ts s k → TokenSeq token_set starts ends p ts s k
  seq_back starts ends [] p s k h = (h.filled refl, h.text ∙ no_text p.start (93 ∷ k))
  seq_back starts ends (t ∷ ts) p s k h =
      let some : 0 < p.room = (let f = h.few in omega arith) in
      let comes = and_from (has_token token_set t) (may_stand (p.start && starts) ends t) (All-head (IsTokenOf token_set) t ts h.own) h.side.0 in (
        more_names ts ++ 93 ∷ k,
        (some, token_name t ++ (more_names ts ++ 93 ∷ k), h.text ∙ sym (first_text p.start t ts (93 ∷ k)), (comes, refl)),
        seq_back starts ends ts (after_token p t) (more_names ts ++ 93 ∷ k) k (record { side = h.side.2; own = All-tail (IsTokenOf token_set) t ts h.own; few = room_enough p.room t ts (let f = h.few in omega arith) h.side.1; filled = λ e. refl; text = later }),
      )
    where
      later : more_names ts ++ 93 ∷ k ≡ text_of false ts ++ 93 ∷ k
      later = refl

-- short lists by their items
pub one_token : (ts : List Token) (a : Token) → length ts ≡ 1 → slice_get ts 0 ≡ Some a → ts ≡ a ∷ []
one_token [] a n e = absurd (omega arith)
one_token (t ∷ ts) a n e = ap (λ x. x ∷ ts) (same_Some t a e) ∙ ap (λ x. a ∷ x) (empty_list ts (omega (arith, n)))

pub two_tokens : (ts : List Token) (a b : Token) → length ts ≡ 2 → slice_get ts 0 ≡ Some a → slice_get ts 1 ≡ Some b → ts ≡ a ∷ b ∷ []
two_tokens [] a b n e f = absurd (omega arith)
two_tokens (t ∷ ts) a b n e f = ap (λ x. x ∷ ts) (same_Some t a e) ∙ ap (λ x. a ∷ x) (one_token ts b (omega (arith, n)) f)
