-- Marks, and the hops between positions.
use Rattle.std.proofs.Common.{ℕ, ◌+◌, List, [], ◌∷◌, ◌++◌, length, refl, arith, Bool, true}
use Rattle.std.proofs.lemmas.Option.{slice_get_within}
use Rattle.fill_tokens.specs.TokenSet.{IsTokenOf}
use Rattle.fill_tokens.specs.Span.{Spans}
use Rattle.fill_tokens.specs.declared.token.Token.{Token}
use Rattle.fill_tokens.proofs.SpanLaws.{seq_snoc, seq_unsnoc}
use Rattle.fill_tokens.specs.declared.token_set.TokenSet.{TokenSet}
use Rattle.fill_places.specs.Hops.{AreHops, SpansBack}
use Rattle.fill_places.specs.Marks.{AreMarks, AreAll, AnyMarked, Reached}
use Rattle.fill_places.specs.Sides.{MayEnd, MayBegin, LeftAt, RightAt}
use Rattle.fill_places.proofs.SideLaws.{left_snoc, left_front, left_last, left_none, left_token, right_cons, right_rest, right_first, right_none, right_token}

-- the longer sequence ends where the hops over its last token lead
module _ (token_set : TokenSet) (t : List ℕ) (r : List Token) (x : Token) (flags : List Bool) (from to : List ℕ) (m : AreMarks (LeftAt token_set t r) (length t) flags) (are : AreHops (Spans x t) from to) where
  left_reached : (k : ℕ) → LeftAt token_set t (r ++ x ∷ []) k → Reached flags from to k
  left_reached k h =
      let u = seq_unsnoc r x t h.1.0 k h.1.1 in
      (u.0, (are u.0 k).1 u.2, m.full u.0 (left_front token_set r x h.0, (h.1.0, u.1)))

  pub left_marks : MayEnd r x → IsTokenOf token_set x → (at : List Bool) → AreMarks (Reached flags from to) (length t) at → AreMarks (LeftAt token_set t (r ++ x ∷ [])) (length t) at
  left_marks may of at a = record {
    long = a.long;
    sound = λ k h.
        let g = a.sound k h in
        let l = m.sound g.0 g.2 in
        let s = (are g.0 k).0 g.1 in
        (left_snoc token_set r x l.0 may of, (l.1.0, seq_snoc r x t l.1.0 g.0 k l.1.1 s));
    full = λ k h. a.full k (left_reached k h);
  }

  pub left_never : (AnyMarked flags from → ⊥) → (k : ℕ) → LeftAt token_set t (r ++ x ∷ []) k → ⊥
  left_never none k h = let g = left_reached k h in let p = g.1 in none (p.0, g.0, p.1, g.2)

pub left_barred : (token_set : TokenSet) (t : List ℕ) (r : List Token) (x : Token) → (MayEnd r x → ⊥) → (k : ℕ) → LeftAt token_set t (r ++ x ∷ []) k → ⊥
left_barred token_set t r x not k h = not (left_last token_set r x h.0)

pub left_unknown : (token_set : TokenSet) (t : List ℕ) (r : List Token) (x : Token) → (IsTokenOf token_set x → ⊥) → (k : ℕ) → LeftAt token_set t (r ++ x ∷ []) k → ⊥
left_unknown token_set t r x not k h = not (left_token token_set r x h.0)

-- the longer sequence begins where the hops over its first token come from
module _ (token_set : TokenSet) (t : List ℕ) (x : Token) (r : List Token) (flags : List Bool) (from to : List ℕ) (m : AreMarks (RightAt token_set t r) (length t) flags) (are : AreHops (SpansBack t x) from to) where
  right_reached : (k : ℕ) → RightAt token_set t (x ∷ r) k → Reached flags from to k
  right_reached k h =
      let s = h.1.1 in
      (s.0, (are s.0 k).1 s.1, m.full s.0 (right_rest token_set x r h.0, (h.1.0, s.2)))

  pub right_marks : MayBegin x r → IsTokenOf token_set x → (at : List Bool) → AreMarks (Reached flags from to) (length t) at → AreMarks (RightAt token_set t (x ∷ r)) (length t) at
  right_marks may of at a = record {
    long = a.long;
    sound = λ k h.
        let g = a.sound k h in
        let l = m.sound g.0 g.2 in
        let s = (are g.0 k).0 g.1 in
        (right_cons token_set x r l.0 may of, (l.1.0, (g.0, s, l.1.1)));
    full = λ k h. a.full k (right_reached k h);
  }

  pub right_never : (AnyMarked flags from → ⊥) → (k : ℕ) → RightAt token_set t (x ∷ r) k → ⊥
  right_never none k h = let g = right_reached k h in let p = g.1 in none (p.0, g.0, p.1, g.2)

pub right_barred : (token_set : TokenSet) (t : List ℕ) (x : Token) (r : List Token) → (MayBegin x r → ⊥) → (k : ℕ) → RightAt token_set t (x ∷ r) k → ⊥
right_barred token_set t x r not k h = not (right_first token_set x r h.0)

pub right_unknown : (token_set : TokenSet) (t : List ℕ) (x : Token) (r : List Token) → (IsTokenOf token_set x → ⊥) → (k : ℕ) → RightAt token_set t (x ∷ r) k → ⊥
right_unknown token_set t x r not k h = not (right_token token_set x r h.0)

-- the sequence of no token ends and begins everywhere
pub left_everywhere : (token_set : TokenSet) (t : List ℕ) (flags : List Bool) → AreAll true (length t + 1) flags → AreMarks (LeftAt token_set t []) (length t) flags
left_everywhere token_set t flags a = record {
  long = a.long;
  sound = λ k h. (left_none token_set, (k, (refl, (let w = slice_get_within flags k true h in omega (arith, a.long)))));
  full = λ k h. a.same k (let s = h.1.1 in omega arith);
}

pub right_everywhere : (token_set : TokenSet) (t : List ℕ) (flags : List Bool) → AreAll true (length t + 1) flags → AreMarks (RightAt token_set t []) (length t) flags
right_everywhere token_set t flags a = record {
  long = a.long;
  sound = λ k h. (right_none token_set, (k, (refl, (let w = slice_get_within flags k true h in omega (arith, a.long)))));
  full = λ k h. a.same k (let s = h.1.1 in omega arith);
}
