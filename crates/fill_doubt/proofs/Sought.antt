-- The positions that a sequence comes to with one token more, and what is read of a text.
use Rattle.std.proofs.Common.{◌≡◌, ⊎_elim, ℕ, ◌+◌, ◌<◌, ◌≤◌, List, [], ◌∷◌, ◌++◌, length, take, drop, get_or, slice_get, Some, refl, sym, ap, ◌∙◌, subst, arith}
use Rattle.std.proofs.lemmas.List.{drop_all, drop_more, take_all, take_more}
use Rattle.std.proofs.lemmas.Option.{get_or_from_slice_get, slice_get_within, slice_get-get_or}
use Rattle.fill_spans.specs.Pieces.{ArePieces, AreExactly, Rises}
use Rattle.fill_spans.specs.Read.{AreClasses}
use Rattle.fill_spans.proofs.PieceLaws.{push_cases}
use Rattle.fill_tokens.specs.Cuts.{IsRisingListOf}
use Rattle.fill_tokens.specs.Span.{Begins, Ends, Spans}
use Rattle.fill_tokens.specs.declared.token.Token.{Token}
use Rattle.fill_tokens.proofs.SpanLaws.{seq_snoc, seq_unsnoc, within}
use Rattle.fill_arena.proofs.Scan.{here}
use Rattle.fill_doubt.specs.Hops.{AreReached, IsReachedBelow}
use Rattle.fill_doubt.specs.Tokens.{AreReadIn, HasToken}
use Rattle.fill_doubt.specs.declared.tokens.TokenPieces.{TokenPieces}
use Rattle.fill_doubt.specs.declared.tokens.Tokens.{Tokens}
use Rattle.fill_doubt.proofs.Pushed.{rising_same}
use Rattle.fill_doubt.proofs.Hopped.{at_contained, contains_at}

-- a rising list from the pairs of its numbers
pub increasing : (xs : List ℕ) → Rises xs → (k : ℕ) → k + 1 < length xs → get_or xs k 0 < get_or xs (k + 1) 0
increasing xs rises k lt = rises k (k + 1) 0 (omega arith) lt

module _ (x : Token) (t starts ends : List ℕ) (are : AreExactly (Spans x t) starts ends) where
  -- one token alone
  pub only_ends : IsRisingListOf (Ends (x ∷ []) t) ends
  only_ends = record {
    rising = increasing ends are.ends_rise;
    exact = λ k. (
      (λ h. let at = at_contained ends k h in
          let p = are.paired in
          let w = slice_get_within ends at.0 k at.1 in
          let s = (are.exact (get_or starts at.0 0) k).0 (at.0, there at.0 (omega arith), at.1) in
          (get_or starts at.0 0, (k, s, (refl, (within x t (get_or starts at.0 0) k s).1)))),
      (λ h. let s = (are.exact h.0 h.1.0).1 h.1.1 in let e = h.1.2.0 in contains_at ends s.0 k (subst (λ m. slice_get ends s.0 ≡ Some m) e s.2)),
    );
  }
    where
      there : (i : ℕ) → i < length starts → slice_get starts i ≡ Some (get_or starts i 0)
      there i lt = slice_get-get_or starts i 0 lt

  pub only_starts : IsRisingListOf (Begins (x ∷ []) t) starts
  only_starts = record {
    rising = increasing starts are.starts_rise;
    exact = λ k. (
      (λ h. let at = at_contained starts k h in
          let p = are.paired in
          let w = slice_get_within starts at.0 k at.1 in
          let b = get_or ends at.0 0 in
          let s = (are.exact k b).0 (at.0, at.1, slice_get-get_or ends at.0 0 (omega arith)) in
          (b, (b, s, (refl, (within x t k b s).1)))),
      (λ h. let s = (are.exact k h.1.0).1 h.1.1 in contains_at starts s.0 k s.1),
    );
  }

  -- one token more at the end, or at the front
  pub more_ends : (r : List Token) (set out : List ℕ) → IsRisingListOf (Ends r t) set → AreReached set starts ends out → IsRisingListOf (Ends (r ++ x ∷ []) t) out
  more_ends r set out before reached = rising_same (IsReachedBelow set starts ends (length starts)) (Ends (r ++ x ∷ []) t) out reached
      (λ k. (
        (λ h. let s = (are.exact h.1 k).0 (h.0, h.3, h.4) in let e = (before.exact h.1).0 h.5 in (e.0, seq_snoc r x t e.0 h.1 k e.1 s)),
        (λ h. let u = seq_unsnoc r x t h.0 k h.1 in
            let p = (are.exact u.0 k).1 u.2 in
            (p.0, u.0, slice_get_within starts p.0 u.0 p.1, p.1, p.2, (before.exact u.0).1 (h.0, u.1))),
      ))

  pub more_starts : (r : List Token) (set out : List ℕ) → IsRisingListOf (Begins r t) set → AreReached set ends starts out → IsRisingListOf (Begins (x ∷ r) t) out
  more_starts r set out rest reached = rising_same (IsReachedBelow set ends starts (length ends)) (Begins (x ∷ r) t) out reached
      (λ k. (
        (λ h. let s = (are.exact k h.1).0 (h.0, h.4, h.3) in let b = (rest.exact h.1).0 h.5 in (b.0, (h.1, s, b.1))),
        (λ h. let p = (are.exact k h.1.0).1 h.1.1 in (p.0, h.1.0, slice_get_within ends p.0 h.1.0 p.2, p.2, p.1, (rest.exact h.1.0).1 (h.0, h.1.2))),
      ))

-- no token
pub none_ends : (r : List Token) (t ks : List ℕ) → r ≡ [] → IsRisingListOf (λ k. k ≤ length t) ks → IsRisingListOf (Ends r t) ks
none_ends r t ks e are = subst (λ (l : List Token). IsRisingListOf (Ends l t) ks) (sym e) (rising_same (λ k. k ≤ length t) (Ends [] t) ks are
    (λ k. ((λ h. (k, (refl, h))), (λ h. let a = h.1.0 in let b = h.1.1 in omega arith))))

pub none_starts : (r : List Token) (t ks : List ℕ) → r ≡ [] → IsRisingListOf (λ k. k ≤ length t) ks → IsRisingListOf (Begins r t) ks
none_starts r t ks e are = subst (λ (l : List Token). IsRisingListOf (Begins l t) ks) (sym e) (rising_same (λ k. k ≤ length t) (Begins [] t) ks are
    (λ k. ((λ h. (k, (refl, h))), (λ h. h.1.1))))

-- the tokens of a sequence up to a place, and from it on
pub take_token : (r : List Token) (i : ℕ) (x : Token) → slice_get r i ≡ Some x → take (i + 1) r ≡ take i r ++ x ∷ []
take_token r i x h = take_more r i x (slice_get_within r i x h) ∙ ap (λ v. take i r ++ v ∷ []) (get_or_from_slice_get r i x x h)

pub drop_token : (r : List Token) (i : ℕ) (x : Token) → slice_get r i ≡ Some x → drop i r ≡ x ∷ drop (i + 1) r
drop_token r i x h = drop_more r i x (slice_get_within r i x h) ∙ ap (λ v. v ∷ drop (i + 1) r) (get_or_from_slice_get r i x x h)

-- one token more that is read
pub read_more : (t : List ℕ) (old new : Tokens) (x : TokenPieces) → AreReadIn t old → new.classes ≡ old.classes → new.read.items ≡ old.read.items ++ x ∷ [] → ArePieces x.token t x.pieces → AreReadIn t new
read_more t old new x are same is here = record {
  classes = subst (λ v. AreClasses t v.items) (sym same) are.classes;
  read = λ i y at. ⊎_elim (λ l. are.read i y l) (λ r. subst (λ (z : TokenPieces). ArePieces z.token t z.pieces) r.1 here)
      (push_cases old.read.items x y i (subst (λ (xs : List TokenPieces). slice_get xs i ≡ Some y) is at));
}

pub pieces_at : (t : List ℕ) (tokens : Tokens) (token : Token) (i : ℕ) (x : TokenPieces) → AreReadIn t tokens → HasToken tokens token i → x ≡ get_or tokens.read.items i x → ArePieces token t x.pieces
pieces_at t tokens token i x are has is =
    let at = here tokens.read.items i x (slice_get_within tokens.read.items i has.0 has.1) is in
    let there = has.1 in
    let one : x ≡ has.0 = cc in
    let same : x.token ≡ token = subst (λ (y : TokenPieces). y.token ≡ token) (sym one) has.2 in
    subst (λ q. ArePieces q t x.pieces) same (are.read i x at)

-- a sequence from its first token on, or from its last one back
pub first_token : (r : List Token) (x : Token) → slice_get r 0 ≡ Some x → take 1 r ≡ x ∷ []
first_token r x h = take_token r 0 x h

pub last_token : (r : List Token) (i : ℕ) (x : Token) → i + 1 ≡ length r → slice_get r i ≡ Some x → drop i r ≡ x ∷ []
last_token r i x e h = drop_token r i x h ∙ ap (λ (l : List Token). x ∷ l) (drop_all (i + 1) r (omega arith))

pub ends_start : (r : List Token) (t ks : List ℕ) (x : Token) → slice_get r 0 ≡ Some x → IsRisingListOf (Ends (x ∷ []) t) ks → IsRisingListOf (Ends (take 1 r) t) ks
ends_start r t ks x h are = subst (λ (l : List Token). IsRisingListOf (Ends l t) ks) (sym (first_token r x h)) are

pub ends_step : (r : List Token) (t ks new : List ℕ) (i : ℕ) (x : Token) → slice_get r i ≡ Some x → ((l : List Token) → IsRisingListOf (Ends l t) ks → IsRisingListOf (Ends (l ++ x ∷ []) t) new)
    → IsRisingListOf (Ends (take i r) t) ks → IsRisingListOf (Ends (take (i + 1) r) t) new
ends_step r t ks new i x h more are = subst (λ (l : List Token). IsRisingListOf (Ends l t) new) (sym (take_token r i x h)) (more (take i r) are)

pub ends_all : (r : List Token) (t ks : List ℕ) (i : ℕ) → length r ≤ i → IsRisingListOf (Ends (take i r) t) ks → IsRisingListOf (Ends r t) ks
ends_all r t ks i past are = subst (λ (l : List Token). IsRisingListOf (Ends l t) ks) (take_all i r past) are

pub starts_start : (r : List Token) (t ks : List ℕ) (i : ℕ) (x : Token) → i + 1 ≡ length r → slice_get r i ≡ Some x → IsRisingListOf (Begins (x ∷ []) t) ks → IsRisingListOf (Begins (drop i r) t) ks
starts_start r t ks i x e h are = subst (λ (l : List Token). IsRisingListOf (Begins l t) ks) (sym (last_token r i x e h)) are

pub starts_step : (r : List Token) (t ks new : List ℕ) (i j : ℕ) (x : Token) → i + 1 ≡ j → slice_get r i ≡ Some x → ((l : List Token) → IsRisingListOf (Begins l t) ks → IsRisingListOf (Begins (x ∷ l) t) new)
    → IsRisingListOf (Begins (drop j r) t) ks → IsRisingListOf (Begins (drop i r) t) new
starts_step r t ks new i j x e h more are =
    subst (λ (l : List Token). IsRisingListOf (Begins l t) new) (sym (drop_token r i x h)) (more (drop (i + 1) r) (subst (λ m. IsRisingListOf (Begins (drop m r) t) ks) (sym e) are))

pub starts_all : (r : List Token) (t ks : List ℕ) (i : ℕ) → i ≡ 0 → IsRisingListOf (Begins (drop i r) t) ks → IsRisingListOf (Begins r t) ks
starts_all r t ks i e are = subst (λ m. IsRisingListOf (Begins (drop m r) t) ks) e are

pub no_tokens : (r : List Token) → length r ≡ 0 → r ≡ []
no_tokens [] e = refl
no_tokens (x ∷ r) e = absurd (omega arith)
