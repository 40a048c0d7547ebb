-- Places and constants, as they are read and as they are printed.
use Rattle.std.proofs.Common.{◌≡◌, ℕ, ◌+◌, ◌<◌, Bool, true, false, List, [], ◌∷◌, ◌++◌, length, refl, sym, ap, subst, ◌∙◌, arith, codes}
use Rattle.std.specs.Prelude.{ℤ, All}
use Rattle.std.specs.Char.{IsScalar}
use Rattle.std.specs.Fmt.{signed_decimal}
use Rattle.std.proofs.lemmas.List.{append_assoc}
use Rattle.fill_tokens.specs.PlaceGrammar.{AreAround}
use Rattle.fill_tokens.specs.declared.token.Token.{Token}
use Rattle.fill_tokens.specs.declared.place.Place.{Place}
use Rattle.fill_tokens.specs.declared.place.Place.TheVariants.{CPos, Pos}
use Rattle.fill_tokens.specs.declared.token_set.TokenSet.{TokenSet}
use Rattle.fill_tree.specs.Tree.{AtomTree, constant}
use Rattle.fill_print.specs.Conditions.{PlaceFront}
use Rattle.fill_print.specs.Grammar.{AtCount, Between, not_empty, Constant}
use Rattle.fill_print.specs.Notation.{names, place_text, chars_text, atom_text}
use Rattle.fill_print.specs.Reading.{IsNotNext}
use Rattle.fill_print.specs.Seqs.{AtStart}
use Rattle.fill_print.proofs.Chains.{OneForm, IsSpelled, IsAt, link, both_one, both_spelled, plain_one, plain_spelled, gives_one, gives_spelled}
use Rattle.fill_print.proofs.Dispatch.{IsElse, not_at, split_one, at_spelled}
use Rattle.fill_print.proofs.Quotes.{quoted_one, quoted_forth, quoted_back}
use Rattle.fill_print.proofs.Sequences.{token_seq_one}
use Rattle.fill_print.proofs.Sides.{IsSpelledSeq, seq_forth, seq_back, side_start, side_end, side_from}
use Rattle.fill_print.proofs.Signs.{int_one, int_spelled}

count_text : (z : ℤ) (k : List ℕ) → codes "CPos(" ++ (signed_decimal z ++ 41 ∷ k) ≡ place_text (CPos z) ++ k
count_text z k = simp append_assoc

grouped : (o w r x y q z d k : List ℕ)
    → o ++ (w ++ (r ++ (x ++ (y ++ (w ++ (q ++ (x ++ (y ++ (z ++ (d ++ k)))))))))) ≡ (((((((o ++ ((w ++ r) ++ x)) ++ y) ++ ((w ++ q) ++ x)) ++ y) ++ z) ++ d)) ++ k
grouped o w r x y q z d k = simp append_assoc

between_text : (r q : List Token) (z : ℤ) (k : List ℕ)
    → codes "Pos([" ++ (names r ++ 93 ∷ (codes ",[" ++ (names q ++ 93 ∷ (44 ∷ (signed_decimal z ++ 41 ∷ k))))) ≡ place_text (Pos r q z) ++ k
between_text r q z k = grouped (codes "Pos(") (91 ∷ []) (names r) (93 ∷ []) (44 ∷ []) (names q) (signed_decimal z) (41 ∷ []) k

some_token : (r q : List Token) → (q ≡ [] → not_empty r ≡ true) → 0 < length r + length q
some_token [] [] h = let bad : false ≡ true = h refl in let no_such : ⊥ = cc in absurd no_such
some_token [] (t ∷ q) h = omega arith
some_token (t ∷ r) q h = omega arith

left_filled : (r q : List Token) → 0 < length r + length q → q ≡ [] → not_empty r ≡ true
left_filled [] [] h e = absurd (omega arith)
left_filled [] (t ∷ q) h e = let no_such : ⊥ = cc in absurd no_such
left_filled (t ∷ r) q h e = refl

module _ (token_set : TokenSet) where
  pub place_count : IsAt (PlaceFront token_set) AtCount 67
  place_count = record {
    forth = λ p s k h.
        let z = h.later.item in
        let text : s ≡ place_text (CPos z) ++ k = h.here ∙ ap (λ x. codes "CPos(" ++ x) (h.later.here.2 ∙ ap (λ x. signed_decimal z ++ 41 ∷ x) h.later.later.1) ∙ count_text z k in
        subst (λ x. PlaceFront token_set x s k) (sym h.later.later.0) ((h.later.here.0, tt), text);
    back = λ p s k h. go p s k h;
  }
    where
      go : (p : Place) (s k : List ℕ) → PlaceFront token_set p (67 ∷ s) k → AtCount p (67 ∷ s) k
      go (CPos z) s k h = link tt (signed_decimal z ++ 41 ∷ k) (h.1 ∙ sym (count_text z k)) (link z k (h.0.0, (λ e. let no_such : ⊥ = cc in absurd no_such), refl) (refl, refl))
      go (Pos r q z) s k h = let e : ◌≡◌ {A = ℕ} 67 80 = (let f : 67 ∷ s ≡ place_text (Pos r q z) ++ k = h.1 in cc) in absurd (omega arith)

  pub place_between : IsElse (PlaceFront token_set) (Between token_set) 67
  place_between = record {
    forth = λ p s k h.
        let r = h.later.item in
        let h2 = h.later.later in
        let q = h2.later.item in
        let h4 = h2.later.later in
        let z = h4.later.item in
        let f = seq_forth token_set true false r (AtStart 3 true) h.middle h.later.middle h.later.here in
        let g = seq_forth token_set false true q (AtStart 3 (not_empty r)) h2.middle h2.later.middle h2.later.here in
        let around : AreAround r q = record {
          short_left = f.few;
          short_right = g.few;
          some = some_token r q g.filled;
          start_left = side_start true false true r f.side;
          start_right = side_start false true true q g.side;
          end_left = side_end true false true r f.side;
          end_right = side_end false true true q g.side;
        } in
        let text : s ≡ place_text (Pos r q z) ++ k =
        h.here ∙ ap (λ x. codes "Pos([" ++ x) (f.text ∙ ap (λ x. names r ++ 93 ∷ x) (h2.here ∙ ap (λ x. codes ",[" ++ x) (g.text ∙ ap (λ x. names q ++ 93 ∷ x)
        (h4.here ∙ ap (λ x. 44 ∷ x) (h4.later.here.2 ∙ ap (λ x. signed_decimal z ++ 41 ∷ x) h4.later.later.1))))) ∙ between_text r q z k in
        subst (λ x. PlaceFront token_set x s k) (sym h4.later.later.0) (((h4.later.here.0, h4.later.here.1 refl, around), (f.own, g.own)), text);
    back = λ p s k ne h. go p s k ne h;
  }
    where
      go : (p : Place) (s k : List ℕ) → IsNotNext 67 s → PlaceFront token_set p s k → Between token_set p s k
      go (CPos z) s k ne h = absurd (not_at 67 s _ ne h.1)
      go (Pos r q z) s k ne h =
          let a = h.0.0.2 in
          let m4 : List ℕ = signed_decimal z ++ 41 ∷ k in
          let m2 : List ℕ = names q ++ 93 ∷ (44 ∷ m4) in
          let m0 : List ℕ = names r ++ 93 ∷ (codes ",[" ++ m2) in
          let f : IsSpelledSeq token_set true false (AtStart 3 true) r m0 (codes ",[" ++ m2) = record { side = side_from true false true r a.start_left a.end_left; own = h.0.1.0; few = a.short_left; filled = λ e. refl; text = refl } in
          let g : IsSpelledSeq token_set false true (AtStart 3 (not_empty r)) q m2 (44 ∷ m4) = record { side = side_from false true true q a.start_right a.end_right; own = h.0.1.1; few = a.short_right; filled = left_filled r q a.some; text = refl } in
          link tt m0 (h.1 ∙ sym (between_text r q z k)) (link r (codes ",[" ++ m2) (seq_back token_set true false r (AtStart 3 true) m0 (codes ",[" ++ m2) f) (link tt m2 refl
          (link q (44 ∷ m4) (seq_back token_set false true q (AtStart 3 (not_empty r)) m2 (44 ∷ m4) g) (link tt m4 refl (link z k (h.0.0.0, (λ e. h.0.0.1), refl) (refl, refl))))))

  pub place_one : OneForm (PlaceFront token_set)
  place_one = split_one place_count place_between
      (both_one (plain_one (codes "CPos(")) (λ u. both_one (int_one true 41 (omega arith)) (λ z. gives_one _)))
      (both_one (plain_one (codes "Pos([")) (λ u. both_one (token_seq_one token_set true false (AtStart 3 true)) (λ r. both_one (plain_one (codes ",[")) (λ v.
      both_one (token_seq_one token_set false true (AtStart 3 (not_empty r))) (λ q. both_one (plain_one (codes ",")) (λ w. both_one (int_one false 41 (omega arith)) (λ z. gives_one _)))))))

  pub place_spelled : IsSpelled (PlaceFront token_set)
  place_spelled = at_spelled place_count (both_spelled (plain_spelled (codes "CPos(")) (λ u. both_spelled (int_spelled true 41) (λ z. gives_spelled _)))

-- constants
constant_text : (t k : List ℕ) → codes "Const('" ++ (chars_text t ++ 39 ∷ (41 ∷ k)) ≡ atom_text (constant t) ++ k
constant_text t k = simp append_assoc

pub record IsConstant (may_be_empty : Bool) (a : AtomTree) (s k : List ℕ) : Type 0 where
  pub text : List ℕ
  pub is : a ≡ constant text
  pub scalars : All IsScalar text
  pub filled : text ≡ [] → may_be_empty ≡ true
  pub written : s ≡ atom_text (constant text) ++ k

pub constant_forth : (may_be_empty : Bool) (a : AtomTree) (s k : List ℕ) → Constant may_be_empty a s k → IsConstant may_be_empty a s k
constant_forth may_be_empty a s k h =
    let t = h.later.item in
    let q = quoted_forth may_be_empty t h.middle h.later.middle h.later.here in
    let close : h.later.middle ≡ 41 ∷ k = h.later.later.here ∙ ap (λ x. 41 ∷ x) h.later.later.later.1 in
    record {
      text = t;
      is = h.later.later.later.0;
      scalars = q.0;
      filled = q.2;
      written = h.here ∙ ap (λ x. codes "Const('" ++ x) (q.1 ∙ ap (λ x. chars_text t ++ 39 ∷ x) close) ∙ constant_text t k;
    }

pub constant_back : (may_be_empty : Bool) (t s k : List ℕ) → All IsScalar t → (t ≡ [] → may_be_empty ≡ true) → s ≡ atom_text (constant t) ++ k → Constant may_be_empty (constant t) s k
constant_back may_be_empty t s k all filled e =
    link tt (chars_text t ++ 39 ∷ (41 ∷ k)) (e ∙ sym (constant_text t k))
    (link t (41 ∷ k) (quoted_back may_be_empty t (chars_text t ++ 39 ∷ (41 ∷ k)) (41 ∷ k) all refl filled) (link tt k refl (refl, refl)))

pub constant_one : (may_be_empty : Bool) → OneForm (Constant may_be_empty)
constant_one may_be_empty = both_one (plain_one (codes "Const('")) (λ u. both_one (quoted_one may_be_empty) (λ t. both_one (plain_one (codes ")")) (λ v. gives_one _)))
