-- Literals and second literals, as they are read and as they are printed.
use Rattle.std.proofs.Common.{◌≡◌, ℕ, ◌<◌, ◌≤◌, Bool, true, false, List, [], ◌∷◌, ◌++◌, length, Option, None, Some, refl, sym, ap, subst, ◌∙◌, arith, codes}
use Rattle.std.specs.Prelude.{if◌then◌else◌}
use Rattle.std.specs.Fmt.{decimal}
use Rattle.std.proofs.lemmas.List.{append_assoc}
use Rattle.fill_tokens.specs.TokenSet.{IsTokenOf}
use Rattle.fill_tokens.specs.declared.token.Token.{Token}
use Rattle.fill_tokens.specs.declared.token.Token.TheVariants.{Digits}
use Rattle.fill_tokens.specs.declared.token_set.TokenSet.{TokenSet}
use Rattle.fill_tree.specs.declared.guard.Literal.{Literal}
use Rattle.fill_print.specs.Grammar.{greatest, Matched, SecondLiteral, NoSecond}
use Rattle.fill_print.specs.Notation.{names, literal_text, second_text}
use Rattle.fill_print.specs.Reading.{IsNotNext, Then, Plain}
use Rattle.fill_print.specs.Rules.{IsLiteral}
use Rattle.fill_print.specs.Seqs.{AtStart}
use Rattle.fill_print.specs.Switches.{LiteralFront, SecondFront}
use Rattle.fill_print.proofs.Chains.{OneForm, IsSpelled, IsAt, link, both_one, both_spelled, plain_one, plain_spelled, gives_one, gives_spelled}
use Rattle.fill_print.proofs.Decimals.{number_one, number_spelled}
use Rattle.fill_print.proofs.Dispatch.{IsElse, not_at, split_one, else_spelled}
use Rattle.fill_print.proofs.Sequences.{token_seq_one, token_seq_spelled}
use Rattle.fill_print.proofs.Sides.{IsSpelledSeq, seq_forth, seq_back, side_start, side_end, side_from}

-- a literal behind its mark, and what follows it
abbrev body : Literal → List ℕ → List ℕ
body l k = codes "Match(" ++ (decimal l.column ++ 44 ∷ (91 ∷ (names l.seq ++ 93 ∷ (44 ∷ (decimal l.least ++ 41 ∷ k)))))

abbrev mark : Bool → List ℕ
mark b = if b then codes "!" else []

grouped : (m a c y w r x n d k : List ℕ)
    → m ++ (a ++ (c ++ (y ++ (w ++ (r ++ (x ++ (y ++ (n ++ (d ++ k))))))))) ≡ (((((((m ++ a) ++ c) ++ y) ++ ((w ++ r) ++ x)) ++ y) ++ n) ++ d) ++ k
grouped m a c y w r x n d k = simp append_assoc

marked : (l : Literal) (k : List ℕ) → mark l.negated ++ body l k ≡ literal_text l ++ k
marked l k = grouped (mark l.negated) (codes "Match(") (decimal l.column) (44 ∷ []) (91 ∷ []) (names l.seq) (93 ∷ []) (decimal l.least) (41 ∷ []) k

marked_as : (l : Literal) (b : Bool) (k : List ℕ) → l.negated ≡ b → mark b ++ body l k ≡ literal_text l ++ k
marked_as l b k e = ap (λ x. mark x ++ body l k) (sym e) ∙ marked l k

record IsMatched (token_set : TokenSet) (b : Bool) (l : Literal) (s k : List ℕ) : Type 0 where
  sign : l.negated ≡ b
  rules : IsLiteral token_set l
  text : s ≡ body l k

some_length : (r : List Token) → (r ≡ [] → ◌≡◌ {A = Bool} false true) → 1 ≤ length r
some_length [] h = let bad : ◌≡◌ {A = Bool} false true = h refl in let no_such : ⊥ = cc in absurd no_such
some_length (t ∷ r) h = omega arith

not_none : (r : List Token) → 1 ≤ length r → r ≡ [] → ◌≡◌ {A = Bool} false true
not_none r h e = absurd (omega (arith, ap length e))

-- a literal doesn't begin as the last program does
pub no_literal_at : (l : Literal) (k : List ℕ) (b : ℕ) (x : List ℕ) → 100 < b → b ∷ x ≡ literal_text l ++ k → ⊥
no_literal_at l k b x high e = go l.negated refl
  where
    go : (n : Bool) → l.negated ≡ n → ⊥
    go true f = let g : b ∷ x ≡ 33 ∷ body l k = e ∙ sym (marked_as l true k f) in let same : b ≡ 33 = cc in omega arith
    go false f = let g : b ∷ x ≡ body l k = e ∙ sym (marked_as l false k f) in let same : b ≡ 77 = cc in omega arith

-- the second literal
second_text_of : (l : Literal) (k : List ℕ) → 38 ∷ (literal_text l ++ (codes "=>" ++ k)) ≡ second_text (Some l) ++ codes "=>" ++ k
second_text_of l k = simp append_assoc

module _ (token_set : TokenSet) where
  matched_forth : (b : Bool) (l : Literal) (s k : List ℕ) → Matched token_set b l s k → IsMatched token_set b l s k
  matched_forth b l s k h =
      let c = h.later.item in
      let h2 = h.later.later in
      let r = h2.later.item in
      let h4 = h2.later.later in
      let n = h4.later.item in
      let h6 = h4.later.later in
      let f = seq_forth token_set true true r (AtStart 2 false) h2.middle h2.later.middle h2.later.here in
      let lit : Literal = record { negated = b; column = c; seq = r; least = n } in
      let is : IsLiteral token_set lit = record {
        column = (h.later.here.0, omega (arith, h.later.here.1));
        some = some_length r f.filled;
        few = f.few;
        start = side_start true true true r f.side;
        finish = side_end true true true r f.side;
        tokens = f.own;
        least = h4.later.here.0;
        most = h4.later.here.1;
      } in
      let text : s ≡ body lit k =
      h.here ∙ ap (λ x. codes "Match(" ++ x) (h.later.here.2 ∙ ap (λ x. decimal c ++ 44 ∷ x) (h2.here ∙ ap (λ x. 91 ∷ x) (f.text ∙ ap (λ x. names r ++ 93 ∷ x)
      (h4.here ∙ ap (λ x. 44 ∷ x) (h4.later.here.2 ∙ ap (λ x. decimal n ++ 41 ∷ x) h6.1))))) in
      let found : IsMatched token_set b lit s k = record { sign = refl; rules = is; text = text } in
      subst (λ x. IsMatched token_set b x s k) (sym h6.0) found

  matched_back : (b : Bool) (l : Literal) (s k : List ℕ) → IsMatched token_set b l s k → Matched token_set b l s k
  matched_back b l s k h =
      let is = h.rules in
      let m2 : List ℕ = decimal l.least ++ 41 ∷ k in
      let m1 : List ℕ = names l.seq ++ 93 ∷ (44 ∷ m2) in
      let m0 : List ℕ = decimal l.column ++ 44 ∷ (91 ∷ m1) in
      let f : IsSpelledSeq token_set true true (AtStart 2 false) l.seq m1 (44 ∷ m2) = record { side = side_from true true true l.seq is.start is.finish; own = is.tokens; few = is.few; filled = not_none l.seq is.some; text = refl } in
      let same : l ≡ record { negated = b; column = l.column; seq = l.seq; least = l.least } = ap (λ (x : Bool). let y : Literal = record { negated = x; column = l.column; seq = l.seq; least = l.least } in y) h.sign in
      link tt m0 h.text (link l.column (91 ∷ m1) (is.column.0, omega (arith, is.column.1), refl) (link tt m1 refl
      (link l.seq (44 ∷ m2) (seq_back token_set true true l.seq (AtStart 2 false) m1 (44 ∷ m2) f) (link tt m2 refl (link l.least k (is.least, is.most, refl) (same, refl))))))

  pub literal_plain : IsElse (LiteralFront token_set) (Matched token_set false) 33
  literal_plain = record {
    forth = λ l s k h. let m = matched_forth false l s k h in (m.rules, m.text ∙ marked_as l false k m.sign);
    back = λ l s k ne h. go l s k ne h l.negated refl;
  }
    where
      go : (l : Literal) (s k : List ℕ) → IsNotNext 33 s → LiteralFront token_set l s k → (b : Bool) → l.negated ≡ b → Matched token_set false l s k
      go l s k ne h true e = absurd (not_at 33 s (body l k) ne (h.1 ∙ sym (marked_as l true k e)))
      go l s k ne h false e = matched_back false l s k (record { sign = e; rules = h.0; text = h.1 ∙ sym (marked_as l false k e) })

  pub literal_negated : IsAt (LiteralFront token_set) (Then (Plain (33 ∷ [])) (λ u. Matched token_set true)) 33
  literal_negated = record {
    forth = λ l s k h. let m = matched_forth true l h.middle k h.later in (m.rules, h.here ∙ ap (λ x. 33 ∷ x) m.text ∙ marked_as l true k m.sign);
    back = λ l s k h. go l s k h l.negated refl;
  }
    where
      go : (l : Literal) (s k : List ℕ) → LiteralFront token_set l (33 ∷ s) k → (b : Bool) → l.negated ≡ b → Then (Plain (33 ∷ [])) (λ u. Matched token_set true) l (33 ∷ s) k
      go l s k h true e =
          let all : 33 ∷ s ≡ 33 ∷ body l k = h.1 ∙ sym (marked_as l true k e) in
          let rest : s ≡ body l k = cc in
          link tt s refl (matched_back true l s k (record { sign = e; rules = h.0; text = rest }))
      go l s k h false e =
          let all : 33 ∷ s ≡ body l k = h.1 ∙ sym (marked_as l false k e) in
          let bad : ◌≡◌ {A = ℕ} 33 77 = cc in absurd (omega arith)

  matched_one : (b : Bool) → OneForm (Matched token_set b)
  matched_one b = both_one (plain_one (codes "Match(")) (λ u. both_one (number_one greatest 44 (omega arith) (omega arith)) (λ c. both_one (plain_one (codes "[")) (λ v.
      both_one (token_seq_one token_set true true (AtStart 2 false)) (λ r. both_one (plain_one (codes ",")) (λ w. both_one (number_one 3 41 (omega arith) (omega arith)) (λ n. gives_one _))))))

  pub literal_one : OneForm (LiteralFront token_set)
  literal_one = split_one literal_negated literal_plain (both_one (plain_one (33 ∷ [])) (λ u. matched_one true)) (matched_one false)

  pub literal_spelled : IsTokenOf token_set Digits → IsSpelled (LiteralFront token_set)
  literal_spelled digits = else_spelled literal_plain (both_spelled (plain_spelled (codes "Match(")) (λ u. both_spelled (number_spelled greatest 44 (omega arith)) (λ c. both_spelled (plain_spelled (codes "[")) (λ v.
      both_spelled (token_seq_spelled token_set digits true true false 2 (omega arith)) (λ r. both_spelled (plain_spelled (codes ",")) (λ w. both_spelled (number_spelled 3 41 (omega arith)) (λ n. gives_spelled _)))))))

  pub second_some : IsAt (SecondFront token_set) (Then (Plain (38 ∷ [])) (λ u. SecondLiteral token_set)) 38
  second_some = record {
    forth = λ o s k h.
        let l = h.later.item in
        let h2 = h.later.later in
        let text : s ≡ second_text (Some l) ++ codes "=>" ++ k = h.here ∙ ap (λ x. 38 ∷ x) (h.later.here.1 ∙ ap (λ x. literal_text l ++ x) (h2.here ∙ ap (λ x. codes "=>" ++ x) h2.later.1)) ∙ second_text_of l k in
        subst (λ x. SecondFront token_set x s k) (sym h2.later.0) (h.later.here.0, text);
    back = λ o s k h. go o s k h;
  }
    where
      go : (o : Option Literal) (s k : List ℕ) → SecondFront token_set o (38 ∷ s) k → Then (Plain (38 ∷ [])) (λ u. SecondLiteral token_set) o (38 ∷ s) k
      go None s k h = let bad : ◌≡◌ {A = ℕ} 38 61 = (let e : 38 ∷ s ≡ codes "=>" ++ k = h.1 in cc) in absurd (omega arith)
      go (Some l) s k h = link tt (literal_text l ++ (codes "=>" ++ k)) (h.1 ∙ sym (second_text_of l k)) (link l (codes "=>" ++ k) (h.0, refl) (link tt k refl (refl, refl)))

  pub second_none : IsElse (SecondFront token_set) NoSecond 38
  second_none = record {
    forth = λ o s k h. subst (λ x. SecondFront token_set x s k) (sym h.later.0) (tt, h.here ∙ ap (λ x. codes "=>" ++ x) h.later.1);
    back = λ o s k ne h. go o s k ne h;
  }
    where
      go : (o : Option Literal) (s k : List ℕ) → IsNotNext 38 s → SecondFront token_set o s k → NoSecond o s k
      go None s k ne h = link tt k h.1 (refl, refl)
      go (Some l) s k ne h = absurd (not_at 38 s _ ne (h.1 ∙ sym (second_text_of l k)))

  pub second_one : OneForm (SecondFront token_set)
  second_one = split_one second_some second_none
      (both_one (plain_one (38 ∷ [])) (λ u. both_one literal_one (λ l. both_one (plain_one (codes "=>")) (λ v. gives_one _))))
      (both_one (plain_one (codes "=>")) (λ u. gives_one _))

  pub second_spelled : IsSpelled (SecondFront token_set)
  second_spelled = else_spelled second_none (both_spelled (plain_spelled (codes "=>")) (λ u. gives_spelled _))
