-- Sources, parts and conditions, as they are read and as they are printed.
use Rattle.std.proofs.Common.{◌≡◌, ◌≢◌, ℕ, ◌-◌, ◌<◌, inl, inr, Bool, true, false, ◌||◌, List, [], ◌∷◌, ◌++◌, Option, None, Some, refl, sym, ap, subst, ◌∙◌, arith, codes}
use Rattle.std.specs.Prelude.{◌==◌}
use Rattle.std.specs.Fmt.{decimal}
use Rattle.std.proofs.lemmas.Bool.{cases_eq, ne_eqb, eqb-true, eq-eqb}
use Rattle.std.proofs.lemmas.List.{append_assoc}
use Rattle.fill_tokens.specs.declared.token_set.TokenSet.{TokenSet}
use Rattle.fill_tokens.specs.declared.place.Place.{Place}
use Rattle.fill_tree.specs.Grammar.{is_part}
use Rattle.fill_tree.specs.Tree.{SourceTree, AtomTree, col, select, constant, whole, sub}
use Rattle.fill_print.specs.Conditions.{SourceFront, AtomFront, PartFront, Room, at_start, after_one, comma, ConditionStep, Conditions, IsRoom, ConditionFront}
use Rattle.fill_print.specs.Grammar.{greatest, Column, Constant, WholePart, SubPart, FirstCondition, LaterCondition, NoAtom}
use Rattle.fill_print.specs.Notation.{source_text, atom_text, place_text}
use Rattle.fill_print.specs.Reading.{IsNotNext}
use Rattle.fill_print.proofs.Chains.{OneForm, IsSpelled, IsAt, IsSame, Completes, link, both_one, both_spelled, plain_one, plain_spelled, gives_one, gives_spelled}
use Rattle.fill_print.proofs.Decimals.{number_one, number_spelled}
use Rattle.fill_print.proofs.Dispatch.{IsElse, not_at, split_one, else_spelled}
use Rattle.fill_print.proofs.PlaceRules.{place_one, constant_forth, constant_back, constant_one}

-- a column
column_text : (n : ℕ) (k : List ℕ) → codes "Col(" ++ (decimal n ++ 41 ∷ k) ≡ source_text (col n) ++ k
column_text n k = simp append_assoc

pub column_one : OneForm Column
column_one = both_one (plain_one (codes "Col(")) (λ u. both_one (number_one greatest 41 (omega arith) (omega arith)) (λ n. gives_one _))

-- parts
whole_text : (t : SourceTree) (k : List ℕ) → codes "Whole(" ++ (source_text t ++ 41 ∷ k) ≡ atom_text (whole t) ++ k
whole_text t k = simp append_assoc

sub_text : (t : SourceTree) (p q : Place) (k : List ℕ) → codes "Sub(" ++ (source_text t ++ 44 ∷ (place_text p ++ 44 ∷ (place_text q ++ 41 ∷ k))) ≡ atom_text (sub t p q) ++ k
sub_text t p q k = simp append_assoc

-- conditions
not_only : (A : Type 0) → ◌≡◌ {A = Bool} false true → A
not_only A e = let no_such : ⊥ = cc in absurd no_such

-- the first byte of an atom
pub atom_letter : (a : AtomTree) (k : List ℕ) → (c : ℕ) × (x : List ℕ) × (atom_text a ++ k ≡ c ∷ x) × (64 < c)
atom_letter (constant t) k = (67, _, refl, omega arith)
atom_letter (whole t) k = (87, _, refl, omega arith)
atom_letter (sub t p q) k = (83, _, refl, omega arith)

pub no_atom_at : (a : AtomTree) (k : List ℕ) (b : ℕ) (x : List ℕ) → b < 64 → b ∷ x ≡ atom_text a ++ k → ⊥
no_atom_at a k b x low e =
    let l = atom_letter a k in
    let f : b ∷ x ≡ l.0 ∷ l.1 = e ∙ l.2 in
    let same : b ≡ l.0 = cc in
    omega (arith, l.3)

pub comma_later : (room : ℕ) → room ≢ 3 → comma room ≡ 44 ∷ []
comma_later room ne = rw (ne_eqb room 3 ne) refl

comma_cancel : (room : ℕ) (m n : List ℕ) → comma room ++ m ≡ comma room ++ n → m ≡ n
comma_cancel room m n e = elim (cases_eq room 3) [
  | inl three ↦ subst (λ r. comma r ++ m ≡ comma r ++ n → m ≡ n) (sym three) (λ f. f) e
  | inr ne ↦ let f : 44 ∷ m ≡ 44 ∷ n = ap (λ x. x ++ m) (sym (comma_later room ne)) ∙ e ∙ ap (λ x. x ++ n) (comma_later room ne) in cc
]

-- states
pub start_room : IsRoom at_start
start_room = record { few = omega arith; first = λ e. refl; alive = λ e. omega arith }

next_room : (r : Room) (a : AtomTree) → IsRoom r → (r.room ≡ 1 → r.seen ≡ false → is_part a ≡ true) → 0 < r.room → IsRoom (after_one r a)
next_room r a is allowed some = record {
  few = (let f = is.few in omega arith);
  first = λ e. absurd (let f = is.few in omega arith);
  alive = λ e. go r.seen refl e;
}
  where
    go : (b : Bool) → r.seen ≡ b → (r.seen || is_part a) ≡ false → 0 < r.room - 1
    go true f e = let bad : (true || is_part a) ≡ false = subst (λ b. (b || is_part a) ≡ false) f e in let no_such : ⊥ = cc in absurd no_such
    go false f e =
        let part : (false || is_part a) ≡ false = subst (λ b. (b || is_part a) ≡ false) f e in
        let not_one : r.room ≢ 1 = λ one. (let g : is_part a ≡ true = allowed one f in let bad : true ≡ false = sym g ∙ part in let no_such : ⊥ = cc in no_such) in
        omega arith

or_true : (b : Bool) → (b || true) ≡ true
or_true true = refl
or_true false = refl

seen_now : (b : Bool) (a : AtomTree) → is_part a ≡ true → (b || is_part a) ≡ true
seen_now b a e = ap (λ x. b || x) e ∙ or_true b

module _ (token_set : TokenSet) where
  column_forth : (depth : ℕ) (t : SourceTree) (s k : List ℕ) → Column t s k → SourceFront token_set depth t s k
  column_forth depth t s k h =
      let n = h.later.item in
      let text : s ≡ source_text (col n) ++ k = h.here ∙ ap (λ x. codes "Col(" ++ x) (h.later.here.2 ∙ ap (λ x. decimal n ++ 41 ∷ x) h.later.later.1) ∙ column_text n k in
      subst (λ x. SourceFront token_set depth x s k) (sym h.later.later.0) ((h.later.here.0, omega (arith, h.later.here.1)), omega arith, text)

  column_back : (depth n : ℕ) (s k : List ℕ) → SourceFront token_set depth (col n) s k → Column (col n) s k
  column_back depth n s k h = link tt (decimal n ++ 41 ∷ k) (h.2 ∙ sym (column_text n k)) (link n k (h.0.0, omega (arith, h.0.1), refl) (refl, refl))

  pub source_column : (depth : ℕ) → IsElse (SourceFront token_set depth) Column 83
  source_column depth = record { forth = column_forth depth; back = λ t s k ne h. go t s k ne h }
    where
      go : (t : SourceTree) (s k : List ℕ) → IsNotNext 83 s → SourceFront token_set depth t s k → Column t s k
      go (col n) s k ne h = column_back depth n s k h
      go (select c t n x) s k ne h = absurd (not_at 83 s _ ne h.2)

  pub source_flat : (depth : ℕ) → depth ≡ 0 → IsSame (SourceFront token_set depth) Column
  source_flat depth none = record { forth = column_forth depth; back = λ t s k h. go t s k h }
    where
      go : (t : SourceTree) (s k : List ℕ) → SourceFront token_set depth t s k → Column t s k
      go (col n) s k h = column_back depth n s k h
      go (select c t n x) s k h = absurd (let d = h.1 in omega (arith, d))

  pub source_spelled : (depth : ℕ) → IsSpelled (SourceFront token_set depth)
  source_spelled depth = else_spelled (source_column depth) (both_spelled (plain_spelled (codes "Col(")) (λ u. both_spelled (number_spelled greatest 41 (omega arith)) (λ n. gives_spelled _)))

  pub part_sub : (depth : ℕ) → IsAt (PartFront token_set depth) (SubPart token_set depth) 83
  part_sub depth = record {
    forth = λ a s k h.
        let t = h.later.item in
        let h2 = h.later.later in
        let p = h2.later.item in
        let h4 = h2.later.later in
        let q = h4.later.item in
        let h6 = h4.later.later in
        let text : s ≡ atom_text (sub t p q) ++ k =
        h.here ∙ ap (λ x. codes "Sub(" ++ x) (h.later.here.2 ∙ ap (λ x. source_text t ++ x) (h2.here ∙ ap (λ x. 44 ∷ x) (h2.later.here.1 ∙ ap (λ x. place_text p ++ x)
        (h4.here ∙ ap (λ x. 44 ∷ x) (h4.later.here.1 ∙ ap (λ x. place_text q ++ x) (h6.here ∙ ap (λ x. 41 ∷ x) h6.later.1)))))) ∙ sub_text t p q k in
        subst (λ x. PartFront token_set depth x s k) (sym h6.later.0) (refl, ((h.later.here.0, h2.later.here.0, h4.later.here.0), h.later.here.1, text));
    back = λ a s k h. go a s k h;
  }
    where
      go : (a : AtomTree) (s k : List ℕ) → PartFront token_set depth a (83 ∷ s) k → SubPart token_set depth a (83 ∷ s) k
      go (constant t) s k h = let no_such : ⊥ = (let f : false ≡ true = h.0 in cc) in absurd no_such
      go (whole t) s k h = let e : ◌≡◌ {A = ℕ} 83 87 = (let f : 83 ∷ s ≡ atom_text (whole t) ++ k = h.1.2 in cc) in absurd (omega arith)
      go (sub t p q) s k h =
          let m2 : List ℕ = place_text q ++ 41 ∷ k in
          let m1 : List ℕ = place_text p ++ 44 ∷ m2 in
          let m0 : List ℕ = source_text t ++ 44 ∷ m1 in
          link tt m0 (h.1.2 ∙ sym (sub_text t p q k)) (link t (44 ∷ m1) (h.1.0.0, h.1.1, refl) (link tt m1 refl (link p (44 ∷ m2) (h.1.0.1, refl)
          (link tt m2 refl (link q (41 ∷ k) (h.1.0.2, refl) (link tt k refl (refl, refl)))))))

  pub part_whole : (depth : ℕ) → IsElse (PartFront token_set depth) (WholePart token_set depth) 83
  part_whole depth = record {
    forth = λ a s k h.
        let t = h.later.item in
        let h2 = h.later.later in
        let text : s ≡ atom_text (whole t) ++ k = h.here ∙ ap (λ x. codes "Whole(" ++ x) (h.later.here.2 ∙ ap (λ x. source_text t ++ x) (h2.here ∙ ap (λ x. 41 ∷ x) h2.later.1)) ∙ whole_text t k in
        subst (λ x. PartFront token_set depth x s k) (sym h2.later.0) (refl, (h.later.here.0, h.later.here.1, text));
    back = λ a s k ne h. go a s k ne h;
  }
    where
      go : (a : AtomTree) (s k : List ℕ) → IsNotNext 83 s → PartFront token_set depth a s k → WholePart token_set depth a s k
      go (constant t) s k ne h = let no_such : ⊥ = (let f : false ≡ true = h.0 in cc) in absurd no_such
      go (whole t) s k ne h = link tt (source_text t ++ 41 ∷ k) (h.1.2 ∙ sym (whole_text t k)) (link t (41 ∷ k) (h.1.0, h.1.1, refl) (link tt k refl (refl, refl)))
      go (sub t p q) s k ne h = absurd (not_at 83 s _ ne h.1.2)

  pub part_one_from : (depth : ℕ) → OneForm (SourceFront token_set depth) → OneForm (PartFront token_set depth)
  part_one_from depth one = split_one (part_sub depth) (part_whole depth)
      (both_one (plain_one (codes "Sub(")) (λ u. both_one one (λ t. both_one (plain_one (codes ",")) (λ v. both_one (place_one token_set) (λ p. both_one (plain_one (codes ",")) (λ w. both_one (place_one token_set) (λ q. both_one (plain_one (codes ")")) (λ x. gives_one _))))))))
      (both_one (plain_one (codes "Whole(")) (λ u. both_one one (λ t. both_one (plain_one (codes ")")) (λ v. gives_one _))))

  pub part_spelled : (depth : ℕ) → IsSpelled (PartFront token_set depth)
  part_spelled depth = else_spelled (part_whole depth) (both_spelled (plain_spelled (codes "Whole(")) (λ u. both_spelled (source_spelled depth) (λ t. both_spelled (plain_spelled (codes ")")) (λ v. gives_spelled _))))

  pub condition_only : (depth : ℕ) → IsSame (ConditionFront token_set depth true) (PartFront token_set depth)
  condition_only depth = record { forth = λ a s k h. ((λ e. h.0), h.1); back = λ a s k h. (h.0 refl, h.1) }

  pub condition_constant : (depth : ℕ) → IsAt (ConditionFront token_set depth false) (Constant true) 67
  condition_constant depth = record {
    forth = λ a s k h.
        let c = constant_forth true a s k h in
        subst (λ x. ConditionFront token_set depth false x s k) (sym c.is) ((λ e. not_only _ e), (c.scalars, omega arith, c.written));
    back = λ a s k h. go a s k h;
  }
    where
      go : (a : AtomTree) (s k : List ℕ) → ConditionFront token_set depth false a (67 ∷ s) k → Constant true a (67 ∷ s) k
      go (constant t) s k h = constant_back true t (67 ∷ s) k h.1.0 (λ e. refl) h.1.2
      go (whole t) s k h = let e : ◌≡◌ {A = ℕ} 67 87 = (let f : 67 ∷ s ≡ atom_text (whole t) ++ k = h.1.2 in cc) in absurd (omega arith)
      go (sub t p q) s k h = let e : ◌≡◌ {A = ℕ} 67 83 = (let f : 67 ∷ s ≡ atom_text (sub t p q) ++ k = h.1.2 in cc) in absurd (omega arith)

  pub condition_part : (depth : ℕ) → IsElse (ConditionFront token_set depth false) (PartFront token_set depth) 67
  condition_part depth = record { forth = λ a s k h. ((λ e. h.0), h.1); back = λ a s k ne h. (go a s k ne h.1, h.1) }
    where
      go : (a : AtomTree) (s k : List ℕ) → IsNotNext 67 s → AtomFront token_set depth a s k → is_part a ≡ true
      go (constant t) s k ne h = absurd (not_at 67 s _ ne h.2)
      go (whole t) s k ne h = refl
      go (sub t p q) s k ne h = refl

  pub atom_one_from : (depth : ℕ) → OneForm (SourceFront token_set depth) → OneForm (AtomFront token_set depth)
  atom_one_from depth one =
      let either = split_one (condition_constant depth) (condition_part depth) (constant_one true) (part_one_from depth one) in
      record { law = λ a b s k l p q. either.law a b s k l ((λ e. not_only _ e), p) ((λ e. not_only _ e), q) }

  pub condition_spelled : (depth : ℕ) (only_part : Bool) → IsSpelled (ConditionFront token_set depth only_part)
  condition_spelled depth only_part = let p = part_spelled depth in record { some = p.some; text = p.text; spelled = λ k. let h = p.spelled k in ((λ e. h.0), h.1) }

  pub condition_step_one : (depth : ℕ) → OneForm (AtomFront token_set depth) → (r : Room) → OneForm (ConditionStep token_set depth r)
  condition_step_one depth one r = record { law = go }
    where
      no_end : (a : AtomTree) (s k l : List ℕ) → s ≡ 41 ∷ l → ConditionStep token_set depth r (Some a) s k → ⊥
      no_end a s k l e h =
          let text : 41 ∷ l ≡ comma r.room ++ h.1 = sym e ∙ h.2 in
          elim (cases_eq r.room 3) [
            | inl three ↦ no_atom_at a k 41 l (omega arith) (let f : 41 ∷ l ≡ h.1 = subst (λ x. 41 ∷ l ≡ comma x ++ h.1) three text in f ∙ h.4.2)
            | inr other ↦ let f : 41 ∷ l ≡ 44 ∷ h.1 = text ∙ ap (λ x. x ++ h.1) (comma_later r.room other) in let g : ◌≡◌ {A = ℕ} 41 44 = cc in omega arith
          ]

      go : (o p : Option AtomTree) (s k l : List ℕ) → ConditionStep token_set depth r o s k → ConditionStep token_set depth r p s l → (o ≡ p) × (k ≡ l)
      go None None s k l p q = (refl, let e : 41 ∷ k ≡ 41 ∷ l = sym p.1 ∙ q.1 in cc)
      go None (Some b) s k l p q = absurd (no_end b s l k p.1 q)
      go (Some a) None s k l p q = absurd (no_end a s k l q.1 p)
      go (Some a) (Some b) s k l p q =
          let same : p.1 ≡ q.1 = comma_cancel r.room p.1 q.1 (sym p.2 ∙ q.2) in
          let e = one.law a b q.1 k l (subst (λ m. AtomFront token_set depth a m k) same p.4) q.4 in
          (ap Some e.0, e.1)

  -- what comes next
  pub step_first : (depth : ℕ) (r : Room) → r.room ≡ 3 → r.seen ≡ false → IsSame (ConditionStep token_set depth r) (FirstCondition token_set depth)
  step_first depth r three fresh = record {
    forth = λ o s k h. subst (λ x. ConditionStep token_set depth r x s k) (sym h.later.0) (omega arith, s, subst (λ x. s ≡ comma x ++ s) (sym three) refl, (λ one. absurd (omega arith)), subst (λ x. AtomFront token_set depth h.item s x) h.later.1 h.here.1);
    back = λ o s k h. go o s k h;
  }
    where
      go : (o : Option AtomTree) (s k : List ℕ) → ConditionStep token_set depth r o s k → FirstCondition token_set depth o s k
      go None s k h = let bad : true ≡ false = sym h.0 ∙ fresh in let no_such : ⊥ = cc in absurd no_such
      go (Some a) s k h =
          let same : s ≡ h.1 = subst (λ x. s ≡ comma x ++ h.1) three h.2 in
          link a k ((λ e. not_only _ e), subst (λ x. AtomFront token_set depth a x k) (sym same) h.4) (refl, refl)

  later_forth : (depth : ℕ) (r : Room) (only_part : Bool) → r.room ≢ 3 → 0 < r.room → (r.room ≡ 1 → r.seen ≡ false → only_part ≡ true) → (o : Option AtomTree) (s k : List ℕ) → LaterCondition token_set depth only_part o s k → ConditionStep token_set depth r o s k
  later_forth depth r only_part other some onward o s k h =
      subst (λ x. ConditionStep token_set depth r x s k) (sym h.later.later.0) (some, h.middle, h.here ∙ ap (λ x. x ++ h.middle) (sym (comma_later r.room other)), (λ one fresh. h.later.here.0 (onward one fresh)), subst (λ x. AtomFront token_set depth h.later.item h.middle x) h.later.later.1 h.later.here.1)

  later_back : (depth : ℕ) (r : Room) (only_part : Bool) → r.room ≢ 3 → (only_part ≡ true → (r.room ≡ 1) × (r.seen ≡ false)) → (a : AtomTree) (s k : List ℕ) → ConditionStep token_set depth r (Some a) s k → LaterCondition token_set depth only_part (Some a) s k
  later_back depth r only_part other back a s k h =
      link tt h.1 (h.2 ∙ ap (λ x. x ++ h.1) (comma_later r.room other)) (link a k ((λ e. let w = back e in h.3 w.0 w.1), h.4) (refl, refl))

  pub step_must : (depth : ℕ) (r : Room) → r.room ≢ 3 → r.seen ≡ false → 0 < r.room → IsSame (ConditionStep token_set depth r) (LaterCondition token_set depth (r.room == 1))
  step_must depth r other fresh some = record {
    forth = later_forth depth r (r.room == 1) other some (λ one f. eq-eqb r.room 1 one);
    back = λ o s k h. go o s k h;
  }
    where
      go : (o : Option AtomTree) (s k : List ℕ) → ConditionStep token_set depth r o s k → LaterCondition token_set depth (r.room == 1) o s k
      go None s k h = let bad : true ≡ false = sym h.0 ∙ fresh in let no_such : ⊥ = cc in absurd no_such
      go (Some a) s k h = later_back depth r (r.room == 1) other (λ e. (eqb-true r.room 1 e, fresh)) a s k h

  no_forth : (depth : ℕ) (r : Room) → r.seen ≡ true → (o : Option AtomTree) (s k : List ℕ) → NoAtom o s k → ConditionStep token_set depth r o s k
  no_forth depth r seen o s k h = subst (λ x. ConditionStep token_set depth r x s k) (sym h.later.0) (seen, h.here ∙ ap (λ x. 41 ∷ x) h.later.1)

  pub step_end : (depth : ℕ) (r : Room) → r.room ≡ 0 → r.seen ≡ true → IsSame (ConditionStep token_set depth r) NoAtom
  step_end depth r none seen = record { forth = no_forth depth r seen; back = λ o s k h. go o s k h }
    where
      go : (o : Option AtomTree) (s k : List ℕ) → ConditionStep token_set depth r o s k → NoAtom o s k
      go None s k h = link tt k h.1 (refl, refl)
      go (Some a) s k h = absurd (omega (arith, h.0))

  pub step_more : (depth : ℕ) (r : Room) → r.room ≢ 3 → r.room ≢ 0 → r.seen ≡ true → IsAt (ConditionStep token_set depth r) (LaterCondition token_set depth false) 44
  step_more depth r other some seen = record {
    forth = later_forth depth r false other (omega arith) (λ one f. let bad : true ≡ false = sym seen ∙ f in let no_such : ⊥ = cc in absurd no_such);
    back = λ o s k h. go o s k h;
  }
    where
      go : (o : Option AtomTree) (s k : List ℕ) → ConditionStep token_set depth r o (44 ∷ s) k → LaterCondition token_set depth false o (44 ∷ s) k
      go None s k h = let bad : ◌≡◌ {A = ℕ} 44 41 = (let e : 44 ∷ s ≡ 41 ∷ k = h.1 in cc) in absurd (omega arith)
      go (Some a) s k h = later_back depth r false other (λ e. not_only _ e) a (44 ∷ s) k h

  pub step_close : (depth : ℕ) (r : Room) → r.room ≢ 3 → r.seen ≡ true → IsElse (ConditionStep token_set depth r) NoAtom 44
  step_close depth r other seen = record { forth = no_forth depth r seen; back = λ o s k ne h. go o s k ne h }
    where
      go : (o : Option AtomTree) (s k : List ℕ) → IsNotNext 44 s → ConditionStep token_set depth r o s k → NoAtom o s k
      go None s k ne h = link tt k h.1 (refl, refl)
      go (Some a) s k ne h = absurd (not_at 44 s h.1 ne (h.2 ∙ ap (λ x. x ++ h.1) (comma_later r.room other)))

  pub after_room : (depth : ℕ) (r : Room) (a : AtomTree) (s k : List ℕ) → IsRoom r → ConditionStep token_set depth r (Some a) s k → IsRoom (after_one r a)
  after_room depth r a s k is h = next_room r a is h.3 h.0

  pub conditions_spelled : (depth : ℕ) (r : Room) → IsRoom r → IsSpelled (Conditions token_set depth r)
  conditions_spelled depth r is = go r.seen refl
    where
      close : (text k : List ℕ) → (comma r.room ++ (text ++ 41 ∷ [])) ++ k ≡ comma r.room ++ (text ++ 41 ∷ k)
      close text k = append_assoc (comma r.room) (text ++ 41 ∷ []) k ∙ ap (λ x. comma r.room ++ x) (append_assoc text (41 ∷ []) k)

      go : (b : Bool) → r.seen ≡ b → IsSpelled (Conditions token_set depth r)
      go true e = record { some = []; text = 41 ∷ []; spelled = λ k. (e, refl) }
      go false e =
          let p = part_spelled depth in
          record {
            some = p.some ∷ [];
            text = comma r.room ++ (p.text ++ 41 ∷ []);
            spelled = λ k.
                let h = p.spelled (41 ∷ k) in
                (41 ∷ k, (is.alive e, p.text ++ 41 ∷ k, close p.text k, (λ a b. h.0), h.1), (seen_now r.seen p.some h.0, refl));
          }

  pub conditions_complete : (depth : ℕ) (r : Room) → IsRoom r → Completes (ConditionStep token_set depth) after_one r
  conditions_complete depth r is a t h = conditions_spelled depth (after_one r a) (after_room depth r a (t ++ []) [] is (h []))
