-- Programs, as they are read and as they are printed.
use Rattle.std.proofs.Common.{◌≡◌, ℕ, Bool, true, false, List, [], ◌∷◌, ◌++◌, Option, None, Some, refl, sym, ap, subst, ◌∙◌, arith, codes}
use Rattle.std.proofs.lemmas.List.{append_assoc}
use Rattle.fill_tokens.specs.declared.token_set.TokenSet.{TokenSet}
use Rattle.fill_tree.specs.Tree.{AtomTree, Atoms, constant, whole, sub, end, more, atoms_of}
use Rattle.fill_print.specs.Conditions.{PartFront}
use Rattle.fill_print.specs.Grammar.{Constant, NoAtom, SomeAtom, WholeProgram}
use Rattle.fill_print.specs.Notation.{atom_text, after_commas, atoms_text, program_text}
use Rattle.fill_print.specs.Programs.{ProgramAtom, between, AtomStep, then_later, ProgramAtoms, ProgramFront}
use Rattle.fill_print.specs.Reading.{IsNotNext, Then, Plain}
use Rattle.fill_print.specs.Rules.{IsProgram}
use Rattle.fill_print.proofs.Chains.{OneForm, IsSpelled, IsAt, IsSame, Completes, link, many_one, both_one, both_spelled, plain_one, plain_spelled, gives_one, gives_spelled}
use Rattle.fill_print.proofs.Dispatch.{IsElse, not_at, split_one, same_one, same_spelled, else_spelled}
use Rattle.fill_print.proofs.LookupRules.{list_of, listed, part_one}
use Rattle.fill_print.proofs.PlaceRules.{constant_forth, constant_back, constant_one}
use Rattle.fill_print.proofs.SourceRules.{part_spelled, no_atom_at}

none_one : OneForm NoAtom
none_one = both_one (plain_one (codes ")")) (λ u. gives_one _)

-- the list
abbrev list_text : Bool → Atoms → List ℕ
list_text true x = atoms_text x
list_text false x = after_commas x

nothing_text : (first : Bool) (k : List ℕ) → list_text first end ++ k ≡ k
nothing_text true k = refl
nothing_text false k = refl

more_text : (first : Bool) (a : AtomTree) (rest : Atoms) (k : List ℕ) → between first ++ (atom_text a ++ (after_commas rest ++ k)) ≡ list_text first (more a rest) ++ k
more_text true a rest k = simp append_assoc
more_text false a rest k = simp append_assoc

whole_text : (x : Atoms) (k : List ℕ) → codes "Concat(" ++ (atoms_text x ++ 41 ∷ k) ≡ program_text x ++ k
whole_text x k = simp append_assoc

module _ (token_set : TokenSet) where
  -- an atom of a program
  pub program_constant : IsAt (ProgramAtom token_set) (Constant false) 67
  program_constant = record {
    forth = λ a s k h.
        let c = constant_forth false a s k h in
        subst (λ x. ProgramAtom token_set x s k) (sym c.is) (((λ e. let bad : false ≡ true = c.filled e in let no_such : ⊥ = cc in no_such), c.scalars), c.written);
    back = λ a s k h. go a s k h;
  }
    where
      go : (a : AtomTree) (s k : List ℕ) → ProgramAtom token_set a (67 ∷ s) k → Constant false a (67 ∷ s) k
      go (constant t) s k h = constant_back false t (67 ∷ s) k h.0.1 (λ e. absurd (h.0.0 e)) h.1
      go (whole t) s k h = let e : ◌≡◌ {A = ℕ} 67 87 = (let f : 67 ∷ s ≡ atom_text (whole t) ++ k = h.1 in cc) in absurd (omega arith)
      go (sub t p q) s k h = let e : ◌≡◌ {A = ℕ} 67 83 = (let f : 67 ∷ s ≡ atom_text (sub t p q) ++ k = h.1 in cc) in absurd (omega arith)

  pub program_part : IsElse (ProgramAtom token_set) (PartFront token_set 3) 67
  program_part = record { forth = λ a s k h. forth a s k h; back = λ a s k ne h. back a s k ne h }
    where
      forth : (a : AtomTree) (s k : List ℕ) → PartFront token_set 3 a s k → ProgramAtom token_set a s k
      forth (constant t) s k h = let no_such : ⊥ = (let f : false ≡ true = h.0 in cc) in absurd no_such
      forth (whole t) s k h = ((h.1.0, h.1.1), h.1.2)
      forth (sub t p q) s k h = ((h.1.0.0, h.1.1, h.1.0.1, h.1.0.2), h.1.2)

      back : (a : AtomTree) (s k : List ℕ) → IsNotNext 67 s → ProgramAtom token_set a s k → PartFront token_set 3 a s k
      back (constant t) s k ne h = absurd (not_at 67 s _ ne h.1)
      back (whole t) s k ne h = (refl, (h.0.0, h.0.1, h.1))
      back (sub t p q) s k ne h = (refl, ((h.0.0, h.0.2, h.0.3), h.0.1, h.1))

  pub program_atom_one : OneForm (ProgramAtom token_set)
  program_atom_one = split_one program_constant program_part (constant_one false) (part_one token_set 3)

  pub program_atom_spelled : IsSpelled (ProgramAtom token_set)
  program_atom_spelled = else_spelled program_part (part_spelled token_set 3)

  -- the next atom
  none_forth : (first : Bool) (o : Option AtomTree) (s k : List ℕ) → NoAtom o s k → AtomStep token_set first o s k
  none_forth first o s k h = subst (λ x. AtomStep token_set first x s k) (sym h.later.0) (h.here ∙ ap (λ x. 41 ∷ x) h.later.1)

  pub first_none : IsAt (AtomStep token_set true) NoAtom 41
  first_none = record { forth = none_forth true; back = λ o s k h. go o s k h }
    where
      go : (o : Option AtomTree) (s k : List ℕ) → AtomStep token_set true o (41 ∷ s) k → NoAtom o (41 ∷ s) k
      go None s k h = link tt k h (refl, refl)
      go (Some a) s k h = absurd (no_atom_at a k 41 s (omega arith) (h.1 ∙ h.2.1))

  pub first_some : IsElse (AtomStep token_set true) (SomeAtom token_set) 41
  first_some = record {
    forth = λ o s k h. subst (λ x. AtomStep token_set true x s k) (sym h.later.0) (s, refl, subst (λ x. ProgramAtom token_set h.item s x) h.later.1 h.here);
    back = λ o s k ne h. go o s k ne h;
  }
    where
      go : (o : Option AtomTree) (s k : List ℕ) → IsNotNext 41 s → AtomStep token_set true o s k → SomeAtom token_set o s k
      go None s k ne h = absurd (not_at 41 s k ne h)
      go (Some a) s k ne h = link a k (subst (λ x. ProgramAtom token_set a x k) (sym h.1) h.2) (refl, refl)

  pub later_some : IsAt (AtomStep token_set false) (Then (Plain (44 ∷ [])) (λ u. SomeAtom token_set)) 44
  later_some = record {
    forth = λ o s k h. subst (λ x. AtomStep token_set false x s k) (sym h.later.later.0) (h.middle, h.here, subst (λ x. ProgramAtom token_set h.later.item h.middle x) h.later.later.1 h.later.here);
    back = λ o s k h. go o s k h;
  }
    where
      go : (o : Option AtomTree) (s k : List ℕ) → AtomStep token_set false o (44 ∷ s) k → Then (Plain (44 ∷ [])) (λ u. SomeAtom token_set) o (44 ∷ s) k
      go None s k h = let bad : ◌≡◌ {A = ℕ} 44 41 = (let e : 44 ∷ s ≡ 41 ∷ k = h in cc) in absurd (omega arith)
      go (Some a) s k h = link tt h.0 h.1 (link a k h.2 (refl, refl))

  pub later_none : IsElse (AtomStep token_set false) NoAtom 44
  later_none = record { forth = none_forth false; back = λ o s k ne h. go o s k ne h }
    where
      go : (o : Option AtomTree) (s k : List ℕ) → IsNotNext 44 s → AtomStep token_set false o s k → NoAtom o s k
      go None s k ne h = link tt k h (refl, refl)
      go (Some a) s k ne h = absurd (not_at 44 s h.0 ne h.1)

  some_one : OneForm (SomeAtom token_set)
  some_one = both_one program_atom_one (λ a. gives_one _)

  pub atom_step_one : (first : Bool) → OneForm (AtomStep token_set first)
  atom_step_one true = split_one first_none first_some none_one some_one
  atom_step_one false = split_one later_some later_none (both_one (plain_one (44 ∷ [])) (λ u. some_one)) none_one

  pub atoms_complete : (first : Bool) → Completes (AtomStep token_set) then_later first
  atoms_complete first a t h = record { some = []; text = 41 ∷ []; spelled = λ k. refl }

  atoms_forth : (first : Bool) (xs : List AtomTree) (s k : List ℕ) → ProgramAtoms token_set first xs s k → IsProgram token_set (atoms_of xs) × (s ≡ list_text first (atoms_of xs) ++ 41 ∷ k)
  atoms_forth first [] s k h = (tt, h ∙ sym (nothing_text first (41 ∷ k)))
  atoms_forth first (a ∷ xs) s k h =
      let rest = atoms_forth false xs h.0 k h.2 in
      ((h.1.2.0, rest.0), h.1.1 ∙ ap (λ x. between first ++ x) (h.1.2.1 ∙ ap (λ x. atom_text a ++ x) rest.1) ∙ more_text first a (atoms_of xs) (41 ∷ k))

  atoms_back : (first : Bool) (xs : List AtomTree) (s k : List ℕ) → IsProgram token_set (atoms_of xs) → s ≡ list_text first (atoms_of xs) ++ 41 ∷ k → ProgramAtoms token_set first xs s k
  atoms_back first [] s k h e = e ∙ nothing_text first (41 ∷ k)
  atoms_back first (a ∷ xs) s k h e =
      let m : List ℕ = after_commas (atoms_of xs) ++ 41 ∷ k in
      (m, (atom_text a ++ m, e ∙ sym (more_text first a (atoms_of xs) (41 ∷ k)), (h.0, refl)), atoms_back false xs m k h.1 refl)

  pub program_whole : IsSame (ProgramFront token_set) (WholeProgram token_set)
  program_whole = record {
    forth = λ p s k h.
        let xs = h.later.item in
        let f = atoms_forth true xs h.middle h.later.middle h.later.here in
        let text : s ≡ program_text (atoms_of xs) ++ k = h.here ∙ ap (λ x. codes "Concat(" ++ x) (f.1 ∙ ap (λ x. atoms_text (atoms_of xs) ++ 41 ∷ x) h.later.later.1) ∙ whole_text (atoms_of xs) k in
        subst (λ x. ProgramFront token_set x s k) (sym h.later.later.0) (f.0, text);
    back = λ p s k h.
        let same : atoms_of (list_of p) ≡ p = listed p in
        let m : List ℕ = atoms_text p ++ 41 ∷ k in
        link tt m (h.1 ∙ sym (whole_text p k))
        (link (list_of p) k (atoms_back true (list_of p) m k (subst (IsProgram token_set) (sym same) h.0) (ap (λ x. atoms_text x ++ 41 ∷ k) (sym same))) (sym same, refl));
  }

  pub program_one : OneForm (ProgramFront token_set)
  program_one = same_one program_whole (both_one (plain_one (codes "Concat(")) (λ u. both_one (many_one (AtomStep token_set) then_later atom_step_one true) (λ xs. gives_one _)))

  pub atoms_spelled : (first : Bool) → IsSpelled (ProgramAtoms token_set first)
  atoms_spelled first = record { some = []; text = 41 ∷ []; spelled = λ k. refl }

  pub program_spelled : IsSpelled (ProgramFront token_set)
  program_spelled = same_spelled program_whole (both_spelled (plain_spelled (codes "Concat(")) (λ u. both_spelled (atoms_spelled true) (λ xs. gives_spelled _)))
